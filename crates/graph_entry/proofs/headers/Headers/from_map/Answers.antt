use Rattle.std.proofs.Common.{[], sym, ap, ◌∙◌, string_bytes, List, ℕ}
use Rattle.graph_entry.specs.Headers.{HeaderList, headers_of, with_header, with_headers}
use Rattle.graph_entry.proofs.HeadersLemmas.{with_headers-push}
use Rattle.graph_entry.proofs.headers.Headers.from_map.Goals as goal

-- the next entry is one more header
pub loop-name-preserved : goal.loop-name-preserved
loop-name-preserved c =
    c.in_ok-insert.ensures
    ∙ ap (λ (h : HeaderList). with_header h c.as_str.result.now (string_bytes c.in-Some.value))
    c.loop-name.invariant
    ∙ ap (λ (n : List ℕ). with_header (with_headers [] (headers_of c.loop-name.yielded)) n
    (string_bytes c.in-Some.value)) c.as_str.ensures.value
    ∙ sym (with_headers-push [] c.loop-name.yielded (c.in-Some.name, c.in-Some.value))
