use Rattle.std.proofs.Common.{ap, ◌∙◌, string_bytes, List, ℕ}
use Rattle.std.specs.Ordering.{nat_cmp}
use Rattle.std.specs.Cmp.Lexicographic.{slice_cmp}
use Rattle.std.specs.BTreeMap.{insert_entry}
use Rattle.graph_entry.specs.Headers.{HeaderList, headers_of, with_header}
use Rattle.graph_entry.proofs.HeadersLemmas.{headers_of-insert}
use Rattle.graph_entry.proofs.headers.Headers.insert.Goals as goal

-- the name in lower case has its place among the names
pub returns : goal.returns
returns c =
    ap headers_of c.in_ok-insert.ensures.entries
    ∙ headers_of-insert c.self.inside.entries.entries c.in_ok-name.name c.args.value
    ∙ ap (λ (n : List ℕ). insert_entry (slice_cmp nat_cmp) (headers_of c.self.inside.entries.entries) n
    (string_bytes c.args.value)) c.in_ok-name.ensures.ok
    ∙ ap (λ (h : HeaderList). with_header h c.args.name.now (string_bytes c.args.value)) c.self.view_is
