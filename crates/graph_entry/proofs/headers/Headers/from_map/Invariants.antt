use Rattle.std.proofs.Common.{◌≡◌, []}
use Rattle.graph_entry.specs.Headers.{headers_of, with_headers}
use Rattle.graph_entry.proofs.headers.Headers.from_map.Given as goal

-- the headers so far are those of the entries so far
abbrev pub invariant-loop-name : goal.invariant-loop-name
invariant-loop-name l = l.headers ≡ with_headers [] (headers_of l.yielded)
