-- The names so far.
use Rattle.std.proofs.Common.{◌≡◌, take}
use Rattle.lexical_path.specs.Paths.{texts}
use Rattle.graph_c.proofs.mentioning.copies.Given as goal

abbrev pub invariant-loop-name : goal.invariant-loop-name
invariant-loop-name l = l.copies ≡ texts (take l.name-index l.names)
