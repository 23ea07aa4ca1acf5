-- The names so far, joined.
use Rattle.std.proofs.Common.{◌≡◌, string_bytes, take}
use Rattle.lexical_path.specs.Paths.{texts}
use Rattle.lexical_path.specs.Paths as spec
use Rattle.lexical_path.proofs.normalize.path_of.Given as goal

abbrev pub invariant-loop-i : goal.invariant-loop-i
invariant-loop-i l = string_bytes l.path ≡ spec.path_of l.absolute (texts (take l.i l.names))
