-- The names that are left of the parts so far.
use Rattle.std.proofs.Common.{◌≡◌, [], take}
use Rattle.std.specs.Prelude.{fold}
use Rattle.lexical_path.specs.Paths.{texts, after_part}
use Rattle.lexical_path.proofs.normalize.names.Given as goal

abbrev pub invariant-loop-part : goal.invariant-loop-part
invariant-loop-part l = texts l.names.items ≡ fold after_part [] (texts (take l.part-index l.part-items))
