-- The copy is what was seen of the path.
use Rattle.std.proofs.Common.{◌≡◌, take}
use Rattle.es_variables.proofs.analysis.copy_path.Given as goal

abbrev pub invariant-loop-scope : goal.invariant-loop-scope
invariant-loop-scope l = l.copy ≡ take l.scope-index l.path
