use Rattle.cjs_exports.specs.names.Sets.{Holds}
use Rattle.cjs_exports.proofs.names.names.set_of.Given as goal

-- the set has the names so far
abbrev pub invariant-loop-name : goal.invariant-loop-name
invariant-loop-name l = Holds l.set l.yielded
