use Rattle.strong_components.specs.Condensed.{AreMembers}
use Rattle.strong_components.proofs.members.members_of.Given as goal

abbrev pub invariant-loop-node : goal.invariant-loop-node
invariant-loop-node l = AreMembers l.roots l.node l.members.items
