use Rattle.strong_components.specs.Condensed.{AreJoined}
use Rattle.strong_components.proofs.condense.condensed.Given as goal

abbrev pub invariant-loop-node : goal.invariant-loop-node
invariant-loop-node l = AreJoined l.links l.least l.joined.items l.node
