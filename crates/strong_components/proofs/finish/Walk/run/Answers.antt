use Rattle.std.proofs.Common.{ℕ, List, subst}
use Rattle.strong_components.specs.Finish.{IsWalk}
use Rattle.strong_components.proofs.finish.Walk.run.Goals as goal

pub step-requires-clause-walk : goal.step-requires-clause-walk
step-requires-clause-walk c =
    subst (λ (xs : List ℕ). IsWalk c.args.links.now c.loop-node.self.finished c.loop-node.self.met
    c.loop-node.self.cursor xs)
    c.in-Some.ensures c.loop-node.invariant.0
