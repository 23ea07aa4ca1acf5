use Rattle.std.proofs.Common.{refl, arith, ◌+◌}
use Rattle.graph_builder.proofs.ReachingLemmas.{takes_one}
use Rattle.graph_builder.proofs.reaching.Reaching.take_next.Goals as goal

pub returns-clause-takes : goal.returns-clause-takes
returns-clause-takes c =
    takes_one c.args.self.now
    (record { reached = c.args.self.now.reached; next = c.args.self.now.next + 1; limit = c.args.self.now.limit })
    (omega (arith, c.count.ensures.len, c.if-number-count.false)) refl refl refl
