-- What is left of the parts takes on what is there by now.
use Rattle.std.proofs.Common.{length}
use Rattle.es_syntax.specs.Held.{held}
use Rattle.cjs_table.specs.Chains.{IsOnce, spot}
use Rattle.cjs_table.proofs.ChainSteps.{PostsLeft}
use Rattle.cjs_table.proofs.chain.posts.Given as goal

abbrev pub invariant-loop-turn : goal.invariant-loop-turn
invariant-loop-turn l =
    IsOnce l.text l.tokens l.by_now
    × PostsLeft (held l.text l.tokens l.others.entries.now) (held l.text l.tokens l.row.entries.now)
    (spot l.text l.tokens l.fn.along l.initial.found) (spot l.text l.tokens l.by_now l.found)

abbrev pub decreases-loop-turn : goal.decreases-loop-turn
decreases-loop-turn l = length l.row.entries.now
