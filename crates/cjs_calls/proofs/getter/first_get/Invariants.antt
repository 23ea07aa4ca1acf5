-- What is got of the properties that are left is got of all.
use Rattle.std.proofs.Common.{length}
use Rattle.es_syntax.specs.Held.{held}
use Rattle.cjs_calls.proofs.Getters.{GetsLeft}
use Rattle.cjs_calls.proofs.getter.first_get.Given as goal

abbrev pub invariant-loop-turn : goal.invariant-loop-turn
invariant-loop-turn l =
    GetsLeft l.text l.tokens (held l.text l.tokens l.props.entries.now) (held l.text l.tokens l.row.entries.now)

abbrev pub decreases-loop-turn : goal.decreases-loop-turn
decreases-loop-turn l = length l.row.entries.now
