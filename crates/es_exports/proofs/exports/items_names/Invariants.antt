-- What is left of the turns adds what all do.
use Rattle.std.proofs.Common.{◌≡◌, length, false}
use Rattle.es_lowering.specs.Value.{item_at}
use Rattle.es_syntax.specs.Held.{held}
use Rattle.es_bound_names.proofs.Lists.{TurnsLeft}
use Rattle.es_exports.specs.Exports.{exported_by}
use Rattle.es_exports.proofs.exports.items_names.Given as goal

abbrev pub invariant-loop-turn : goal.invariant-loop-turn
invariant-loop-turn l =
    (l.out.failed ≡ false → l.initial.out.failed ≡ false)
    × (l.out.failed ≡ false → TurnsLeft exported_by (λ turn. item_at turn 0) l.initial.out.found l.out.found
    (held l.text l.tokens l.items.entries.now) (held l.text l.tokens l.row.entries.now))

abbrev pub decreases-loop-turn : goal.decreases-loop-turn
decreases-loop-turn l = length l.row.entries.now
