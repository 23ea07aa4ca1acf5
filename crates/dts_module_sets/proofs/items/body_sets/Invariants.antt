-- What is left of the items adds what all do.
use Rattle.std.proofs.Common.{◌≡◌, length, false}
use Rattle.es_lowering.specs.Value.{item_at}
use Rattle.es_syntax.specs.Held.{held}
use Rattle.dts_rules.specs.Sets.{Numbers}
use Rattle.dts_sets.specs.Ids.{Numbered}
use Rattle.dts_sets.specs.Known.{item_sets}
use Rattle.dts_sets.proofs.Grown.{TurnsLeft}
use Rattle.dts_module_sets.proofs.items.body_sets.Given as goal

abbrev pub invariant-loop-turn : goal.invariant-loop-turn
invariant-loop-turn l =
    (l.out.failed ≡ false → l.initial.out.failed ≡ false)
    × (l.out.failed ≡ false → (number : Numbers) → Numbered l.tokens l.ids number
    → TurnsLeft (item_sets number) (λ turn. item_at turn 0) l.initial.out l.out
    (held l.text l.tokens l.body.entries.now)
    (held l.text l.tokens l.row.entries.now))

abbrev pub decreases-loop-turn : goal.decreases-loop-turn
decreases-loop-turn l = length l.row.entries.now
