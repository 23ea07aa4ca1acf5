-- A walk goes down by the entries below; what is left of a list adds what the whole does.
use Rattle.std.proofs.Common.{◌≡◌, ◌≤◌, length, ◌+◌, ◌*◌, false}
use Rattle.es_lowering.specs.Value.{pat_prop_at}
use Rattle.es_syntax.specs.Held.{held}
use Rattle.es_bound_names.specs.Names.{prop_names}
use Rattle.es_bound_names.proofs.Lists.{TurnsLeft}
use Rattle.es_bound_names.proofs.Elements.{ElementsLeft}
use Rattle.es_bound_names.proofs.pats.+walk.Given as goal

abbrev pub decreases-pat_names : goal.decreases-pat_names
decreases-pat_names l = 2 * length l.it.now.parts.entries.now + 1

abbrev pub decreases-prop_names : goal.decreases-prop_names
decreases-prop_names l = 2 * length l.it.now.parts.entries.now + 1

abbrev pub decreases-prop_turn : goal.decreases-prop_turn
decreases-prop_turn l = 2 * length l.turn.now.parts.entries.now + 1

abbrev pub decreases-element_name : goal.decreases-element_name
decreases-element_name l = 2 * length l.turn.now.parts.entries.now + 1

abbrev pub decreases-element_names : goal.decreases-element_names
decreases-element_names l = 2 * length l.elems.now.entries.now

abbrev pub decreases-props_names : goal.decreases-props_names
decreases-props_names l = 2 * length l.props.now.entries.now

abbrev pub invariant-element_names-loop-turn : goal.invariant-element_names-loop-turn
invariant-element_names-loop-turn l =
    (l.out.failed ≡ false → l.initial.out.failed ≡ false)
    × (length l.row.entries.now ≤ length l.elems.entries.now)
    × (l.out.failed ≡ false → ElementsLeft l.tokens l.initial.out.found l.out.found
    (held l.text l.tokens l.elems.entries.now) (held l.text l.tokens l.row.entries.now))

abbrev pub decreases-element_names-loop-turn : goal.decreases-element_names-loop-turn
decreases-element_names-loop-turn l = length l.row.entries.now

abbrev pub invariant-props_names-loop-turn : goal.invariant-props_names-loop-turn
invariant-props_names-loop-turn l =
    (l.out.failed ≡ false → l.initial.out.failed ≡ false)
    × (length l.row.entries.now ≤ length l.props.entries.now)
    × (l.out.failed ≡ false → TurnsLeft prop_names (λ turn. pat_prop_at turn 0) l.initial.out.found l.out.found
    (held l.text l.tokens l.props.entries.now) (held l.text l.tokens l.row.entries.now))

abbrev pub decreases-props_names-loop-turn : goal.decreases-props_names-loop-turn
decreases-props_names-loop-turn l = length l.row.entries.now
