-- A walk goes down by the entries below; what is left of a list leads to what the whole does.
use Rattle.std.specs.Prelude.{List}
use Rattle.std.proofs.Common.{◌≡◌, ◌≤◌, ℕ, length, ◌+◌, ◌*◌, false}
use Rattle.es_lowering.specs.Value.{pat_prop_at}
use Rattle.es_syntax.specs.Held.{held}
use Rattle.dts_rules.specs.Rules.{Env}
use Rattle.dts_rules.specs.Programs.{shown_pat_prop}
use Rattle.dts_draft.specs.Drafts.{state_of}
use Rattle.dts_draft.proofs.Lists.{TurnsLeft}
use Rattle.dts_patterns.proofs.Elements.{ElementsLeft}
use Rattle.dts_patterns.proofs.Props.{in_turn}
use Rattle.dts_patterns.proofs.patterns.+walk.Given as goal

abbrev pub decreases-pattern : goal.decreases-pattern
decreases-pattern l = 8 * length l.it.now.parts.entries.now + 7

abbrev pub decreases-node_pattern : goal.decreases-node_pattern
decreases-node_pattern l = 8 * length l.it.now.parts.entries.now + 6

abbrev pub decreases-array_at : goal.decreases-array_at
decreases-array_at l = 8 * length l.elems.now.entries.now + 5

abbrev pub decreases-array_pattern : goal.decreases-array_pattern
decreases-array_pattern l = 8 * length l.elems.now.entries.now + 4

abbrev pub decreases-element_group : goal.decreases-element_group
decreases-element_group l = 8 * length l.elems.now.entries.now + 3

abbrev pub decreases-all_elements : goal.decreases-all_elements
decreases-all_elements l = 8 * length l.elems.now.entries.now + 2

abbrev pub decreases-element_turn : goal.decreases-element_turn
decreases-element_turn l = 8 * length l.turn.now.parts.entries.now + 2

abbrev pub decreases-element : goal.decreases-element
decreases-element l = 8 * length l.turn.now.parts.entries.now + 1

abbrev pub decreases-object_pattern : goal.decreases-object_pattern
decreases-object_pattern l = 8 * length l.props.now.entries.now + 5

abbrev pub decreases-prop_group : goal.decreases-prop_group
decreases-prop_group l = 8 * length l.props.now.entries.now + 4

abbrev pub decreases-all_props : goal.decreases-all_props
decreases-all_props l = 8 * length l.props.now.entries.now + 3

abbrev pub decreases-next_prop : goal.decreases-next_prop
decreases-next_prop l = 8 * length l.turn.now.parts.entries.now + 3

abbrev pub decreases-prop_turn : goal.decreases-prop_turn
decreases-prop_turn l = 8 * length l.it.now.parts.entries.now + 7

abbrev pub decreases-prop : goal.decreases-prop
decreases-prop l = 8 * length l.it.now.parts.entries.now + 6

abbrev pub decreases-rest_prop : goal.decreases-rest_prop
decreases-rest_prop l = 8 * length l.inner.now.parts.entries.now + 8

abbrev pub decreases-key_prop : goal.decreases-key_prop
decreases-key_prop l = 8 * length l.pat.now.parts.entries.now + 8

abbrev pub decreases-rest_pattern : goal.decreases-rest_pattern
decreases-rest_pattern l = 8 * length l.inner.now.parts.entries.now + 8

abbrev pub decreases-default_pattern : goal.decreases-default_pattern
decreases-default_pattern l = 8 * length l.left.now.parts.entries.now + 8

-- ---- loops
abbrev pub invariant-all_elements-loop-turn : goal.invariant-all_elements-loop-turn
invariant-all_elements-loop-turn l =
    (l.out.failed ≡ false → l.initial.out.failed ≡ false)
    × (length l.row.entries.now ≤ length l.elems.entries.now)
    × (state_of l.out ≡ state_of l.initial.out)
    × (l.out.failed ≡ false → (env : Env) (x : List ℕ) → ElementsLeft env x l.tokens l.initial.out.row l.out.row
    (held x l.tokens l.elems.entries.now) (held x l.tokens l.row.entries.now))

abbrev pub decreases-all_elements-loop-turn : goal.decreases-all_elements-loop-turn
decreases-all_elements-loop-turn l = length l.row.entries.now

abbrev pub invariant-all_props-loop-turn : goal.invariant-all_props-loop-turn
invariant-all_props-loop-turn l =
    (l.out.failed ≡ false → l.initial.out.failed ≡ false)
    × (length l.row.entries.now ≤ length l.props.entries.now)
    × (state_of l.out ≡ state_of l.initial.out)
    × (l.out.failed ≡ false → (env : Env) (x : List ℕ) → TurnsLeft x l.tokens in_turn (shown_pat_prop env)
    (λ turn. pat_prop_at turn 0) l.initial.out.row l.out.row (held x l.tokens l.props.entries.now)
    (held x l.tokens l.row.entries.now))

abbrev pub decreases-all_props-loop-turn : goal.decreases-all_props-loop-turn
decreases-all_props-loop-turn l = length l.row.entries.now
