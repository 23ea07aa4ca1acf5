use Rattle.std.proofs.Common.{arith, ap, sym, ◌∙◌}
use Rattle.es_syntax.specs.Roles.{pat_prop_in}
use Rattle.dts_draft.proofs.There.{same}
use Rattle.dts_draft.proofs.Lists.{turns_next}
use Rattle.dts_patterns.proofs.Forms.{array_written, object_written, rest_written, default_written}
use Rattle.dts_patterns.proofs.Elements.{elements_all, elements_next, elements_done, element_hole, element_one, element_turned, group_of_elements}
use Rattle.dts_patterns.proofs.Props as props
use Rattle.dts_patterns.proofs.patterns.+walk.Goals as goal

-- opened, written, closed
pub array_pattern-returns-clause-written : goal.array_pattern-returns-clause-written
array_pattern-returns-clause-written t c = λ e env x.
    let f = c.close_node.ensures.before e in
    let g = c.drop_between.ensures.before f in
    array_written env x _ _ _ (c.open-place.ensures.written (c.element_group.ensures.before g))
    (c.open-place.ensures.place (c.element_group.ensures.before g)) (c.element_group.ensures.written g env x _)
    (c.drop_between.ensures.written f x _) (c.close_node.ensures.written e)

pub object_pattern-returns-clause-written : goal.object_pattern-returns-clause-written
object_pattern-returns-clause-written t c = λ e env x.
    let f = c.close_node.ensures.before e in
    let g = c.drop_between.ensures.before f in
    object_written env x _ _ _ (c.open-place.ensures.written (c.prop_group.ensures.before g))
    (c.open-place.ensures.place (c.prop_group.ensures.before g)) (c.prop_group.ensures.written g env x)
    (c.drop_between.ensures.written f x _) (c.close_node.ensures.written e)

pub rest_pattern-returns-clause-written : goal.rest_pattern-returns-clause-written
rest_pattern-returns-clause-written t c = λ e env x.
    let f = c.close_node.ensures.before e in
    let g = c.pattern.ensures.before f in
    rest_written env x _ _ (c.open-place.ensures.written g) (c.open-place.ensures.place g)
    (c.pattern.ensures.written f env x) (c.close_node.ensures.written e)

pub default_pattern-returns-clause-written : goal.default_pattern-returns-clause-written
default_pattern-returns-clause-written t c = λ e env x right.
    let f = c.close.ensures.before e in
    let g = c.gone.ensures.before f in
    let h = c.pattern.ensures.before g in
    default_written env x _ _ right (c.open-place.ensures.written h) (c.open-place.ensures.place h)
    (c.pattern.ensures.written g env x) (c.gone.ensures.written f x _) (c.close.ensures.written e)

pub element_group-returns-clause-written : goal.element_group-returns-clause-written
element_group-returns-clause-written t c = λ e env x at.
    let f = c.close_group.ensures.before e in
    let g = c.all_elements.ensures.before f in
    group_of_elements env x _ (c.open-group.ensures.written g) (c.open-group.ensures.place g)
    (c.all_elements.ensures.written f env x at) (c.close_group.ensures.written e)

pub element_turn-returns-clause-written : goal.element_turn-returns-clause-written
element_turn-returns-clause-written t c = λ e env x at.
    let f = c.close_group-2.ensures.before e in
    let g = c.close_group.ensures.before f in
    let h = c.element.ensures.before g in
    let i = c.open-inner.ensures.before h in
    element_turned env x _ (c.open-outer.ensures.written i) (c.open-outer.ensures.place i)
    (c.open-inner.ensures.written h) (c.open-inner.ensures.place h) (c.element.ensures.written g env x at)
    (c.close_group.ensures.written f) (c.close_group-2.ensures.written e)

pub element-returns-in-Some-clause-written : goal.element-returns-in-Some-clause-written
element-returns-in-Some-clause-written t c = λ e env x at.
    element_one env x _ at (c.in-Some.ensures.value x _) (c.pattern.ensures.written e env x)

pub element-returns-in-None-clause-written : goal.element-returns-in-None-clause-written
element-returns-in-None-clause-written t c = λ e env x at. element_hole env x _ at (c.in-None.ensures.value x _)

pub prop_group-returns-clause-written : goal.prop_group-returns-clause-written
prop_group-returns-clause-written t c = λ e env x.
    let f = c.close_group.ensures.before e in
    let g = c.all_props.ensures.before f in
    props.group_of_props env x _ (c.open-group.ensures.written g) (c.open-group.ensures.place g)
    (c.all_props.ensures.written f env x) (c.close_group.ensures.written e)

pub prop_turn-returns-then-prop-clause-written : goal.prop_turn-returns-then-prop-clause-written
prop_turn-returns-then-prop-clause-written t c = λ e env x.
    let f = c.close_group.ensures.before e in
    let g = c.prop.ensures.before f in
    props.prop_turned env x _ _ _ (c.open-place.ensures.written g) (c.open-place.ensures.place g) c.if-prop.true
    (c.prop.ensures.written f env x) (c.close_group.ensures.written e)

pub rest_prop-returns-clause-written : goal.rest_prop-returns-clause-written
rest_prop-returns-clause-written t c = λ e env x.
    let f = c.close_node.ensures.before e in
    let g = c.pattern.ensures.before f in
    props.rest_written env x _ _ _ _ (c.open-place.ensures.written g) (c.open-place.ensures.place g)
    (c.pattern.ensures.written f env x) (c.close_node.ensures.written e)

-- ---- one turn less is left
pub all_elements-loop-turn-preserved : goal.all_elements-loop-turn-preserved
all_elements-loop-turn-preserved t c =
    let below = c.in-Some.ensures.below in
    let within = c.loop-turn.invariant.1 in (
      λ e. c.loop-turn.invariant.0 (c.element_turn.ensures.before e),
      omega arith,
      c.element_turn.ensures.state ∙ c.loop-turn.invariant.2,
      λ e env x.
          elements_next env x _ (c.in-Some.ensures.value x _)
          (c.loop-turn.invariant.3 (c.element_turn.ensures.before e) env x) (c.element_turn.ensures.written e env x),
    )

pub all_props-loop-turn-preserved : goal.all_props-loop-turn-preserved
all_props-loop-turn-preserved t c =
    let below = c.in-Some.ensures.below in
    let within = c.loop-turn.invariant.1 in (
      λ e. c.loop-turn.invariant.0 (c.next_prop-end.ensures.before e),
      omega arith,
      c.next_prop-end.ensures.state ∙ c.loop-turn.invariant.2,
      λ e env x.
          turns_next x _ _ _ _ _ _ _ _ _ _ _ (c.in-Some.ensures.value x _)
          (c.loop-turn.invariant.3 (c.next_prop-end.ensures.before e) env x) (c.next_prop-end.ensures.written e env x),
    )

-- ---- properties that stay and that go
pub prop_turn-returns-clause-written : goal.prop_turn-returns-clause-written
prop_turn-returns-clause-written t c = λ e env x.
    let f = sym c.back_to.ensures.failed ∙ e in
    let g = c.prop.ensures.before f in
    props.prop_taken env x _ _ _ (c.open-place.ensures.written g) (c.open-place.ensures.place g) c.if-prop.false
    (c.prop.ensures.written f env x) c.back_to.ensures.row

pub key_prop-returns-then-not-pattern_key-clause-written : goal.key_prop-returns-then-not-pattern_key-clause-written
key_prop-returns-then-not-pattern_key-clause-written t c = λ e env x span value.
    let f = sym c.back_to.ensures.failed ∙ e in
    let g = c.pattern_key.ensures.before f in
    props.key_none env x _ _ _ _ _ _ span value (c.open-place.ensures.written g) (c.open-place.ensures.place g)
    c.if-not-pattern_key.true (c.pattern_key.ensures.written f env x) c.back_to.ensures.row

pub key_prop-returns-clause-written : goal.key_prop-returns-clause-written
key_prop-returns-clause-written t c = λ e env x span value.
    let f = c.close_node.ensures.before e in
    let g = c.gone.ensures.before f in
    let h = c.pattern.ensures.before g in
    let i = c.pattern_key.ensures.before h in
    props.key_written env x _ _ _ _ _ span value (c.open-place.ensures.written i) (c.open-place.ensures.place i)
    c.if-not-pattern_key.false (c.pattern_key.ensures.written h env x) (c.pattern.ensures.written g env x)
    (c.gone.ensures.written f x _) (c.close_node.ensures.written e)

-- ---- the property in a turn
pub next_prop-returns-then-prop_turn-clause-written : goal.next_prop-returns-then-prop_turn-clause-written
next_prop-returns-then-prop_turn-clause-written t c = λ e env x.
    same _ _ _ (ap pat_prop_in (c.in-Some.ensures.value x _))
    (props.turn_stays env x _ _ (c.prop_turn.ensures.written e env x))

pub next_prop-returns-else-prop_turn-clause-written : goal.next_prop-returns-else-prop_turn-clause-written
next_prop-returns-else-prop_turn-clause-written t c = λ e env x.
    same _ _ _ (ap pat_prop_in (c.in-Some.ensures.value x _))
    (props.turn_goes env x _ _ (c.prop_turn.ensures.written (c.drop_prop.ensures.before e) env x)
    (c.drop_prop.ensures.written e x _))
