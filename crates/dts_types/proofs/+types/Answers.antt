use Rattle.std.specs.Prelude.{Bool, List, [], Option, option_map}
use Rattle.std.proofs.Common.{arith, ap, refl, sym, ◌∙◌}
use Rattle.es_ast.specs.declared.ast.Expr.TheVariants as vExpr
use Rattle.es_ast.specs.declared.ast.Function.{Function}
use Rattle.es_syntax.specs.Roles.{param_in, prop_in}
use Rattle.es_syntax.specs.declared.entry.Lean.{Lean}
use Rattle.es_syntax.specs.declared.entry.What.TheVariants as vWhat
use Rattle.dts_draft.proofs.There.{same}
use Rattle.dts_types.specs.Types.{Infers}
use Rattle.dts_types.proofs.TypeLemmas as types
use Rattle.dts_operands.proofs.SourceLemmas as sources
use Rattle.dts_types.proofs.FrozenLemmas.{frozen_value}
use Rattle.dts_types.proofs.ArrayLemmas as arrays
use Rattle.dts_types.proofs.ElementLemmas as elements
use Rattle.dts_types.proofs.ObjectLemmas as objects
use Rattle.dts_types.proofs.TurnLemmas as turns
use Rattle.dts_types.proofs.ParamLemmas as params
use Rattle.dts_types.proofs.FunctionLemmas as functions
use Rattle.dts_types.proofs.+types.Goals as goal

-- ---- a type, or `any`

pub exprs::infer_or_any-returns-then-infer-clause-written : goal.exprs::infer_or_any-returns-then-infer-clause-written
exprs::infer_or_any-returns-then-infer-clause-written t c = λ e by knows.
    types.or_typed by c.args.env.now.text.now c.args.env.now.tokens.now c.args.kind c.args.range c.args.ask
    c.args.out.now c.infer.new.out _ _ c.requires.plain c.if-infer.true (c.infer.ensures.written e by knows)

pub exprs::infer_or_any-returns-clause-written : goal.exprs::infer_or_any-returns-clause-written
exprs::infer_or_any-returns-clause-written t c = λ e by knows.
    let f = c.word.ensures.before e in
    let g = c.note.ensures.before f in
    types.or_any_there by c.args.env.now.text.now c.args.env.now.tokens.now c.args.kind c.args.range c.args.ask
    c.args.out.now c.infer.new.out c.note.new.self c.word.new.self _ _ c.requires.plain c.if-infer.false
    (c.infer.ensures.written g by knows) c.note.ensures.row (c.note.ensures.noted f)
    (c.word.ensures.written e _ _) c.word.ensures.state

-- ---- nodes by their alternatives

pub exprs::node_type-returns-in-Other-clause-written : goal.exprs::node_type-returns-in-Other-clause-written
exprs::node_type-returns-in-Other-clause-written t c = λ e by knows.
    types.untyped_at by c.args.env.now.text.now c.args.env.now.tokens.now c.args.ask c.args.out.now c.args.it.now
    c.args.label c.requires.is c.in-Other.ensures

pub exprs::lean_type-returns-in-Binary-clause-written : goal.exprs::lean_type-returns-in-Binary-clause-written
exprs::lean_type-returns-in-Binary-clause-written t c = λ e by knows.
    types.untyped_there by c.args.env.now.text.now c.args.env.now.tokens.now c.args.ask c.args.out.now _
    (sources.binary_untyped by c.args.env.now.text.now c.args.env.now.tokens.now c.args.it.now
    (c.requires.is ∙ ap (λ (l : Lean). vWhat.Lean l) c.in-Binary.is))

pub exprs::lean_type-returns-in-Some-clause-written : goal.exprs::lean_type-returns-in-Some-clause-written
exprs::lean_type-returns-in-Some-clause-written t c = λ e by knows.
    sources.lean_by_source by c.args.env.now.text.now c.args.env.now.tokens.now
    (Infers c.args.env.now.text.now c.args.env.now.tokens.now by c.args.ask c.args.out.now c.source_type.new.out
    c.source_type.result) _ c.args.it.now _ _ _
    (c.requires.is ∙ ap (λ (l : Lean). vWhat.Lean l) c.in-TypedBinary.is)
    (c.in-Some.ensures.parts c.args.env.now.text.now c.args.env.now.tokens.now)
    (c.lean_turns-source.ensures by c.args.env.now.text.now)
    (λ first it is d. c.source_type.ensures.written e by knows first it is d)

pub exprs::left_type-returns-clause-written : goal.exprs::left_type-returns-clause-written
exprs::left_type-returns-clause-written t c = λ e r by knows.
    sources.turned_by_source by c.args.env.now.text.now c.args.env.now.tokens.now
    (Infers c.args.env.now.text.now c.args.env.now.tokens.now by c.args.ask c.args.out.now c.source_type.new.out
    c.source_type.result) _ r _ _ _ (c.turned-source.ensures by c.args.env.now.text.now)
    (λ first it is d. c.source_type.ensures.written e by knows first it is d)

pub exprs::cast_type-returns-clause-written : goal.exprs::cast_type-returns-clause-written
exprs::cast_type-returns-clause-written t c = λ e r by knows.
    sources.cast_by_source by c.args.env.now.text.now c.args.env.now.tokens.now
    (Infers c.args.env.now.text.now c.args.env.now.tokens.now by c.args.ask c.args.out.now c.source_type.new.out
    c.source_type.result) _ r _ _
    (λ r e. c.cast-source.ensures by c.args.env.now.text.now c.args.env.now.tokens.now r e)
    (λ first it is d. c.source_type.ensures.written e by knows first it is d)

pub exprs::source_type-returns-in-Operand-clause-written : goal.exprs::source_type-returns-in-Operand-clause-written
exprs::source_type-returns-in-Operand-clause-written t c = λ e by knows operand it is d.
    types.operand_infers by c.args.env.now.text.now c.args.env.now.tokens.now c.args.ask c.args.out.now c.infer.new.out
    c.infer.result c.in-Operand.is_const operand it _ is (rw c.in-Operand.is at d)
    (rw c.operand_ask.ensures at (c.infer.ensures.written e by knows))

pub exprs::source_type-returns-in-Type-clause-written : goal.exprs::source_type-returns-in-Type-clause-written
exprs::source_type-returns-in-Type-clause-written t c = λ e by knows operand it is d.
    types.type_infers by c.args.env.now.text.now c.args.env.now.tokens.now c.args.ask c.args.out.now
    c.kept_type.new.out c.kept_type.result it c.in-Type.ty (rw c.in-Type.is at d) c.kept_type.ensures.state
    (c.kept_type.ensures.written e c.args.env.now.text.now)

pub exprs::source_type-returns-in-Untyped-clause-written : goal.exprs::source_type-returns-in-Untyped-clause-written
exprs::source_type-returns-in-Untyped-clause-written t c = λ e by knows operand it is d.
    types.no_rule by c.args.env.now.text.now c.args.env.now.tokens.now c.args.ask c.args.out.now it
    (rw c.in-Untyped.is at d)

pub exprs::chain_type-returns-in-Value-clause-written : goal.exprs::chain_type-returns-in-Value-clause-written
exprs::chain_type-returns-in-Value-clause-written t c = λ e by knows.
    frozen_value by c.args.env.now.text.now c.args.env.now.tokens.now c.args.ask c.args.out.now c.infer.new.out
    c.infer.result c.in-Value.value _ (c.in-Value.ensures.makes by knows) (c.infer.ensures.written e by knows)

pub exprs::chain_type-returns-in-Freeze-clause-written : goal.exprs::chain_type-returns-in-Freeze-clause-written
exprs::chain_type-returns-in-Freeze-clause-written t c = λ e by knows.
    types.untyped_there by c.args.env.now.text.now c.args.env.now.tokens.now c.args.ask c.args.out.now _
    (c.in-Freeze.ensures.makes by knows)

pub exprs::chain_type-returns-in-Neither-clause-written : goal.exprs::chain_type-returns-in-Neither-clause-written
exprs::chain_type-returns-in-Neither-clause-written t c = λ e by knows.
    types.untyped_there by c.args.env.now.text.now c.args.env.now.tokens.now c.args.ask c.args.out.now _
    (c.in-Neither.ensures.makes by knows)

-- ---- arrays

pub arrays::array_type-returns-then-is_fixed-clause-written : goal.arrays::array_type-returns-then-is_fixed-clause-written
arrays::array_type-returns-then-is_fixed-clause-written t c = λ e r from by knows.
    c.readonly_array.ensures.written e (sym c.is_fixed.ensures ∙ c.if-is_fixed.true) r from by knows

pub arrays::array_type-returns-clause-written : goal.arrays::array_type-returns-clause-written
arrays::array_type-returns-clause-written t c = λ e r from by knows.
    arrays.plain_array by c.args.env.now.text.now c.args.env.now.tokens.now c.args.ask c.args.out.now
    c.tuple_type.new.out c.tuple_type.result from r _ (sym c.is_fixed.ensures ∙ c.if-is_fixed.false)
    (c.tuple_type.ensures.written e by knows)

pub arrays::readonly_array-returns-clause-written : goal.arrays::readonly_array-returns-clause-written
arrays::readonly_array-returns-clause-written t c = λ e fixed r from by knows.
    let f = c.close_form.ensures.before e in
    let g = c.tuple_type.ensures.before f in
    arrays.readonly_all by c.args.env.now.text.now c.args.env.now.tokens.now c.args.ask c.args.out.now
    c.open-place.new.self c.tuple_type.new.out c.close_form.new.self _ from r _ _ fixed
    (c.open-place.ensures.written g) (c.open-place.ensures.place g) c.open-place.ensures.state
    c.if-not-tuple_type.false (c.tuple_type.ensures.written f by knows) (c.close_form.ensures.written e)
    c.close_form.ensures.state

pub arrays::readonly_array-returns-then-not-tuple_type-clause-written :
    goal.arrays::readonly_array-returns-then-not-tuple_type-clause-written
arrays::readonly_array-returns-then-not-tuple_type-clause-written t c = λ e fixed r from by knows.
    let f = sym c.back_to.ensures.failed ∙ e in
    let g = c.tuple_type.ensures.before f in
    arrays.readonly_none by c.args.env.now.text.now c.args.env.now.tokens.now c.args.ask c.args.out.now
    c.open-place.new.self c.tuple_type.new.out c.back_to.new.self _ from r _ _ fixed
    (c.open-place.ensures.written g) (c.open-place.ensures.place g) c.open-place.ensures.state
    c.if-not-tuple_type.true (c.tuple_type.ensures.written f by knows) c.back_to.ensures.row
    c.back_to.ensures.state

pub arrays::tuple_type-returns-clause-written : goal.arrays::tuple_type-returns-clause-written
arrays::tuple_type-returns-clause-written t c = λ e by knows at.
    let f = c.close_form.ensures.before e in
    let g = c.all_elements.ensures.before f in
    arrays.tuple_all by c.args.env.now.text.now c.args.env.now.tokens.now c.args.ask c.args.out.now
    c.open-place.new.self c.all_elements.new.out c.close_form.new.self _ _ _ (c.open-place.ensures.written g)
    (c.open-place.ensures.place g) c.open-place.ensures.state c.if-not-all_elements.false
    (c.all_elements.ensures.written f by knows at) (c.close_form.ensures.written e)
    c.close_form.ensures.state

pub arrays::tuple_type-returns-then-not-all_elements-clause-written :
    goal.arrays::tuple_type-returns-then-not-all_elements-clause-written
arrays::tuple_type-returns-then-not-all_elements-clause-written t c = λ e by knows at.
    let f = sym c.back_to.ensures.failed ∙ e in
    let g = c.all_elements.ensures.before f in
    arrays.tuple_none by c.args.env.now.text.now c.args.env.now.tokens.now c.args.ask c.args.out.now
    c.open-place.new.self c.all_elements.new.out c.back_to.new.self _ _ _ (c.open-place.ensures.written g)
    (c.open-place.ensures.place g) c.open-place.ensures.state c.if-not-all_elements.true
    (c.all_elements.ensures.written f by knows at) c.back_to.ensures.row c.back_to.ensures.state

pub arrays::all_elements-loop-turn-preserved : goal.arrays::all_elements-loop-turn-preserved
arrays::all_elements-loop-turn-preserved t c =
    let below = c.in-Some.ensures.below in
    let within = c.loop-turn.invariant.1 in (
      λ e. c.loop-turn.invariant.0 (c.element.ensures.before e),
      omega arith,
      λ e by knows.
          arrays.element_goes by c.args.env.now.text.now c.args.env.now.tokens.now c.args.ask c.args.out.now
          c.loop-turn.out c.element.new.out _ _ _ _ _
          c.if-not-element.false (c.in-Some.ensures.value c.args.env.now.text.now c.args.env.now.tokens.now)
          (c.loop-turn.invariant.2 (c.element.ensures.before e) by knows)
          (λ at. c.element.ensures.written e at by knows),
    )

pub arrays::all_elements-returns-then-not-element-clause-written : goal.arrays::all_elements-returns-then-not-element-clause-written
arrays::all_elements-returns-then-not-element-clause-written t c = λ e by knows at.
    arrays.element_stops by c.args.env.now.text.now c.args.env.now.tokens.now c.args.ask c.args.out.now c.loop-turn.out
    c.element.new.out _ _ _ _ _ c.if-not-element.true
    (c.in-Some.ensures.value c.args.env.now.text.now c.args.env.now.tokens.now)
    (c.loop-turn.invariant.2 (c.element.ensures.before e) by knows)
    (λ at. c.element.ensures.written e at by knows) at

pub arrays::all_elements-returns-clause-written : goal.arrays::all_elements-returns-clause-written
arrays::all_elements-returns-clause-written t c = λ e by knows at.
    arrays.elements_over by c.args.env.now.text.now c.args.env.now.tokens.now c.args.ask c.args.out.now c.loop-turn.out
    _ _ (c.in_default.ensures.value c.args.env.now.text.now c.args.env.now.tokens.now)
    (c.loop-turn.invariant.2 e by knows) at

pub arrays::element-returns-in-Some-clause-written : goal.arrays::element-returns-in-Some-clause-written
arrays::element-returns-in-Some-clause-written t c = λ e at by knows.
    elements.element_steps by c.args.env.now.text.now c.args.env.now.tokens.now c.args.ask c.args.out.now
    c.some_element.new.out c.some_element.result _ _ _ at
    (c.in-Some.ensures.value c.args.env.now.text.now c.args.env.now.tokens.now)
    (c.some_element.ensures.written e by knows)

pub arrays::element-returns-in-None-clause-written : goal.arrays::element-returns-in-None-clause-written
arrays::element-returns-in-None-clause-written t c = λ e at by knows.
    elements.hole_steps by c.args.env.now.text.now c.args.env.now.tokens.now c.args.ask c.args.out.now c.hole.new.out
    at _ (c.in-None.ensures.value c.args.env.now.text.now c.args.env.now.tokens.now) c.hole.ensures.state
    (c.hole.ensures.written e c.args.env.now.text.now c.args.env.now.tokens.now)

pub arrays::some_element-returns-else-is_spread-clause-written : goal.arrays::some_element-returns-else-is_spread-clause-written
arrays::some_element-returns-else-is_spread-clause-written t c = λ e by knows.
    elements.plain_node by c.args.env.now.text.now c.args.env.now.tokens.now c.args.ask c.args.out.now
    c.plain_element.new.out c.args.it.now _ c.in-Node.is (c.is_spread.ensures ∙ c.if-is_spread.false)
    (c.plain_element.ensures.written e by knows)

pub arrays::some_element-returns-in-Lean-clause-written : goal.arrays::some_element-returns-in-Lean-clause-written
arrays::some_element-returns-in-Lean-clause-written t c = λ e by knows.
    elements.plain_lean by c.args.env.now.text.now c.args.env.now.tokens.now c.args.ask c.args.out.now
    c.plain_element-in-Lean.new.out c.args.it.now _ c.in-Lean.is
    (c.plain_element-in-Lean.ensures.written e by knows)

pub arrays::plain_element-returns-clause-written : goal.arrays::plain_element-returns-clause-written
arrays::plain_element-returns-clause-written t c = λ e by knows.
    let f = c.close_form.ensures.before e in
    let g = c.infer_or_any.ensures.before f in
    elements.plain_steps by c.args.env.now.text.now c.args.env.now.tokens.now c.args.ask c.args.out.now
    c.open-place.new.self c.infer_or_any.new.out c.close_form.new.self _ _ _ (c.open-place.ensures.written g)
    (c.open-place.ensures.place g) c.open-place.ensures.state
    (c.expr_range-range.ensures c.args.env.now.text.now) (c.infer_or_any.ensures.written f by knows)
    (c.close_form.ensures.written e) c.close_form.ensures.state

pub arrays::spread_element-returns-in-Some-Spread-clause-written : goal.arrays::spread_element-returns-in-Some-Spread-clause-written
arrays::spread_element-returns-in-Some-Spread-clause-written t c = λ e by knows.
    rw (c.in-Some-Spread.ensures.form c.args.env.now.text.now c.args.env.now.tokens.now, c.in-Some-Spread.field-0-is)
    (c.spread.ensures.written e by knows)

pub arrays::spread-returns-then-rest_type-clause-written : goal.arrays::spread-returns-then-rest_type-clause-written
arrays::spread-returns-then-rest_type-clause-written t c = λ e by knows.
    let f = c.close_form.ensures.before e in
    let g = c.rest_type.ensures.before f in
    elements.rest_steps by c.args.env.now.text.now c.args.env.now.tokens.now c.args.ask c.args.out.now
    c.open-place.new.self c.rest_type.new.out c.close_form.new.self _ _ _ _ (c.open-place.ensures.written g)
    (c.open-place.ensures.place g) c.open-place.ensures.state c.if-rest_type.true
    (c.rest_type.ensures.written f by knows) (c.close_form.ensures.written e) c.close_form.ensures.state

pub arrays::spread-returns-clause-written : goal.arrays::spread-returns-clause-written
arrays::spread-returns-clause-written t c = λ e by knows.
    let f = sym c.back_to.ensures.failed ∙ c.note.ensures.before e in
    let g = c.rest_type.ensures.before f in
    elements.rest_ends by c.args.env.now.text.now c.args.env.now.tokens.now c.args.ask c.args.out.now
    c.open-place.new.self c.rest_type.new.out c.back_to.new.self c.note.new.self _ _ _ _ _
    (c.open-place.ensures.written g) (c.open-place.ensures.place g) c.open-place.ensures.state
    c.if-rest_type.false (c.rest_type.ensures.written f by knows) c.back_to.ensures.row
    c.back_to.ensures.state c.note.ensures.row (c.note.ensures.noted e) c.span_of.ensures

pub arrays::rest_type-returns-in-Other-clause-written : goal.arrays::rest_type-returns-in-Other-clause-written
arrays::rest_type-returns-in-Other-clause-written t c = λ e by knows.
    elements.no_rest_node by c.args.env.now.text.now c.args.env.now.tokens.now c.args.literal c.args.out.now
    c.args.inner.now _ c.in-Node.is c.in-Other.ensures

pub arrays::rest_type-returns-in-Lean-clause-written : goal.arrays::rest_type-returns-in-Lean-clause-written
arrays::rest_type-returns-in-Lean-clause-written t c = λ e by knows.
    elements.no_rest_lean by c.args.env.now.text.now c.args.env.now.tokens.now c.args.literal c.args.out.now
    c.args.inner.now _ c.in-Lean.is

pub arrays::known_rest-returns-in-Some-Ident-clause-written : goal.arrays::known_rest-returns-in-Some-Ident-clause-written
arrays::known_rest-returns-in-Some-Ident-clause-written t c = λ e by knows.
    rw (c.in-Some-Ident.ensures.form c.args.env.now.text.now c.args.env.now.tokens.now, c.in-Some-Ident.field-0-is)
    (elements.name_rests by c.args.env.now.text.now c.args.env.now.tokens.now c.args.literal c.args.out.now
    c.array_name.new.out c.array_name.result _ c.array_name.ensures.state
    (c.array_name.ensures.written e by knows))

pub arrays::known_rest-returns-in-Some-Array-clause-written : goal.arrays::known_rest-returns-in-Some-Array-clause-written
arrays::known_rest-returns-in-Some-Array-clause-written t c = λ e by knows.
    rw (c.in-Some-Array.ensures.form c.args.env.now.text.now c.args.env.now.tokens.now, c.in-Some-Array.field-0-is)
    (c.rest_tuple.ensures.written e _ _ by knows)

pub arrays::rest_tuple-returns-clause-written : goal.arrays::rest_tuple-returns-clause-written
arrays::rest_tuple-returns-clause-written t c = λ e r from by knows.
    arrays.rest_tuple by c.args.env.now.text.now c.args.env.now.tokens.now c.args.literal c.args.out.now
    c.tuple_type.new.out c.tuple_type.result from r _ (c.tuple_type.ensures.written e by knows)

-- ---- objects

pub objects::object_type-returns-clause-written : goal.objects::object_type-returns-clause-written
objects::object_type-returns-clause-written t c = λ e r by knows.
    let f = c.close_form.ensures.before e in
    let g = c.all_props.ensures.before f in
    objects.object_made by c.args.env.now.text.now c.args.env.now.tokens.now c.args.ask c.args.out.now
    c.open-place.new.self c.all_props.new.out c.close_form.new.self _ r _ (c.open-place.ensures.written g)
    (c.open-place.ensures.place g) c.open-place.ensures.state (c.all_props.ensures.written f by knows)
    (c.close_form.ensures.written e) c.close_form.ensures.state

pub objects::all_props-loop-turn-preserved : goal.objects::all_props-loop-turn-preserved
objects::all_props-loop-turn-preserved t c =
    let below = c.in-Some.ensures.below in
    let within = c.loop-turn.invariant.1 in (
      λ e. c.loop-turn.invariant.0 (c.prop_turn.ensures.before e),
      omega arith,
      λ e by knows.
          turns.turns_next c.args.env.now.text.now c.args.env.now.tokens.now _ _ _ c.args.out.now c.loop-turn.out
          c.prop_turn.new.out _ _ _ _ (c.in-Some.ensures.value c.args.env.now.text.now c.args.env.now.tokens.now)
          (c.loop-turn.invariant.2 (c.prop_turn.ensures.before e) by knows) (c.prop_turn.ensures.written e by knows),
    )

pub objects::all_props-returns-clause-written : goal.objects::all_props-returns-clause-written
objects::all_props-returns-clause-written t c = λ e by knows.
    turns.turns_done c.args.env.now.text.now c.args.env.now.tokens.now _ _ _ c.args.out.now c.loop-turn.out _ _
    (c.in_default.ensures.value c.args.env.now.text.now c.args.env.now.tokens.now)
    (c.loop-turn.invariant.2 e by knows)

pub params::all_params-loop-turn-preserved : goal.params::all_params-loop-turn-preserved
params::all_params-loop-turn-preserved t c =
    let below = c.in-Some.ensures.below in
    let within = c.loop-turn.invariant.1 in (
      λ e. c.loop-turn.invariant.0 (c.param_turn.ensures.before e),
      omega arith,
      λ e by knows.
          turns.turns_next c.args.env.now.text.now c.args.env.now.tokens.now _ _ _ c.args.out.now c.loop-turn.out
          c.param_turn.new.out _ _ _ _ (c.in-Some.ensures.value c.args.env.now.text.now c.args.env.now.tokens.now)
          (c.loop-turn.invariant.2 (c.param_turn.ensures.before e) by knows) (c.param_turn.ensures.written e by knows),
    )

pub params::all_params-returns-clause-written : goal.params::all_params-returns-clause-written
params::all_params-returns-clause-written t c = λ e by knows.
    turns.turns_done c.args.env.now.text.now c.args.env.now.tokens.now _ _ _ c.args.out.now c.loop-turn.out _ _
    (c.in_default.ensures.value c.args.env.now.text.now c.args.env.now.tokens.now)
    (c.loop-turn.invariant.2 e by knows)

pub objects::prop_turn-returns-in-Some-clause-written : goal.objects::prop_turn-returns-in-Some-clause-written
objects::prop_turn-returns-in-Some-clause-written t c = λ e by knows.
    same _ _ _ (ap prop_in (c.in-Some.ensures.value c.args.env.now.text.now c.args.env.now.tokens.now))
    (c.prop.ensures.written e by knows)

pub objects::prop-returns-in-Some-Spread-clause-written : goal.objects::prop-returns-in-Some-Spread-clause-written
objects::prop-returns-in-Some-Spread-clause-written t c = λ e by knows.
    rw (c.in-Some-Spread.ensures.form c.args.env.now.text.now c.args.env.now.tokens.now, c.in-Some-Spread.field-0-is)
    (objects.spread_noted by c.args.env.now.text.now c.args.env.now.tokens.now c.args.ask c.args.out.now
    c.note.new.self _ _ _ c.span_of.ensures c.note.ensures.row
    (c.note.ensures.noted e))

pub objects::prop-returns-in-Some-Method-clause-written : goal.objects::prop-returns-in-Some-Method-clause-written
objects::prop-returns-in-Some-Method-clause-written t c = λ e by knows.
    rw (c.in-Some-Method.ensures.form c.args.env.now.text.now c.args.env.now.tokens.now, c.in-Some-Method.field-0-is)
    (objects.method_noted by c.args.env.now.text.now c.args.env.now.tokens.now c.args.ask c.args.out.now
    c.note-in-Some-Method.new.self _ _ _ _ _ _ _ _ _ c.span_of-in-Some-Method.ensures c.note-in-Some-Method.ensures.row
    (c.note-in-Some-Method.ensures.noted e))

pub objects::prop-returns-in-Some-Accessor-clause-written : goal.objects::prop-returns-in-Some-Accessor-clause-written
objects::prop-returns-in-Some-Accessor-clause-written t c = λ e by knows.
    rw (c.in-Some-Accessor.ensures.form c.args.env.now.text.now c.args.env.now.tokens.now, c.in-Some-Accessor.field-0-is)
    (objects.accessor_noted by c.args.env.now.text.now c.args.env.now.tokens.now c.args.ask c.args.out.now
    c.note-in-Some-Accessor.new.self _ _ _ _ _ _ _ c.span_of-in-Some-Accessor.ensures c.note-in-Some-Accessor.ensures.row
    (c.note-in-Some-Accessor.ensures.noted e))

pub objects::prop-returns-in-Some-TypedMethod-clause-written : goal.objects::prop-returns-in-Some-TypedMethod-clause-written
objects::prop-returns-in-Some-TypedMethod-clause-written t c = λ e by knows.
    rw (c.in-Some-TypedMethod.ensures.form c.args.env.now.text.now c.args.env.now.tokens.now, c.in-Some-TypedMethod.field-0-is)
    (objects.typed_method_noted by c.args.env.now.text.now c.args.env.now.tokens.now c.args.ask c.args.out.now
    c.note-in-Some-TypedMethod.new.self _ _ _ _ _ _ _ _ _ c.span_of-in-Some-TypedMethod.ensures
    c.note-in-Some-TypedMethod.ensures.row (c.note-in-Some-TypedMethod.ensures.noted e))

pub objects::prop-returns-in-Some-TypedAccessor-clause-written : goal.objects::prop-returns-in-Some-TypedAccessor-clause-written
objects::prop-returns-in-Some-TypedAccessor-clause-written t c = λ e by knows.
    rw (c.in-Some-TypedAccessor.ensures.form c.args.env.now.text.now c.args.env.now.tokens.now, c.in-Some-TypedAccessor.field-0-is)
    (objects.typed_accessor_noted by c.args.env.now.text.now c.args.env.now.tokens.now c.args.ask c.args.out.now
    c.note-in-Some-TypedAccessor.new.self _ _ _ _ _ _ _ c.span_of-in-Some-TypedAccessor.ensures
    c.note-in-Some-TypedAccessor.ensures.row (c.note-in-Some-TypedAccessor.ensures.noted e))

pub objects::key_value-returns-clause-written : goal.objects::key_value-returns-clause-written
objects::key_value-returns-clause-written t c = λ e by knows.
    let f = c.close_form.ensures.before e in
    let g = c.infer_or_any.ensures.before f in
    let h = c.type_key.ensures.before g in
    objects.key_written by c.args.env.now.text.now c.args.env.now.tokens.now c.args.ask _ c.args.out.now
    c.open-place.new.self c.type_key.new.out c.infer_or_any.new.out c.close_form.new.self _ _ _ _ _ _
    (c.open-place.ensures.written h) (c.open-place.ensures.place h) c.open-place.ensures.state
    c.if-not-type_key.false (c.type_key.ensures.written g by c.args.env.now.text.now)
    c.type_key.ensures.state (c.expr_range-range.ensures c.args.env.now.text.now)
    (c.infer_or_any.ensures.written f by knows) c.property_form.ensures
    (c.close_form.ensures.written e) c.close_form.ensures.state

pub objects::key_value-returns-then-not-type_key-clause-written : goal.objects::key_value-returns-then-not-type_key-clause-written
objects::key_value-returns-then-not-type_key-clause-written t c = λ e by knows.
    let f = sym c.back_to.ensures.failed ∙ c.note.ensures.before e in
    let g = c.type_key.ensures.before f in
    objects.key_none by c.args.env.now.text.now c.args.env.now.tokens.now c.args.ask c.args.out.now
    c.open-place.new.self c.type_key.new.out c.back_to.new.self c.note.new.self _ _ _ _ _ _
    (c.open-place.ensures.written g) (c.open-place.ensures.place g) c.open-place.ensures.state
    c.if-not-type_key.true (c.type_key.ensures.written f by c.args.env.now.text.now)
    c.type_key.ensures.state c.back_to.ensures.row c.back_to.ensures.state c.note.ensures.row
    c.span_of.ensures (c.note.ensures.noted e)

-- ---- functions

pub functions::function_type-returns-in-Some-Plain-clause-written : goal.functions::function_type-returns-in-Some-Plain-clause-written
functions::function_type-returns-in-Some-Plain-clause-written t c = λ e by knows.
    rw (c.in-Some-Plain.ensures.form c.args.env.now.text.now c.args.env.now.tokens.now, c.in-Some-Plain.field-0-is)
    (c.plain_head.ensures.written e c.args.ask _ by knows)

pub functions::function_type-returns-in-Some-Typed-clause-written : goal.functions::function_type-returns-in-Some-Typed-clause-written
functions::function_type-returns-in-Some-Typed-clause-written t c = λ e by knows.
    rw (c.in-Some-Typed.ensures.form c.args.env.now.text.now c.args.env.now.tokens.now, c.in-Some-Typed.field-0-is)
    (c.typed_head.ensures.written e c.args.ask _ by knows)

pub functions::function_type-returns-in-Some-NameArrow-clause-written : goal.functions::function_type-returns-in-Some-NameArrow-clause-written
functions::function_type-returns-in-Some-NameArrow-clause-written t c = λ e by knows.
    rw (c.in-Some-NameArrow.ensures.form c.args.env.now.text.now c.args.env.now.tokens.now, c.in-Some-NameArrow.field-0-is)
    (functions.named_arrow by c.args.env.now.text.now c.args.env.now.tokens.now c.args.ask c.args.out.now
    c.name_arrow.new.out _ _ _ _
    (c.name_arrow.ensures.written e by c.args.env.now.text.now c.args.env.now.tokens.now))

pub functions::function_type-returns-in-Some-Arrow-clause-written : goal.functions::function_type-returns-in-Some-Arrow-clause-written
functions::function_type-returns-in-Some-Arrow-clause-written t c = λ e by knows.
    rw (c.in-Some-Arrow.ensures.form c.args.env.now.text.now c.args.env.now.tokens.now, c.in-Some-Arrow.field-0-is)
    (functions.arrow by c.args.env.now.text.now c.args.env.now.tokens.now c.args.ask c.args.out.now
    c.plain_type.new.out _ _ _ _ (c.plain_type.ensures.written e by knows))

pub functions::function_type-returns-in-Some-TypedArrow-clause-written :
    goal.functions::function_type-returns-in-Some-TypedArrow-clause-written
functions::function_type-returns-in-Some-TypedArrow-clause-written t c = λ e by knows.
    rw (c.in-Some-TypedArrow.ensures.form c.args.env.now.text.now c.args.env.now.tokens.now, c.in-Some-TypedArrow.field-0-is)
    (functions.typed_arrow by c.args.env.now.text.now c.args.env.now.tokens.now c.args.ask c.args.out.now
    c.typed_type.new.out _ _ _ _ _ _ (c.typed_type.ensures.written e by knows))

pub functions::plain_head-returns-in-Plain-clause-written : goal.functions::plain_head-returns-in-Plain-clause-written
functions::plain_head-returns-in-Plain-clause-written t c = λ e ask r by knows.
    same _ _ _ (ap (λ (o : Option Function). option_map vExpr.Fn o)
    (c.in-Plain.ensures.form c.args.env.now.text.now c.args.env.now.tokens.now r))
    (functions.plain_function by c.args.env.now.text.now c.args.env.now.tokens.now ask c.args.out.now
    c.plain_type.new.out r _ _ _ _ _ (c.plain_type.ensures.written e by knows))

pub functions::typed_head-returns-in-Typed-clause-written : goal.functions::typed_head-returns-in-Typed-clause-written
functions::typed_head-returns-in-Typed-clause-written t c = λ e ask r by knows.
    same _ _ _ (ap (λ (o : Option Function). option_map vExpr.Fn o)
    (c.in-Typed.ensures.form c.args.env.now.text.now c.args.env.now.tokens.now r))
    (functions.typed_function by c.args.env.now.text.now c.args.env.now.tokens.now ask c.args.out.now
    c.signature_type.new.out r _ _ _ _ _ (c.signature_type.ensures.written e by knows))

pub functions::signature_type-returns-in-Some-Typed-clause-written : goal.functions::signature_type-returns-in-Some-Typed-clause-written
functions::signature_type-returns-in-Some-Typed-clause-written t c = λ e by knows.
    rw (c.in-Some-Typed.ensures.form c.args.env.now.text.now c.args.env.now.tokens.now, c.in-Some-Typed.field-0-is)
    (c.typed_type.ensures.written e by knows)

pub functions::plain_type-returns-clause-written : goal.functions::plain_type-returns-clause-written
functions::plain_type-returns-clause-written t c = λ e by knows.
    let f = c.close_form.ensures.before e in
    let g = c.word.ensures.before f in
    let h = c.params_type.ensures.before g in
    let i = c.absent.ensures.before h in
    functions.plain_made by c.args.env.now.text.now c.args.env.now.tokens.now c.args.out.now c.open-place.new.self
    c.absent.new.self c.params_type.new.out c.word.new.self c.close_form.new.self _ _
    (c.open-place.ensures.written i) (c.open-place.ensures.place i)
    (c.absent.ensures.state ∙ c.open-place.ensures.state)
    (c.absent.ensures.written h c.args.env.now.text.now c.args.env.now.tokens.now)
    (c.params_type.ensures.written g by knows)
    (c.word.ensures.written f c.args.env.now.text.now c.args.env.now.tokens.now)
    c.word.ensures.state (c.close_form.ensures.written e) c.close_form.ensures.state

pub functions::typed_type-returns-clause-written : goal.functions::typed_type-returns-clause-written
functions::typed_type-returns-clause-written t c = λ e by knows.
    let f = c.close_form.ensures.before e in
    let g = c.result_type.ensures.before f in
    let h = c.params_type.ensures.before g in
    let i = c.type_params_group.ensures.before h in
    functions.typed_made by c.args.env.now.text.now c.args.env.now.tokens.now c.args.out.now c.open-place.new.self
    c.type_params_group.new.out c.params_type.new.out c.result_type.new.out c.close_form.new.self _ _ _ _
    (c.open-place.ensures.written i) (c.open-place.ensures.place i)
    (c.type_params_group.ensures.state ∙ c.open-place.ensures.state)
    (c.type_params_group.ensures.written h c.args.env.now.text.now c.args.env.now.tokens.now)
    (c.params_type.ensures.written g by knows)
    (c.result_type.ensures.written f c.args.env.now.text.now c.args.env.now.tokens.now)
    c.result_type.ensures.state (c.close_form.ensures.written e) c.close_form.ensures.state

-- ---- parameters

pub params::params_type-returns-in-Some-Plain-clause-written : goal.params::params_type-returns-in-Some-Plain-clause-written
params::params_type-returns-in-Some-Plain-clause-written t c = λ e by knows.
    rw (c.in-Some-Plain.ensures.form c.args.env.now.text.now c.args.env.now.tokens.now, c.in-Some-Plain.field-0-is)
    (c.plain_params.ensures.written e by knows)

pub params::params_type-returns-in-Some-Typed-clause-written : goal.params::params_type-returns-in-Some-Typed-clause-written
params::params_type-returns-in-Some-Typed-clause-written t c = λ e by knows.
    rw (c.in-Some-Typed.ensures.form c.args.env.now.text.now c.args.env.now.tokens.now, c.in-Some-Typed.field-0-is)
    (c.typed_params.ensures.written e by knows)

pub params::params_type-returns-in-Some-Signature-clause-written : goal.params::params_type-returns-in-Some-Signature-clause-written
params::params_type-returns-in-Some-Signature-clause-written t c = λ e by knows.
    rw (c.in-Some-Signature.ensures.form c.args.env.now.text.now c.args.env.now.tokens.now, c.in-Some-Signature.field-0-is)
    (params.bracketed_made by c.args.env.now.text.now c.args.env.now.tokens.now c.args.out.now
    c.params_type.new.out _ (c.params_type.ensures.written e by knows))

pub params::plain_params-returns-clause-written : goal.params::plain_params-returns-clause-written
params::plain_params-returns-clause-written t c = λ e by knows.
    let f = c.close_form.ensures.before e in
    let g = c.plain_rest.ensures.before f in
    let h = c.all_params.ensures.before g in
    params.plain_made by c.args.env.now.text.now c.args.env.now.tokens.now c.args.out.now c.open-list.new.self
    c.all_params.new.out c.plain_rest.new.out c.close_form.new.self _ _ _ (c.open-list.ensures.written h)
    (c.open-list.ensures.place h) c.open-list.ensures.state (c.all_params.ensures.written g by knows)
    (c.plain_rest.ensures.written f by c.args.env.now.text.now) (c.close_form.ensures.written e)
    c.close_form.ensures.state

pub params::typed_params-returns-clause-written : goal.params::typed_params-returns-clause-written
params::typed_params-returns-clause-written t c = λ e by knows.
    let f = c.close_form.ensures.before e in
    let g = c.typed_rest.ensures.before f in
    let h = c.all_params.ensures.before g in
    params.typed_made by c.args.env.now.text.now c.args.env.now.tokens.now c.args.out.now c.open-list.new.self
    c.all_params.new.out c.typed_rest.new.out c.close_form.new.self _ _ _ (c.open-list.ensures.written h)
    (c.open-list.ensures.place h) c.open-list.ensures.state (c.all_params.ensures.written g by knows)
    (c.typed_rest.ensures.written f by c.args.env.now.text.now) (c.close_form.ensures.written e)
    c.close_form.ensures.state

pub params::param_turn-returns-in-Some-clause-written : goal.params::param_turn-returns-in-Some-clause-written
params::param_turn-returns-in-Some-clause-written t c = λ e by knows.
    same _ _ _ (ap param_in (c.in-Some.ensures.value c.args.env.now.text.now c.args.env.now.tokens.now))
    (c.param.ensures.written e by knows)

pub params::param-returns-in-Some-Default-clause-written : goal.params::param-returns-in-Some-Default-clause-written
params::param-returns-in-Some-Default-clause-written t c = λ e by knows.
    rw (c.in-Some-Default.ensures.form c.args.env.now.text.now c.args.env.now.tokens.now, c.in-Some-Default.field-0-is)
    (c.default_param.ensures.written e _ by knows)

pub params::param-returns-in-Some-This-clause-written : goal.params::param-returns-in-Some-This-clause-written
params::param-returns-in-Some-This-clause-written t c = λ e by knows.
    rw (c.in-Some-This.ensures.form c.args.env.now.text.now c.args.env.now.tokens.now, c.in-Some-This.field-0-is)
    (c.this_param.ensures.written e by knows)

pub params::param-returns-in-Some-Property-clause-written : goal.params::param-returns-in-Some-Property-clause-written
params::param-returns-in-Some-Property-clause-written t c = λ e by knows.
    rw (c.in-Some-Property.ensures.form c.args.env.now.text.now c.args.env.now.tokens.now, c.in-Some-Property.field-0-is)
    (params.property_there by c.args.env.now.text.now c.args.env.now.tokens.now c.args.out.now
    c.tailed_param.new.out _ _ _ _ _ _ _ _ (c.tailed_param.ensures.written e by knows _))

pub params::param-returns-in-Some-Marked-clause-written : goal.params::param-returns-in-Some-Marked-clause-written
params::param-returns-in-Some-Marked-clause-written t c = λ e by knows.
    rw (c.in-Some-Marked.ensures.form c.args.env.now.text.now c.args.env.now.tokens.now, c.in-Some-Marked.field-0-is)
    (params.marked_there_is by c.args.env.now.text.now c.args.env.now.tokens.now c.args.out.now
    c.tailed_param-in-Some-Marked.new.out _ _ _ _ _ _ _ (c.tailed_param-in-Some-Marked.ensures.written e by knows _))

pub params::param-returns-in-Some-Pattern-clause-written : goal.params::param-returns-in-Some-Pattern-clause-written
params::param-returns-in-Some-Pattern-clause-written t c = λ e by knows.
    rw (c.in-Some-Pattern.ensures.form c.args.env.now.text.now c.args.env.now.tokens.now, c.in-Some-Pattern.field-0-is)
    (c.pattern_param.ensures.written e by knows)

pub params::default_param-returns-clause-written : goal.params::default_param-returns-clause-written
params::default_param-returns-clause-written t c = λ e r by knows.
    params.default_there by c.args.env.now.text.now c.args.env.now.tokens.now c.args.out.now c.default_of.new.out r _ _
    (c.default_of.ensures.written e by knows)

pub params::default_of-returns-in-Some-Ident-clause-written : goal.params::default_of-returns-in-Some-Ident-clause-written
params::default_of-returns-in-Some-Ident-clause-written t c = λ e by knows.
    rw (c.in-Some-Ident.ensures.form c.args.env.now.text.now c.args.env.now.tokens.now, c.in-Some-Ident.field-0-is)
    (params.named_pat by c.args.env.now.text.now c.args.env.now.tokens.now c.args.out.now c.named_default.new.out _
    _ (c.named_default.ensures.written e by knows))

pub params::default_of-returns-in-Some-Array-clause-written : goal.params::default_of-returns-in-Some-Array-clause-written
params::default_of-returns-in-Some-Array-clause-written t c = λ e by knows.
    rw (c.in-Some-Array.ensures.form c.args.env.now.text.now c.args.env.now.tokens.now, c.in-Some-Array.field-0-is)
    (params.array_pat by c.args.env.now.text.now c.args.env.now.tokens.now c.args.out.now c.made_default.new.out _
    _ _ _ (c.made_default.ensures.written e by knows))

pub params::default_of-returns-in-Some-Object-clause-written : goal.params::default_of-returns-in-Some-Object-clause-written
params::default_of-returns-in-Some-Object-clause-written t c = λ e by knows.
    rw (c.in-Some-Object.ensures.form c.args.env.now.text.now c.args.env.now.tokens.now, c.in-Some-Object.field-0-is)
    (params.object_pat by c.args.env.now.text.now c.args.env.now.tokens.now c.args.out.now
    c.made_default-in-Some-Object.new.out _ _ _ (c.made_default-in-Some-Object.ensures.written e by knows))

pub params::default_of-returns-in-Some-Rest-clause-written : goal.params::default_of-returns-in-Some-Rest-clause-written
params::default_of-returns-in-Some-Rest-clause-written t c = λ e by knows.
    rw (c.in-Some-Rest.ensures.form c.args.env.now.text.now c.args.env.now.tokens.now, c.in-Some-Rest.field-0-is)
    (params.rest_pat by c.args.env.now.text.now c.args.env.now.tokens.now c.args.out.now
    c.made_default-in-Some-Rest.new.out _ _ _ (c.made_default-in-Some-Rest.ensures.written e by knows))

pub params::default_of-returns-in-Some-Default-clause-written : goal.params::default_of-returns-in-Some-Default-clause-written
params::default_of-returns-in-Some-Default-clause-written t c = λ e by knows.
    rw (c.in-Some-Default.ensures.form c.args.env.now.text.now c.args.env.now.tokens.now, c.in-Some-Default.field-0-is)
    (params.default_pat by c.args.env.now.text.now c.args.env.now.tokens.now c.args.out.now
    c.made_default-in-Some-Default.new.out _ _ _ _ (c.made_default-in-Some-Default.ensures.written e by knows))

pub params::default_of-returns-in-Some-Target-clause-written : goal.params::default_of-returns-in-Some-Target-clause-written
params::default_of-returns-in-Some-Target-clause-written t c = λ e by knows.
    rw (c.in-Some-Target.ensures.form c.args.env.now.text.now c.args.env.now.tokens.now, c.in-Some-Target.field-0-is)
    (params.target_pat by c.args.env.now.text.now c.args.env.now.tokens.now c.args.out.now
    c.made_default-in-Some-Target.new.out _ _ (c.made_default-in-Some-Target.ensures.written e by knows))

pub params::default_marked-returns-in-Some-Ident-clause-written : goal.params::default_marked-returns-in-Some-Ident-clause-written
params::default_marked-returns-in-Some-Ident-clause-written t c = λ e by knows.
    rw (c.in-Some-Ident.ensures.form c.args.env.now.text.now c.args.env.now.tokens.now, c.in-Some-Ident.field-0-is)
    (params.named_marked by c.args.env.now.text.now c.args.env.now.tokens.now c.args.out.now
    c.named_default.new.out _ _ (c.named_default.ensures.written e by knows))

pub params::default_marked-returns-in-Some-Array-clause-written : goal.params::default_marked-returns-in-Some-Array-clause-written
params::default_marked-returns-in-Some-Array-clause-written t c = λ e by knows.
    rw (c.in-Some-Array.ensures.form c.args.env.now.text.now c.args.env.now.tokens.now, c.in-Some-Array.field-0-is)
    (params.array_default by c.args.env.now.text.now c.args.env.now.tokens.now c.args.out.now
    c.made_default.new.out _ _ _ (c.made_default.ensures.written e by knows))

pub params::default_marked-returns-in-Some-Object-clause-written : goal.params::default_marked-returns-in-Some-Object-clause-written
params::default_marked-returns-in-Some-Object-clause-written t c = λ e by knows.
    rw (c.in-Some-Object.ensures.form c.args.env.now.text.now c.args.env.now.tokens.now, c.in-Some-Object.field-0-is)
    (params.object_default by c.args.env.now.text.now c.args.env.now.tokens.now c.args.out.now
    c.made_default-in-Some-Object.new.out _ _ (c.made_default-in-Some-Object.ensures.written e by knows))

pub params::named_default-returns-clause-written : goal.params::named_default-returns-clause-written
params::named_default-returns-clause-written t c = λ e by knows id ty span is.
    let f = c.close_form.ensures.before e in
    let g = c.default_type.ensures.before f in
    let h = c.name_pattern.ensures.before g in
    params.named_written by c.args.env.now.text.now c.args.env.now.tokens.now c.args.out.now c.open-place.new.self
    c.name_pattern.new.out c.default_type.new.out c.close_form.new.self _ _ _ _ (c.open-place.ensures.written h)
    (c.open-place.ensures.place h)
    (c.name_pattern.ensures.written g c.args.env.now.text.now c.args.env.now.tokens.now)
    (c.name_pattern.ensures.state ∙ c.open-place.ensures.state) c.if-not-default_type.false
    (c.default_type.ensures.written f by knows) (c.close_form.ensures.written e)
    c.close_form.ensures.state id ty span is

pub params::named_default-returns-then-not-default_type-clause-written :
    goal.params::named_default-returns-then-not-default_type-clause-written
params::named_default-returns-then-not-default_type-clause-written t c = λ e by knows id ty span is.
    let f = sym c.back_to.ensures.failed ∙ e in
    let g = c.default_type.ensures.before f in
    let h = c.name_pattern.ensures.before g in
    params.named_gone by c.args.env.now.text.now c.args.env.now.tokens.now c.args.out.now c.open-place.new.self
    c.name_pattern.new.out c.default_type.new.out c.back_to.new.self _ _ _ _ (c.open-place.ensures.written h)
    (c.open-place.ensures.place h)
    (c.name_pattern.ensures.written g c.args.env.now.text.now c.args.env.now.tokens.now)
    (c.name_pattern.ensures.state ∙ c.open-place.ensures.state) c.if-not-default_type.true
    (c.default_type.ensures.written f by knows) c.back_to.ensures.row c.back_to.ensures.state id ty
    span is

pub params::made_default-returns-clause-written : goal.params::made_default-returns-clause-written
params::made_default-returns-clause-written t c = λ e by knows left no_.
    let f = c.close_form.ensures.before e in
    let g = c.name_at.ensures.before f in
    let h = c.draw-number.ensures.before g in
    let i = c.default_type.ensures.before h in
    let j = c.open-name.ensures.before i in
    params.made_written by c.args.env.now.text.now c.args.env.now.tokens.now c.args.out.now c.open-place.new.self
    c.open-name.new.self c.default_type.new.out c.draw-number.new.self c.name_at.new.self c.close_form.new.self _ _
    _ _ _ (c.open-place.ensures.written j) (c.open-place.ensures.place j) (c.open-name.ensures.written i)
    (c.open-name.ensures.place i) (c.open-name.ensures.state ∙ c.open-place.ensures.state)
    c.if-not-default_type.false (c.default_type.ensures.written h by knows) c.draw-number.ensures.row
    (c.draw-number.ensures.drawn g) (c.draw-number.ensures.number g) (c.name_at.ensures.written f)
    (c.close_form.ensures.written e) (c.close_form.ensures.state ∙ c.name_at.ensures.state)
    knows.names left no_

pub params::made_default-returns-then-not-default_type-clause-written :
    goal.params::made_default-returns-then-not-default_type-clause-written
params::made_default-returns-then-not-default_type-clause-written t c = λ e by knows left no_.
    let f = sym c.back_to.ensures.failed ∙ e in
    let g = c.default_type.ensures.before f in
    let h = c.open-name.ensures.before g in
    params.made_gone by c.args.env.now.text.now c.args.env.now.tokens.now c.args.out.now c.open-place.new.self
    c.open-name.new.self c.default_type.new.out c.back_to.new.self _ _ _ (c.open-place.ensures.written h)
    (c.open-place.ensures.place h) (c.open-name.ensures.written g)
    (c.open-name.ensures.state ∙ c.open-place.ensures.state) c.if-not-default_type.true
    (c.default_type.ensures.written f by knows) c.back_to.ensures.row c.back_to.ensures.state left no_

pub params::default_type-returns-clause-written : goal.params::default_type-returns-clause-written
params::default_type-returns-clause-written t c = λ e by knows.
    let f = c.close_group.ensures.before e in
    let g = c.close_form.ensures.before f in
    let h = c.infer.ensures.before g in
    let i = c.open-place.ensures.before h in
    let j = c.open-group.ensures.before i in
    params.default_typed by c.args.env.now.text.now c.args.env.now.tokens.now c.args.out.now c.absent.new.self
    c.open-group.new.self c.open-place.new.self c.infer.new.out c.close_form.new.self c.close_group.new.self _ _ _
    _ (c.absent.ensures.written j c.args.env.now.text.now c.args.env.now.tokens.now)
    (c.open-group.ensures.written i) (c.open-group.ensures.place i) (c.open-place.ensures.written h)
    (c.open-place.ensures.place h) c.if-not-infer.false
    (c.open-place.ensures.state ∙ (c.open-group.ensures.state ∙ c.absent.ensures.state))
    (c.infer.ensures.written g by knows) (c.close_form.ensures.written f)
    (c.close_group.ensures.written e)
    (c.close_group.ensures.state ∙ c.close_form.ensures.state)

pub params::default_type-returns-then-not-infer-clause-written : goal.params::default_type-returns-then-not-infer-clause-written
params::default_type-returns-then-not-infer-clause-written t c = λ e by knows.
    let h = c.infer.ensures.before e in
    let i = c.open-place.ensures.before h in
    let j = c.open-group.ensures.before i in
    params.default_untyped by c.args.env.now.text.now c.args.env.now.tokens.now c.args.out.now c.absent.new.self
    c.open-group.new.self c.open-place.new.self c.infer.new.out _ _
    (c.absent.ensures.written j c.args.env.now.text.now c.args.env.now.tokens.now)
    (c.open-group.ensures.written i) (c.open-place.ensures.written h) c.if-not-infer.true
    (c.open-place.ensures.state ∙ (c.open-group.ensures.state ∙ c.absent.ensures.state))
    (c.infer.ensures.written e by knows)

pub params::this_param-returns-in-Some-clause-written : goal.params::this_param-returns-in-Some-clause-written
params::this_param-returns-in-Some-clause-written t c = λ e by knows.
    params.this_default by c.args.env.now.text.now c.args.env.now.tokens.now c.args.out.now c.made_default.new.out _ _
    _ _ _ _ (c.in-Some.ensures.value c.args.env.now.text.now c.args.env.now.tokens.now)
    (c.made_default.ensures.written e by knows)

pub params::this_param-returns-in-None-clause-written : goal.params::this_param-returns-in-None-clause-written
params::this_param-returns-in-None-clause-written t c = λ e by knows.
    params.this_plain by c.args.env.now.text.now c.args.env.now.tokens.now c.args.out.now c.plain_this.new.out _ _ _ _
    (c.in-None.ensures.value c.args.env.now.text.now c.args.env.now.tokens.now)
    (c.plain_this.ensures.written e by c.args.env.now.text.now c.args.env.now.tokens.now)

pub params::tailed_param-returns-in-Some-clause-written : goal.params::tailed_param-returns-in-Some-clause-written
params::tailed_param-returns-in-Some-clause-written t c = λ e by knows span.
    params.tailed_default by c.args.env.now.text.now c.args.env.now.tokens.now c.args.out.now c.default_marked.new.out
    _ _ span _ _ _ _ _ _ (c.in-Some.ensures.value c.args.env.now.text.now c.args.env.now.tokens.now)
    (c.default_marked.ensures.written e by knows)

pub params::tailed_param-returns-in-None-clause-written : goal.params::tailed_param-returns-in-None-clause-written
params::tailed_param-returns-in-None-clause-written t c = λ e by knows span.
    params.tailed_plain by c.args.env.now.text.now c.args.env.now.tokens.now c.args.out.now c.marked_param.new.out _ _
    span _ _ _ _ (c.in-None.ensures.value c.args.env.now.text.now c.args.env.now.tokens.now)
    (c.marked_param.ensures.written e by c.args.env.now.text.now)

pub params::pattern_param-returns-in-Some-Ident-clause-written : goal.params::pattern_param-returns-in-Some-Ident-clause-written
params::pattern_param-returns-in-Some-Ident-clause-written t c = λ e by knows.
    let x = c.args.env.now.text.now in
    let ts = c.args.env.now.tokens.now in
    rw (c.in-Some-Ident.ensures.form x ts, c.in-Some-Ident.field-0-is)
    (params.simple_ident by x ts c.args.out.now c.simple_param.new.out _ _
    (rw (c.in-Some-Ident.ensures.form x ts, c.in-Some-Ident.field-0-is) at
    (c.simple_param.ensures.written e by x)))

pub params::pattern_param-returns-in-Some-Array-clause-written : goal.params::pattern_param-returns-in-Some-Array-clause-written
params::pattern_param-returns-in-Some-Array-clause-written t c = λ e by knows.
    let x = c.args.env.now.text.now in
    let ts = c.args.env.now.tokens.now in
    rw (c.in-Some-Array.ensures.form x ts, c.in-Some-Array.field-0-is)
    (params.simple_array by x ts c.args.out.now c.simple_param-in-Some-Array.new.out _ _ _ _
    (rw (c.in-Some-Array.ensures.form x ts, c.in-Some-Array.field-0-is) at
    (c.simple_param-in-Some-Array.ensures.written e by x)))

pub params::pattern_param-returns-in-Some-Object-clause-written : goal.params::pattern_param-returns-in-Some-Object-clause-written
params::pattern_param-returns-in-Some-Object-clause-written t c = λ e by knows.
    let x = c.args.env.now.text.now in
    let ts = c.args.env.now.tokens.now in
    rw (c.in-Some-Object.ensures.form x ts, c.in-Some-Object.field-0-is)
    (params.simple_object by x ts c.args.out.now c.simple_param-in-Some-Object.new.out _ _ _
    (rw (c.in-Some-Object.ensures.form x ts, c.in-Some-Object.field-0-is) at
    (c.simple_param-in-Some-Object.ensures.written e by x)))

pub params::pattern_param-returns-in-Some-Default-clause-written : goal.params::pattern_param-returns-in-Some-Default-clause-written
params::pattern_param-returns-in-Some-Default-clause-written t c = λ e by knows.
    let x = c.args.env.now.text.now in
    let ts = c.args.env.now.tokens.now in
    rw (c.in-Some-Default.ensures.form x ts, c.in-Some-Default.field-0-is)
    (params.default_alone by x ts c.args.out.now c.default_of.new.out _ _ _ _ (c.default_of.ensures.written e by knows))

-- ---- by the views
pub exprs::list_type-returns-in-Some-Array-clause-written : goal.exprs::list_type-returns-in-Some-Array-clause-written
exprs::list_type-returns-in-Some-Array-clause-written t c = λ e by knows.
    rw (c.in-Some-Array.ensures.form c.args.env.now.text.now c.args.env.now.tokens.now, c.in-Some-Array.field-0-is)
    (c.array_type.ensures.written e _ _ by knows)

pub exprs::list_type-returns-in-Some-Object-clause-written :
    goal.exprs::list_type-returns-in-Some-Object-clause-written
exprs::list_type-returns-in-Some-Object-clause-written t c = λ e by knows.
    rw (c.in-Some-Object.ensures.form c.args.env.now.text.now c.args.env.now.tokens.now, c.in-Some-Object.field-0-is)
    (c.object_type.ensures.written e _ by knows)

pub exprs::turned_type-returns-in-Some-TypedBinary-clause-written :
    goal.exprs::turned_type-returns-in-Some-TypedBinary-clause-written
exprs::turned_type-returns-in-Some-TypedBinary-clause-written t c = λ e by knows.
    rw (
      c.in-Some-TypedBinary.ensures.form c.args.env.now.text.now c.args.env.now.tokens.now,
      c.in-Some-TypedBinary.field-0-is,
    ) (c.left_type.ensures.written e _ by knows)

pub exprs::turned_type-returns-in-Some-TypeAssertion-clause-written :
    goal.exprs::turned_type-returns-in-Some-TypeAssertion-clause-written
exprs::turned_type-returns-in-Some-TypeAssertion-clause-written t c = λ e by knows.
    rw (
      c.in-Some-TypeAssertion.ensures.form c.args.env.now.text.now c.args.env.now.tokens.now,
      c.in-Some-TypeAssertion.field-0-is,
    ) (c.cast_type.ensures.written e _ by knows)
