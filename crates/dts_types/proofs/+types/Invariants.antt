-- Types go down by the entries below; what is left of a list leads to what the whole does.
use Rattle.std.specs.Prelude.{List}
use Rattle.std.proofs.Common.{◌≡◌, ◌≤◌, ℕ, length, ◌+◌, ◌*◌, false}
use Rattle.es_lowering.specs.Value.{param_at, prop_at}
use Rattle.es_syntax.specs.Held.{held}
use Rattle.es_syntax.specs.Roles.{fn_param_in, type_member_in}
use Rattle.dts_rules.specs.Rules as rules
use Rattle.dts_names.specs.Names.{Knows}
use Rattle.dts_types.specs.Types.{param_step, prop_step}
use Rattle.dts_types.proofs.ArrayLemmas.{ElementsLeft}
use Rattle.dts_types.proofs.TurnLemmas.{TurnsLeft}
use Rattle.dts_types.proofs.+types.Given as goal

abbrev pub decreases-exprs::infer : goal.decreases-exprs::infer
decreases-exprs::infer l = 16 * length l.it.now.parts.entries.now + 15

abbrev pub decreases-exprs::infer_or_any : goal.decreases-exprs::infer_or_any
decreases-exprs::infer_or_any l = 16 * length l.it.now.parts.entries.now + 16

abbrev pub decreases-exprs::node_type : goal.decreases-exprs::node_type
decreases-exprs::node_type l = 16 * length l.it.now.parts.entries.now + 14

abbrev pub decreases-exprs::lean_type : goal.decreases-exprs::lean_type
decreases-exprs::lean_type l = 16 * length l.it.now.parts.entries.now + 14

abbrev pub decreases-exprs::list_type : goal.decreases-exprs::list_type
decreases-exprs::list_type l = 16 * length l.it.now.parts.entries.now + 13

abbrev pub decreases-functions::function_type : goal.decreases-functions::function_type
decreases-functions::function_type l = 16 * length l.it.now.parts.entries.now + 13

abbrev pub decreases-exprs::chain_type : goal.decreases-exprs::chain_type
decreases-exprs::chain_type l = 16 * length l.it.now.parts.entries.now + 13

abbrev pub decreases-exprs::turned_type : goal.decreases-exprs::turned_type
decreases-exprs::turned_type l = 16 * length l.it.now.parts.entries.now + 13

abbrev pub decreases-exprs::left_type : goal.decreases-exprs::left_type
decreases-exprs::left_type l = 16 * length l.left.now.parts.entries.now + 17

abbrev pub decreases-exprs::cast_type : goal.decreases-exprs::cast_type
decreases-exprs::cast_type l = 16 * length l.arg.now.parts.entries.now + 17

abbrev pub decreases-exprs::source_type : goal.decreases-exprs::source_type
decreases-exprs::source_type l = 16 * length l.first.now.parts.entries.now + 16

abbrev pub decreases-arrays::array_type : goal.decreases-arrays::array_type
decreases-arrays::array_type l = 16 * length l.elems.now.entries.now + 12

abbrev pub decreases-arrays::readonly_array : goal.decreases-arrays::readonly_array
decreases-arrays::readonly_array l = 16 * length l.elems.now.entries.now + 11

abbrev pub decreases-arrays::tuple_type : goal.decreases-arrays::tuple_type
decreases-arrays::tuple_type l = 16 * length l.elems.now.entries.now + 10

abbrev pub decreases-arrays::all_elements : goal.decreases-arrays::all_elements
decreases-arrays::all_elements l = 16 * length l.elems.now.entries.now + 9

abbrev pub decreases-arrays::element : goal.decreases-arrays::element
decreases-arrays::element l = 16 * length l.turn.now.parts.entries.now + 8

abbrev pub decreases-arrays::some_element : goal.decreases-arrays::some_element
decreases-arrays::some_element l = 16 * length l.it.now.parts.entries.now + 18

abbrev pub decreases-arrays::plain_element : goal.decreases-arrays::plain_element
decreases-arrays::plain_element l = 16 * length l.it.now.parts.entries.now + 17

abbrev pub decreases-arrays::spread_element : goal.decreases-arrays::spread_element
decreases-arrays::spread_element l = 16 * length l.it.now.parts.entries.now + 17

abbrev pub decreases-arrays::spread : goal.decreases-arrays::spread
decreases-arrays::spread l = 16 * length l.inner.now.parts.entries.now + 16

abbrev pub decreases-arrays::rest_type : goal.decreases-arrays::rest_type
decreases-arrays::rest_type l = 16 * length l.inner.now.parts.entries.now + 15

abbrev pub decreases-arrays::known_rest : goal.decreases-arrays::known_rest
decreases-arrays::known_rest l = 16 * length l.inner.now.parts.entries.now + 14

abbrev pub decreases-arrays::rest_tuple : goal.decreases-arrays::rest_tuple
decreases-arrays::rest_tuple l = 16 * length l.elems.now.entries.now + 11

abbrev pub decreases-objects::object_type : goal.decreases-objects::object_type
decreases-objects::object_type l = 16 * length l.props.now.entries.now + 12

abbrev pub decreases-objects::all_props : goal.decreases-objects::all_props
decreases-objects::all_props l = 16 * length l.props.now.entries.now + 11

abbrev pub decreases-objects::prop_turn : goal.decreases-objects::prop_turn
decreases-objects::prop_turn l = 16 * length l.turn.now.parts.entries.now + 10

abbrev pub decreases-objects::prop : goal.decreases-objects::prop
decreases-objects::prop l = 16 * length l.it.now.parts.entries.now + 18

abbrev pub decreases-objects::key_value : goal.decreases-objects::key_value
decreases-objects::key_value l = 16 * length l.value.now.parts.entries.now + 17

abbrev pub decreases-functions::plain_head : goal.decreases-functions::plain_head
decreases-functions::plain_head l = 16 * length l.parts.now.entries.now + 12

abbrev pub decreases-functions::typed_head : goal.decreases-functions::typed_head
decreases-functions::typed_head l = 16 * length l.parts.now.entries.now + 12

abbrev pub decreases-functions::signature_type : goal.decreases-functions::signature_type
decreases-functions::signature_type l = 16 * length l.signature.now.parts.entries.now + 14

abbrev pub decreases-functions::plain_type : goal.decreases-functions::plain_type
decreases-functions::plain_type l = 16 * length l.params.now.parts.entries.now + 13

abbrev pub decreases-functions::typed_type : goal.decreases-functions::typed_type
decreases-functions::typed_type l = 16 * length l.params.now.parts.entries.now + 13

abbrev pub decreases-params::params_type : goal.decreases-params::params_type
decreases-params::params_type l = 16 * length l.params.now.parts.entries.now + 12

abbrev pub decreases-params::plain_params : goal.decreases-params::plain_params
decreases-params::plain_params l = 16 * length l.all.now.entries.now + 11

abbrev pub decreases-params::typed_params : goal.decreases-params::typed_params
decreases-params::typed_params l = 16 * length l.all.now.entries.now + 11

abbrev pub decreases-params::all_params : goal.decreases-params::all_params
decreases-params::all_params l = 16 * length l.all.now.entries.now + 10

abbrev pub decreases-params::param_turn : goal.decreases-params::param_turn
decreases-params::param_turn l = 16 * length l.turn.now.parts.entries.now + 9

abbrev pub decreases-params::param : goal.decreases-params::param
decreases-params::param l = 16 * length l.it.now.parts.entries.now + 20

abbrev pub decreases-params::default_param : goal.decreases-params::default_param
decreases-params::default_param l = 16 * length l.right.now.parts.entries.now + 19

abbrev pub decreases-params::default_of : goal.decreases-params::default_of
decreases-params::default_of l = 16 * length l.right.now.parts.entries.now + 18

abbrev pub decreases-params::default_marked : goal.decreases-params::default_marked
decreases-params::default_marked l = 16 * length l.right.now.parts.entries.now + 18

abbrev pub decreases-params::named_default : goal.decreases-params::named_default
decreases-params::named_default l = 16 * length l.right.now.parts.entries.now + 17

abbrev pub decreases-params::made_default : goal.decreases-params::made_default
decreases-params::made_default l = 16 * length l.right.now.parts.entries.now + 17

abbrev pub decreases-params::default_type : goal.decreases-params::default_type
decreases-params::default_type l = 16 * length l.right.now.parts.entries.now + 16

abbrev pub decreases-params::this_param : goal.decreases-params::this_param
decreases-params::this_param l = 16 * length l.value.now.entries.now + 19

abbrev pub decreases-params::tailed_param : goal.decreases-params::tailed_param
decreases-params::tailed_param l = 16 * length l.value.now.entries.now + 19

abbrev pub decreases-params::pattern_param : goal.decreases-params::pattern_param
decreases-params::pattern_param l = 16 * length l.node.now.parts.entries.now + 19

-- ---- loops
abbrev pub invariant-arrays::all_elements-loop-turn : goal.invariant-arrays::all_elements-loop-turn
invariant-arrays::all_elements-loop-turn l =
    (l.out.failed ≡ false → l.initial.out.failed ≡ false)
    × (length l.row.entries.now ≤ length l.elems.entries.now)
    × (l.out.failed ≡ false → (by : rules.Env) → Knows l.env by → ElementsLeft by l.env.text.now l.env.tokens.now l.ask
    l.initial.out l.out (held l.env.text.now l.env.tokens.now l.elems.entries.now)
    (held l.env.text.now l.env.tokens.now l.row.entries.now))

abbrev pub decreases-arrays::all_elements-loop-turn : goal.decreases-arrays::all_elements-loop-turn
decreases-arrays::all_elements-loop-turn l = length l.row.entries.now

abbrev pub invariant-objects::all_props-loop-turn : goal.invariant-objects::all_props-loop-turn
invariant-objects::all_props-loop-turn l =
    (l.out.failed ≡ false → l.initial.out.failed ≡ false)
    × (length l.row.entries.now ≤ length l.props.entries.now)
    × (l.out.failed ≡ false → (by : rules.Env) → Knows l.env by
    → TurnsLeft l.env.text.now l.env.tokens.now type_member_in
    (prop_step by l.ask) (λ turn. prop_at turn 0) l.initial.out l.out
    (held l.env.text.now l.env.tokens.now l.props.entries.now) (held l.env.text.now l.env.tokens.now l.row.entries.now))

abbrev pub decreases-objects::all_props-loop-turn : goal.decreases-objects::all_props-loop-turn
decreases-objects::all_props-loop-turn l = length l.row.entries.now

abbrev pub invariant-params::all_params-loop-turn : goal.invariant-params::all_params-loop-turn
invariant-params::all_params-loop-turn l =
    (l.out.failed ≡ false → l.initial.out.failed ≡ false)
    × (length l.row.entries.now ≤ length l.all.entries.now)
    × (l.out.failed ≡ false → (by : rules.Env) → Knows l.env by → TurnsLeft l.env.text.now l.env.tokens.now fn_param_in
    (param_step by) (λ turn. param_at turn 0) l.initial.out l.out
    (held l.env.text.now l.env.tokens.now l.all.entries.now) (held l.env.text.now l.env.tokens.now l.row.entries.now))

abbrev pub decreases-params::all_params-loop-turn : goal.decreases-params::all_params-loop-turn
decreases-params::all_params-loop-turn l = length l.row.entries.now
