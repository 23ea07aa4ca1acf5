-- What names, arguments and parameters of types become moves with their parts.
use Rattle.std.specs.Prelude.{ℕ, ◌+◌, false, ◌||◌, List}
use Rattle.base.specs.declared.range.Range.{Range}
use Rattle.es_token.specs.declared.token.Token.{Token}
use Rattle.es_token.specs.declared.token.TokenKind.{TokenKind}
use Rattle.es_token.specs.declared.token.TokenKind.TheVariants as k
use Rattle.grammar_theory.specs.Key.{same_kind}
use Rattle.es_ast.specs.declared.ts.leaf.TsEntityName.{TsEntityName}
use Rattle.es_lowering.specs.Value.{Value}
use Rattle.es_lowering.specs.TypeNames.{named, reference, named_reference, import_type, types_from, arguments, holds, first_in, behind_in, type_param, type_params}
use Rattle.std.proofs.Common.{◌≡◌, ap}
use Rattle.es_law_edits.proofs.moved.Rel.{Both, By, Each, Opt, Same, next, none, some}
use Rattle.es_law_edits.proofs.moved.Types.{nodes_made, ts_type_Import, ts_type_Ref, ts_type_param_made}
use Rattle.es_law_edits.specs.moved.Leaves.{ts_entity_name_to}
use Rattle.es_law_edits.specs.moved.Move.{Move, range_to}
use Rattle.es_law_edits.specs.moved.Types.{nodes_to, ts_type_param_to, ts_type_to}
use Rattle.es_law_edits.proofs.moved_lowering.Frame.{Moves, Texts, as_group_moves, behind_moves, first_of_moves, given_moves, gone, leaf, made, map_moves, optional_moves, over, pair, part_moves, same, turns_moves, two}
use Rattle.es_law_edits.proofs.moved_lowering.Leaves.{span_of_moves}
use Rattle.es_law_edits.proofs.moved_lowering.Texts.{ident_at_moves, kind_at_moves, str_at_moves}
use Rattle.es_law_edits.proofs.moved_lowering.Value.{arguments_at_moves, entity_at_moves, group_moves, type_at_moves}

pub named_moves : (m : Move) {r r2 : Range} → By (range_to m) r r2 → {name name2 : TsEntityName}
    → By (ts_entity_name_to m) name name2 → By (ts_type_to m) (named r name) (named r2 name2)
named_moves m r_ name_ = ts_type_Ref m name_ none r_

pub reference_moves : {m : Move} {r r2 : Range} → By (range_to m) r r2 → {p p2 : Value} → Moves m p p2
    → Opt (By (ts_type_to m)) (reference r p) (reference r2 p2)
unfolding reference
reference_moves {m = m} r_ p_ =
    given_moves (entity_at_moves p_ (same 0))
    (λ name name2 name_. given_moves (arguments_at_moves p_ (same 1))
    (λ arguments arguments2 arguments_. some (ts_type_Ref m name_ (some arguments_) r_)))

pub named_reference_moves : {m : Move} {p p2 : Value} → Moves m p p2
    → Opt (Both (By (ts_entity_name_to m)) (Opt (By (nodes_to m (ts_type_to m))))) (named_reference p)
    (named_reference p2)
named_reference_moves p_ =
    given_moves (entity_at_moves p_ (same 0))
    (λ name name2 name_. given_moves (arguments_at_moves p_ (same 1))
    (λ arguments arguments2 arguments_. some (name_, some arguments_)))

pub import_type_moves : {m : Move} {x y : List ℕ} {ts us : List Token} → Texts m x y ts us → {r r2 : Range}
    → By (range_to m) r r2 → {p p2 : Value} → Moves m p p2
    → Opt (By (ts_type_to m)) (import_type x ts r p) (import_type y us r2 p2)
unfolding import_type
import_type_moves {m = m} told r_ p_ =
    given_moves (str_at_moves told p_ (same 0))
    (λ arg arg2 arg_. given_moves
    (optional_moves (λ a a2 a_ b b2 b_. entity_at_moves a_ b_) (group_moves p_ (same 1)))
    (λ qualifier qualifier2 qualifier_. given_moves
    (optional_moves (λ a a2 a_ b b2 b_. arguments_at_moves a_ b_) (group_moves p_ (same 2)))
    (λ arguments arguments2 arguments_. some (ts_type_Import m arg_ qualifier_ arguments_ r_))))

pub types_from_moves : {m : Move} {p p2 : Value} → Moves m p p2 → {n n2 : ℕ} → n2 ≡ n
    → Opt (Each (By (ts_type_to m))) (types_from p n) (types_from p2 n2)
types_from_moves p_ n_ =
    given_moves (type_at_moves p_ n_)
    (λ first first2 first_. given_moves
    (turns_moves (λ turn turn2 turn_. type_at_moves turn_ (same 0)) (group_moves p_ (ap (λ n. n + 1) n_)))
    (λ rest rest2 rest_. some (next first_ rest_)))

pub arguments_moves : {m : Move} {r r2 : Range} → By (range_to m) r r2 → {p p2 : Value} → Moves m p p2
    → Opt (By (nodes_to m (ts_type_to m))) (arguments r p) (arguments r2 p2)
unfolding arguments
arguments_moves {m = m} r_ p_ =
    map_moves _ _ (types_from_moves p_ (same 0)) (λ types types2 types_. nodes_made m (ts_type_to m) types_ r_)

pub holds_moves : {m : Move} {x y : List ℕ} {ts us : List Token} → Texts m x y ts us → {c c2 : Value} → Moves m c c2
    → {kind kind2 : TokenKind} → kind2 ≡ kind → Opt Same (holds ts kind c) (holds us kind2 c2)
holds_moves told (pair v_ vs_) kind_ =
    given_moves (kind_at_moves told (as_group_moves v_) (same 0))
    (λ other other2 other_. given_moves (holds_moves told vs_ kind_)
    (λ others others2 others_. some (two (λ a b. a || b) (two same_kind other_ kind_) others_)))
holds_moves told gone kind_ = some (same false)
holds_moves told over kind_ = some (same false)
holds_moves told (leaf a) kind_ = some (same false)
holds_moves told (made a b c) kind_ = some (same false)

pub first_in_moves : {m : Move} {a a2 : Value} → Moves m a a2 → {name name2 : ℕ} → name2 ≡ name
    → first_in a2 name2 ≡ first_in a name
first_in_moves (pair v_ vs_) name_ = first_of_moves (part_moves (as_group_moves v_) (same 0))
first_in_moves gone name_ = name_
first_in_moves over name_ = name_
first_in_moves (leaf a) name_ = name_
first_in_moves (made a b c) name_ = name_

pub behind_in_moves : {m : Move} {a a2 : Value} → Moves m a a2 → {before before2 : ℕ} → before2 ≡ before
    → behind_in a2 before2 ≡ behind_in a before
behind_in_moves (pair v_ vs_) before_ = behind_moves v_
behind_in_moves gone before_ = before_
behind_in_moves over before_ = before_
behind_in_moves (leaf a) before_ = before_
behind_in_moves (made a b c) before_ = before_

pub type_param_moves : {m : Move} {x y : List ℕ} {ts us : List Token} → Texts m x y ts us → {p p2 : Value}
    → Moves m p p2 → Opt (By (ts_type_param_to m)) (type_param x ts p) (type_param y us p2)
unfolding type_param
type_param_moves {m = m} told p_ =
    given_moves (holds_moves told (group_moves p_ (same 0)) (same k.ConstWord))
    (λ is_const is_const2 is_const_. given_moves (holds_moves told (group_moves p_ (same 0)) (same k.InWord))
    (λ is_in is_in2 is_in_. given_moves (holds_moves told (group_moves p_ (same 0)) (same k.OutWord))
    (λ is_out is_out2 is_out_. given_moves (ident_at_moves told p_ (same 1))
    (λ name name2 name_. given_moves
    (optional_moves (λ a a2 a_ b b2 b_. type_at_moves a_ b_) (group_moves p_ (same 2)))
    (λ constraint constraint2 constraint_. given_moves
    (optional_moves (λ a a2 a_ b b2 b_. type_at_moves a_ b_) (group_moves p_ (same 3)))
    (λ default default2 default_. some
    (ts_type_param_made m is_const_ is_in_ is_out_ name_ constraint_ default_
    (span_of_moves told (first_in_moves (group_moves p_ (same 0))
    (first_of_moves (part_moves p_ (same 1))))
    (behind_in_moves (group_moves p_ (same 3))
    (behind_in_moves (group_moves p_ (same 2))
    (behind_moves (part_moves p_ (same 1)))))))))))))

pub type_params_moves : {m : Move} {x y : List ℕ} {ts us : List Token} → Texts m x y ts us → {r r2 : Range}
    → By (range_to m) r r2 → {p p2 : Value} → Moves m p p2
    → Opt (By (nodes_to m (ts_type_param_to m))) (type_params x ts r p) (type_params y us r2 p2)
unfolding type_params
type_params_moves {m = m} told r_ p_ =
    given_moves (type_param_moves told p_)
    (λ first first2 first_. given_moves
    (turns_moves (λ a a2 a_. type_param_moves told a_) (group_moves p_ (same 5)))
    (λ rest rest2 rest_. some (nodes_made m (ts_type_param_to m) (next first_ rest_) r_)))
