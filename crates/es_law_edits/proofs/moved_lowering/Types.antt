-- What types, elements of tuples and results of functions become moves with their parts.
use Rattle.std.specs.Prelude.{ℕ, ◌+◌, Bool, true, false, List, Option}
use Rattle.base.specs.declared.range.Range.{Range}
use Rattle.es_token.specs.declared.token.Token.{Token}
use Rattle.es_token.specs.declared.token.TokenKind.{TokenKind}
use Rattle.es_token.specs.declared.token.TokenKind.TheVariants as k
use Rattle.grammar_theory.specs.Key.{same_kind}
use Rattle.es_ast.specs.declared.ts.leaf.Ident.{Ident}
use Rattle.es_ast.specs.declared.ts.ts.TsType.{TsType}
use Rattle.es_lowering.specs.Value.{Value}
use Rattle.es_lowering.specs.Types.{keyword_type, word_of, word_type, str_type, number_type, template_type, template_types, parenthesized_type, members_type, tuple_type, type_query, mapped_type, indexed, bracket_end, indexes, array_types, type_operator, infer_type, operands, union_type, leading_union_type, intersection_type, leading_intersection_type, conditional_type, function_type, constructor_type, asserts_result, predicate_result, element_by, element_of, label_at, rest_element, labelled_element, optional_element}
use Rattle.std.proofs.Common.{◌≡◌, ap}
use Rattle.es_law_edits.proofs.moved.Leaves.{range_made, ts_lit_Bool, ts_lit_Str}
use Rattle.es_law_edits.proofs.moved.Rel.{By, Each, Opt, end, next, none, some}
use Rattle.es_law_edits.proofs.moved.Types.{ts_tuple_element_made, ts_type_Array, ts_type_Conditional, ts_type_Constructor, ts_type_Fn, ts_type_IndexedAccess, ts_type_Infer, ts_type_Intersection, ts_type_Keyword, ts_type_Lit, ts_type_Mapped, ts_type_Operator, ts_type_Paren, ts_type_Predicate, ts_type_Query, ts_type_Tpl, ts_type_Tuple, ts_type_TypeLit, ts_type_Union}
use Rattle.es_law_edits.specs.moved.Leaves.{ident_to}
use Rattle.es_law_edits.specs.moved.Move.{Move, range_to}
use Rattle.es_law_edits.specs.moved.Types.{ts_tuple_element_to, ts_type_to}
use Rattle.es_law_edits.proofs.moved_lowering.Frame.{Moves, Texts, append_moves, as_group_moves, behind_moves, given_moves, gone, if_moves, is_there_moves, leaf, listed_moves, made, map_moves, optional_moves, over, pair, part_moves, same, turns_moves}
use Rattle.es_law_edits.proofs.moved_lowering.Leaves.{end_before_moves, marked_moves, start_moves}
use Rattle.es_law_edits.proofs.moved_lowering.Texts.{ident_at_moves, kind_at_moves, piece_there_moves, str_at_moves, this_or_name_at_moves, token_at_moves}
use Rattle.es_law_edits.proofs.moved_lowering.TypeNames.{types_from_moves}
use Rattle.es_law_edits.proofs.moved_lowering.TypeTexts.{numeric_lit_moves, signed_in_moves}
use Rattle.es_law_edits.proofs.moved_lowering.Value.{element_at_moves, fn_params_at_moves, group_moves, type_at_moves, type_member_at_moves, type_params_at_moves}

pub keyword_type_moves : {m : Move} {x y : List ℕ} {ts us : List Token} → Texts m x y ts us → {r r2 : Range}
    → By (range_to m) r r2 → {p p2 : Value} → Moves m p p2
    → Opt (By (ts_type_to m)) (keyword_type ts r p) (keyword_type us r2 p2)
unfolding keyword_type
keyword_type_moves {m = m} told r_ p_ =
    given_moves (given_moves (kind_at_moves told p_ (same 0)) (λ a a2 a_. listed_moves _ a_))
    (λ kind kind2 kind_. some (ts_type_Keyword m kind_ r_))

pub word_of_moves : (m : Move) {r r2 : Range} → By (range_to m) r r2 → {kind kind2 : TokenKind} → kind2 ≡ kind
    → Opt (By (ts_type_to m)) (word_of r kind) (word_of r2 kind2)
unfolding word_of
word_of_moves m r_ kind_ =
    if_moves (ap (λ kind. same_kind kind k.TrueWord) kind_) (some (ts_type_Lit m (ts_lit_Bool m (same true) r_)))
    (if_moves (ap (λ kind. same_kind kind k.FalseWord) kind_)
    (some (ts_type_Lit m (ts_lit_Bool m (same false) r_)))
    (map_moves _ _ (listed_moves _ kind_) (λ kind kind2 kind_. ts_type_Keyword m kind_ r_)))

pub word_type_moves : {m : Move} {x y : List ℕ} {ts us : List Token} → Texts m x y ts us → {r r2 : Range}
    → By (range_to m) r r2 → {p p2 : Value} → Moves m p p2
    → Opt (By (ts_type_to m)) (word_type ts r p) (word_type us r2 p2)
unfolding word_type
word_type_moves {m = m} told r_ p_ = given_moves (kind_at_moves told p_ (same 0)) (λ a a2 a_. word_of_moves m r_ a_)

pub str_type_moves : {m : Move} {x y : List ℕ} {ts us : List Token} → Texts m x y ts us → {p p2 : Value} → Moves m p p2
    → Opt (By (ts_type_to m)) (str_type x ts p) (str_type y us p2)
unfolding str_type
str_type_moves {m = m} told p_ =
    map_moves _ _ (str_at_moves told p_ (same 0)) (λ s s2 s_. ts_type_Lit m (ts_lit_Str m s_))

pub number_type_moves : {m : Move} {x y : List ℕ} {ts us : List Token} → Texts m x y ts us → {r r2 : Range}
    → By (range_to m) r r2 → {p p2 : Value} → Moves m p p2
    → Opt (By (ts_type_to m)) (number_type x ts r p) (number_type y us r2 p2)
unfolding number_type
number_type_moves {m = m} told r_ p_ =
    map_moves _ _ (given_moves (token_at_moves told p_ (same 1))
    (λ a a2 a_. numeric_lit_moves told (is_there_moves (group_moves p_ (same 0))) r_ a_))
    (λ a a2 a_. ts_type_Lit m a_)

pub template_type_moves : {m : Move} {x y : List ℕ} {ts us : List Token} → Texts m x y ts us → {r r2 : Range}
    → By (range_to m) r r2 → {p p2 : Value} → Moves m p p2
    → Opt (By (ts_type_to m)) (template_type x ts r p) (template_type y us r2 p2)
unfolding template_type
template_type_moves {m = m} told r_ p_ =
    map_moves _ _ (piece_there_moves told p_ (same 0)) (λ piece piece2 piece_. ts_type_Tpl m (next piece_ end) end r_)

pub template_types_moves : {m : Move} {x y : List ℕ} {ts us : List Token} → Texts m x y ts us → {r r2 : Range}
    → By (range_to m) r r2 → {p p2 : Value} → Moves m p p2
    → Opt (By (ts_type_to m)) (template_types x ts r p) (template_types y us r2 p2)
unfolding template_types
template_types_moves {m = m} told r_ p_ =
    given_moves (piece_there_moves told p_ (same 0))
    (λ head head2 head_. given_moves (type_at_moves p_ (same 1))
    (λ first first2 first_. given_moves
    (turns_moves (λ turn turn2 turn_. piece_there_moves told turn_ (same 0)) (group_moves p_ (same 2)))
    (λ middles middles2 middles_. given_moves
    (turns_moves (λ turn turn2 turn_. type_at_moves turn_ (same 1)) (group_moves p_ (same 2)))
    (λ others others2 others_. given_moves (piece_there_moves told p_ (same 3))
    (λ tail tail2 tail_. some
    (ts_type_Tpl m (next head_ (append_moves middles_ (next tail_ end)))
    (next first_ others_) r_))))))

pub parenthesized_type_moves : {m : Move} {r r2 : Range} → By (range_to m) r r2 → {p p2 : Value} → Moves m p p2
    → Opt (By (ts_type_to m)) (parenthesized_type r p) (parenthesized_type r2 p2)
unfolding parenthesized_type
parenthesized_type_moves {m = m} r_ p_ =
    map_moves _ _ (type_at_moves p_ (same 0)) (λ ty ty2 ty_. ts_type_Paren m ty_ r_)

pub members_type_moves : {m : Move} {r r2 : Range} → By (range_to m) r r2 → {p p2 : Value} → Moves m p p2
    → Opt (By (ts_type_to m)) (members_type r p) (members_type r2 p2)
unfolding members_type
members_type_moves {m = m} r_ p_ =
    map_moves _ _ (turns_moves (λ turn turn2 turn_. type_member_at_moves turn_ (same 0)) (group_moves p_ (same 0)))
    (λ members members2 members_. ts_type_TypeLit m members_ r_)

pub tuple_type_moves : {m : Move} {r r2 : Range} → By (range_to m) r r2 → {p p2 : Value} → Moves m p p2
    → Opt (By (ts_type_to m)) (tuple_type r p) (tuple_type r2 p2)
unfolding tuple_type
tuple_type_moves {m = m} r_ p_ =
    map_moves _ _ (turns_moves (λ turn turn2 turn_. element_at_moves turn_ (same 0)) (group_moves p_ (same 0)))
    (λ elems elems2 elems_. ts_type_Tuple m elems_ r_)

pub type_query_moves : {m : Move} {r r2 : Range} → By (range_to m) r r2 → {p p2 : Value} → Moves m p p2
    → Opt (By (ts_type_to m)) (type_query r p) (type_query r2 p2)
unfolding type_query
type_query_moves {m = m} r_ p_ =
    map_moves _ _ (type_at_moves (group_moves p_ (same 0)) (same 0)) (λ ty ty2 ty_. ts_type_Query m ty_ r_)

pub mapped_type_moves : {m : Move} {x y : List ℕ} {ts us : List Token} → Texts m x y ts us → {r r2 : Range}
    → By (range_to m) r r2 → {p p2 : Value} → Moves m p p2
    → Opt (By (ts_type_to m)) (mapped_type x ts r p) (mapped_type y us r2 p2)
unfolding mapped_type
mapped_type_moves {m = m} told r_ p_ =
    given_moves (signed_in_moves told (group_moves p_ (same 0)))
    (λ readonly readonly2 readonly_. given_moves (ident_at_moves told p_ (same 1))
    (λ name name2 name_. given_moves (type_at_moves p_ (same 2))
    (λ constraint constraint2 constraint_. given_moves
    (optional_moves (λ a a2 a_ b b2 b_. type_at_moves a_ b_) (group_moves p_ (same 3)))
    (λ name_type name_type2 name_type_. given_moves
    (signed_in_moves told (group_moves p_ (same 4)))
    (λ optional_mark optional_mark2 optional_mark_. given_moves
    (optional_moves (λ a a2 a_ b b2 b_. type_at_moves a_ b_) (group_moves p_ (same 5)))
    (λ ty ty2 ty_. some (ts_type_Mapped m readonly_ name_ constraint_ name_type_
    optional_mark_ ty_ r_)))))))

pub indexed_moves : {m : Move} {x y : List ℕ} {ts us : List Token} → Texts m x y ts us → {start start2 : ℕ}
    → By m.place start start2 → {end end2 : ℕ} → end2 ≡ end → {ty ty2 : TsType} → By (ts_type_to m) ty ty2
    → {e e2 : Option TsType} → Opt (By (ts_type_to m)) e e2
    → By (ts_type_to m) (indexed ts start end ty e) (indexed us start2 end2 ty2 e2)
indexed_moves {m = m} told start_ end_ ty_ none =
    ts_type_Array m ty_ (range_made m start_.is (end_before_moves told end_).is)
indexed_moves {m = m} told start_ end_ ty_ (some index_) =
    ts_type_IndexedAccess m ty_ index_ (range_made m start_.is (end_before_moves told end_).is)

pub bracket_end_moves : {m : Move} {at at2 : ℕ} → at2 ≡ at → {b b2 : Value} → Moves m b b2
    → bracket_end at2 b2 ≡ bracket_end at b
bracket_end_moves at_ (pair v_ vs_) = ap (λ n. n + 1) (behind_moves v_)
bracket_end_moves at_ gone = ap (λ n. n + 2) at_
bracket_end_moves at_ over = ap (λ n. n + 2) at_
bracket_end_moves at_ (leaf a) = ap (λ n. n + 2) at_
bracket_end_moves at_ (made a b c) = ap (λ n. n + 2) at_

pub indexes_moves : {m : Move} {x y : List ℕ} {ts us : List Token} → Texts m x y ts us → {e e2 : Value} → Moves m e e2
    → {start start2 : ℕ} → By m.place start start2 → {at at2 : ℕ} → at2 ≡ at → {ty ty2 : TsType}
    → By (ts_type_to m) ty ty2 → Opt (By (ts_type_to m)) (indexes ts start at ty e) (indexes us start2 at2 ty2 e2)
indexes_moves told (pair v_ vs_) start_ at_ ty_ =
    given_moves (optional_moves (λ a a2 a_ b b2 b_. type_at_moves a_ b_) (group_moves (as_group_moves v_) (same 0)))
    (λ index index2 index_. indexes_moves told vs_ start_
    (bracket_end_moves at_ (group_moves (as_group_moves v_) (same 0)))
    (indexed_moves told start_ (bracket_end_moves at_ (group_moves (as_group_moves v_) (same 0))) ty_
    index_))
indexes_moves told gone start_ at_ ty_ = some ty_
indexes_moves told over start_ at_ ty_ = some ty_
indexes_moves told (leaf a) start_ at_ ty_ = some ty_
indexes_moves told (made a b c) start_ at_ ty_ = some ty_

pub array_types_moves : {m : Move} {x y : List ℕ} {ts us : List Token} → Texts m x y ts us → {r r2 : Range}
    → By (range_to m) r r2 → {p p2 : Value} → Moves m p p2
    → Opt (By (ts_type_to m)) (array_types ts r p) (array_types us r2 p2)
unfolding array_types
array_types_moves {m = m} told r_ p_ =
    given_moves (type_at_moves p_ (same 0))
    (λ ty ty2 ty_. given_moves (optional_moves (λ a a2 a_ b b2 b_. type_at_moves a_ b_) (group_moves p_ (same 1)))
    (λ index index2 index_. indexes_moves told (group_moves p_ (same 2)) (start_moves m r_)
    (bracket_end_moves (behind_moves (part_moves p_ (same 0))) (group_moves p_ (same 1)))
    (indexed_moves told (start_moves m r_)
    (bracket_end_moves (behind_moves (part_moves p_ (same 0))) (group_moves p_ (same 1))) ty_
    index_)))

pub type_operator_moves : {m : Move} {x y : List ℕ} {ts us : List Token} → Texts m x y ts us → {r r2 : Range}
    → By (range_to m) r r2 → {p p2 : Value} → Moves m p p2
    → Opt (By (ts_type_to m)) (type_operator ts r p) (type_operator us r2 p2)
unfolding type_operator
type_operator_moves {m = m} told r_ p_ =
    given_moves (given_moves (kind_at_moves told p_ (same 0)) (λ a a2 a_. listed_moves _ a_))
    (λ op op2 op_. given_moves (type_at_moves p_ (same 1)) (λ ty ty2 ty_. some (ts_type_Operator m op_ ty_ r_)))

pub infer_type_moves : {m : Move} {x y : List ℕ} {ts us : List Token} → Texts m x y ts us → {r r2 : Range}
    → By (range_to m) r r2 → {p p2 : Value} → Moves m p p2
    → Opt (By (ts_type_to m)) (infer_type x ts r p) (infer_type y us r2 p2)
unfolding infer_type
infer_type_moves {m = m} told r_ p_ =
    map_moves _ _ (ident_at_moves told p_ (same 0)) (λ name name2 name_. ts_type_Infer m name_ r_)

pub operands_moves : {m : Move} {p p2 : Value} → Moves m p p2
    → Opt (Each (By (ts_type_to m))) (operands p) (operands p2)
operands_moves p_ = given_moves (type_at_moves p_ (same 0))
    (λ first first2 first_. given_moves (type_at_moves p_ (same 1))
    (λ second second2 second_. given_moves
    (turns_moves (λ turn turn2 turn_. type_at_moves turn_ (same 0)) (group_moves p_ (same 2)))
    (λ rest rest2 rest_. some (next first_ (next second_ rest_)))))

pub union_type_moves : {m : Move} {r r2 : Range} → By (range_to m) r r2 → {p p2 : Value} → Moves m p p2
    → Opt (By (ts_type_to m)) (union_type r p) (union_type r2 p2)
unfolding union_type
union_type_moves {m = m} r_ p_ = map_moves _ _ (operands_moves p_) (λ types types2 types_. ts_type_Union m types_ r_)

pub leading_union_type_moves : {m : Move} {r r2 : Range} → By (range_to m) r r2 → {p p2 : Value} → Moves m p p2
    → Opt (By (ts_type_to m)) (leading_union_type r p) (leading_union_type r2 p2)
unfolding leading_union_type
leading_union_type_moves {m = m} r_ p_ =
    map_moves _ _ (types_from_moves p_ (same 0)) (λ types types2 types_. ts_type_Union m types_ r_)

pub intersection_type_moves : {m : Move} {r r2 : Range} → By (range_to m) r r2 → {p p2 : Value} → Moves m p p2
    → Opt (By (ts_type_to m)) (intersection_type r p) (intersection_type r2 p2)
unfolding intersection_type
intersection_type_moves {m = m} r_ p_ =
    map_moves _ _ (operands_moves p_) (λ types types2 types_. ts_type_Intersection m types_ r_)

pub leading_intersection_type_moves : {m : Move} {r r2 : Range} → By (range_to m) r r2 → {p p2 : Value} → Moves m p p2
    → Opt (By (ts_type_to m)) (leading_intersection_type r p) (leading_intersection_type r2 p2)
unfolding leading_intersection_type
leading_intersection_type_moves {m = m} r_ p_ =
    map_moves _ _ (types_from_moves p_ (same 0)) (λ types types2 types_. ts_type_Intersection m types_ r_)

pub conditional_type_moves : {m : Move} {r r2 : Range} → By (range_to m) r r2 → {p p2 : Value} → Moves m p p2
    → Opt (By (ts_type_to m)) (conditional_type r p) (conditional_type r2 p2)
unfolding conditional_type
conditional_type_moves {m = m} r_ p_ =
    given_moves (type_at_moves p_ (same 0))
    (λ check check2 check_. given_moves (type_at_moves p_ (same 1))
    (λ extends extends2 extends_. given_moves (type_at_moves p_ (same 2))
    (λ yes yes2 yes_. given_moves (type_at_moves p_ (same 3))
    (λ no no2 no_. some (ts_type_Conditional m check_ extends_ yes_ no_ r_)))))

pub function_type_moves : {m : Move} {r r2 : Range} → By (range_to m) r r2 → {p p2 : Value} → Moves m p p2
    → Opt (By (ts_type_to m)) (function_type r p) (function_type r2 p2)
unfolding function_type
function_type_moves {m = m} r_ p_ =
    given_moves (optional_moves (λ a a2 a_ b b2 b_. type_params_at_moves a_ b_) (group_moves p_ (same 0)))
    (λ type_params type_params2 type_params_. given_moves (fn_params_at_moves p_ (same 1))
    (λ params params2 params_. given_moves (type_at_moves p_ (same 2))
    (λ ty ty2 ty_. some (ts_type_Fn m type_params_ params_ ty_ r_))))

pub constructor_type_moves : {m : Move} {r r2 : Range} → By (range_to m) r r2 → {p p2 : Value} → Moves m p p2
    → Opt (By (ts_type_to m)) (constructor_type r p) (constructor_type r2 p2)
unfolding constructor_type
constructor_type_moves {m = m} r_ p_ =
    given_moves (optional_moves (λ a a2 a_ b b2 b_. type_params_at_moves a_ b_) (group_moves p_ (same 1)))
    (λ type_params type_params2 type_params_. given_moves (fn_params_at_moves p_ (same 2))
    (λ params params2 params_. given_moves (type_at_moves p_ (same 3))
    (λ ty ty2 ty_. some (ts_type_Constructor m (is_there_moves (group_moves p_ (same 0))) type_params_
    params_ ty_ r_))))

pub asserts_result_moves : {m : Move} {x y : List ℕ} {ts us : List Token} → Texts m x y ts us → {r r2 : Range}
    → By (range_to m) r r2 → {p p2 : Value} → Moves m p p2
    → Opt (By (ts_type_to m)) (asserts_result x ts r p) (asserts_result y us r2 p2)
unfolding asserts_result
asserts_result_moves {m = m} told r_ p_ =
    given_moves (this_or_name_at_moves told p_ (same 0))
    (λ name name2 name_. given_moves
    (optional_moves (λ a a2 a_ b b2 b_. type_at_moves a_ b_) (group_moves p_ (same 1)))
    (λ ty ty2 ty_. some (ts_type_Predicate m (same true) name_ ty_ r_)))

pub predicate_result_moves : {m : Move} {x y : List ℕ} {ts us : List Token} → Texts m x y ts us → {r r2 : Range}
    → By (range_to m) r r2 → {p p2 : Value} → Moves m p p2
    → Opt (By (ts_type_to m)) (predicate_result x ts r p) (predicate_result y us r2 p2)
unfolding predicate_result
predicate_result_moves {m = m} told r_ p_ =
    given_moves (this_or_name_at_moves told p_ (same 0))
    (λ name name2 name_. given_moves (type_at_moves p_ (same 1))
    (λ ty ty2 ty_. some (ts_type_Predicate m (same false) name_ (some ty_) r_)))

pub element_by_moves : (m : Move) {rest rest2 : Bool} → rest2 ≡ rest → {label label2 : Option Ident}
    → Opt (By (ident_to m)) label label2 → {mark mark2 : Bool} → mark2 ≡ mark → {r r2 : Range} → By (range_to m) r r2
    → {ty ty2 : TsType} → By (ts_type_to m) ty ty2
    → By (ts_tuple_element_to m) (element_by rest label mark r ty) (element_by rest2 label2 mark2 r2 ty2)
element_by_moves m rest_ label_ mark_ r_ ty_ = ts_tuple_element_made m rest_ label_ ty_ mark_ r_

pub element_of_moves : (m : Move) {r r2 : Range} → By (range_to m) r r2 → {ty ty2 : TsType} → By (ts_type_to m) ty ty2
    → By (ts_tuple_element_to m) (element_of r ty) (element_of r2 ty2)
element_of_moves m r_ ty_ = element_by_moves m (same false) none (same false) r_ ty_

pub label_at_moves : {m : Move} {x y : List ℕ} {ts us : List Token} → Texts m x y ts us → {p p2 : Value} → Moves m p p2
    → {n n2 : ℕ} → n2 ≡ n → Opt (By (ident_to m)) (label_at x ts p n) (label_at y us p2 n2)
label_at_moves {m = m} told p_ n_ =
    map_moves _ _ (ident_at_moves told p_ n_)
    (λ a a2 a_. marked_moves m (is_there_moves (group_moves p_ (ap (λ n. n + 1) n_))) a_)

pub rest_element_moves : {m : Move} {x y : List ℕ} {ts us : List Token} → Texts m x y ts us → {r r2 : Range}
    → By (range_to m) r r2 → {p p2 : Value} → Moves m p p2
    → Opt (By (ts_tuple_element_to m)) (rest_element x ts r p) (rest_element y us r2 p2)
unfolding rest_element
rest_element_moves {m = m} told r_ p_ =
    given_moves (optional_moves (λ a a2 a_ b b2 b_. label_at_moves told a_ b_) (group_moves p_ (same 0)))
    (λ label label2 label_. given_moves (type_at_moves p_ (same 1))
    (λ ty ty2 ty_. some (element_by_moves m (same true) label_ (is_there_moves (group_moves p_ (same 2))) r_
    ty_)))

pub labelled_element_moves : {m : Move} {x y : List ℕ} {ts us : List Token} → Texts m x y ts us → {r r2 : Range}
    → By (range_to m) r r2 → {p p2 : Value} → Moves m p p2
    → Opt (By (ts_tuple_element_to m)) (labelled_element x ts r p) (labelled_element y us r2 p2)
unfolding labelled_element
labelled_element_moves {m = m} told r_ p_ =
    given_moves (label_at_moves told p_ (same 0))
    (λ label label2 label_. given_moves (type_at_moves p_ (same 2))
    (λ ty ty2 ty_. some (element_by_moves m (same false) (some label_)
    (is_there_moves (group_moves p_ (same 3))) r_ ty_)))

pub optional_element_moves : {m : Move} {r r2 : Range} → By (range_to m) r r2 → {p p2 : Value} → Moves m p p2
    → Opt (By (ts_tuple_element_to m)) (optional_element r p) (optional_element r2 p2)
unfolding optional_element
optional_element_moves {m = m} r_ p_ =
    map_moves _ _ (type_at_moves p_ (same 0)) (λ a a2 a_. element_by_moves m (same false) none (same true) r_ a_)
