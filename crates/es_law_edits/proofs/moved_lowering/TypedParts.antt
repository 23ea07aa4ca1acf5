-- What TypeScript adds to patterns, parameters and functions moves with its parts.
use Rattle.std.specs.Prelude.{ℕ, ◌+◌, ◌-◌, Bool, false, List, Option}
use Rattle.base.specs.declared.range.Range.{Range}
use Rattle.es_token.specs.declared.token.Token.{Token}
use Rattle.es_ast.specs.declared.ts.ts.TsPart.{TsPart}
use Rattle.es_ast.specs.declared.leaf.Modifiers.{Modifiers}
use Rattle.es_ast.specs.declared.ast.Pat.{Pat}
use Rattle.es_lowering.specs.Value.{Value}
use Rattle.es_lowering.specs.Functions.{plain}
use Rattle.es_lowering.specs.TypedParts.{annotation_at, params_part_at, args_part_at, heritage_at, heritage_from, heritage_in, marked_name, marked_array, marked_object, marked_by, annotated_span, annotated_at, with_modifier, modifiers_in, param_by, typed_span, tailed_span, tailed_at, marked_parameter, property_parameter, this_parameter, typed_rest_of, typed_rest_at, typed_parameters, typed_signature, body_in, behind_body}
use Rattle.std.proofs.Common.{◌≡◌, ap}
use Rattle.es_law_edits.proofs.moved.Patterns.{param_made, pat_Array, pat_Hole, pat_Ident, pat_Object, pat_Rest, pat_This}
use Rattle.es_law_edits.proofs.moved.Rel.{By, Each, Fun, Opt, Same, next, none, some}
use Rattle.es_law_edits.proofs.moved.Types.{ts_expr_with_type_args_made, ts_part_Heritage, ts_part_TypeAnn, ts_part_TypeArgs, ts_part_TypeParams}
use Rattle.es_law_edits.specs.moved.Move.{Move, range_to}
use Rattle.es_law_edits.specs.moved.Trees.{param_to, pat_to, stmt_to}
use Rattle.es_law_edits.specs.moved.Types.{ts_expr_with_type_args_to, ts_part_to}
use Rattle.es_law_edits.proofs.moved_lowering.Frame.{Moves, Texts, append_moves, as_group_moves, behind_moves, first_of_moves, given_moves, gone, is_there_moves, leaf, made, map_moves, option_list_moves, optional_moves, over, pair, part_moves, same, turns_moves, two}
use Rattle.es_law_edits.proofs.moved_lowering.Leaves.{elements_moves, marked_moves, span_of_moves}
use Rattle.es_law_edits.proofs.moved_lowering.Patterns.{with_default_moves}
use Rattle.es_law_edits.proofs.moved_lowering.Texts.{ident_at_moves, kind_at_moves, token_at_moves}
use Rattle.es_law_edits.proofs.moved_lowering.TypeNames.{behind_in_moves}
use Rattle.es_law_edits.proofs.moved_lowering.TypedMoves.{SignatureMoves}
use Rattle.es_law_edits.proofs.moved_lowering.Value.{arguments_at_moves, expr_at_moves, group_moves, marked_at_moves, param_at_moves, params_at_moves, pat_at_moves, pat_prop_at_moves, reference_at_moves, type_at_moves, type_params_at_moves}

pub annotation_at_moves : {m : Move} {p p2 : Value} → Moves m p p2 → {n n2 : ℕ} → n2 ≡ n
    → Opt (Opt (By (ts_part_to m))) (annotation_at p n) (annotation_at p2 n2)
annotation_at_moves {m = m} p_ n_ =
    map_moves _ _ (optional_moves (λ a a2 a_ b b2 b_. type_at_moves a_ b_) (group_moves p_ n_))
    (λ ty ty2 ty_. map_moves _ _ ty_ (λ a a2 a_. ts_part_TypeAnn m a_))

pub params_part_at_moves : {m : Move} {p p2 : Value} → Moves m p p2 → {n n2 : ℕ} → n2 ≡ n
    → Opt (Opt (By (ts_part_to m))) (params_part_at p n) (params_part_at p2 n2)
params_part_at_moves {m = m} p_ n_ =
    map_moves _ _ (optional_moves (λ a a2 a_ b b2 b_. type_params_at_moves a_ b_) (group_moves p_ n_))
    (λ ps ps2 ps_. map_moves _ _ ps_ (λ a a2 a_. ts_part_TypeParams m a_))

pub args_part_at_moves : {m : Move} {p p2 : Value} → Moves m p p2 → {n n2 : ℕ} → n2 ≡ n
    → Opt (Opt (By (ts_part_to m))) (args_part_at p n) (args_part_at p2 n2)
args_part_at_moves {m = m} p_ n_ =
    map_moves _ _ (optional_moves (λ a a2 a_ b b2 b_. arguments_at_moves a_ b_) (group_moves p_ n_))
    (λ args args2 args_. map_moves _ _ args_ (λ a a2 a_. ts_part_TypeArgs m a_))

pub heritage_at_moves : {m : Move} {x y : List ℕ} {ts us : List Token} → Texts m x y ts us → {p p2 : Value}
    → Moves m p p2 → {n n2 : ℕ} → n2 ≡ n
    → Opt (By (ts_expr_with_type_args_to m)) (heritage_at ts p n) (heritage_at us p2 n2)
heritage_at_moves {m = m} told p_ n_ =
    map_moves _ _ (reference_at_moves p_ n_)
    (λ name name2 name_. ts_expr_with_type_args_made m name_.0 name_.1
    (span_of_moves told (first_of_moves (part_moves p_ n_)) (behind_moves (part_moves p_ n_))))

pub heritage_from_moves : {m : Move} {x y : List ℕ} {ts us : List Token} → Texts m x y ts us → {p p2 : Value}
    → Moves m p p2 → {n n2 : ℕ} → n2 ≡ n
    → Opt (Each (By (ts_expr_with_type_args_to m))) (heritage_from ts p n) (heritage_from us p2 n2)
heritage_from_moves told p_ n_ =
    given_moves (heritage_at_moves told p_ n_)
    (λ first first2 first_. given_moves
    (turns_moves (λ turn turn2 turn_. heritage_at_moves told turn_ (same 0))
    (group_moves p_ (ap (λ n. n + 1) n_))) (λ rest rest2 rest_. some (next first_ rest_)))

pub heritage_in_moves : {m : Move} {x y : List ℕ} {ts us : List Token} → Texts m x y ts us → {b b2 : Value}
    → Moves m b b2 → Opt (Opt (By (ts_part_to m))) (heritage_in ts b) (heritage_in us b2)
heritage_in_moves {m = m} told (pair v_ vs_) =
    map_moves _ _ (heritage_from_moves told (pair v_ vs_) (same 0)) (λ all all2 all_. some (ts_part_Heritage m all_))
heritage_in_moves told gone = some none
heritage_in_moves told over = some none
heritage_in_moves told (leaf a) = some none
heritage_in_moves told (made a b c) = some none

pub marked_name_moves : {m : Move} {x y : List ℕ} {ts us : List Token} → Texts m x y ts us → {p p2 : Value}
    → Moves m p p2 → Opt (Fun Same (Fun (Opt (By (ts_part_to m))) (Fun (By (range_to m)) (By (pat_to m)))))
    (marked_name x ts p) (marked_name y us p2)
unfolding marked_name
marked_name_moves {m = m} told p_ =
    map_moves _ _ (ident_at_moves told p_ (same 0))
    (λ id id2 id_ mark mark2 mark_ ty ty2 ty_ r r2 r_. pat_Ident m (marked_moves m mark_ id_) ty_ r_)

pub marked_array_moves : {m : Move} {x y : List ℕ} {ts us : List Token} → Texts m x y ts us → {from from2 : ℕ}
    → from2 ≡ from → {p p2 : Value} → Moves m p p2
    → Opt (Fun Same (Fun (Opt (By (ts_part_to m))) (Fun (By (range_to m)) (By (pat_to m)))))
    (marked_array ts from p) (marked_array us from2 p2)
unfolding marked_array
marked_array_moves {m = m} told from_ p_ =
    map_moves _ _ (elements_moves told _ _ (λ a a2 a_. pat_Hole m a_) (λ a a2 a_ b b2 b_. pat_at_moves a_ b_)
    (group_moves p_ (same 0)) (ap (λ n. n + 1) from_))
    (λ elems elems2 elems_ mark mark2 mark_ ty ty2 ty_ r r2 r_. pat_Array m elems_ mark_ ty_ r_)

pub marked_object_moves : {m : Move} {p p2 : Value} → Moves m p p2
    → Opt (Fun Same (Fun (Opt (By (ts_part_to m))) (Fun (By (range_to m)) (By (pat_to m))))) (marked_object p)
    (marked_object p2)
unfolding marked_object
marked_object_moves {m = m} p_ =
    map_moves _ _ (turns_moves (λ turn turn2 turn_. pat_prop_at_moves turn_ (same 0)) (group_moves p_ (same 0)))
    (λ props props2 props_ mark mark2 mark_ ty ty2 ty_ r r2 r_. pat_Object m props_ mark_ ty_ r_)

pub marked_by_moves : (m : Move) {a a2 : Option (Bool → Option TsPart → Range → Pat)}
    → Opt (Fun Same (Fun (Opt (By (ts_part_to m))) (Fun (By (range_to m)) (By (pat_to m))))) a a2 → {mark mark2 : Bool}
    → mark2 ≡ mark → {ty ty2 : Option TsPart} → Opt (By (ts_part_to m)) ty ty2 → {r r2 : Range}
    → By (range_to m) r r2 → Opt (By (pat_to m)) (marked_by a mark ty r) (marked_by a2 mark2 ty2 r2)
marked_by_moves m (some pat_) mark_ ty_ r_ = some (pat_ _ _ mark_ _ _ ty_ _ _ r_)
marked_by_moves m none mark_ ty_ r_ = none

pub annotated_span_moves : {m : Move} {x y : List ℕ} {ts us : List Token} → Texts m x y ts us → {p p2 : Value}
    → Moves m p p2 → {n n2 : ℕ} → n2 ≡ n → {at at2 : ℕ} → at2 ≡ at
    → By (range_to m) (annotated_span ts p n at) (annotated_span us p2 n2 at2)
annotated_span_moves told p_ n_ at_ =
    span_of_moves told (first_of_moves (part_moves p_ n_))
    (behind_in_moves (group_moves p_ at_) (behind_moves (part_moves p_ n_)))

pub annotated_at_moves : {m : Move} {x y : List ℕ} {ts us : List Token} → Texts m x y ts us → {p p2 : Value}
    → Moves m p p2 → {n n2 : ℕ} → n2 ≡ n → {at at2 : ℕ} → at2 ≡ at
    → Opt (By (pat_to m)) (annotated_at ts p n at) (annotated_at us p2 n2 at2)
annotated_at_moves {m = m} told p_ n_ at_ =
    given_moves (annotation_at_moves p_ at_)
    (λ ty ty2 ty_. marked_by_moves m (marked_at_moves p_ n_) (same false) ty_ (annotated_span_moves told p_ n_ at_))

pub modifiers_in_moves : {m : Move} {x y : List ℕ} {ts us : List Token} → Texts m x y ts us → {c c2 : Value}
    → Moves m c c2 → {before before2 : Modifiers} → before2 ≡ before
    → Opt Same (modifiers_in ts before c) (modifiers_in us before2 c2)
modifiers_in_moves told (pair v_ vs_) before_ =
    given_moves (kind_at_moves told (as_group_moves v_) (same 0))
    (λ kind kind2 kind_. modifiers_in_moves told vs_ (two (λ a b. with_modifier a b) kind_ before_))
modifiers_in_moves told gone before_ = some before_
modifiers_in_moves told over before_ = some before_
modifiers_in_moves told (leaf a) before_ = some before_
modifiers_in_moves told (made a b c) before_ = some before_

pub param_by_moves : (m : Move) {modifiers modifiers2 : Modifiers} → modifiers2 ≡ modifiers → {r r2 : Range}
    → By (range_to m) r r2 → {pat pat2 : Pat} → By (pat_to m) pat pat2
    → By (param_to m) (param_by modifiers r pat) (param_by modifiers2 r2 pat2)
param_by_moves m modifiers_ r_ pat_ = param_made m modifiers_ pat_ r_

pub typed_span_moves : {m : Move} {x y : List ℕ} {ts us : List Token} → Texts m x y ts us → {p p2 : Value}
    → Moves m p p2 → {n n2 : ℕ} → n2 ≡ n → By (range_to m) (typed_span ts p n) (typed_span us p2 n2)
typed_span_moves told p_ n_ =
    span_of_moves told (first_of_moves (part_moves p_ n_))
    (behind_in_moves (group_moves p_ (ap (λ n. n + 2) n_))
    (behind_in_moves (group_moves p_ (ap (λ n. n + 1) n_)) (behind_moves (part_moves p_ n_))))

pub tailed_span_moves : {m : Move} {x y : List ℕ} {ts us : List Token} → Texts m x y ts us → {p p2 : Value}
    → Moves m p p2 → {n n2 : ℕ} → n2 ≡ n → By (range_to m) (tailed_span ts p n) (tailed_span us p2 n2)
tailed_span_moves told p_ n_ =
    span_of_moves told (first_of_moves (part_moves p_ n_))
    (behind_in_moves (group_moves p_ (ap (λ n. n + 3) n_))
    (behind_in_moves (group_moves p_ (ap (λ n. n + 2) n_))
    (behind_in_moves (group_moves p_ (ap (λ n. n + 1) n_)) (behind_moves (part_moves p_ n_)))))

pub tailed_at_moves : {m : Move} {x y : List ℕ} {ts us : List Token} → Texts m x y ts us → {p p2 : Value}
    → Moves m p p2 → {n n2 : ℕ} → n2 ≡ n → Opt (By (pat_to m)) (tailed_at ts p n) (tailed_at us p2 n2)
tailed_at_moves {m = m} told p_ n_ =
    given_moves (annotation_at_moves p_ (ap (λ n. n + 2) n_))
    (λ ty ty2 ty_. given_moves
    (marked_by_moves m (marked_at_moves p_ n_) (is_there_moves (group_moves p_ (ap (λ n. n + 1) n_))) ty_
    (typed_span_moves told p_ n_))
    (λ pat pat2 pat_. given_moves
    (optional_moves (λ a a2 a_ b b2 b_. expr_at_moves a_ b_) (group_moves p_ (ap (λ n. n + 3) n_)))
    (λ value value2 value_. some
    (with_default_moves m (tailed_span_moves told p_ n_) pat_ value_))))

pub marked_parameter_moves : {m : Move} {x y : List ℕ} {ts us : List Token} → Texts m x y ts us → {r r2 : Range}
    → By (range_to m) r r2 → {p p2 : Value} → Moves m p p2
    → Opt (By (param_to m)) (marked_parameter ts r p) (marked_parameter us r2 p2)
unfolding marked_parameter
marked_parameter_moves {m = m} told r_ p_ =
    map_moves _ _ (tailed_at_moves told p_ (same 0)) (λ a a2 a_. param_by_moves m (same plain) r_ a_)

pub property_parameter_moves : {m : Move} {x y : List ℕ} {ts us : List Token} → Texts m x y ts us → {r r2 : Range}
    → By (range_to m) r r2 → {p p2 : Value} → Moves m p p2
    → Opt (By (param_to m)) (property_parameter ts r p) (property_parameter us r2 p2)
unfolding property_parameter
property_parameter_moves {m = m} told r_ p_ =
    given_moves (modifiers_in_moves told (group_moves p_ (same 0)) (same plain))
    (λ modifiers modifiers2 modifiers_. map_moves _ _ (tailed_at_moves told p_ (same 1))
    (λ a a2 a_. param_by_moves m modifiers_ r_ a_))

pub this_parameter_moves : {m : Move} {x y : List ℕ} {ts us : List Token} → Texts m x y ts us → {r r2 : Range}
    → By (range_to m) r r2 → {p p2 : Value} → Moves m p p2
    → Opt (By (param_to m)) (this_parameter ts r p) (this_parameter us r2 p2)
unfolding this_parameter
this_parameter_moves {m = m} told r_ p_ =
    given_moves (token_at_moves told p_ (same 0))
    (λ t t2 t_. given_moves (annotation_at_moves p_ (same 2))
    (λ ty ty2 ty_. given_moves
    (optional_moves (λ a a2 a_ b b2 b_. expr_at_moves a_ b_) (group_moves p_ (same 3)))
    (λ value value2 value_. some
    (param_by_moves m (same plain) r_
    (with_default_moves m r_
    (pat_This m ty_ (span_of_moves told (first_of_moves (part_moves p_ (same 0)))
    (behind_in_moves (group_moves p_ (same 2))
    (behind_moves (part_moves p_ (same 0)))))) value_)))))

pub typed_rest_of_moves : (m : Move) {r r2 : Range} → By (range_to m) r r2 → {pat pat2 : Pat} → By (pat_to m) pat pat2
    → {ty ty2 : Option TsPart} → Opt (By (ts_part_to m)) ty ty2
    → By (param_to m) (typed_rest_of r pat ty) (typed_rest_of r2 pat2 ty2)
typed_rest_of_moves m r_ pat_ ty_ = param_by_moves m (same plain) r_ (pat_Rest m pat_ ty_ r_)

pub typed_rest_at_moves : {m : Move} {x y : List ℕ} {ts us : List Token} → Texts m x y ts us → {p p2 : Value}
    → Moves m p p2 → {n n2 : ℕ} → n2 ≡ n → Opt (By (param_to m)) (typed_rest_at ts p n) (typed_rest_at us p2 n2)
typed_rest_at_moves {m = m} told p_ n_ =
    given_moves (pat_at_moves p_ n_)
    (λ pat pat2 pat_. given_moves (annotation_at_moves p_ (ap (λ n. n + 1) n_))
    (λ ty ty2 ty_. some (typed_rest_of_moves m
    (span_of_moves told (ap (λ n. n - 1) (first_of_moves (part_moves p_ n_)))
    (behind_in_moves (group_moves p_ (ap (λ n. n + 1) n_)) (behind_moves (part_moves p_ n_)))) pat_
    ty_)))

pub typed_parameters_moves : {m : Move} {x y : List ℕ} {ts us : List Token} → Texts m x y ts us → {p p2 : Value}
    → Moves m p p2 → Opt (Each (By (param_to m))) (typed_parameters ts p) (typed_parameters us p2)
unfolding typed_parameters
typed_parameters_moves told p_ =
    given_moves (turns_moves (λ turn turn2 turn_. param_at_moves turn_ (same 0)) (group_moves p_ (same 0)))
    (λ all all2 all_. given_moves
    (optional_moves (λ a a2 a_ b b2 b_. typed_rest_at_moves told a_ b_) (group_moves p_ (same 1)))
    (λ rest rest2 rest_. some (append_moves all_ (option_list_moves rest_))))

pub typed_signature_moves : {m : Move} {p p2 : Value} → Moves m p p2
    → Opt (SignatureMoves m) (typed_signature p) (typed_signature p2)
unfolding typed_signature
typed_signature_moves p_ =
    given_moves (params_part_at_moves p_ (same 0))
    (λ type_params type_params2 type_params_. given_moves (params_at_moves p_ (same 1))
    (λ params params2 params_. given_moves (annotation_at_moves p_ (same 2))
    (λ result result2 result_. some (type_params_, params_, result_))))

pub body_in_moves : {m : Move} {a a2 : Value} → Moves m a a2 → Opt (Opt (By (stmt_to m))) (body_in a) (body_in a2)
body_in_moves (pair (made from to it_) vs_) = map_moves _ _ it_.stmt (λ a a2 a_. some a_)
body_in_moves gone = some none
body_in_moves over = some none
body_in_moves (pair gone a) = some none
body_in_moves (pair over a) = some none
body_in_moves (pair (pair a b) c) = some none
body_in_moves (pair (leaf a) b) = some none
body_in_moves (leaf a) = some none
body_in_moves (made a b c) = some none

pub behind_body_moves : {m : Move} {a a2 : Value} → Moves m a a2 → {before before2 : ℕ} → before2 ≡ before
    → behind_body a2 before2 ≡ behind_body a before
behind_body_moves (pair (made from to it_) vs_) before_ = same to
behind_body_moves gone before_ = before_
behind_body_moves over before_ = before_
behind_body_moves (pair gone a) before_ = before_
behind_body_moves (pair over a) before_ = before_
behind_body_moves (pair (pair a b) c) before_ = before_
behind_body_moves (pair (leaf a) b) before_ = before_
behind_body_moves (leaf a) before_ = before_
behind_body_moves (made a b c) before_ = before_
