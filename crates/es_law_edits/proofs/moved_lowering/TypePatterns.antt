-- What parameters of functions in types become moves with their parts.
use Rattle.std.specs.Prelude.{ℕ, ◌+◌, ◌-◌, Bool, true, false, List, Option}
use Rattle.base.specs.declared.range.Range.{Range}
use Rattle.es_token.specs.declared.token.Token.{Token}
use Rattle.es_ast.specs.declared.ts.leaf.Ident.{Ident}
use Rattle.es_ast.specs.declared.ts.ts.TsType.{TsType}
use Rattle.es_ast.specs.declared.ts.ts.TsParamPat.{TsParamPat}
use Rattle.es_lowering.specs.Value.{Value}
use Rattle.es_lowering.specs.TypePatterns.{name_pattern, array_pattern, object_pattern, rest_pattern, rest_property, key_property, name_property, word_key, str_key, number_key, param_by, param_of, this_parameter, marked_pat, marked_by, marked_parameter, rest_at, parameters}
use Rattle.std.proofs.Common.{◌≡◌, ap}
use Rattle.es_law_edits.proofs.moved.Leaves.{ts_key_Ident, ts_key_Num, ts_key_Str}
use Rattle.es_law_edits.proofs.moved.Rel.{By, Each, Opt, none, some}
use Rattle.es_law_edits.proofs.moved.Types.{ts_fn_param_made, ts_param_pat_Array, ts_param_pat_Hole, ts_param_pat_Ident, ts_param_pat_Object, ts_param_pat_Rest, ts_param_pat_This, ts_pat_prop_KeyValue, ts_pat_prop_Rest, ts_pat_prop_Shorthand}
use Rattle.es_law_edits.specs.moved.Leaves.{ident_to, ts_key_to}
use Rattle.es_law_edits.specs.moved.Move.{Move, range_to}
use Rattle.es_law_edits.specs.moved.Types.{ts_fn_param_to, ts_param_pat_to, ts_pat_prop_to, ts_type_to}
use Rattle.es_law_edits.proofs.moved_lowering.Frame.{Moves, Texts, append_moves, behind_moves, first_of_moves, given_moves, gone, is_there_moves, leaf, made, map_moves, option_list_moves, optional_moves, over, pair, part_moves, place_moves, same, turns_moves}
use Rattle.es_law_edits.proofs.moved_lowering.Leaves.{elements_moves, marked_moves, span_of_moves}
use Rattle.es_law_edits.proofs.moved_lowering.Texts.{ident_at_moves, str_at_moves, token_at_moves}
use Rattle.es_law_edits.proofs.moved_lowering.TypeNames.{behind_in_moves}
use Rattle.es_law_edits.proofs.moved_lowering.TypeTexts.{number_at_moves}
use Rattle.es_law_edits.proofs.moved_lowering.Value.{fn_param_at_moves, group_moves, type_at_moves, type_key_at_moves, type_name_at_moves, type_pat_at_moves, type_prop_at_moves}

pub name_pattern_moves : {m : Move} {x y : List ℕ} {ts us : List Token} → Texts m x y ts us → {p p2 : Value}
    → Moves m p p2 → Opt (By (ts_param_pat_to m)) (name_pattern x ts p) (name_pattern y us p2)
unfolding name_pattern
name_pattern_moves {m = m} told p_ =
    map_moves _ _ (ident_at_moves told p_ (same 0)) (λ a a2 a_. ts_param_pat_Ident m a_)

pub array_pattern_moves : {m : Move} {x y : List ℕ} {ts us : List Token} → Texts m x y ts us → {from from2 : ℕ}
    → from2 ≡ from → {r r2 : Range} → By (range_to m) r r2 → {p p2 : Value} → Moves m p p2
    → Opt (By (ts_param_pat_to m)) (array_pattern ts from r p) (array_pattern us from2 r2 p2)
unfolding array_pattern
array_pattern_moves {m = m} told from_ r_ p_ =
    map_moves _ _ (elements_moves told _ _ (λ a a2 a_. ts_param_pat_Hole m a_)
    (λ a a2 a_ b b2 b_. type_pat_at_moves a_ b_) (group_moves p_ (same 0)) (ap (λ n. n + 1) from_))
    (λ elems elems2 elems_. ts_param_pat_Array m elems_ r_)

pub object_pattern_moves : {m : Move} {r r2 : Range} → By (range_to m) r r2 → {p p2 : Value} → Moves m p p2
    → Opt (By (ts_param_pat_to m)) (object_pattern r p) (object_pattern r2 p2)
unfolding object_pattern
object_pattern_moves {m = m} r_ p_ =
    map_moves _ _ (turns_moves (λ turn turn2 turn_. type_prop_at_moves turn_ (same 0)) (group_moves p_ (same 0)))
    (λ props props2 props_. ts_param_pat_Object m props_ r_)

pub rest_pattern_moves : {m : Move} {r r2 : Range} → By (range_to m) r r2 → {p p2 : Value} → Moves m p p2
    → Opt (By (ts_param_pat_to m)) (rest_pattern r p) (rest_pattern r2 p2)
unfolding rest_pattern
rest_pattern_moves {m = m} r_ p_ =
    map_moves _ _ (type_pat_at_moves p_ (same 0)) (λ arg arg2 arg_. ts_param_pat_Rest m arg_ r_)

pub rest_property_moves : {m : Move} {r r2 : Range} → By (range_to m) r r2 → {p p2 : Value} → Moves m p p2
    → Opt (By (ts_pat_prop_to m)) (rest_property r p) (rest_property r2 p2)
unfolding rest_property
rest_property_moves {m = m} r_ p_ =
    map_moves _ _ (type_pat_at_moves p_ (same 0)) (λ arg arg2 arg_. ts_pat_prop_Rest m arg_ r_)

pub key_property_moves : {m : Move} {r r2 : Range} → By (range_to m) r r2 → {p p2 : Value} → Moves m p p2
    → Opt (By (ts_pat_prop_to m)) (key_property r p) (key_property r2 p2)
unfolding key_property
key_property_moves {m = m} r_ p_ =
    given_moves (type_key_at_moves p_ (same 0))
    (λ key key2 key_. given_moves (type_pat_at_moves p_ (same 1))
    (λ value value2 value_. some (ts_pat_prop_KeyValue m key_ value_ r_)))

pub name_property_moves : {m : Move} {x y : List ℕ} {ts us : List Token} → Texts m x y ts us → {p p2 : Value}
    → Moves m p p2 → Opt (By (ts_pat_prop_to m)) (name_property x ts p) (name_property y us p2)
unfolding name_property
name_property_moves {m = m} told p_ =
    map_moves _ _ (ident_at_moves told p_ (same 0)) (λ a a2 a_. ts_pat_prop_Shorthand m a_)

pub word_key_moves : {m : Move} {x y : List ℕ} {ts us : List Token} → Texts m x y ts us → {p p2 : Value} → Moves m p p2
    → Opt (By (ts_key_to m)) (word_key x ts p) (word_key y us p2)
unfolding word_key
word_key_moves {m = m} told p_ = map_moves _ _ (ident_at_moves told p_ (same 0)) (λ a a2 a_. ts_key_Ident m a_)

pub str_key_moves : {m : Move} {x y : List ℕ} {ts us : List Token} → Texts m x y ts us → {p p2 : Value} → Moves m p p2
    → Opt (By (ts_key_to m)) (str_key x ts p) (str_key y us p2)
unfolding str_key
str_key_moves {m = m} told p_ = map_moves _ _ (str_at_moves told p_ (same 0)) (λ a a2 a_. ts_key_Str m a_)

pub number_key_moves : {m : Move} {x y : List ℕ} {ts us : List Token} → Texts m x y ts us → {p p2 : Value}
    → Moves m p p2 → Opt (By (ts_key_to m)) (number_key x ts p) (number_key y us p2)
unfolding number_key
number_key_moves {m = m} told p_ = map_moves _ _ (number_at_moves told p_ (same 0)) (λ a a2 a_. ts_key_Num m a_)

pub param_by_moves : (m : Move) {rest rest2 : Bool} → rest2 ≡ rest → {mark mark2 : Bool} → mark2 ≡ mark
    → {r r2 : Range} → By (range_to m) r r2 → {pat pat2 : TsParamPat} → By (ts_param_pat_to m) pat pat2
    → {ty ty2 : Option TsType} → Opt (By (ts_type_to m)) ty ty2
    → By (ts_fn_param_to m) (param_by rest mark r pat ty) (param_by rest2 mark2 r2 pat2 ty2)
param_by_moves m rest_ mark_ r_ pat_ ty_ = ts_fn_param_made m rest_ pat_ mark_ ty_ r_

pub param_of_moves : (m : Move) {r r2 : Range} → By (range_to m) r r2 → {pat pat2 : TsParamPat}
    → By (ts_param_pat_to m) pat pat2 → By (ts_fn_param_to m) (param_of r pat) (param_of r2 pat2)
param_of_moves m r_ pat_ = param_by_moves m (same false) (same false) r_ pat_ none

pub this_parameter_moves : {m : Move} {x y : List ℕ} {ts us : List Token} → Texts m x y ts us → {r r2 : Range}
    → By (range_to m) r r2 → {p p2 : Value} → Moves m p p2
    → Opt (By (ts_fn_param_to m)) (this_parameter ts r p) (this_parameter us r2 p2)
unfolding this_parameter
this_parameter_moves {m = m} told r_ p_ =
    given_moves (token_at_moves told p_ (same 0))
    (λ t t2 t_. given_moves (optional_moves (λ a a2 a_ b b2 b_. type_at_moves a_ b_) (group_moves p_ (same 2)))
    (λ ty ty2 ty_. some (param_by_moves m (same false) (is_there_moves (group_moves p_ (same 1))) r_
    (ts_param_pat_This m (place_moves t_)) ty_)))

pub marked_pat_moves : (m : Move) {a a2 : Option Ident} → Opt (By (ident_to m)) a a2 → {pat pat2 : TsParamPat}
    → By (ts_param_pat_to m) pat pat2 → By (ts_param_pat_to m) (marked_pat a pat) (marked_pat a2 pat2)
marked_pat_moves m (some name_) pat_ = ts_param_pat_Ident m (marked_moves m (same true) name_)
marked_pat_moves m none pat_ = pat_

pub marked_by_moves : {m : Move} {r r2 : Range} → By (range_to m) r r2 → {name name2 : Option Ident}
    → Opt (By (ident_to m)) name name2 → {pat pat2 : TsParamPat} → By (ts_param_pat_to m) pat pat2 → {g g2 : Value}
    → Moves m g g2 → Opt (By (ts_fn_param_to m)) (marked_by r name pat g) (marked_by r2 name2 pat2 g2)
marked_by_moves {m = m} r_ name_ pat_ (pair (leaf n) vs_) =
    map_moves _ _ (optional_moves (λ a a2 a_ b b2 b_. type_at_moves a_ b_) (group_moves vs_ (same 0)))
    (λ ty ty2 ty_. param_by_moves m (same false) (same true) r_ (marked_pat_moves m name_ pat_) ty_)
marked_by_moves {m = m} r_ name_ pat_ gone =
    map_moves _ _ (type_at_moves gone (same 0))
    (λ ty ty2 ty_. param_by_moves m (same false) (same false) r_ pat_ (some ty_))
marked_by_moves {m = m} r_ name_ pat_ over =
    map_moves _ _ (type_at_moves over (same 0))
    (λ ty ty2 ty_. param_by_moves m (same false) (same false) r_ pat_ (some ty_))
marked_by_moves {m = m} r_ name_ pat_ (pair gone a) =
    map_moves _ _ (type_at_moves (pair gone a) (same 0))
    (λ ty ty2 ty_. param_by_moves m (same false) (same false) r_ pat_ (some ty_))
marked_by_moves {m = m} r_ name_ pat_ (pair over a) =
    map_moves _ _ (type_at_moves (pair over a) (same 0))
    (λ ty ty2 ty_. param_by_moves m (same false) (same false) r_ pat_ (some ty_))
marked_by_moves {m = m} r_ name_ pat_ (pair (pair a b) c) =
    map_moves _ _ (type_at_moves (pair (pair a b) c) (same 0))
    (λ ty ty2 ty_. param_by_moves m (same false) (same false) r_ pat_ (some ty_))
marked_by_moves {m = m} r_ name_ pat_ (pair (made a b c) d) =
    map_moves _ _ (type_at_moves (pair (made a b c) d) (same 0))
    (λ ty ty2 ty_. param_by_moves m (same false) (same false) r_ pat_ (some ty_))
marked_by_moves {m = m} r_ name_ pat_ (leaf a) =
    map_moves _ _ (type_at_moves (leaf a) (same 0))
    (λ ty ty2 ty_. param_by_moves m (same false) (same false) r_ pat_ (some ty_))
marked_by_moves {m = m} r_ name_ pat_ (made a b c) =
    map_moves _ _ (type_at_moves (made a b c) (same 0))
    (λ ty ty2 ty_. param_by_moves m (same false) (same false) r_ pat_ (some ty_))

pub marked_parameter_moves : {m : Move} {r r2 : Range} → By (range_to m) r r2 → {p p2 : Value} → Moves m p p2
    → Opt (By (ts_fn_param_to m)) (marked_parameter r p) (marked_parameter r2 p2)
unfolding marked_parameter
marked_parameter_moves r_ p_ =
    given_moves (type_pat_at_moves p_ (same 0))
    (λ pat pat2 pat_. marked_by_moves r_ (type_name_at_moves p_ (same 0)) pat_ (group_moves p_ (same 1)))

pub rest_at_moves : {m : Move} {x y : List ℕ} {ts us : List Token} → Texts m x y ts us → {p p2 : Value} → Moves m p p2
    → {n n2 : ℕ} → n2 ≡ n → Opt (By (ts_fn_param_to m)) (rest_at ts p n) (rest_at us p2 n2)
rest_at_moves {m = m} told p_ n_ =
    given_moves (type_pat_at_moves p_ n_)
    (λ pat pat2 pat_. given_moves
    (optional_moves (λ a a2 a_ b b2 b_. type_at_moves a_ b_) (group_moves p_ (ap (λ n. n + 1) n_)))
    (λ ty ty2 ty_. some (param_by_moves m (same true) (same false)
    (span_of_moves told (ap (λ n. n - 1) (first_of_moves (part_moves p_ n_)))
    (behind_in_moves (group_moves p_ (ap (λ n. n + 1) n_)) (behind_moves (part_moves p_ n_)))) pat_
    ty_)))

pub parameters_moves : {m : Move} {x y : List ℕ} {ts us : List Token} → Texts m x y ts us → {p p2 : Value}
    → Moves m p p2 → Opt (Each (By (ts_fn_param_to m))) (parameters ts p) (parameters us p2)
unfolding parameters
parameters_moves told p_ =
    given_moves (turns_moves (λ turn turn2 turn_. fn_param_at_moves turn_ (same 0)) (group_moves p_ (same 0)))
    (λ all all2 all_. given_moves
    (optional_moves (λ a a2 a_ b b2 b_. rest_at_moves told a_ b_) (group_moves p_ (same 1)))
    (λ rest rest2 rest_. some (append_moves all_ (option_list_moves rest_))))
