-- What patterns become moves with their parts.
use Rattle.std.specs.Prelude.{ℕ, ◌+◌, false, List, Option}
use Rattle.base.specs.declared.range.Range.{Range}
use Rattle.es_token.specs.declared.token.Token.{Token}
use Rattle.es_ast.specs.declared.ast.Expr.{Expr}
use Rattle.es_ast.specs.declared.ast.Pat.{Pat}
use Rattle.es_lowering.specs.Value.{Value}
use Rattle.es_lowering.specs.Patterns.{ident_pat, name_pattern, array_pattern, object_pattern, rest_pattern, default_pattern, rest_property, with_default, key_pattern, name_property}
use Rattle.std.proofs.Common.{◌≡◌, ap}
use Rattle.es_law_edits.proofs.moved.Patterns.{object_pat_prop_Assign, object_pat_prop_KeyValue, object_pat_prop_Rest, pat_Array, pat_Assign, pat_Hole, pat_Ident, pat_Object, pat_Rest}
use Rattle.es_law_edits.proofs.moved.Rel.{By, Opt, none, some}
use Rattle.es_law_edits.specs.moved.Move.{Move, range_to}
use Rattle.es_law_edits.specs.moved.Trees.{expr_to, object_pat_prop_to, pat_to}
use Rattle.es_law_edits.proofs.moved_lowering.Frame.{Moves, Texts, TokenMoves, behind_moves, first_of_moves, given_moves, map_moves, optional_moves, part_moves, place_moves, same, turns_moves}
use Rattle.es_law_edits.proofs.moved_lowering.Leaves.{elements_moves, ident_of_moves, span_of_moves}
use Rattle.es_law_edits.proofs.moved_lowering.Texts.{ident_at_moves, token_at_moves}
use Rattle.es_law_edits.proofs.moved_lowering.Value.{expr_at_moves, group_moves, key_at_moves, pat_at_moves, pat_prop_at_moves}

pub ident_pat_moves : {m : Move} {x y : List ℕ} {ts us : List Token} → Texts m x y ts us → {t t2 : Token}
    → TokenMoves m ts t t2 → By (pat_to m) (ident_pat x t) (ident_pat y t2)
ident_pat_moves {m = m} told t_ = pat_Ident m (ident_of_moves told t_) none (place_moves t_)

pub name_pattern_moves : {m : Move} {x y : List ℕ} {ts us : List Token} → Texts m x y ts us → {p p2 : Value}
    → Moves m p p2 → Opt (By (pat_to m)) (name_pattern x ts p) (name_pattern y us p2)
unfolding name_pattern
name_pattern_moves told p_ = map_moves _ _ (token_at_moves told p_ (same 0)) (λ a a2 a_. ident_pat_moves told a_)

pub array_pattern_moves : {m : Move} {x y : List ℕ} {ts us : List Token} → Texts m x y ts us → {from from2 : ℕ}
    → from2 ≡ from → {r r2 : Range} → By (range_to m) r r2 → {p p2 : Value} → Moves m p p2
    → Opt (By (pat_to m)) (array_pattern ts from r p) (array_pattern us from2 r2 p2)
unfolding array_pattern
array_pattern_moves {m = m} told from_ r_ p_ =
    map_moves _ _ (elements_moves told _ _ (λ a a2 a_. pat_Hole m a_) (λ a a2 a_ b b2 b_. pat_at_moves a_ b_)
    (group_moves p_ (same 0)) (ap (λ n. n + 1) from_))
    (λ elems elems2 elems_. pat_Array m elems_ (same false) none r_)

pub object_pattern_moves : {m : Move} {r r2 : Range} → By (range_to m) r r2 → {p p2 : Value} → Moves m p p2
    → Opt (By (pat_to m)) (object_pattern r p) (object_pattern r2 p2)
unfolding object_pattern
object_pattern_moves {m = m} r_ p_ =
    map_moves _ _ (turns_moves (λ turn turn2 turn_. pat_prop_at_moves turn_ (same 0)) (group_moves p_ (same 0)))
    (λ props props2 props_. pat_Object m props_ (same false) none r_)

pub rest_pattern_moves : {m : Move} {r r2 : Range} → By (range_to m) r r2 → {p p2 : Value} → Moves m p p2
    → Opt (By (pat_to m)) (rest_pattern r p) (rest_pattern r2 p2)
unfolding rest_pattern
rest_pattern_moves {m = m} r_ p_ = map_moves _ _ (pat_at_moves p_ (same 0)) (λ arg arg2 arg_. pat_Rest m arg_ none r_)

pub default_pattern_moves : {m : Move} {r r2 : Range} → By (range_to m) r r2 → {p p2 : Value} → Moves m p p2
    → Opt (By (pat_to m)) (default_pattern r p) (default_pattern r2 p2)
unfolding default_pattern
default_pattern_moves {m = m} r_ p_ =
    given_moves (pat_at_moves p_ (same 0))
    (λ left left2 left_. given_moves (expr_at_moves p_ (same 1))
    (λ right right2 right_. some (pat_Assign m left_ right_ r_)))

pub rest_property_moves : {m : Move} {r r2 : Range} → By (range_to m) r r2 → {p p2 : Value} → Moves m p p2
    → Opt (By (object_pat_prop_to m)) (rest_property r p) (rest_property r2 p2)
unfolding rest_property
rest_property_moves {m = m} r_ p_ =
    map_moves _ _ (pat_at_moves p_ (same 0)) (λ arg arg2 arg_. object_pat_prop_Rest m arg_ r_)

pub with_default_moves : (m : Move) {r r2 : Range} → By (range_to m) r r2 → {pat pat2 : Pat} → By (pat_to m) pat pat2
    → {c c2 : Option Expr} → Opt (By (expr_to m)) c c2 → By (pat_to m) (with_default r pat c) (with_default r2 pat2 c2)
with_default_moves m r_ pat_ (some value_) = pat_Assign m pat_ value_ r_
with_default_moves m r_ pat_ none = pat_

pub key_pattern_moves : {m : Move} {x y : List ℕ} {ts us : List Token} → Texts m x y ts us → {r r2 : Range}
    → By (range_to m) r r2 → {p p2 : Value} → Moves m p p2
    → Opt (By (object_pat_prop_to m)) (key_pattern ts r p) (key_pattern us r2 p2)
unfolding key_pattern
key_pattern_moves {m = m} told r_ p_ =
    given_moves (key_at_moves p_ (same 0))
    (λ key key2 key_. given_moves (pat_at_moves p_ (same 1))
    (λ pat pat2 pat_. given_moves
    (optional_moves (λ a a2 a_ b b2 b_. expr_at_moves a_ b_) (group_moves p_ (same 2)))
    (λ value value2 value_. some
    (object_pat_prop_KeyValue m key_.0 key_.1
    (with_default_moves m
    (span_of_moves told (first_of_moves (part_moves p_ (same 1)))
    (behind_moves (part_moves (group_moves p_ (same 2)) (same 0)))) pat_ value_) r_))))

pub name_property_moves : {m : Move} {x y : List ℕ} {ts us : List Token} → Texts m x y ts us → {r r2 : Range}
    → By (range_to m) r r2 → {p p2 : Value} → Moves m p p2
    → Opt (By (object_pat_prop_to m)) (name_property x ts r p) (name_property y us r2 p2)
unfolding name_property
name_property_moves {m = m} told r_ p_ =
    given_moves (ident_at_moves told p_ (same 0))
    (λ key key2 key_. given_moves
    (optional_moves (λ a a2 a_ b b2 b_. expr_at_moves a_ b_) (group_moves p_ (same 1)))
    (λ value value2 value_. some (object_pat_prop_Assign m key_ value_ r_)))
