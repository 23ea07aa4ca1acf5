-- Names, literals and words among the parts of types move.
use Rattle.std.specs.Prelude.{ℕ, Bool, List}
use Rattle.base.specs.declared.range.Range.{Range}
use Rattle.es_token.specs.declared.token.Token.{Token}
use Rattle.es_token.specs.declared.token.TokenKind.TheVariants as k
use Rattle.grammar_theory.specs.Key.{same_kind}
use Rattle.es_ast.specs.declared.ts.leaf.Number.{Number}
use Rattle.es_ast.specs.declared.ts.leaf.BigInt.{BigInt}
use Rattle.es_ast.specs.declared.ts.leaf.TruePlusMinus.TheVariants as sign
use Rattle.es_lowering.specs.Value.{Value}
use Rattle.es_lowering.specs.TypeTexts.{number_at, numeric_lit, computed_numeric, signed_by, signed_in}
use Rattle.std.proofs.Common.{◌≡◌, ap}
use Rattle.es_law_edits.proofs.moved.Leaves.{ts_key_ComputedBigInt, ts_key_ComputedNum, ts_lit_BigInt, ts_lit_Number}
use Rattle.es_law_edits.proofs.moved.Rel.{By, Opt, Same, none, some}
use Rattle.es_law_edits.specs.moved.Leaves.{number_to, ts_key_to, ts_lit_to}
use Rattle.es_law_edits.specs.moved.Move.{Move, range_to}
use Rattle.es_law_edits.proofs.moved_lowering.Frame.{Moves, Texts, TokenMoves, as_group_moves, given_moves, gone, if_moves, kind_moves, leaf, listed_moves, made, map_moves, over, pair, same}
use Rattle.es_law_edits.proofs.moved_lowering.Leaves.{big_of_moves, number_of_moves}
use Rattle.es_law_edits.proofs.moved_lowering.Texts.{kind_at_moves, token_at_moves}

pub number_at_moves : {m : Move} {x y : List ℕ} {ts us : List Token} → Texts m x y ts us → {p p2 : Value}
    → Moves m p p2 → {n n2 : ℕ} → n2 ≡ n → Opt (By (number_to m)) (number_at x ts p n) (number_at y us p2 n2)
number_at_moves told p_ n_ = map_moves _ _ (token_at_moves told p_ n_) (λ a a2 a_. number_of_moves told a_)

pub numeric_lit_moves : {m : Move} {x y : List ℕ} {ts us : List Token} → Texts m x y ts us → {minus minus2 : Bool}
    → minus2 ≡ minus → {r r2 : Range} → By (range_to m) r r2 → {t t2 : Token} → TokenMoves m ts t t2
    → Opt (By (ts_lit_to m)) (numeric_lit x minus r t) (numeric_lit y minus2 r2 t2)
unfolding numeric_lit
numeric_lit_moves {m = m} told minus_ r_ t_ =
    if_moves (ap (λ kind. same_kind kind k.Number) (kind_moves t_))
    (some (ts_lit_Number m minus_ (number_of_moves told t_) r_))
    (if_moves (ap (λ kind. same_kind kind k.BigInt) (kind_moves t_))
    (some (ts_lit_BigInt m minus_ (big_of_moves told t_) r_)) none)

pub computed_numeric_moves : {m : Move} {x y : List ℕ} {ts us : List Token} → Texts m x y ts us → {r r2 : Range}
    → By (range_to m) r r2 → {t t2 : Token} → TokenMoves m ts t t2
    → Opt (By (ts_key_to m)) (computed_numeric x r t) (computed_numeric y r2 t2)
unfolding computed_numeric
computed_numeric_moves {m = m} told r_ t_ =
    if_moves (ap (λ kind. same_kind kind k.Number) (kind_moves t_))
    (some (ts_key_ComputedNum m (number_of_moves told t_) r_))
    (if_moves (ap (λ kind. same_kind kind k.BigInt) (kind_moves t_))
    (some (ts_key_ComputedBigInt m (big_of_moves told t_) r_)) none)

pub signed_by_moves : {m : Move} {x y : List ℕ} {ts us : List Token} → Texts m x y ts us → {b b2 : Value}
    → Moves m b b2 → Opt Same (signed_by ts b) (signed_by us b2)
signed_by_moves told (pair v_ vs_) =
    given_moves (kind_at_moves told (pair v_ vs_) (same 0)) (λ a a2 a_. listed_moves _ a_)
signed_by_moves told gone = some (same sign.True)
signed_by_moves told over = some (same sign.True)
signed_by_moves told (leaf a) = some (same sign.True)
signed_by_moves told (made a b c) = some (same sign.True)

pub signed_in_moves : {m : Move} {x y : List ℕ} {ts us : List Token} → Texts m x y ts us → {b b2 : Value}
    → Moves m b b2 → Opt Same (signed_in ts b) (signed_in us b2)
signed_in_moves told (pair v_ vs_) = signed_by_moves told (as_group_moves v_)
signed_in_moves told gone = some (same sign.Absent)
signed_in_moves told over = some (same sign.Absent)
signed_in_moves told (leaf a) = some (same sign.Absent)
signed_in_moves told (made a b c) = some (same sign.Absent)
