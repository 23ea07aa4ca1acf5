-- What is kept of tokens of a text, and of the same tokens moved; lists with holes, and chains.
use Rattle.std.specs.Prelude.{ℕ, zero, suc, ◌+◌, ◌==◌, Bool, true, false, List, Option, Some, None, slice_get, slice_range, if◌then◌else◌}
use Rattle.std.proofs.Common.{◌≡◌, refl, sym, ap, ◌∙◌, subst}
use Rattle.base.specs.declared.range.Range.{Range}
use Rattle.es_token.specs.declared.token.Token.{Token}
use Rattle.es_token.specs.declared.token.TokenKind.TheVariants as k
use Rattle.es_literal.specs.Values.{value_of, is_lone}
use Rattle.grammar_theory.specs.Key.{same_kind}
use Rattle.es_ast.specs.declared.ts.leaf.Ident.{Ident}
use Rattle.es_ast.specs.declared.ts.leaf.Str.{Str}
use Rattle.es_ast.specs.declared.ts.leaf.Number.{Number}
use Rattle.es_ast.specs.declared.ts.leaf.BigInt.{BigInt}
use Rattle.es_ast.specs.declared.leaf.Regex.{Regex}
use Rattle.es_ast.specs.declared.ast.Expr.{Expr}
use Rattle.es_lowering.specs.Value.{Value}
use Rattle.es_lowering.specs.Texts.{start_of, end_of, end_before, span_of, ident_of, private_of, str_by, str_of, numeric_of, regex_of, piece_of, shebang_of, token_of}
use Rattle.es_lowering.specs.Operators.{kind_there}
use Rattle.es_lowering.specs.Expressions.{element_of, behind_element, elements, chained}
use Rattle.es_lowering.specs.TypeTexts.{marked, number_of, big_of}
use Rattle.es_law_edits.specs.moved.Move.{Move, range_to, put, put_by}
use Rattle.es_law_edits.specs.moved.Leaves.{ident_to, str_to, number_to, big_int_to, tpl_element_to}
use Rattle.es_law_edits.specs.moved.ModuleLeaves.{regex_to, lit_to}
use Rattle.es_law_edits.specs.moved.Trees.{expr_to}
use Rattle.es_law_edits.proofs.moved.Rel.{Same, By, Opt, none, some, Each, end, next, Fun}
use Rattle.es_law_edits.proofs.moved.Leaves.{range_made}
use Rattle.es_law_edits.proofs.moved.ModuleLeaves.{lit_Num, lit_BigInt}
use Rattle.es_law_edits.proofs.moved_lowering.Frame.{TokenMoves, Texts, kind_moves, place_moves, slice_get_moves, Moves, gone, over, pair, leaf, made, as_group_moves, part_moves, behind_moves, given_moves, map_moves, if_moves}

-- ---- spans
pub start_moves : (m : Move) {r r2 : Range} → By (range_to m) r r2 → By m.place r.start r2.start
unfolding range_to
start_moves m h = record { is = ap (λ (r : Range). r.start) h.is }

pub end_moves : (m : Move) {r r2 : Range} → By (range_to m) r r2 → By m.place r.end r2.end
unfolding range_to
end_moves m h = record { is = ap (λ (r : Range). r.end) h.is }

pub start_of_moves : {m : Move} {x y : List ℕ} {ts us : List Token} → Texts m x y ts us → {o p : Option Token}
    → Opt (TokenMoves m ts) o p → By m.place (start_of o) (start_of p)
start_of_moves told none = record { is = sym told.front }
start_of_moves told (some h) = start_moves _ (place_moves h)

pub end_of_moves : {m : Move} {x y : List ℕ} {ts us : List Token} → Texts m x y ts us → {o p : Option Token}
    → Opt (TokenMoves m ts) o p → By m.place (end_of o) (end_of p)
end_of_moves told none = record { is = sym told.front }
end_of_moves told (some h) = end_moves _ (place_moves h)

before : {m : Move} {x y : List ℕ} {ts us : List Token} → Texts m x y ts us → (n : ℕ)
    → By m.place (end_before ts n) (end_before us n)
unfolding end_before
before told zero = record { is = sym told.front }
before told (suc n) = end_of_moves told (slice_get_moves told n n refl)

pub end_before_moves : {m : Move} {x y : List ℕ} {ts us : List Token} → Texts m x y ts us → {n n2 : ℕ} → n2 ≡ n
    → By m.place (end_before ts n) (end_before us n2)
end_before_moves {us = us} told {n} {n2} e =
    record { is = ap (end_before us) e ∙ (before told n).is }

spanned : {m : Move} {x y : List ℕ} {ts us : List Token} → Texts m x y ts us → (from to : ℕ) (b : Bool)
    → By (range_to m)
    (if b then record { start = end_before ts from; end = end_before ts from }
    else record { start = start_of (slice_get ts from); end = end_before ts to })
    (if b then record { start = end_before us from; end = end_before us from }
    else record { start = start_of (slice_get us from); end = end_before us to })
spanned {m = m} told from to true = range_made m (before told from).is (before told from).is
spanned {m = m} told from to false =
    range_made m (start_of_moves told (slice_get_moves told from from refl)).is (before told to).is

span : {m : Move} {x y : List ℕ} {ts us : List Token} → Texts m x y ts us → (from to : ℕ)
    → By (range_to m) (span_of ts from to) (span_of us from to)
unfolding span_of
span told from to = spanned told from to (from == to)

pub span_of_moves : {m : Move} {x y : List ℕ} {ts us : List Token} → Texts m x y ts us → {from from2 : ℕ}
    → from2 ≡ from → {to to2 : ℕ} → to2 ≡ to → By (range_to m) (span_of ts from to) (span_of us from2 to2)
span_of_moves {us = us} told {from} {from2} e {to} {to2} f =
    record { is = ap (λ n. span_of us n to2) e ∙ (ap (span_of us from) f ∙ (span told from to).is) }

-- ---- the texts of tokens
abbrev ident_at : List ℕ → Range → Ident
ident_at s r = record { sym = s; ctxt = 0; optional = false; span = r }

pub ident_of_moves : {m : Move} {x y : List ℕ} {ts us : List Token} → Texts m x y ts us → {t u : Token}
    → TokenMoves m ts t u → By (ident_to m) (ident_of x t) (ident_of y u)
unfolding ident_of ident_to range_to
ident_of_moves {m = m} {y = y} told {t} {u} h = record {
  is = ap (ident_of y) h.same ∙ ap (λ s. ident_at s (range_to m t.range)) (told.slices h.at t h.there);
}

abbrev str_parts : List ℕ → Bool → Option (List ℕ) → Range → Str
str_parts v l s r = record { value = v; lone = l; raw = s; span = r }

put_literal : (m : Move) (o : Option (List ℕ)) (s : List ℕ) (r : Range)
    → str_by (put o s) r ≡ str_parts (put_by value_of o (value_of s)) (put_by is_lone o (is_lone s)) (Some (put o s)) r
put_literal m None s r = refl
put_literal m (Some t) s r = refl

pub str_of_moves : {m : Move} {x y : List ℕ} {ts us : List Token} → Texts m x y ts us → {t u : Token}
    → TokenMoves m ts t u → By (str_to m) (str_of x t) (str_of y u)
unfolding str_of str_to range_to
str_of_moves {m = m} {x = x} {y = y} told {t} {u} h = record {
  is = ap (str_of y) h.same
      ∙ (ap (λ s. str_by s (range_to m t.range)) (told.slices h.at t h.there)
      ∙ put_literal m (m.other t.range) (slice_range x t.range.start t.range.end) (range_to m t.range));
}

abbrev number_at : List ℕ → Range → Number
number_at s r = record { raw = s; span = r }

abbrev big_at : List ℕ → Range → BigInt
big_at s r = record { raw = s; span = r }

abbrev regex_at : List ℕ → Range → Regex
regex_at s r = record { raw = s; span = r }

numbered : {m : Move} {x y : List ℕ} {ts us : List Token} → Texts m x y ts us → {t u : Token} → TokenMoves m ts t u
    → By (number_to m) (number_at (slice_range x t.range.start t.range.end) t.range)
    (number_at (slice_range y u.range.start u.range.end) u.range)
unfolding number_to range_to
numbered {m = m} {y = y} told {t} {u} h = record {
  is = ap (λ (v : Token). number_at (slice_range y v.range.start v.range.end) v.range) h.same
      ∙ ap (λ s. number_at s (range_to m t.range)) (told.slices h.at t h.there);
}

big : {m : Move} {x y : List ℕ} {ts us : List Token} → Texts m x y ts us → {t u : Token} → TokenMoves m ts t u
    → By (big_int_to m) (big_at (slice_range x t.range.start t.range.end) t.range)
    (big_at (slice_range y u.range.start u.range.end) u.range)
unfolding big_int_to range_to
big {m = m} {y = y} told {t} {u} h = record {
  is = ap (λ (v : Token). big_at (slice_range y v.range.start v.range.end) v.range) h.same
      ∙ ap (λ s. big_at s (range_to m t.range)) (told.slices h.at t h.there);
}

pub number_of_moves : {m : Move} {x y : List ℕ} {ts us : List Token} → Texts m x y ts us → {t u : Token}
    → TokenMoves m ts t u → By (number_to m) (number_of x t) (number_of y u)
unfolding number_of
number_of_moves told h = numbered told h

pub big_of_moves : {m : Move} {x y : List ℕ} {ts us : List Token} → Texts m x y ts us → {t u : Token}
    → TokenMoves m ts t u → By (big_int_to m) (big_of x t) (big_of y u)
unfolding big_of
big_of_moves told h = big told h

pub numeric_of_moves : {m : Move} {x y : List ℕ} {ts us : List Token} → Texts m x y ts us → {t u : Token}
    → TokenMoves m ts t u → Opt (By (lit_to m)) (numeric_of x t) (numeric_of y u)
unfolding numeric_of
numeric_of_moves {m = m} told h =
    if_moves (ap (λ kind. same_kind kind k.Number) (kind_moves h)) (some (lit_Num m (numbered told h)))
    (if_moves (ap (λ kind. same_kind kind k.BigInt) (kind_moves h)) (some (lit_BigInt m (big told h))) none)

pub regex_of_moves : {m : Move} {x y : List ℕ} {ts us : List Token} → Texts m x y ts us → {t u : Token}
    → TokenMoves m ts t u → By (regex_to m) (regex_of x t) (regex_of y u)
unfolding regex_of regex_to range_to
regex_of_moves {m = m} {y = y} told {t} {u} h = record {
  is = ap (regex_of y) h.same ∙ ap (λ s. regex_at s (range_to m t.range)) (told.slices h.at t h.there);
}

pub private_of_moves : {m : Move} {x y : List ℕ} {ts us : List Token} → Texts m x y ts us → {t u : Token}
    → TokenMoves m ts t u → Opt (By (ident_to m)) (private_of x t) (private_of y u)
private_of_moves {m = m} {x = x} {y = y} told {t} {u} h =
    subst (λ (v : Token). Opt (By (ident_to m)) (private_of x t) (private_of y v)) (sym h.same)
    (told.privates h.at t h.there)

pub piece_of_moves : {m : Move} {x y : List ℕ} {ts us : List Token} → Texts m x y ts us → {t u : Token}
    → TokenMoves m ts t u → Opt (By (tpl_element_to m)) (piece_of x t) (piece_of y u)
piece_of_moves {m = m} {x = x} {y = y} told {t} {u} h =
    subst (λ (v : Token). Opt (By (tpl_element_to m)) (piece_of x t) (piece_of y v)) (sym h.same)
    (told.pieces h.at t h.there)

pub shebang_of_moves : {m : Move} {x y : List ℕ} {ts us : List Token} → Texts m x y ts us → {t u : Token}
    → TokenMoves m ts t u → Opt Same (shebang_of x t) (shebang_of y u)
shebang_of_moves {x = x} {y = y} told {t} {u} h =
    subst (λ (v : Token). Opt Same (shebang_of x t) (shebang_of y v)) (sym h.same) (told.shebangs h.at t h.there)

pub token_of_moves : {m : Move} {x y : List ℕ} {ts us : List Token} → Texts m x y ts us → {p q : Value}
    → Moves m p q → Opt (TokenMoves m ts) (token_of ts p) (token_of us q)
token_of_moves told gone = none
token_of_moves told over = none
token_of_moves told (pair h i) = none
token_of_moves told (leaf n) = slice_get_moves told n n refl
token_of_moves told (made from to h) = none

pub kind_there_moves : {m : Move} {x y : List ℕ} {ts us : List Token} → Texts m x y ts us → {n n2 : ℕ} → n2 ≡ n
    → Opt Same (kind_there ts n) (kind_there us n2)
kind_there_moves told e = map_moves _ _ (slice_get_moves told _ _ e) (λ t u h. kind_moves h)

-- a name with `?` or without
pub marked_moves : (m : Move) {mark mark2 : Bool} → mark2 ≡ mark → {name name2 : Ident} → By (ident_to m) name name2
    → By (ident_to m) (marked mark name) (marked mark2 name2)
unfolding ident_to
marked_moves m {mark2 = mark2} e {name} h =
    record { is = ap (marked mark2) h.is ∙ ap (λ b. marked b (ident_to m name)) e }

-- ---- elements, where there may be holes
element : {A C : Type 0} {R : A → C → Type 0} {m : Move} {x y : List ℕ} {ts us : List Token} → Texts m x y ts us
    → (hole : Range → A) (hole2 : Range → C)
    → ((r r2 : Range) → By (range_to m) r r2 → R (hole r) (hole2 r2))
    → {one : Value → ℕ → Option A} {one2 : Value → ℕ → Option C}
    → ((v w : Value) → Moves m v w → (n n2 : ℕ) → n2 ≡ n → Opt R (one v n) (one2 w n2))
    → {p p2 : Value} → Moves m p p2 → {at at2 : ℕ} → at2 ≡ at
    → Opt R (element_of hole one ts at p) (element_of hole2 one2 us at2 p2)
element told hole hole2 h one_ gone e = some (h _ _ (span_of_moves told e e))
element told hole hole2 h one_ over e = some (h _ _ (span_of_moves told e e))
element told hole hole2 h one_ (pair i j) e = one_ _ _ (pair i j) 0 0 refl
element told hole hole2 h one_ (leaf n) e = some (h _ _ (span_of_moves told e e))
element told hole hole2 h one_ (made from to i) e = some (h _ _ (span_of_moves told e e))

next_place : {m : Move} {p p2 : Value} → Moves m p p2 → {at at2 : ℕ} → at2 ≡ at
    → behind_element at2 p2 ≡ behind_element at p
next_place gone e = ap (λ n. n + 1) e
next_place over e = ap (λ n. n + 1) e
next_place (pair i j) e = ap (λ n. n + 1) (behind_moves i)
next_place (leaf n) e = ap (λ n. n + 1) e
next_place (made from to i) e = ap (λ n. n + 1) e

pub elements_moves : {A C : Type 0} {R : A → C → Type 0} {m : Move} {x y : List ℕ} {ts us : List Token}
    → Texts m x y ts us → (hole : Range → A) (hole2 : Range → C)
    → ((r r2 : Range) → By (range_to m) r r2 → R (hole r) (hole2 r2))
    → {one : Value → ℕ → Option A} {one2 : Value → ℕ → Option C}
    → ((v w : Value) → Moves m v w → (n n2 : ℕ) → n2 ≡ n → Opt R (one v n) (one2 w n2))
    → {p p2 : Value} → Moves m p p2 → {at at2 : ℕ} → at2 ≡ at
    → Opt (Each R) (elements hole one ts at p) (elements hole2 one2 us at2 p2)
elements_moves told hole hole2 h one_ gone e = some end
elements_moves told hole hole2 h one_ over e = some end
elements_moves told hole hole2 h one_ (pair i j) e =
    let first = as_group_moves (part_moves (as_group_moves i) {n = 0} refl) in
    given_moves (element told hole hole2 h one_ first e)
    (λ a c f. given_moves (elements_moves told hole hole2 h one_ j (next_place first e))
    (λ rest others es. some (next f es)))
elements_moves told hole hole2 h one_ (leaf n) e = some end
elements_moves told hole hole2 h one_ (made from to i) e = some end

-- ---- chains
pub chained_moves : (m : Move) {start start2 : ℕ} → By m.place start start2 → {obj obj2 : Expr}
    → By (expr_to m) obj obj2 → {posts posts2 : List (ℕ → Expr → Expr)}
    → Each (Fun (By m.place) (Fun (By (expr_to m)) (By (expr_to m)))) posts posts2
    → By (expr_to m) (chained start obj posts) (chained start2 obj2 posts2)
chained_moves m s h end = h
chained_moves m s h (next e es) = chained_moves m s (e _ _ s _ _ h) es
