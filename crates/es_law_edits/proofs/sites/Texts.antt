-- Tokens and string literals of the text with the changes, and which of them have changed.
use Rattle.std.specs.Prelude.{Bool, true, false, ◌==◌, ◌&&◌, ◌||◌, bytes_eq, List, [], ◌∷◌, map, Option, Some, None, option_map, slice_get, ◌⊎◌, if◌then◌else◌}
use Rattle.std.proofs.Common.{◌≡◌, ℕ, zero, suc, ◌+◌, ◌-◌, ◌<◌, ◌≤◌, refl, sym, ap, ◌∙◌, subst, arith, inl, inr}
use Rattle.std.proofs.lemmas.Bool.{true≢false}
use Rattle.std.proofs.lemmas.Bool.Decides.{nat_tests}
use Rattle.std.proofs.lemmas.Option.{none-some, slice_get-map}
use Rattle.base.specs.declared.range.Range.{Range}
use Rattle.es_literal.specs.Values.{value_of}
use Rattle.es_token.specs.declared.token.Token.{Token}
use Rattle.es_token.specs.declared.token.Comment.{Comment}
use Rattle.es_token.specs.declared.token.TokenKind.TheVariants as k
use Rattle.es_lexer.specs.Reads as lexer
use Rattle.es_lexer.proofs.Theorems.{reads_within, reads_ascend}
use Rattle.grammar_theory.specs.Key.{same_kind}
use Rattle.es_ast.specs.declared.ts.leaf.Ident.{Ident}
use Rattle.es_ast.specs.declared.ts.leaf.Str.{Str}
use Rattle.es_ast.specs.declared.leaf.ModuleExportName.TheVariants as name
use Rattle.es_site.specs.declared.site.Site.{Site}
use Rattle.es_site.specs.Attributes.{spells}
use Rattle.es_lowering.specs.Texts.{ident_of, str_of, name_of}
use Rattle.source_text.specs.declared.text_changes.change.TextChange.{TextChange}
use Rattle.source_text.specs.text_changes.Changes as text
use Rattle.es_law_edits.specs.tokens.Moved.{is_range, moved, range_to, token_to, cut, text_to, Chosen}
use Rattle.es_law_edits.proofs.tokens.Theorems.{text_moves}
use Rattle.es_law_edits.specs.sites.Moved.{value_to, HasRange, AtSites}
use Rattle.es_law_edits.proofs.sites.Stands.{touched, Apart, Safe}
use Rattle.es_law_edits.proofs.sites.Attributes.{Reads, Keeps, value_in}
use Rattle.es_law_edits.proofs.sites.Own.{StrMoves, BothMove, neither, both, StrsMove}

abbrev pub edited : List ℕ → List TextChange → List ℕ
edited x changes = text.changed x 0 changes

abbrev pub tokens_to : List TextChange → List Token → List Token
tokens_to changes ts = map (token_to (moved changes)) ts

-- ---- string literals
chosen_value : (b : Bool) (t u v : List ℕ) → value_of u ≡ v
    → value_of (if b then t else u) ≡ (if b then value_of t else v)
chosen_value true t u v e = refl
chosen_value false t u v e = e

value_text : (changes : List TextChange) (x : List ℕ) (r : Range)
    → value_of (text_to changes x r) ≡ value_to changes r (value_of (cut x r))
unfolding text_to value_to
value_text [] x r = refl
value_text (c ∷ cs) x r =
    chosen_value (is_range c.range r) c.new_text (text_to cs x r) (value_to cs r (value_of (cut x r)))
    (value_text cs x r)

str_moves : (changes : List TextChange) (x y : List ℕ) (t : Token)
    → cut y (range_to (moved changes) t.range) ≡ text_to changes x t.range
    → StrMoves changes (str_of x t) (str_of y (token_to (moved changes) t))
unfolding str_of
str_moves changes x y t e = record { span = refl; value = ap value_of e ∙ value_text changes x t.range }

str_span : (x : List ℕ) (t : Token) → (str_of x t).span ≡ t.range
unfolding str_of
str_span x t = refl

at_token : (changes : List TextChange) (x y : List ℕ) (ts us : List Token) (n : ℕ) (o : Option Token)
    → slice_get ts n ≡ o → slice_get us n ≡ option_map (token_to (moved changes)) o
    → ((t : Token) → slice_get ts n ≡ Some t → cut y (range_to (moved changes) t.range) ≡ text_to changes x t.range)
    → BothMove changes ts n (suc n) (option_map (str_of x) (slice_get ts n)) (option_map (str_of y) (slice_get us n))
at_token changes x y ts us n None e f h =
    let P : Option Token → Type 0 =
    λ o. BothMove changes ts n (suc n) (option_map (str_of x) o) (option_map (str_of y) (slice_get us n)) in
    let Q : Option Token → Type 0 = λ o. BothMove changes ts n (suc n) None (option_map (str_of y) o) in
    subst P (sym e) (subst Q (sym f) neither)
at_token changes x y ts us n (Some t) e f h =
    let P : Option Token → Type 0 =
    λ o. BothMove changes ts n (suc n) (option_map (str_of x) o) (option_map (str_of y) (slice_get us n)) in
    let Q : Option Token → Type 0 = λ o. BothMove changes ts n (suc n) (Some (str_of x t)) (option_map (str_of y) o) in
    subst P (sym e) (subst Q (sym f)
    (both n t (omega arith) (omega arith) e (str_span x t) (str_moves changes x y t (h t e))))

pub strs_move : (x : List ℕ) (ts : List Token) (cs : List Comment) (changes : List TextChange) → lexer.Reads x ts cs
    → Chosen ts changes → StrsMove changes x ts (edited x changes) (tokens_to changes ts)
strs_move x ts cs changes r c n =
    at_token changes x (edited x changes) ts (tokens_to changes ts) n (slice_get ts n) refl
    (slice_get-map (token_to (moved changes)) ts n) (λ t at. text_moves x ts cs changes n t r c at)

-- ---- tokens that haven't changed
or_true : (a b : Bool) → (a || b) ≡ true → (a ≡ true) ⊎ (b ≡ true)
or_true true b e = inl refl
or_true false b e = inr e

untouched : (b : Bool) (changes : List TextChange) (t u v : List ℕ) → (b ≡ true → ⊥) → u ≡ v
    → (if b then t else u) ≡ v
untouched true changes t u v never e = absurd (never refl)
untouched false changes t u v never e = e

or_left : (a b : Bool) → a ≡ true → (a || b) ≡ true
or_left true b e = refl
or_left false b e = absurd (true≢false (sym e))

or_right : (a b : Bool) → b ≡ true → (a || b) ≡ true
or_right true b e = refl
or_right false b e = e

text_stays : (changes : List TextChange) (x : List ℕ) (r : Range) → (touched changes r ≡ true → ⊥)
    → text_to changes x r ≡ cut x r
unfolding text_to
text_stays [] x r never = refl
text_stays (c ∷ cs) x r never =
    untouched (is_range c.range r) cs c.new_text (text_to cs x r) (cut x r)
    (λ e. never (or_left (is_range c.range r) (touched cs r) e))
    (text_stays cs x r (λ e. never (or_right (is_range c.range r) (touched cs r) e)))

spells_if : (word : List ℕ) (b : Bool) (s t : Str) (i j : Ident) → t.value ≡ s.value → j.sym ≡ i.sym
    → spells word (if b then name.Str t else name.Ident j) ≡ spells word (if b then name.Str s else name.Ident i)
spells_if word true s t i j e f = ap (λ v. bytes_eq v word) e
spells_if word false s t i j e f = ap (λ v. bytes_eq v word) f

name_same : (word x y : List ℕ) (t : Token) (m : ℕ → ℕ) → cut y (range_to m t.range) ≡ cut x t.range
    → spells word (name_of y (token_to m t)) ≡ spells word (name_of x t)
unfolding name_of str_of ident_of
name_same word x y t m e =
    spells_if word (same_kind t.kind k.Str) (str_of x t) (str_of y (token_to m t)) (ident_of x t)
    (ident_of y (token_to m t)) (ap value_of e) e

ident_same : (word x y : List ℕ) (t : Token) (m : ℕ → ℕ) → cut y (range_to m t.range) ≡ cut x t.range
    → bytes_eq (ident_of y (token_to m t)).sym word ≡ bytes_eq (ident_of x t).sym word
unfolding ident_of
ident_same word x y t m e = ap (λ v. bytes_eq v word) e

value_same : (x y : List ℕ) (t : Token) (m : ℕ → ℕ) → cut y (range_to m t.range) ≡ cut x t.range
    → value_in (Some (str_of y (token_to m t))) ≡ value_in (Some (str_of x t))
unfolding str_of
value_same x y t m e = ap (λ v. Some (value_of v)) e

reads_same : (x y : List ℕ) (ts us : List Token) (o : Option Token) (m : ℕ → ℕ)
    → ((t : Token) → o ≡ Some t → cut y (range_to m t.range) ≡ cut x t.range)
    → Reads x y ts us o (option_map (token_to m) o)
reads_same x y ts us None m h = record { value = refl; spells = λ word. refl; word = λ word. refl }
reads_same x y ts us (Some t) m h = record {
  value = value_same x y t m (h t refl);
  spells = λ word. name_same word x y t m (h t refl);
  word = λ word. ident_same word x y t m (h t refl);
}

pub texts_stay : (x : List ℕ) (ts : List Token) (cs : List Comment) (changes : List TextChange) → lexer.Reads x ts cs
    → Chosen ts changes → Keeps changes x ts (edited x changes) (tokens_to changes ts)
texts_stay x ts cs changes r c n never =
    let y : List ℕ = edited x changes in
    let us : List Token = tokens_to changes ts in
    let P : Option Token → Type 0 = λ u. Reads x y ts us (slice_get ts n) u in
    subst P (sym (slice_get-map (token_to (moved changes)) ts n))
    (reads_same x y ts us (slice_get ts n) (moved changes)
    (λ t at. text_moves x ts cs changes n t r c at ∙ text_stays changes x t.range (λ touch. never t at touch)))

-- ---- tokens stand apart

-- what stands before an element
earlier : {X : Type 0} (xs : List X) (n : ℕ) (y : X) → slice_get xs (suc n) ≡ Some y
    → (x : X) × (slice_get xs n ≡ Some x)
earlier [] n y e = absurd (none-some y e)
earlier (x ∷ xs) zero y e = (x, refl)
earlier (x ∷ xs) (suc n) y e = earlier xs n y e

-- a token, and one some places behind it
behind_by : (x : List ℕ) (ts : List Token) (cs : List Comment) (m k : ℕ) (t u : Token) → lexer.Reads x ts cs
    → slice_get ts m ≡ Some t → slice_get ts (m + suc k) ≡ Some u → t.range.end ≤ u.range.start
behind_by x ts cs m zero t u reads f g =
    let place : m + 1 ≡ m + suc zero = omega arith in
    reads_ascend x ts cs m t u reads f (ap (slice_get ts) place ∙ g)
behind_by x ts cs m (suc k) t u reads f g =
    let place : suc (m + suc k) ≡ m + suc (suc k) = omega arith in
    let same : m + suc k + 1 ≡ m + suc (suc k) = omega arith in
    let found = earlier ts (m + suc k) u (ap (slice_get ts) place ∙ g) in
    let between : Token = found.0 in
    let here : slice_get ts (m + suc k) ≡ Some between = found.1 in
    let low : t.range.end ≤ between.range.start = behind_by x ts cs m k t between reads f here in
    let size : between.range.start < between.range.end = (reads_within x ts cs (m + suc k) between reads here).0 in
    let high : between.range.end ≤ u.range.start =
    reads_ascend x ts cs (m + suc k) between u reads here (ap (slice_get ts) same ∙ g) in
    omega (arith, low, size, high)

pub tokens_apart : (x : List ℕ) (ts : List Token) (cs : List Comment) → lexer.Reads x ts cs → Apart ts
tokens_apart x ts cs reads m n t u less f g same =
    let place : m + suc (n - suc m) ≡ n = omega (arith, less) in
    let behind : t.range.end ≤ u.range.start =
    behind_by x ts cs m (n - suc m) t u reads f (ap (slice_get ts) place ∙ g) in
    let size : t.range.start < t.range.end = (reads_within x ts cs m t reads f).0 in
    let starts : t.range.start ≡ u.range.start = ap (λ (r : Range). r.start) same in
    let bad : ⊥ = omega (arith, behind, size, starts) in bad

-- ---- changes of sites
both_true : (a b : Bool) → (a && b) ≡ true → (a ≡ true) × (b ≡ true)
both_true true b e = (refl, e)
both_true false b e = absurd (true≢false (sym e))

same_number : (a b : ℕ) → (a == b) ≡ true → a ≡ b
same_number a b e = grind (arith, nat_tests)

abbrev range_of : ℕ → ℕ → Range
range_of a b = record { start = a; end = b }

same_range : (a b c d : ℕ) → a ≡ c → b ≡ d → range_of a b ≡ range_of c d
same_range a b c d e f = ap (λ k. range_of k b) e ∙ ap (λ k. range_of c k) f

range_is : (r s : Range) → is_range r s ≡ true → r ≡ s
range_is r s e =
    let halves = both_true (r.start == s.start) (r.end == s.end) e in
    same_range r.start r.end s.start s.end (same_number r.start s.start halves.0) (same_number r.end s.end halves.1)

touched_site : (sites : List Site) (changes : List TextChange) (r : Range) → AtSites sites changes
    → touched changes r ≡ true → HasRange sites r
touched_site sites [] r h e = absurd (true≢false (sym e))
touched_site sites (c ∷ cs) r h e =
    elim (or_true (is_range c.range r) (touched cs r) e) [
      | inl here ↦ subst (HasRange sites) (range_is c.range r here) h.0
      | inr later ↦ touched_site sites cs r h.1 later
    ]

pub all_safe : (sites : List Site) (changes : List TextChange) (ts : List Token) (a b : ℕ) → AtSites sites changes
    → Safe changes ts a b sites
all_safe sites changes ts a b h n t low high at touch = touched_site sites changes t.range h touch
