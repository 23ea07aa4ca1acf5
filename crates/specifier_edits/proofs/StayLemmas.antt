-- Sites in comments stay: they stand before the first token, and so before every change.
use Rattle.std.proofs.Common.{◌≡◌, ℕ, suc, ◌+◌, ◌-◌, ◌<◌, ◌≤◌, Bool, true, false, not, List, [], ◌∷◌, ◌++◌, length, map, slice_get, Option, Some, None, refl, sym, ◌∙◌, ap, subst, arith, leb-true, ◌⊎◌, inl, inr, if◌then◌else◌}
use Rattle.std.specs.Prelude.{nat_le, option_map, option_to_list}
use Rattle.std.specs.List.{flat_map}
use Rattle.std.proofs.lemmas.Bool.{true≢false}
use Rattle.std.proofs.lemmas.Bool.Decides.{nat_tests}
use Rattle.std.proofs.lemmas.Option.{none-some, same_Some}
use Rattle.es_literal.specs.Strings.{IsString}
use Rattle.es_token.specs.declared.token.Token.{Token}
use Rattle.es_token.specs.declared.token.Comment.{Comment}
use Rattle.es_token.specs.declared.token.TokenKind.TheVariants.{Str}
use Rattle.es_lexer.specs.Reads.{Reads}
use Rattle.es_lexer.proofs.Theorems.{reads_within, reads_ascend}
use Rattle.es_site.specs.declared.site.Site.{Site}
use Rattle.es_references.specs.References.{reference_of, is_shebang, first_token, sites_before, references_of}
use Rattle.source_text.specs.declared.text_changes.change.TextChange.{TextChange}
use Rattle.es_law_edits.specs.tokens.Moved.{added, removed, moved, token_to, comment_to, Replaces, Chosen}

is_or_not : (b : Bool) → (b ≡ true) ⊎ (b ≡ false)
is_or_not true = inl refl
is_or_not false = inr refl

le_no : (a b : ℕ) → b < a → nat_le a b ≡ false
le_no a b l = grind (arith, nat_tests)

over : (a b : ℕ) → nat_le a b ≡ false → b < a
over a b e = grind (arith, nat_tests)

-- ---- changes behind a place
abbrev Runs : ℕ → List TextChange → Type 0
Runs past [] = Unit {0}
Runs past (c ∷ cs) =
    (past ≤ c.range.start) × (c.range.start < c.range.end) × (0 < length c.new_text) × Runs c.range.end cs

none_added : (past b : ℕ) (cs : List TextChange) → Runs past cs → b ≤ past → added cs b ≡ 0
unfolding added
none_added past b [] r l = refl
none_added past b (c ∷ cs) r l =
    let no : nat_le c.range.end b ≡ false = le_no c.range.end b (omega (arith, l, r.0, r.1)) in
    let others = none_added c.range.end b cs r.3 (omega (arith, l, r.0, r.1)) in
    rw (no, others) refl

none_removed : (past b : ℕ) (cs : List TextChange) → Runs past cs → b ≤ past → removed cs b ≡ 0
unfolding removed
none_removed past b [] r l = refl
none_removed past b (c ∷ cs) r l =
    let no : nat_le c.range.end b ≡ false = le_no c.range.end b (omega (arith, l, r.0, r.1)) in
    let others = none_removed c.range.end b cs r.3 (omega (arith, l, r.0, r.1)) in
    rw (no, others) refl

added_by : (t : Bool) (c : TextChange) (cs : List TextChange) (b : ℕ) → nat_le c.range.end b ≡ t
    → added (c ∷ cs) b ≡ (if t then length c.new_text else 0) + added cs b
unfolding added
added_by t c cs b e = ap (λ (u : Bool). (if u then length c.new_text else 0) + added cs b) e

removed_by : (t : Bool) (c : TextChange) (cs : List TextChange) (b : ℕ) → nat_le c.range.end b ≡ t
    → removed (c ∷ cs) b ≡ (if t then c.range.end - c.range.start else 0) + removed cs b
unfolding removed
removed_by t c cs b e = ap (λ (u : Bool). (if u then c.range.end - c.range.start else 0) + removed cs b) e

-- they take away nothing before it
low : (past b : ℕ) (cs : List TextChange) → Runs past cs → past ≤ b → removed cs b + past ≤ b
low past b [] r l = let none = none_removed b b [] tt (omega arith) in omega (arith, l, none)
low past b (c ∷ cs) r l =
    elim (is_or_not (nat_le c.range.end b)) [
      | inl so ↦
          let inside : c.range.end ≤ b = leb-true _ _ so in
          let first = removed_by true c cs b so in
          let rest = low c.range.end b cs r.3 inside in
          omega (arith, first, rest, r.0, r.1)
      | inr not_yet ↦
          let outside : b < c.range.end = over c.range.end b not_yet in
          let first = removed_by false c cs b not_yet in
          let rest = none_removed c.range.end b cs r.3 (omega (arith, outside)) in
          omega (arith, first, rest, l)
    ]

kept : (past b : ℕ) (cs : List TextChange) → Runs past cs → b ≤ past → moved cs b ≡ b
unfolding moved
kept past b cs r l =
    let p = none_added past b cs r l in
    let q = none_removed past b cs r l in
    let e : b + added cs b - removed cs b ≡ b = omega (arith, p, q) in e

moved_is : (cs : List TextChange) (b : ℕ) → moved cs b ≡ b + added cs b - removed cs b
unfolding moved
moved_is cs b = refl

above : (past b : ℕ) (cs : List TextChange) → Runs past cs → past < b → past < moved cs b
above past b [] r l = let e = kept b b [] tt (omega arith) in omega (arith, e, l)
above past b (c ∷ cs) r l =
    elim (is_or_not (nat_le c.range.end b)) [
      | inl so ↦
          let first = added_by true c cs b so in
          let left = low past b (c ∷ cs) r (omega (arith, l)) in
          let e = moved_is (c ∷ cs) b in
          omega (arith, first, left, e, r.2)
      | inr not_yet ↦
          let outside : b < c.range.end = over c.range.end b not_yet in
          let p = added_by false c cs b not_yet in
          let q = removed_by false c cs b not_yet in
          let v = none_added c.range.end b cs r.3 (omega (arith, outside)) in
          let w = none_removed c.range.end b cs r.3 (omega (arith, outside)) in
          let e = moved_is (c ∷ cs) b in
          omega (arith, p, q, v, w, e, l)
    ]

-- ---- tokens stand apart
abbrev Apart : ℕ → List Token → Type 0
Apart past [] = Unit {0}
Apart past (t ∷ ts) = (past ≤ t.range.start) × (t.range.start < t.range.end) × Apart t.range.end ts

apart_low : (a b : ℕ) (ts : List Token) → a ≤ b → Apart b ts → Apart a ts
apart_low a b [] l h = tt
apart_low a b (t ∷ ts) l h = (omega (arith, l, h.0), h.1, h.2)

apart_by : (past : ℕ) (ts : List Token)
    → ((n : ℕ) (t : Token) → slice_get ts n ≡ Some t → t.range.start < t.range.end)
    → ((n : ℕ) (t u : Token) → slice_get ts n ≡ Some t → slice_get ts (suc n) ≡ Some u → t.range.end ≤ u.range.start)
    → ((t : Token) → slice_get ts 0 ≡ Some t → past ≤ t.range.start) → Apart past ts
apart_by past [] f g h = tt
apart_by past (t ∷ ts) f g h = (
  h t refl,
  f 0 t refl,
  apart_by t.range.end ts (λ n u e. f (suc n) u e) (λ n u v e k. g (suc n) u v e k) (λ u e. g 0 t u refl e),
)

apart_of : (x : List ℕ) (ts : List Token) (cs : List Comment) → Reads x ts cs → Apart 0 ts
apart_of x ts cs r =
    apart_by 0 ts (λ n t e. (reads_within x ts cs n t r e).0)
    (λ n t u e k. let place : n + 1 ≡ suc n = omega arith in
    reads_ascend x ts cs n t u r e (ap (slice_get ts) place ∙ k))
    (λ t e. omega arith)

filled : (s : List ℕ) (b : ℕ) (rest : List ℕ) → s ≡ b ∷ rest → 0 < length s
filled [] b rest e = absurd (let no : ⊥ = cc in no)
filled (c ∷ s) b rest e = omega arith

string_filled : (s : List ℕ) → IsString s → 0 < length s
string_filled s i = filled s i.quote _ i.whole

runs : (past : ℕ) (ts : List Token) (cs : List TextChange) → Apart past ts → Chosen ts cs → Runs past cs
runs past ts [] a h = tt
runs past [] (c ∷ cs) a h = absurd h
runs past (t ∷ ts) (c ∷ cs) a (inl h) =
    let r : Replaces t c = h.0 in
    let rest : Runs c.range.end cs = subst (λ n. Runs n cs) (sym r.ends) (runs t.range.end ts cs a.2 h.1) in
    let starts : c.range.start ≡ t.range.start = r.starts in
    let ends : c.range.end ≡ t.range.end = r.ends in
    (omega (arith, starts, a.0), omega (arith, starts, ends, a.1), string_filled c.new_text r.other, rest)
runs past (t ∷ ts) (c ∷ cs) a (inr h) =
    runs past ts (c ∷ cs) (apart_low past t.range.end ts (omega (arith, a.0, a.1)) a.2) h

-- ---- the first change is not before the first token
abbrev Starts : ℕ → List TextChange → Type 0
Starts n [] = Unit {0}
Starts n (c ∷ cs) = n ≤ c.range.start

starts : (n : ℕ) (ts : List Token) (cs : List TextChange) → Apart n ts → Chosen ts cs → Starts n cs
starts n ts [] a h = tt
starts n [] (c ∷ cs) a h = absurd h
starts n (t ∷ ts) (c ∷ cs) a (inl h) =
    let r : Replaces t c = h.0 in
    let same : c.range.start ≡ t.range.start = r.starts in omega (arith, same, a.0)
starts n (t ∷ ts) (c ∷ cs) a (inr h) =
    let rest : t.range.end ≤ c.range.start = starts t.range.end ts (c ∷ cs) a.2 h in omega (arith, rest, a.0, a.1)

str_no_shebang : is_shebang Str ≡ false
str_no_shebang = refl

first_of : (shebang : Bool) (t : Token) (ts : List Token) → is_shebang t.kind ≡ shebang
    → first_token (t ∷ ts) ≡ (if shebang then first_token ts else Some t)
first_of true t ts e = ap (λ (b : Bool). if not b then Some t else first_token ts) e
first_of false t ts e = ap (λ (b : Bool). if not b then Some t else first_token ts) e

no_str : (t : Token) → is_shebang t.kind ≡ true → t.kind ≡ Str → ⊥
no_str t e str = true≢false (sym e ∙ (ap is_shebang str ∙ str_no_shebang))

starts_behind : (n : ℕ) (t : Token) (ts : List Token) (cs : List TextChange) → Apart n (t ∷ ts) → Chosen (t ∷ ts) cs
    → Starts t.range.start cs
starts_behind n t ts cs a h = starts t.range.start (t ∷ ts) cs (omega arith, a.1, a.2) h

shebang_first : (t : Token) (ts : List Token) (c : TextChange) (cs : List TextChange) (n : ℕ)
    → Chosen (t ∷ ts) (c ∷ cs) → is_shebang t.kind ≡ true → (Chosen ts (c ∷ cs) → n ≤ c.range.start)
    → n ≤ c.range.start
shebang_first t ts c cs n (inl h) is k = let r : Replaces t c = h.0 in absurd (no_str t is r.literal)
shebang_first t ts c cs n (inr h) is k = k h

first_starts : (n : ℕ) (ts : List Token) (cs : List TextChange) (first : Token) → Apart n ts → Chosen ts cs
    → first_token ts ≡ Some first → Starts first.range.start cs
first_starts n [] cs first a h e = absurd (none-some first e)
first_starts n (t ∷ ts) [] first a h e = tt
first_starts n (t ∷ ts) (c ∷ cs) first a h e =
    elim (is_or_not (is_shebang t.kind)) [
      | inl so ↦ shebang_first t ts c cs first.range.start h so
          (λ k. first_starts t.range.end ts (c ∷ cs) first a.2 k (sym (first_of true t ts so) ∙ e))
      | inr other ↦
          subst (λ (u : Token). u.range.start ≤ c.range.start) (same_Some t first (sym (first_of false t ts other) ∙ e))
          (starts_behind n t ts (c ∷ cs) a h)
    ]

shebang_none : (t : Token) (ts : List Token) (c : TextChange) (cs : List TextChange) → Chosen (t ∷ ts) (c ∷ cs)
    → is_shebang t.kind ≡ true → (Chosen ts (c ∷ cs) → c ∷ cs ≡ []) → c ∷ cs ≡ []
shebang_none t ts c cs (inl h) is k = let r : Replaces t c = h.0 in absurd (no_str t is r.literal)
shebang_none t ts c cs (inr h) is k = k h

none_first : (ts : List Token) (cs : List TextChange) → Chosen ts cs → first_token ts ≡ None → cs ≡ []
none_first ts [] h e = refl
none_first [] (c ∷ cs) h e = absurd h
none_first (t ∷ ts) (c ∷ cs) h e =
    elim (is_or_not (is_shebang t.kind)) [
      | inl so ↦ shebang_none t ts c cs h so
          (λ k. none_first ts (c ∷ cs) k (sym (first_of true t ts so) ∙ e))
      | inr other ↦ absurd (none-some t (sym e ∙ first_of false t ts other))
    ]

first_moves : (m : ℕ → ℕ) (ts : List Token)
    → first_token (map (token_to m) ts) ≡ option_map (token_to m) (first_token ts)
first_moves m [] = refl
first_moves m (t ∷ ts) =
    elim (is_or_not (is_shebang t.kind)) [
      | inl so ↦ first_of true (token_to m t) (map (token_to m) ts) so
          ∙ (first_moves m ts ∙ ap (option_map (token_to m)) (sym (first_of true t ts so)))
      | inr other ↦ first_of false (token_to m t) (map (token_to m) ts) other
          ∙ ap (option_map (token_to m)) (sym (first_of false t ts other))
    ]

-- ---- comments
abbrev Stays : List TextChange → Option Token → Comment → Type 0
Stays changes first c =
    sites_before (option_map (token_to (moved changes)) first) (comment_to (moved changes) c) ≡ sites_before first c

abbrev sites_if : Bool → Comment → ℕ → List Site
sites_if b c end = if b then option_to_list (reference_of c.kind end c.text) else []

stays_none : (c : Comment) → Stays [] None c
stays_none c = ap (sites_if true c) (kept c.range.end c.range.end [] tt (omega arith))

stays_some : (changes : List TextChange) (t : Token) (c : Comment) → Runs t.range.start changes
    → Stays changes (Some t) c
stays_some changes t c r =
    let first : moved changes t.range.start ≡ t.range.start =
    kept t.range.start t.range.start changes r (omega arith) in
    elim (is_or_not (nat_le c.range.end t.range.start)) [
      | inl before ↦
          let end : moved changes c.range.end ≡ c.range.end =
          kept t.range.start c.range.end changes r (leb-true _ _ before) in
          ap (λ n. sites_if (nat_le (moved changes c.range.end) n) c (moved changes c.range.end)) first
          ∙ ap (λ n. sites_if (nat_le n t.range.start) c n) end
      | inr behind ↦
          let less : t.range.start < moved changes c.range.end =
          above t.range.start c.range.end changes r (over c.range.end t.range.start behind) in
          let late : nat_le (moved changes c.range.end) (moved changes t.range.start) ≡ false =
          le_no _ _ (omega (arith, less, first)) in
          ap (λ b. sites_if b c (moved changes c.range.end)) late ∙ sym (ap (λ b. sites_if b c c.range.end) behind)
    ]

all_stay : (changes : List TextChange) (first : Option Token) (cs : List Comment)
    → ((c : Comment) → Stays changes first c)
    → flat_map (sites_before (option_map (token_to (moved changes)) first)) (map (comment_to (moved changes)) cs)
    ≡ flat_map (sites_before first) cs
all_stay changes first [] h = refl
all_stay changes first (c ∷ cs) h =
    ap (λ ss. ss ++ flat_map (sites_before (option_map (token_to (moved changes)) first))
    (map (comment_to (moved changes)) cs))
    (h c) ∙ ap (λ ss. sites_before first c ++ ss) (all_stay changes first cs h)

from_start : (past n : ℕ) (cs : List TextChange) → Runs past cs → Starts n cs → Runs n cs
from_start past n [] r s = tt
from_start past n (c ∷ cs) r s = (s, r.1, r.2, r.3)

stay_by : (x : List ℕ) (ts : List Token) (cs : List Comment) (changes : List TextChange) (first : Option Token)
    → Reads x ts cs → Chosen ts changes → first_token ts ≡ first → (c : Comment) → Stays changes first c
stay_by x ts cs changes None r h e c =
    subst (λ (ds : List TextChange). Stays ds None c) (sym (none_first ts changes h e)) (stays_none c)
stay_by x ts cs changes (Some t) r h e c =
    let apart = apart_of x ts cs r in
    stays_some changes t c (from_start 0 t.range.start changes (runs 0 ts changes apart h)
    (first_starts 0 ts changes t apart h e))

pub references_stay : (x : List ℕ) (ts : List Token) (cs : List Comment) (changes : List TextChange) → Reads x ts cs
    → Chosen ts changes
    → references_of (map (token_to (moved changes)) ts) (map (comment_to (moved changes)) cs) ≡ references_of ts cs
unfolding references_of
references_stay x ts cs changes r h =
    ap (λ (first : Option Token). flat_map (sites_before first) (map (comment_to (moved changes)) cs))
    (first_moves (moved changes) ts)
    ∙ all_stay changes (first_token ts) cs (stay_by x ts cs changes (first_token ts) r h refl)
