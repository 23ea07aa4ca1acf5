-- How many tokens begin before a place, step by step.
use Rattle.std.proofs.Common.{◌≡◌, ℕ, ◌+◌, ◌<◌, ◌≤◌, max, Some, ap, ◌||◌, Bool, true, false, cond, ltb, List, [], ◌∷◌, length, get_or, refl, sym, ◌∙◌, arith, ◌⊎◌, inl, inr}
use Rattle.std.specs.List.{slice_get}
use Rattle.std.proofs.lemmas.List.Sums.{prefix_len-le-length, prefix_len_passes, prefix_len_stops}
use Rattle.es_token.specs.declared.token.Token.{Token}
use Rattle.es_comments.specs.declared.place.Past.{Past}
use Rattle.es_comments.specs.Standing.{stand_between, stand_at, begins_before, count_before, last_of, line_behind, line_between}
use Rattle.es_comments.specs.Steps.{IsPast}
use Rattle.es_comments.proofs.LineLemmas.{between_since}

lt_or_eq : (m n : ℕ) → m ≤ n → (m < n) ⊎ (m ≡ n)
lt_or_eq m n l = grind arith

-- the token behind the first so many begins before the place too
pub counts_more : (ts : List Token) (place n : ℕ) (d : Token) → n ≤ count_before ts place → n < length ts
    → (get_or ts n d).range.start < place → n + 1 ≤ count_before ts place
counts_more ts place n d l m s = by_cases (lt_or_eq n (count_before ts place) l)
  where
    by_cases : (n < count_before ts place) ⊎ (n ≡ count_before ts place) → n + 1 ≤ count_before ts place
    by_cases (inl k) = omega arith
    by_cases (inr e) =
        let k : count_before ts place < length ts = omega arith in
        let f : begins_before place (get_or ts (count_before ts place) d) ≡ false =
        prefix_len_stops (begins_before place) ts d k in
        let g : begins_before place (get_or ts n d) ≡ false = rw e f in
        absurd (grind (arith, g, s))

-- it doesn't
pub counts_end : (ts : List Token) (place n : ℕ) (d : Token) → n ≤ count_before ts place
    → place ≤ (get_or ts n d).range.start → n ≡ count_before ts place
counts_end ts place n d l s = by_cases (lt_or_eq n (count_before ts place) l)
  where
    by_cases : (n < count_before ts place) ⊎ (n ≡ count_before ts place) → n ≡ count_before ts place
    by_cases (inl k) =
        let f : begins_before place (get_or ts n d) ≡ true = prefix_len_passes (begins_before place) ts n d k in
        absurd (grind (arith, f, s))
    by_cases (inr e) = e

-- there is none
pub counts_all : (ts : List Token) (place n : ℕ) → n ≤ count_before ts place → length ts ≤ n
    → n ≡ count_before ts place
counts_all ts place n l m = omega (arith, prefix_len-le-length (begins_before place) ts)

-- none begins before the front
pub counts_none : (ts : List Token) → 0 ≡ count_before ts 0
counts_none [] = refl
counts_none (t ∷ ts) = rw (no t.range.start) refl
  where
    no : (n : ℕ) → ltb n 0 ≡ false
    no n = grind arith

-- no fewer begin before a later place
pub counts_on : (ts : List Token) (a b : ℕ) → a ≤ b → count_before ts a ≤ count_before ts b
counts_on [] a b l = omega arith
counts_on (t ∷ ts) a b l = by_cases (begins_before a t) (begins_before b t) (below t.range.start) (counts_on ts a b l)
  where
    below : (n : ℕ) → ltb n a ≡ true → ltb n b ≡ true
    below n h = grind (arith, h, l)

    by_cases : (p q : Bool) → (p ≡ true → q ≡ true) → count_before ts a ≤ count_before ts b
        → cond p (1 + count_before ts a) 0 ≤ cond q (1 + count_before ts b) 0
    by_cases true true h m = omega arith
    by_cases true false h m = let e : false ≡ true = h refl in absurd (cc)
    by_cases false q h m = omega arith

-- nothing was gone through yet
pub past_none : (x : List ℕ) (ts : List Token) → IsPast x ts (record { place = 0; passed = 0; line = false })
past_none x ts = record { passed = counts_none ts; line = refl }

-- a line end behind the last token, up to a later place
pub line_on : (x : List ℕ) (ts : List Token) (past : Past) (passed place : ℕ) (last : Token) → IsPast x ts past
    → past.place ≤ place → Some last ≡ last_of ts passed → passed ≡ past.passed
    → line_behind x (last_of ts passed) place
    ≡ (past.line || line_between x (max last.range.end past.place) place)
line_on x ts past passed place last is l some same =
    let old : past.line ≡ line_between x last.range.end past.place =
    is.line ∙ ap (λ n. line_behind x (last_of ts n) past.place) (sym same)
    ∙ ap (λ t. line_behind x t past.place) (sym some) in
    ap (λ t. line_behind x t place) (sym some) ∙ between_since x last.range.end past.place place l
    ∙ ap (λ b. b || line_between x (max last.range.end past.place) place) (sym old)

-- where a comment stands, by what was gone through
pub stands : (x : List ℕ) (ts : List Token) (past : Past) → IsPast x ts past
    → stand_between (last_of ts past.passed) (slice_get ts past.passed) past.line ≡ stand_at x ts past.place
stands x ts past is =
    ap (λ (b : Bool). stand_between (last_of ts past.passed) (slice_get ts past.passed) b) is.line
    ∙ ap (λ (n : ℕ). stand_between (last_of ts n) (slice_get ts n) (line_behind x (last_of ts n) past.place)) is.passed
