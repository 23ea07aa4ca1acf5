-- Tokens that are no string literals: inside each all places move by one shift, and no change has its range.
use Rattle.std.specs.Prelude.{◌⊎◌, nat_le, slice_get, Some, None, if◌then◌else◌}
use Rattle.std.proofs.Common.{◌≡◌, ℕ, zero, suc, ◌+◌, ◌-◌, ◌<◌, ◌≤◌, Bool, true, false, ◌&&◌, ◌==◌, List, [], ◌∷◌, refl, sym, ◌∙◌, ap, arith, inl, inr, length}
use Rattle.std.proofs.lemmas.Bool.{ne_eqb}
use Rattle.std.proofs.lemmas.Bool.Decides.{nat_tests}
use Rattle.std.proofs.lemmas.Option.{none-some}
use Rattle.base.specs.declared.range.Range.{Range}
use Rattle.es_token.specs.declared.token.Token.{Token}
use Rattle.es_token.specs.declared.token.Comment.{Comment}
use Rattle.es_token.specs.declared.token.TokenKind.TheVariants.{Str}
use Rattle.es_lexer.specs.Reads.{Reads}
use Rattle.es_lexer.proofs.Theorems.{reads_within, reads_ascend}
use Rattle.source_text.specs.declared.text_changes.change.TextChange.{TextChange}
use Rattle.es_law_edits.specs.tokens.Moved.{added, removed, moved, is_range, Chosen}
use Rattle.es_law_edits.specs.trees.Changed.{new_at}

-- tokens aren't empty, and stand in order
pub record Ordered (ts : List Token) : Type 0 where
  pub within : (n : ℕ) (t : Token) → slice_get ts n ≡ Some t → t.range.start < t.range.end
  pub ascend : (n : ℕ) (t u : Token) → slice_get ts n ≡ Some t → slice_get ts (suc n) ≡ Some u
      → t.range.end ≤ u.range.start

pub ordered : (x : List ℕ) (ts : List Token) (cs : List Comment) → Reads x ts cs → Ordered ts
ordered x ts cs r = record {
  within = λ n t g. (reads_within x ts cs n t r g).0;
  ascend = λ n t u f g.
      let next : n + 1 ≡ suc n = omega arith in reads_ascend x ts cs n t u r f (ap (slice_get ts) next ∙ g);
}

others : (t : Token) (ts : List Token) → Ordered (t ∷ ts) → Ordered ts
others t ts h = record { within = λ n u g. h.within (suc n) u g; ascend = λ n u v f g. h.ascend (suc n) u v f g }

-- the first of them begins at this place or behind it
abbrev From : ℕ → List Token → Type 0
From low ts = (t : Token) → slice_get ts zero ≡ Some t → low ≤ t.range.start

others_from : (t : Token) (ts : List Token) → Ordered (t ∷ ts) → From t.range.end ts
others_from t ts h u g = h.ascend zero t u refl g

-- and so does each
all_from : (low : ℕ) (ts : List Token) (n : ℕ) (t : Token) → Ordered ts → From low ts → slice_get ts n ≡ Some t
    → low ≤ t.range.start
all_from low [] n t h f g = absurd (none-some t g)
all_from low (u ∷ us) zero t h f g = f t g
all_from low (u ∷ us) (suc n) t h f g =
    let first : low ≤ u.range.start = f u refl in
    let size : u.range.start < u.range.end = h.within zero u refl in
    let rest : u.range.end ≤ t.range.start = all_from u.range.end us n t (others u us h) (others_from u us h) g in
    omega (arith, first, size, rest)

-- ---- what a change adds and takes away at a place behind it, and before it
le_no : (e a : ℕ) → a < e → nat_le e a ≡ false
le_no e a l = grind (arith, nat_tests)

le_yes : (e a : ℕ) → e ≤ a → nat_le e a ≡ true
le_yes e a l = grind (arith, nat_tests)

le_or : (e a : ℕ) → (e ≤ a) ⊎ (a < e)
le_or e a = by (nat_le e a) refl
  where
    by : (b : Bool) → nat_le e a ≡ b → (e ≤ a) ⊎ (a < e)
    by true f = inl (grind (arith, nat_tests))
    by false f = inr (grind (arith, nat_tests))

added_by : (c : TextChange) (cs : List TextChange) (a : ℕ) → c.range.end ≤ a
    → added (c ∷ cs) a ≡ length c.new_text + added cs a
unfolding added
added_by c cs a l = let yes : nat_le c.range.end a ≡ true = le_yes c.range.end a l in rw yes refl

added_past : (c : TextChange) (cs : List TextChange) (a : ℕ) → a < c.range.end → added (c ∷ cs) a ≡ added cs a
unfolding added
added_past c cs a l = let never : nat_le c.range.end a ≡ false = le_no c.range.end a l in rw never (omega arith)

removed_by : (c : TextChange) (cs : List TextChange) (a : ℕ) → c.range.end ≤ a
    → removed (c ∷ cs) a ≡ c.range.end - c.range.start + removed cs a
unfolding removed
removed_by c cs a l = let yes : nat_le c.range.end a ≡ true = le_yes c.range.end a l in rw yes refl

removed_past : (c : TextChange) (cs : List TextChange) (a : ℕ) → a < c.range.end → removed (c ∷ cs) a ≡ removed cs a
unfolding removed
removed_past c cs a l = let never : nat_le c.range.end a ≡ false = le_no c.range.end a l in rw never (omega arith)

none_added : (a : ℕ) → added [] a ≡ 0
unfolding added
none_added a = refl

none_removed : (a : ℕ) → removed [] a ≡ 0
unfolding removed
none_removed a = refl

-- ---- changes of tokens behind a place don't move it
later_added : (a low : ℕ) (ts : List Token) (cs : List TextChange) → Ordered ts → From low ts → Chosen ts cs → a ≤ low
    → added cs a ≡ 0
later_added a low ts [] h f c l = none_added a
later_added a low [] (d ∷ ds) h f c l = absurd c
later_added a low (t ∷ ts) (d ∷ ds) h f (inl c) l =
    let first : low ≤ t.range.start = f t refl in
    let size : t.range.start < t.range.end = h.within zero t refl in
    let ends : d.range.end ≡ t.range.end = c.0.ends in
    added_past d ds a (omega (arith, first, size, ends, l))
    ∙ later_added a t.range.end ts ds (others t ts h) (others_from t ts h) c.1 (omega (arith, first, size, l))
later_added a low (t ∷ ts) (d ∷ ds) h f (inr c) l =
    let first : low ≤ t.range.start = f t refl in
    let size : t.range.start < t.range.end = h.within zero t refl in
    later_added a t.range.end ts (d ∷ ds) (others t ts h) (others_from t ts h) c (omega (arith, first, size, l))

later_removed : (a low : ℕ) (ts : List Token) (cs : List TextChange) → Ordered ts → From low ts → Chosen ts cs → a ≤ low
    → removed cs a ≡ 0
later_removed a low ts [] h f c l = none_removed a
later_removed a low [] (d ∷ ds) h f c l = absurd c
later_removed a low (t ∷ ts) (d ∷ ds) h f (inl c) l =
    let first : low ≤ t.range.start = f t refl in
    let size : t.range.start < t.range.end = h.within zero t refl in
    let ends : d.range.end ≡ t.range.end = c.0.ends in
    removed_past d ds a (omega (arith, first, size, ends, l))
    ∙ later_removed a t.range.end ts ds (others t ts h) (others_from t ts h) c.1 (omega (arith, first, size, l))
later_removed a low (t ∷ ts) (d ∷ ds) h f (inr c) l =
    let first : low ≤ t.range.start = f t refl in
    let size : t.range.start < t.range.end = h.within zero t refl in
    later_removed a t.range.end ts (d ∷ ds) (others t ts h) (others_from t ts h) c (omega (arith, first, size, l))

-- no more is taken away before a place than stands there
removed_most : (a low : ℕ) (ts : List Token) (cs : List TextChange) → Ordered ts → From low ts → Chosen ts cs → low ≤ a
    → removed cs a + low ≤ a
removed_most a low ts [] h f c l = let none = none_removed a in omega (arith, none, l)
removed_most a low [] (d ∷ ds) h f c l = absurd c
removed_most a low (t ∷ ts) (d ∷ ds) h f (inl c) l =
    let first : low ≤ t.range.start = f t refl in
    let size : t.range.start < t.range.end = h.within zero t refl in
    let starts : d.range.start ≡ t.range.start = c.0.starts in
    let ends : d.range.end ≡ t.range.end = c.0.ends in
    elim (le_or t.range.end a) [
      | inl behind ↦
          let one = removed_by d ds a (omega (arith, behind, ends)) in
          let rest = removed_most a t.range.end ts ds (others t ts h) (others_from t ts h) c.1 behind in
          omega (arith, one, rest, first, size, starts, ends)
      | inr before ↦
          let one = removed_past d ds a (omega (arith, before, ends)) in
          let none = later_removed a t.range.end ts ds (others t ts h) (others_from t ts h) c.1
          (omega (arith, before)) in
          omega (arith, one, none, l)
    ]
removed_most a low (t ∷ ts) (d ∷ ds) h f (inr c) l =
    let first : low ≤ t.range.start = f t refl in
    let size : t.range.start < t.range.end = h.within zero t refl in
    elim (le_or t.range.end a) [
      | inl behind ↦
          let rest = removed_most a t.range.end ts (d ∷ ds) (others t ts h) (others_from t ts h) c behind in
          omega (arith, rest, first, size)
      | inr before ↦
          let none =
          later_removed a t.range.end ts (d ∷ ds) (others t ts h) (others_from t ts h) c (omega (arith, before)) in
          omega (arith, none, l)
    ]

-- ---- inside a token that is no string literal
abbrev pub Other : Token → Type 0
Other t = t.kind ≡ Str → ⊥

same_added : (ts : List Token) (n : ℕ) (t : Token) (cs : List TextChange) (a : ℕ) → Ordered ts → Chosen ts cs
    → slice_get ts n ≡ Some t → Other t → t.range.start ≤ a → a ≤ t.range.end → added cs a ≡ added cs t.range.start
same_added ts n t [] a h c g never low high = none_added a ∙ sym (none_added t.range.start)
same_added [] n t (d ∷ ds) a h c g never low high = absurd c
same_added (u ∷ us) zero t (d ∷ ds) a h (inl c) g never low high =
    let same : u ≡ t = cc in absurd (never (ap (λ (v : Token). v.kind) (sym same) ∙ c.0.literal))
same_added (u ∷ us) zero t (d ∷ ds) a h (inr c) g never low high =
    let same : u ≡ t = cc in
    let ends : u.range.end ≡ t.range.end = ap (λ (v : Token). v.range.end) same in
    later_added a u.range.end us (d ∷ ds) (others u us h) (others_from u us h) c (omega (arith, ends, high))
    ∙ sym (later_added t.range.start u.range.end us (d ∷ ds) (others u us h) (others_from u us h) c
    (omega (arith, ends, low, high)))
same_added (u ∷ us) (suc n) t (d ∷ ds) a h (inl c) g never low high =
    let behind : u.range.end ≤ t.range.start =
    all_from u.range.end us n t (others u us h) (others_from u us h) g in
    let ends : d.range.end ≡ u.range.end = c.0.ends in
    added_by d ds a (omega (arith, behind, ends, low))
    ∙ (ap (λ k. length d.new_text + k) (same_added us n t ds a (others u us h) c.1 g never low high)
    ∙ sym (added_by d ds t.range.start (omega (arith, behind, ends))))
same_added (u ∷ us) (suc n) t (d ∷ ds) a h (inr c) g never low high =
    same_added us n t (d ∷ ds) a (others u us h) c g never low high

same_removed : (ts : List Token) (n : ℕ) (t : Token) (cs : List TextChange) (a : ℕ) → Ordered ts → Chosen ts cs
    → slice_get ts n ≡ Some t → Other t → t.range.start ≤ a → a ≤ t.range.end
    → removed cs a ≡ removed cs t.range.start
same_removed ts n t [] a h c g never low high = none_removed a ∙ sym (none_removed t.range.start)
same_removed [] n t (d ∷ ds) a h c g never low high = absurd c
same_removed (u ∷ us) zero t (d ∷ ds) a h (inl c) g never low high =
    let same : u ≡ t = cc in absurd (never (ap (λ (v : Token). v.kind) (sym same) ∙ c.0.literal))
same_removed (u ∷ us) zero t (d ∷ ds) a h (inr c) g never low high =
    let same : u ≡ t = cc in
    let ends : u.range.end ≡ t.range.end = ap (λ (v : Token). v.range.end) same in
    later_removed a u.range.end us (d ∷ ds) (others u us h) (others_from u us h) c (omega (arith, ends, high))
    ∙ sym (later_removed t.range.start u.range.end us (d ∷ ds) (others u us h) (others_from u us h) c
    (omega (arith, ends, low, high)))
same_removed (u ∷ us) (suc n) t (d ∷ ds) a h (inl c) g never low high =
    let behind : u.range.end ≤ t.range.start =
    all_from u.range.end us n t (others u us h) (others_from u us h) g in
    let ends : d.range.end ≡ u.range.end = c.0.ends in
    removed_by d ds a (omega (arith, behind, ends, low))
    ∙ (ap (λ k. d.range.end - d.range.start + k) (same_removed us n t ds a (others u us h) c.1 g never low high)
    ∙ sym (removed_by d ds t.range.start (omega (arith, behind, ends))))
same_removed (u ∷ us) (suc n) t (d ∷ ds) a h (inr c) g never low high =
    same_removed us n t (d ∷ ds) a (others u us h) c g never low high

first_place : (ts : List Token) → From 0 ts
first_place ts t g = omega arith

-- the places inside move as its start does
pub shifts : (ts : List Token) (n : ℕ) (t : Token) (cs : List TextChange) (a : ℕ) → Ordered ts → Chosen ts cs
    → slice_get ts n ≡ Some t → Other t → t.range.start ≤ a → a ≤ t.range.end
    → moved cs a + t.range.start ≡ moved cs t.range.start + a
unfolding moved
shifts ts n t cs a h c g never low high =
    let more = same_added ts n t cs a h c g never low high in
    let less = same_removed ts n t cs a h c g never low high in
    let most = removed_most t.range.start 0 ts cs h (first_place ts) c (omega arith) in
    omega (arith, more, less, most, low)

-- the start of the text stays
pub front_stays : (ts : List Token) (cs : List TextChange) → Ordered ts → Chosen ts cs → moved cs 0 ≡ 0
unfolding moved
front_stays ts cs h c =
    let more = later_added 0 0 ts cs h (first_place ts) c (omega arith) in
    let less = later_removed 0 0 ts cs h (first_place ts) c (omega arith) in
    omega (arith, more, less)

-- ---- no change has its range
other_start : (c r : Range) → (c.start ≡ r.start → ⊥) → is_range c r ≡ false
other_start c r differs = ap (λ (b : Bool). b && c.end == r.end) (ne_eqb c.start r.start differs)

passed : (c : TextChange) (cs : List TextChange) (r : Range) → is_range c.range r ≡ false
    → new_at (c ∷ cs) r ≡ new_at cs r
unfolding new_at
passed c cs r never = ap (λ (b : Bool). if b then Some c.new_text else new_at cs r) never

none_new : (r : Range) → new_at [] r ≡ None
unfolding new_at
none_new r = refl

later_new : (low : ℕ) (ts : List Token) (cs : List TextChange) (r : Range) → Ordered ts → From low ts → Chosen ts cs
    → r.start < low → new_at cs r ≡ None
later_new low ts [] r h f c l = none_new r
later_new low [] (d ∷ ds) r h f c l = absurd c
later_new low (t ∷ ts) (d ∷ ds) r h f (inl c) l =
    let first : low ≤ t.range.start = f t refl in
    let size : t.range.start < t.range.end = h.within zero t refl in
    let starts : d.range.start ≡ t.range.start = c.0.starts in
    passed d ds r (other_start d.range r (λ e. omega (arith, e, first, starts, l)))
    ∙ later_new t.range.end ts ds r (others t ts h) (others_from t ts h) c.1 (omega (arith, first, size, l))
later_new low (t ∷ ts) (d ∷ ds) r h f (inr c) l =
    let first : low ≤ t.range.start = f t refl in
    let size : t.range.start < t.range.end = h.within zero t refl in
    later_new t.range.end ts (d ∷ ds) r (others t ts h) (others_from t ts h) c (omega (arith, first, size, l))

pub no_new : (ts : List Token) (n : ℕ) (t : Token) (cs : List TextChange) → Ordered ts → Chosen ts cs
    → slice_get ts n ≡ Some t → Other t → new_at cs t.range ≡ None
no_new ts n t [] h c g never = none_new t.range
no_new [] n t (d ∷ ds) h c g never = absurd c
no_new (u ∷ us) zero t (d ∷ ds) h (inl c) g never =
    let same : u ≡ t = cc in absurd (never (ap (λ (v : Token). v.kind) (sym same) ∙ c.0.literal))
no_new (u ∷ us) zero t (d ∷ ds) h (inr c) g never =
    let same : u ≡ t = cc in
    let size : u.range.start < u.range.end = h.within zero u refl in
    let starts : u.range.start ≡ t.range.start = ap (λ (v : Token). v.range.start) same in
    later_new u.range.end us (d ∷ ds) t.range (others u us h) (others_from u us h) c (omega (arith, starts, size))
no_new (u ∷ us) (suc n) t (d ∷ ds) h (inl c) g never =
    let behind : u.range.end ≤ t.range.start =
    all_from u.range.end us n t (others u us h) (others_from u us h) g in
    let size : u.range.start < u.range.end = h.within zero u refl in
    let starts : d.range.start ≡ u.range.start = c.0.starts in
    passed d ds t.range (other_start d.range t.range (λ e. omega (arith, e, behind, size, starts)))
    ∙ no_new us n t ds (others u us h) c.1 g never
no_new (u ∷ us) (suc n) t (d ∷ ds) h (inr c) g never = no_new us n t (d ∷ ds) (others u us h) c g never
