-- Changes of string literals among the tokens of a text are in order, and none is faulty.
use Rattle.std.proofs.Common.{◌≡◌, ℕ, zero, suc, ◌+◌, ◌-◌, ◌<◌, ◌≤◌, Bool, true, false, ◌&&◌, List, [], ◌∷◌, length, get_or, slice_get, Some, None, refl, sym, ◌∙◌, ap, subst, arith, leb-true, ◌⊎◌, inl, inr}
use Rattle.std.specs.Prelude.{nat_le, nat_lt, slice_index}
use Rattle.std.specs.Str.{IsCharBoundary}
use Rattle.std.specs.Option.{option_or}
use Rattle.std.specs.Ordering.{is_lt, nat_cmp, ordering_then}
use Rattle.std.specs.Cmp.{nat_cmp_is}
use Rattle.std.specs.declared.cmp.Ordering.{Ordering}
use Rattle.std.specs.declared.cmp.Ordering.TheVariants.{Greater}
use Rattle.std.proofs.lemmas.Bool.Decides.{nat_tests}
use Rattle.std.proofs.lemmas.Grind.{get_or_tail}
use Rattle.std.proofs.lemmas.Option.{none-some, same_Some}
use Rattle.std.proofs.lemmas.List.{get_or_past}
use Rattle.std.proofs.lemmas.List.Sorted.{IsPermutation-refl}
use Rattle.es_token.specs.declared.token.Token.{Token}
use Rattle.es_lexer.specs.Pieces.{Piece, spelling}
use Rattle.source_text.specs.declared.text_changes.change.TextChange.{TextChange}
use Rattle.source_text.specs.text_changes.Changes.{is_before, AreInOrder, cuts_character, fault_of, first_fault}
use Rattle.es_law_edits.specs.tokens.Moved.{text_to, Replaces, Chosen}
use Rattle.es_law_edits.proofs.tokens.Texts.{other_start, passed, met}
use Rattle.es_law_edits.proofs.tokens.Places.{Changes, ends, kept, changed, string_bytes}

-- ---- each begins behind the one before it, and takes something away
abbrev pub Runs : ℕ → List TextChange → Type 0
Runs past [] = Unit {0}
Runs past (c ∷ cs) = (past ≤ c.range.start) × (c.range.start < c.range.end) × Runs c.range.end cs

pub runs : (past at : ℕ) (ps qs : List Piece) (cs : List TextChange) → past ≤ at → Changes at ps qs cs → Runs past cs
runs past at ps qs cs l (ends n) = tt
runs past at ps qs cs l (kept n p rs us ds h) = runs past (at + length (spelling p)) rs us ds (omega (arith, l)) h
runs past at ps qs cs l (changed n s t rs us ds i j h) =
    let some = string_bytes s i in
    (l, omega (arith, some), runs (at + length s) (at + length s) rs us ds (omega arith) h)

-- ---- and cuts no character
abbrev pub Cuts : List ℕ → List TextChange → Type 0
Cuts x [] = Unit {0}
Cuts x (c ∷ cs) = (cuts_character x c.range.start ≡ false) × (cuts_character x c.range.end ≡ false) × Cuts x cs

is_or_not : (b : Bool) → (b ≡ true) ⊎ (b ≡ false)
is_or_not true = inl refl
is_or_not false = inr refl

inside_none : (b : ℕ) → (128 ≤ b → 192 ≤ b) → (nat_le 128 b && nat_lt b 192) ≡ false
inside_none b begins =
    elim (is_or_not (nat_le 128 b)) [
      | inl least ↦
          let more : 192 ≤ b = begins (leb-true _ _ least) in
          let late : nat_lt b 192 ≡ false = grind (arith, nat_tests) in
          ap (λ (t : Bool). t && nat_lt b 192) least ∙ late
      | inr less ↦ ap (λ (t : Bool). t && nat_lt b 192) less
    ]

past_none : (x : List ℕ) (i : ℕ) → length x ≤ i → cuts_character x i ≡ false
past_none x i l = ap (λ b. nat_le 128 b && nat_lt b 192) (get_or_past x i 0 l)

inside : (i n : ℕ) → nat_le n i ≡ false → i < n
inside i n e = grind (arith, nat_tests)

boundary_none : (x : List ℕ) (i : ℕ) → IsCharBoundary x i → cuts_character x i ≡ false
boundary_none x i h =
    elim (is_or_not (nat_le (length x) i)) [
      | inl past ↦ past_none x i (leb-true _ _ past)
      | inr within ↦ inside_none (slice_index x i) (h.1 (inside i (length x) within))
    ]

abbrev pub Bounds : List ℕ → List Token → Type 0
Bounds x ts = (n : ℕ) (t : Token) → slice_get ts n ≡ Some t
    → IsCharBoundary x t.range.start × IsCharBoundary x t.range.end

pub cuts_none : (x : List ℕ) (ts : List Token) (cs : List TextChange) → Bounds x ts → Chosen ts cs → Cuts x cs
cuts_none x ts [] b h = tt
cuts_none x [] (c ∷ cs) b h = absurd h
cuts_none x (t ∷ ts) (c ∷ cs) b (inl h) =
    let r : Replaces t c = h.0 in
    let both : IsCharBoundary x t.range.start × IsCharBoundary x t.range.end = b 0 t refl in (
      ap (cuts_character x) r.starts ∙ boundary_none x t.range.start both.0,
      ap (cuts_character x) r.ends ∙ boundary_none x t.range.end both.1,
      cuts_none x ts cs (λ n u g. b (suc n) u g) h.1,
    )
cuts_none x (t ∷ ts) (c ∷ cs) b (inr h) = cuts_none x ts (c ∷ cs) (λ n u g. b (suc n) u g) h

-- ---- so none is faulty
not_less : (a b : ℕ) → b ≤ a → nat_lt a b ≡ false
not_less a b l = grind (arith, nat_tests)

no_fault : (x : List ℕ) (past number : ℕ) (c : TextChange) → past ≤ c.range.start → c.range.start < c.range.end
    → cuts_character x c.range.start ≡ false → cuts_character x c.range.end ≡ false → fault_of x past number c ≡ None
no_fault x past number c l m s e =
    let order : nat_lt c.range.end c.range.start ≡ false = not_less _ _ (omega (arith, m)) in
    let behind : nat_lt c.range.start past ≡ false = not_less _ _ l in
    rw (order, behind, s, e) refl

pub faultless : (x : List ℕ) (past number : ℕ) (cs : List TextChange) → Runs past cs → Cuts x cs
    → first_fault x past number cs ≡ None
faultless x past number [] r c = refl
faultless x past number (d ∷ ds) r c =
    ap (λ f. option_or f (first_fault x d.range.end (number + 1) ds)) (no_fault x past number d r.0 r.1 c.0 c.1)
    ∙ faultless x d.range.end (number + 1) ds r.2 c.2

-- ---- and they are in order as they stand
later : (c d : TextChange) → c.range.start < d.range.start → is_before d c ≡ false
later c d l =
    ap (λ (o : Ordering). is_lt (ordering_then o (nat_cmp d.range.end c.range.end)))
    (sym (nat_cmp_is d.range.start c.range.start Greater l))

sorted : (past : ℕ) (cs : List TextChange) → Runs past cs → (k : ℕ) (d : TextChange) → k + 1 < length cs
    → is_before (get_or cs (k + 1) d) (get_or cs k d) ≡ false
sorted past [] r k d l = absurd (omega (arith, l))
sorted past (c ∷ []) r k d l = absurd (omega (arith, l))
sorted past (c ∷ e ∷ cs) r zero d l = later c e (omega (arith, r.1, r.2.0))
sorted past (c ∷ e ∷ cs) r (suc k) d l =
    let one : get_or (c ∷ e ∷ cs) (suc k + 1) d ≡ get_or (e ∷ cs) (k + 1) d =
    get_or_tail c (e ∷ cs) (suc k + 1) d (omega arith)
    ∙ ap (λ n. get_or (e ∷ cs) n d) (let back : suc k + 1 - 1 ≡ k + 1 = omega arith in back) in
    ap (λ (f : TextChange). is_before f (get_or (e ∷ cs) k d)) one
    ∙ sorted c.range.end (e ∷ cs) r.2 k d (omega (arith, l))

pub in_order : (past : ℕ) (cs : List TextChange) → Runs past cs → AreInOrder cs cs
in_order past cs r = record {
  same = IsPermutation-refl cs;
  ascending = λ k d low inside. sorted past cs r k d inside;
  stable = λ x. refl;
}

-- ---- each change has its own range
runs_low : (past : ℕ) (cs : List TextChange) (k : ℕ) (c : TextChange) → Runs past cs → slice_get cs k ≡ Some c
    → past ≤ c.range.start
runs_low past [] k c r at = absurd (none-some c at)
runs_low past (d ∷ ds) zero c r at = subst (λ (e : TextChange). past ≤ e.range.start) (same_Some d c at) r.0
runs_low past (d ∷ ds) (suc k) c r at =
    let low : d.range.end ≤ c.range.start = runs_low d.range.end ds k c r.2 at in omega (arith, low, r.0, r.1)

own_text : (c : TextChange) (cs : List TextChange) (x : List ℕ) → text_to (c ∷ cs) x c.range ≡ c.new_text
own_text c cs x = met c.range.start c.range.end c.new_text cs x

pub told : (past : ℕ) (cs : List TextChange) (x : List ℕ) (k : ℕ) (c : TextChange) → Runs past cs
    → slice_get cs k ≡ Some c → text_to cs x c.range ≡ c.new_text
told past [] x k c r at = absurd (none-some c at)
told past (d ∷ ds) x zero c r at =
    subst (λ (e : TextChange). text_to (d ∷ ds) x e.range ≡ e.new_text) (same_Some d c at) (own_text d ds x)
told past (d ∷ ds) x (suc k) c r at =
    let low : d.range.end ≤ c.range.start = runs_low d.range.end ds k c r.2 at in
    passed d ds x c.range (other_start d.range c.range (λ e. omega (arith, e, low, r.1)))
    ∙ told d.range.end ds x k c r.2 at

-- and its own token
pub chosen_token : (ts : List Token) (cs : List TextChange) (k : ℕ) (c : TextChange) → Chosen ts cs
    → slice_get cs k ≡ Some c → (n : ℕ) × (t : Token) × (slice_get ts n ≡ Some t) × Replaces t c
chosen_token ts [] k c h at = absurd (none-some c at)
chosen_token [] (d ∷ ds) k c h at = absurd h
chosen_token (t ∷ ts) (d ∷ ds) zero c (inl h) at = (0, t, refl, subst (Replaces t) (same_Some d c at) h.0)
chosen_token (t ∷ ts) (d ∷ ds) (suc k) c (inl h) at =
    let found = chosen_token ts ds k c h.1 at in (suc found.0, found.1, found.2, found.3)
chosen_token (t ∷ ts) (d ∷ ds) k c (inr h) at =
    let found = chosen_token ts (d ∷ ds) k c h at in (suc found.0, found.1, found.2, found.3)
