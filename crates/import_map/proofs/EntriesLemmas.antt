-- An entry is found by its place in the order of the keys' bytes.
use Rattle.std.proofs.Common.{zero, suc, ◌≡◌, ◌≤◌, ◌<◌, ◌+◌, ◌⊎◌, inl, inr, ℕ, true, false, List, [], ◌∷◌, length, map, get_or, refl, sym, ◌∙◌, ap, subst, arith, Some, None}
use Rattle.std.specs.Prelude.{bytes_eq}
use Rattle.std.specs.Ordering.{nat_cmp, ordering_reverse, is_eq}
use Rattle.std.specs.Cmp.Lexicographic.{slice_cmp, nat_list_cmp_total}
use Rattle.std.specs.declared.cmp.Ordering.{Ordering}
use Rattle.std.specs.declared.cmp.Ordering.TheVariants.{Less, Equal, Greater}
use Rattle.std.proofs.lemmas.Map.Text.{is_eq-slice_cmp}
use Rattle.std.proofs.lemmas.List.{length-map, get_or_default}
use Rattle.std.proofs.Math.ListN.{get_or-map}
use Rattle.std.proofs.lemmas.Map.Keys.{sorted_tail, Less-from_sorted}
use Rattle.std.specs.Map.{keys_of}
use Rattle.import_map.specs.ImportMap.{Table}
use Rattle.import_map.specs.Order.{IsInOrder, entry_at}

-- the order of texts
abbrev pub text_cmp : List ℕ → List ℕ → Ordering
text_cmp = slice_cmp nat_cmp

-- texts that compare in another way than `Equal` aren't the same
pub bytes_eq-unequal : (x y : List ℕ) (o : Ordering) → text_cmp x y ≡ o → is_eq o ≡ false → bytes_eq x y ≡ false
bytes_eq-unequal x y o e h = sym (is_eq-slice_cmp x y) ∙ ap is_eq e ∙ h

-- texts that compare as `Equal` are the same
pub bytes_eq-equal : (x y : List ℕ) → text_cmp x y ≡ Equal → bytes_eq x y ≡ true
bytes_eq-equal x y e = sym (is_eq-slice_cmp x y) ∙ ap is_eq e

le_cases : (i j : ℕ) → i ≤ j → (i < j) ⊎ (i ≡ j)
le_cases i j le = grind arith

lt_or_le : (k n : ℕ) → (k < n) ⊎ (n ≤ k)
lt_or_le k n = grind arith

-- the order, turned round
pub turned : (x y : List ℕ) (o : Ordering) → text_cmp x y ≡ o → text_cmp y x ≡ ordering_reverse o
turned x y o e = nat_list_cmp_total.antisymm y x ∙ ap ordering_reverse e

-- a specifier that is at no place has no entry
pub entry_at-None : {V : Type 0} (es : Table V) (s : List ℕ)
    → ((k : ℕ) (d : List ℕ × V) → k < length es → bytes_eq s (get_or es k d).0 ≡ false)
    → entry_at es s ≡ None
entry_at-None [] s h = refl
entry_at-None (e ∷ es) s h =
    rw (h 0 e (omega arith)) (entry_at-None es s (λ k d l. h (suc k) d (omega arith)))

-- the entry at a place of the specifier is its entry
pub entry_at-Some : {V : Type 0} (es : Table V) (s : List ℕ) (k : ℕ) (d : List ℕ × V) → IsInOrder es
    → k < length es → text_cmp (get_or es k d).0 s ≡ Equal → entry_at es s ≡ Some (get_or es k d)
entry_at-Some [] s k d sorted l h = absurd (omega arith)
entry_at-Some (e ∷ es) s zero d sorted l h = rw (bytes_eq-equal s e.0 (turned e.0 s Equal h)) refl
entry_at-Some {V} (e ∷ es) s (suc k) d sorted l h =
    let within : k < length es = omega arith in
    let later : text_cmp e.0 (get_or es k d).0 ≡ Less =
    subst (λ (y : List ℕ). text_cmp e.0 y ≡ Less) (get_or-map (λ (x : List ℕ × V). x.0) es k d)
    (Less-from_sorted text_cmp (keys_of (e ∷ es)) 0 (suc k) d.0 sorted (omega arith)
    (rw (ap suc (length-map es (λ (x : List ℕ × V). x.0))) (omega arith))) in
    let apart : bytes_eq s e.0 ≡ false =
    bytes_eq-unequal s e.0 Greater
    (sym (nat_list_cmp_total.congr _ _ e.0 h) ∙ turned e.0 (get_or es k d).0 Less later)
    refl in
    rw apart (entry_at-Some es s k d (sorted_tail text_cmp e.0 (keys_of es) sorted) within h)

-- an earlier entry's specifier is less
pub less_from_places : {V : Type 0} (es : Table V) (i j : ℕ) (d : List ℕ × V) → IsInOrder es → i < j
    → j < length es
    → text_cmp (get_or es i d).0 (get_or es j d).0 ≡ Less
less_from_places {V} es i j d sorted below within =
    let f : List ℕ × V → List ℕ = λ x. x.0 in
    let inside : j < length (map f es) = rw (length-map es f) within in
    rw (← get_or-map f es i d, ← get_or-map f es j d)
    (Less-from_sorted text_cmp (map f es) i j (f d) sorted below inside)

-- all entries up to a lesser one are less
pub less_below : {V : Type 0} (es : Table V) (s : List ℕ) (m k : ℕ) (d : List ℕ × V) → IsInOrder es
    → m < length es → k ≤ m
    → text_cmp (get_or es m d).0 s ≡ Less → text_cmp (get_or es k d).0 s ≡ Less
less_below es s m k d sorted within le less =
    elim (le_cases k m le) as (λ _. text_cmp (get_or es k d).0 s ≡ Less) [
      | inl below ↦ nat_list_cmp_total.trans _ _ s (less_from_places es k m d sorted below within) less
      | inr same ↦ rw same less
    ]

-- and from a greater one on, all are greater
pub greater_from : {V : Type 0} (es : Table V) (s : List ℕ) (m k : ℕ) (d : List ℕ × V) → IsInOrder es
    → k < length es → m ≤ k
    → text_cmp (get_or es m d).0 s ≡ Greater → text_cmp (get_or es k d).0 s ≡ Greater
greater_from es s m k d sorted within le greater =
    elim (le_cases m k le) as (λ _. text_cmp (get_or es k d).0 s ≡ Greater) [
      | inl below ↦ turned s _ Less
          (nat_list_cmp_total.trans s _ _ (turned _ s Greater greater) (less_from_places es m k d sorted below within))
      | inr same ↦ rw (← same) greater
    ]

-- the entries before one place are less, and from another on greater
pub record IsNarrowed {V : Type 0} (es : Table V) (s : List ℕ) (low high : ℕ) : Type 0 where
  pub fits : high ≤ length es
  pub less : (k : ℕ) (d : List ℕ × V) → k < low → text_cmp (get_or es k d).0 s ≡ Less
  pub greater : (k : ℕ) (d : List ℕ × V) → high ≤ k → k < length es
      → text_cmp (get_or es k d).0 s ≡ Greater

-- at the start nothing is known
pub narrowed_all : {V : Type 0} (es : Table V) (s : List ℕ) → IsNarrowed es s 0 (length es)
narrowed_all es s = record {
  fits = omega arith;
  less = λ k d l. absurd (omega arith);
  greater = λ k d l m. absurd (omega arith);
}

-- how an entry compares doesn't hang on what stands for a missing one
pub at_any : {V : Type 0} (es : Table V) (s : List ℕ) (m : ℕ) (d e : List ℕ × V) {o : Ordering} → m < length es
    → text_cmp (get_or es m e).0 s ≡ o → text_cmp (get_or es m d).0 s ≡ o
at_any es s m d e within is = rw (get_or_default es m d e within) is

-- a place in the middle narrows from below or from above
pub narrowed_low : {V : Type 0} (es : Table V) (s : List ℕ) (low high m : ℕ) (e : List ℕ × V) → IsInOrder es
    → IsNarrowed es s low high → m < high
    → text_cmp (get_or es m e).0 s ≡ Less → IsNarrowed es s (m + 1) high
narrowed_low es s low high m e sorted n l less = record {
  fits = n.fits;
  less = λ k d b. less_below es s m k d sorted (omega (arith, n.fits)) (omega arith)
      (at_any es s m d e (omega (arith, n.fits)) less);
  greater = n.greater;
}

pub narrowed_high : {V : Type 0} (es : Table V) (s : List ℕ) (low high m : ℕ) (e : List ℕ × V) → IsInOrder es
    → IsNarrowed es s low high → m < high
    → text_cmp (get_or es m e).0 s ≡ Greater → IsNarrowed es s low m
narrowed_high es s low high m e sorted n l greater = record {
  fits = omega (arith, n.fits);
  less = n.less;
  greater = λ k d b within. greater_from es s m k d sorted within b (at_any es s m d e (omega (arith, n.fits)) greater);
}

-- where nothing is left in the middle, the specifier has no entry
pub entry_at-narrowed : {V : Type 0} (es : Table V) (s : List ℕ) (low high : ℕ) → IsNarrowed es s low high
    → high ≤ low → entry_at es s ≡ None
entry_at-narrowed {V} es s low high n le = entry_at-None es s (λ k d within. differs k d within (lt_or_le k low))
  where
    differs : (k : ℕ) (d : List ℕ × V) → k < length es → (k < low) ⊎ (low ≤ k)
        → bytes_eq s (get_or es k d).0 ≡ false
    differs k d within (inl below) =
        bytes_eq-unequal s (get_or es k d).0 Greater
        (turned (get_or es k d).0 s Less (n.less k d below)) refl
    differs k d within (inr above) =
        bytes_eq-unequal s (get_or es k d).0 Less
        (turned (get_or es k d).0 s Greater (n.greater k d (omega arith) within)) refl
