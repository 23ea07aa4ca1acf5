-- The fronts of a text that are keys stand before it in the order, and are fronts of the last key that does.
use Rattle.std.proofs.Common.{suc, ◌≡◌, ◌≤◌, ◌<◌, ◌+◌, ◌⊎◌, inl, inr, ℕ, min, List, [], ◌∷◌, length, take, get_or, refl, sym, ◌∙◌, ap, subst, arith, rules}
use Rattle.std.specs.Ordering.{nat_cmp, ordering_then, ordering_reverse}
use Rattle.std.specs.Cmp.{nat_cmp_total}
use Rattle.std.specs.Cmp.Lexicographic.{nat_list_cmp_total}
use Rattle.std.specs.declared.cmp.Ordering.{Ordering}
use Rattle.std.specs.declared.cmp.Ordering.TheVariants.{Less, Equal, Greater}
use Rattle.std.proofs.lemmas.List.{take-take, length-take-le, get_or-take, get_or_default}
use Rattle.std.proofs.lemmas.Map.Lookups.{exact_unsigned}
use Rattle.import_map.specs.ImportMap.{Table}
use Rattle.import_map.specs.Order.{IsInOrder}
use Rattle.import_map.specs.Fronts.{AreFrontsWithin, IsUpTo, IsCut, IsCommon}
use Rattle.import_map.proofs.EntriesLemmas.{text_cmp, turned, less_from_places, greater_from, at_any}

-- ---- fronts in the order

Less≢Greater : Less ≡ Greater → ⊥
Less≢Greater h = absurd cc

Equal≢Greater : Equal ≡ Greater → ⊥
Equal≢Greater h = absurd cc

cmp-itself : (a : ℕ) → nat_cmp a a ≡ Equal
cmp-itself a = by (nat_cmp a a) refl
  where
    by : (o : Ordering) → nat_cmp a a ≡ o → nat_cmp a a ≡ Equal
    by Less e = let t : nat_cmp a a ≡ Greater = nat_cmp_total.antisymm a a ∙ ap ordering_reverse e in absurd cc
    by Equal e = e
    by Greater e = let t : nat_cmp a a ≡ Less = nat_cmp_total.antisymm a a ∙ ap ordering_reverse e in absurd cc

even : (x : List ℕ) → text_cmp x x ≡ Equal
even [] = refl
even (a ∷ x) = ap (λ o. ordering_then o (text_cmp x x)) (cmp-itself a) ∙ even x

-- a front isn't greater
front_upto : (p r : List ℕ) → p ≡ take (length p) r → text_cmp p r ≡ Greater → ⊥
front_upto [] [] is h = absurd cc
front_upto [] (b ∷ r) is h = absurd cc
front_upto (a ∷ p) [] is h = absurd cc
front_upto (a ∷ p) (b ∷ r) is h =
    let head : a ≡ b = cc in
    let rest : p ≡ take (length p) r = cc in
    front_upto p r rest
    (sym (ap (λ o. ordering_then o (text_cmp p r)) (subst (λ x. nat_cmp a x ≡ Equal) head (cmp-itself a))) ∙ h)

-- what stands between a front and the text begins with the front
squeeze : (p x r : List ℕ) → p ≡ take (length p) r → (text_cmp p x ≡ Greater → ⊥) → (text_cmp x r ≡ Greater → ⊥)
    → (p ≡ take (length p) x) × (length p ≤ length x)
squeeze [] x r is low high = (refl, omega arith)
squeeze (a ∷ p) x [] is low high = absurd cc
squeeze (a ∷ p) [] (b ∷ r) is low high = absurd (low refl)
squeeze (a ∷ p) (c ∷ x) (b ∷ r) is low high = by (nat_cmp a c) refl (squeeze p x r rest)
  where
    head : a ≡ b
    head = cc

    rest : p ≡ take (length p) r
    rest = cc

    by : (o : Ordering) → nat_cmp a c ≡ o
        → ((text_cmp p x ≡ Greater → ⊥) → (text_cmp x r ≡ Greater → ⊥) → (p ≡ take (length p) x) × (length p ≤ length x))
        → ((a ∷ p) ≡ take (length (a ∷ p)) (c ∷ x)) × (length (a ∷ p) ≤ length (c ∷ x))
    by Greater e next = absurd (low (ap (λ o. ordering_then o (text_cmp p x)) e))
    by Less e next =
        let turned : nat_cmp c a ≡ Greater = nat_cmp_total.antisymm c a ∙ ap ordering_reverse e in
        absurd (high (ap (λ o. ordering_then o (text_cmp x r)) (subst (λ y. nat_cmp c y ≡ Greater) head turned)))
    by Equal e next =
        let same : a ≡ c = exact_unsigned a c e in
        let even : nat_cmp c b ≡ Equal = subst (λ y. nat_cmp y b ≡ Equal) same
        (subst (λ y. nat_cmp a y ≡ Equal) head (cmp-itself a)) in
        let found = next (λ h. low (ap (λ o. ordering_then o (text_cmp p x)) e ∙ h))
        (λ h. high (ap (λ o. ordering_then o (text_cmp x r)) even ∙ h)) in
        (ap (λ y. y ∷ p) same ∙ ap (λ (l : List ℕ). c ∷ l) found.0, omega (arith, found.1))

-- ---- a search by halves for the last key that isn't greater

pub cut_all : {V : Type 0} (es : Table V) (s : List ℕ) → IsCut es s 0 (length es)
cut_all es s = record {
  fits = omega arith;
  upto = λ k d l. absurd (omega arith);
  above = λ k d l m. absurd (omega arith);
}

le_cases : (i j : ℕ) → i ≤ j → (i < j) ⊎ (i ≡ j)
le_cases i j le = grind arith

-- all keys up to one that isn't greater aren't
upto_below : {V : Type 0} (es : Table V) (s : List ℕ) (m k : ℕ) (d : List ℕ × V) → IsInOrder es → m < length es
    → k ≤ m → IsUpTo (get_or es m d).0 s → IsUpTo (get_or es k d).0 s
upto_below {V} es s m k d sorted within le up = by (le_cases k m le) up
  where
    by : (k < m) ⊎ (k ≡ m) → IsUpTo (get_or es m d).0 s → IsUpTo (get_or es k d).0 s
    by (inl below) (inl less) =
        inl (nat_list_cmp_total.trans _ _ s (less_from_places es k m d sorted below within) less)
    by (inl below) (inr even) =
        inl (turned s (get_or es k d).0 Greater
        (nat_list_cmp_total.congr s (get_or es m d).0 (get_or es k d).0 (turned (get_or es m d).0 s Equal even)
        ∙ turned (get_or es k d).0 (get_or es m d).0 Less (less_from_places es k m d sorted below within)))
    by (inr same) u = rw same u

pub cut_low : {V : Type 0} (es : Table V) (s : List ℕ) (low high m : ℕ) (e : List ℕ × V) → IsInOrder es
    → IsCut es s low high → m < high → IsUpTo (get_or es m e).0 s → IsCut es s (m + 1) high
cut_low {V} es s low high m e sorted n l up = record {
  fits = n.fits;
  upto = λ k d b. upto_below es s m k d sorted (omega (arith, n.fits)) (omega arith)
      (subst (λ (x : List ℕ × V). IsUpTo x.0 s) (get_or_default es m e d (omega (arith, n.fits))) up);
  above = n.above;
}

pub cut_high : {V : Type 0} (es : Table V) (s : List ℕ) (low high m : ℕ) (e : List ℕ × V) → IsInOrder es
    → IsCut es s low high → m < high → text_cmp (get_or es m e).0 s ≡ Greater → IsCut es s low m
cut_high es s low high m e sorted n l greater = record {
  fits = omega (arith, n.fits);
  upto = n.upto;
  above = λ k d b within. greater_from es s m k d sorted within b (at_any es s m d e (omega (arith, n.fits)) greater);
}

pub cut_done : {V : Type 0} (es : Table V) (s : List ℕ) (low high : ℕ) → IsCut es s low high → low ≤ high → high ≤ low
    → IsCut es s low low
cut_done {V} es s low high n le ge =
    let same : high ≡ low = omega arith in subst (λ (k : ℕ). IsCut es s low k) same n

-- ---- what two texts have in common

-- where a byte differs no longer front is the same
pub common_differ : (a b : List ℕ) (n : ℕ) → (get_or a n 0 ≡ get_or b n 0 → ⊥) → IsCommon a b n
common_differ a b n differ m in_a in_b same = by (cases m n)
  where
    cases : (i j : ℕ) → (i ≤ j) ⊎ (j < i)
    cases i j = grind arith

    by : (m ≤ n) ⊎ (n < m) → m ≤ n
    by (inl le) = le
    by (inr less) =
        absurd (differ (sym (get_or-take m a n 0 less) ∙ ap (λ l. get_or l n 0) same ∙ get_or-take m b n 0 less))

pub common_all : (a b : List ℕ) (n : ℕ) → n ≡ min (length a) (length b) → IsCommon a b n
common_all a b n is m in_a in_b same = rw is (search (rules, arith))

-- ---- the longest front

-- of no key where all are greater
pub none_upto : {V : Type 0} (es : Table V) (text : List ℕ) (end : ℕ) → end ≤ length text
    → IsCut es (take end text) 0 0 → AreFrontsWithin text end 0 es
none_upto {V} es text end within cut = each es (λ k d l. cut.above k d (omega arith) l)
  where
    each : (fs : Table V)
        → ((k : ℕ) (d : List ℕ × V) → k < length fs → text_cmp (get_or fs k d).0 (take end text) ≡ Greater)
        → AreFrontsWithin text end 0 fs
    each [] above = tt
    each (f ∷ fs) above = (
      λ is short. absurd (front_upto f.0 (take end text) (is ∙ sym (take-take (length f.0) end text short))
          (above 0 f (omega arith))),
      each fs (λ k d l. above (suc k) d (omega arith)),
    )

-- of a key at a place
front_at_place : {V : Type 0} (es : Table V) (text : List ℕ) (end j m k : ℕ) (d : List ℕ × V) → IsInOrder es
    → end ≤ length text → IsCut es (take end text) (suc j) (suc j)
    → IsCommon (get_or es j d).0 (take end text) m → k < length es
    → (get_or es k d).0 ≡ take (length (get_or es k d).0) text → length (get_or es k d).0 ≤ end
    → length (get_or es k d).0 ≤ m
front_at_place {V} es text end j m k d sorted within cut common inside is short = by (cases k j)
  where
    front : (get_or es k d).0 ≡ take (length (get_or es k d).0) (take end text)
    front = is ∙ sym (take-take (length (get_or es k d).0) end text short)

    cases : (a b : ℕ) → (a ≤ b) ⊎ (suc b ≤ a)
    cases a b = grind arith

    not_above : (x s : List ℕ) → IsUpTo x s → text_cmp x s ≡ Greater → ⊥
    not_above x s (inl less) h = Less≢Greater (sym less ∙ h)
    not_above x s (inr even) h = Equal≢Greater (sym even ∙ h)

    ordered : (k ≤ j) → text_cmp (get_or es k d).0 (get_or es j d).0 ≡ Greater → ⊥
    ordered le h = place (le_cases k j le) h
      where
        place : (k < j) ⊎ (k ≡ j) → text_cmp (get_or es k d).0 (get_or es j d).0 ≡ Greater → ⊥
        place (inl below) h =
            Less≢Greater (sym (less_from_places es k j d sorted below (omega (arith, cut.fits))) ∙ h)
        place (inr same) h =
            Equal≢Greater (sym (even (get_or es j d).0)
            ∙ subst (λ (i : ℕ). text_cmp (get_or es i d).0 (get_or es j d).0 ≡ Greater) same h)

    by : (k ≤ j) ⊎ (suc j ≤ k) → length (get_or es k d).0 ≤ m
    by (inl le) =
        let found = squeeze (get_or es k d).0 (get_or es j d).0 (take end text) front (ordered le)
        (not_above (get_or es j d).0 (take end text) (cut.upto j d (omega arith))) in
        common (length (get_or es k d).0) found.1
        (subst (λ (n : ℕ). length (get_or es k d).0 ≤ n) (sym (length-take-le end text within)) short)
        (sym found.0 ∙ front)
    by (inr ge) = absurd (front_upto (get_or es k d).0 (take end text) front (cut.above k d ge inside))

-- of all keys
pub fronts_within : {V : Type 0} (es : Table V) (text : List ℕ) (end j m : ℕ) (e : List ℕ × V) → IsInOrder es
    → end ≤ length text → IsCut es (take end text) (suc j) (suc j)
    → IsCommon (get_or es j e).0 (take end text) m → AreFrontsWithin text end m es
fronts_within {V} es text end j m e sorted within cut common =
    each es (λ k d l is short. front_at_place es text end j m k d sorted within cut
    (subst (λ (x : List ℕ × V). IsCommon x.0 (take end text) m) (get_or_default es j e d (omega (arith, cut.fits))) common)
    l is short)
  where
    each : (fs : Table V)
        → ((k : ℕ) (d : List ℕ × V) → k < length fs → (get_or fs k d).0 ≡ take (length (get_or fs k d).0) text
        → length (get_or fs k d).0 ≤ end → length (get_or fs k d).0 ≤ m)
        → AreFrontsWithin text end m fs
    each [] at = tt
    each (f ∷ fs) at =
        (λ is short. at 0 f (omega arith) is short, each fs (λ k d l is short. at (suc k) d (omega arith) is short))
