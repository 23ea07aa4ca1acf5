-- Places among the items of a list that give something.
use Rattle.std.proofs.Common.{zero, suc, ◌≡◌, ◌≤◌, ◌<◌, ℕ, ◌+◌, List, [], ◌∷◌, ◌++◌, length, take, get_or, refl, sym, ◌∙◌, ap, arith, Option, Some, None}
use Rattle.std.specs.Prelude.{slice_get, slice_index}
use Rattle.std.specs.List.{filter_map, cons_option}
use Rattle.std.proofs.lemmas.List.{take_more}
use Rattle.std.proofs.lemmas.List.Elements.{filter_map-append}
use Rattle.graph_order.specs.Names.{place_at, place_of}

same_of : {A : Type 0} (x y : A) → Some x ≡ Some y → x ≡ y
same_of x y h = cc

module _ {A : Type 0} (f : A → Option ℕ) where
  -- what stands at the place of the one with a number
  abbrev pub Found : List A → ℕ → Type 0
  Found xs k = (x : A) × (slice_get xs (place_of f xs k) ≡ Some x) × (f x ≡ Some (slice_index (filter_map f xs) k))

  pub found_at : (xs : List A) (k : ℕ) → k < length (filter_map f xs) → Found xs k
  found_at [] k l = absurd (omega arith)
  found_at (x ∷ xs) k l = by (found_at xs) (f x) refl k l
    where
      by : ((k : ℕ) → k < length (filter_map f xs) → Found xs k) → (o : Option ℕ) → f x ≡ o → (k : ℕ)
          → k < length (cons_option o (filter_map f xs))
          → (y : A) × (slice_get (x ∷ xs) (place_at o (place_of f xs) k) ≡ Some y)
          × (f y ≡ Some (slice_index (cons_option o (filter_map f xs)) k))
      by rest None e k l = rest k l
      by rest (Some n) e zero l = (x, refl, e)
      by rest (Some n) e (suc k) l = rest k (omega (arith, l))

  -- the number of the one at a place
  abbrev pub Numbered : List A → ℕ → ℕ → Type 0
  Numbered xs p n =
      (k : ℕ) × (k < length (filter_map f xs)) × (slice_index (filter_map f xs) k ≡ n) × (place_of f xs k ≡ p)

  pub found_back : (xs : List A) (p : ℕ) (x : A) (n : ℕ) → slice_get xs p ≡ Some x → f x ≡ Some n → Numbered xs p n
  found_back [] p x n at is = absurd cc
  found_back (y ∷ ys) p x n at is = by (λ p at. found_back ys p x n at is) (f y) refl p at
    where
      here : slice_get (y ∷ ys) zero ≡ Some x → f y ≡ Some n
      here at = ap f (same_of y x at) ∙ is

      by : ((p : ℕ) → slice_get ys p ≡ Some x → Numbered ys p n) → (o : Option ℕ) → f y ≡ o → (p : ℕ)
          → slice_get (y ∷ ys) p ≡ Some x
          → (k : ℕ) × (k < length (cons_option o (filter_map f ys)))
          × (slice_index (cons_option o (filter_map f ys)) k ≡ n) × (place_at o (place_of f ys) k ≡ p)
      by rest None e zero at = let gives = here at in absurd cc
      by rest None e (suc p) at = let (k, l, same, place) = rest p at in (k, l, same, ap suc place)
      by rest (Some m) e zero at = (zero, omega arith, same_of m n (sym e ∙ here at), refl)
      by rest (Some m) e (suc p) at =
          let (k, l, same, place) = rest p at in (suc k, omega (arith, l), same, ap suc place)

  -- one more item
  pub filter_next : (xs : List A) (i : ℕ) (x : A) → i < length xs → x ≡ get_or xs i x
      → filter_map f (take (i + 1) xs) ≡ filter_map f (take i xs) ++ cons_option (f x) []
  filter_next xs i x within is =
      ap (filter_map f) (take_more xs i x within ∙ ap (λ y. take i xs ++ y ∷ []) (sym is))
      ∙ filter_map-append f (take i xs) (x ∷ [])

  -- places rise with numbers
  pub place_rises : (xs : List A) (k l : ℕ) → k ≤ l → l < length (filter_map f xs) → place_of f xs k ≤ place_of f xs l
  place_rises [] k l le within = absurd (omega arith)
  place_rises (x ∷ xs) k l le within = by (place_rises xs) (f x) k l le within
    where
      by : ((k l : ℕ) → k ≤ l → l < length (filter_map f xs) → place_of f xs k ≤ place_of f xs l)
          → (o : Option ℕ) (k l : ℕ) → k ≤ l → l < length (cons_option o (filter_map f xs))
          → place_at o (place_of f xs) k ≤ place_at o (place_of f xs) l
      by rest None k l le within = let up = rest k l le within in omega (arith, up)
      by rest (Some n) zero l le within = omega arith
      by rest (Some n) (suc k) zero le within = absurd (omega (arith, le))
      by rest (Some n) (suc k) (suc l) le within =
          let up = rest k l (omega (arith, le)) (omega (arith, within)) in omega (arith, up)
