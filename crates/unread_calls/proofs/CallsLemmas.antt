-- What one more number adds to a list.
use Rattle.std.proofs.Common.{◌≡◌, ◌∙◌, ap, refl, ℕ, zero, suc, ◌+◌, [], ◌∷◌, ◌++◌, Some, None, add-one, zero-add, arith}
use Rattle.std.specs.Prelude.{Option, option_to_list, filter_map}
use Rattle.std.specs.List.{range_with_len, cons_option}
use Rattle.std.proofs.lemmas.List.Elements.{filter_map-append}

next_number : (a n next : ℕ) → a + n ≡ next → range_with_len a (suc n) ≡ range_with_len a n ++ next ∷ []
next_number a zero next is = let same : a ≡ next = omega (arith, is) in ap (λ k. k ∷ []) same
next_number a (suc n) next is = ap (λ numbers. a ∷ numbers) (next_number (a + 1) n next (omega (arith, is)))

one : {A : Type 0} (x : Option A) → cons_option x [] ≡ option_to_list x
one (Some x) = refl
one None = refl

-- what is made of the numbers up to the next one
pub one_more : {A : Type 0} (f : ℕ → Option A) (i : ℕ)
    → filter_map f (range_with_len 0 (i + 1)) ≡ filter_map f (range_with_len 0 i) ++ option_to_list (f i)
one_more f i =
    ap (λ n. filter_map f (range_with_len 0 n)) (add-one i) ∙ ap (filter_map f) (next_number 0 i i (zero-add i))
    ∙ filter_map-append f (range_with_len 0 i) (i ∷ [])
    ∙ ap (λ more. filter_map f (range_with_len 0 i) ++ more) (one (f i))
