-- Numbers by their tokens.
use Rattle.std.specs.Prelude.{ℕ, zero, suc, ◌==◌, ◌<◌, ◌≤◌, Bool, true, false, if◌then◌else◌, List, [], ◌∷◌, ◌++◌, length, Option, Some, None, option_map, slice_get, slice_set}
use Rattle.std.specs.Option.{unwrap_or}
use Rattle.std.proofs.Common.{◌≡◌, ◌⊎◌, inl, inr, refl, sym, ap, ◌∙◌, arith}
use Rattle.std.proofs.lemmas.Bool.Decides.{nat_tests}
use Rattle.es_token.specs.declared.token.Token.{Token}
use Rattle.es_scopes.specs.Marks.{Marks}
use Rattle.es_lowering.specs.Texts.{ident_of}
use Rattle.es_scopes.specs.Numbers.{Named, named_in, declaring, numbered, number_at, ids_in}
use Rattle.es_variables.proofs.scope_numbers_lemmas.Stacks.{none_declaring}
use Rattle.es_variables.specs.Numbers.{at_in, number_or}

same_number : (a b : ℕ) → (a == b) ≡ true → a ≡ b
same_number a b e = grind (arith, nat_tests)

-- ---- zeros
pub zeros_more : (numbers : List ℕ) → ((n : ℕ) → at_in numbers n ≡ 0) → (n : ℕ) → at_in (numbers ++ 0 ∷ []) n ≡ 0
zeros_more [] all zero = refl
zeros_more [] all (suc n) = refl
zeros_more (m ∷ ms) all zero = all 0
zeros_more (m ∷ ms) all (suc n) = zeros_more ms (λ k. all (suc k)) n

-- ---- another number at a place
pub put_inside : (numbers : List ℕ) (at number n : ℕ) → at < length numbers
    → at_in (slice_set numbers at number) n ≡ (if at == n then number else at_in numbers n)
put_inside [] at number n p = absurd (omega arith)
put_inside (m ∷ ms) zero number zero p = refl
put_inside (m ∷ ms) zero number (suc n) p = let apart : (zero == suc n) ≡ false = grind (arith, nat_tests) in
    rw (apart) refl
put_inside (m ∷ ms) (suc at) number zero p = let apart : (suc at == zero) ≡ false = grind (arith, nat_tests) in
    rw (apart) refl
put_inside (m ∷ ms) (suc at) number (suc n) p =
    let same : (suc at == suc n) ≡ (at == n) = grind (arith, nat_tests) in
    rw (same) (put_inside ms at number n (omega arith))

pub put_outside : (numbers : List ℕ) (at number n : ℕ) → length numbers ≤ at → n < length numbers
    → at_in numbers n ≡ (if at == n then number else at_in numbers n)
put_outside numbers at number n past inside =
    let apart : (at == n) ≡ false = grind (arith, nat_tests) in rw (apart) refl

-- ---- names by tokens
pub number_begin : (ids : List (ℕ × ℕ)) (n : ℕ) → number_or ids n 0 ≡ number_at ids n
number_begin [] n = refl
number_begin (id ∷ ids) n = ap (λ (k : ℕ). if id.0 == n then id.1 else k) (number_begin ids n)

or_more : (ids : List (ℕ × ℕ)) (id : ℕ × ℕ) (n other : ℕ)
    → number_or (ids ++ id ∷ []) n other ≡ number_or ids n (if id.0 == n then id.1 else other)
or_more [] id n other = refl
or_more (i ∷ ids) id n other = ap (λ (k : ℕ). if i.0 == n then i.1 else k) (or_more ids id n other)

-- one name less
pub number_more : (row before : List (ℕ × ℕ)) (id : ℕ × ℕ) (n old new whole : ℕ) → row ≡ before ++ id ∷ []
    → new ≡ (if id.0 == n then id.1 else old) → number_or row n old ≡ whole → number_or before n new ≡ whole
number_more row before id n old new whole is put so =
    ap (number_or before n) put ∙ sym (or_more before id n old) ∙ ap (λ ids. number_or ids n old) (sym is) ∙ so

pub number_end : (row : List (ℕ × ℕ)) (n other whole : ℕ) → length row ≡ 0 → number_or row n other ≡ whole
    → other ≡ whole
number_end [] n other whole e so = so
number_end (id ∷ row) n other whole e so = absurd (omega arith)

-- ---- a number that is no token's has none
module _ (x : List ℕ) (ts : List Token) where
  nowhere : (n : ℕ) → slice_get ts n ≡ None → (names some : List Named) → number_at (numbered x ts names some) n ≡ 0
  nowhere n none names [] = refl
  nowhere n none names (it ∷ some) = one (nowhere n none names some) (it.token == n) refl
    where
      one : number_at (numbered x ts names some) n ≡ 0 → (b : Bool) → (it.token == n) ≡ b
          → number_at (numbered x ts names (it ∷ some)) n ≡ 0
      one others false e = rw (e) others
      one others true e =
          let same : it.token ≡ n = same_number it.token n e in
          let gone : slice_get ts it.token ≡ None = ap (slice_get ts) same ∙ none in
          rw (e)
          (ap (λ o. declaring x ts names (option_map (λ t. (ident_of x t).sym) o) it.around) gone
          ∙ none_declaring x ts names it.around)

  pub no_number : (n : ℕ) → slice_get ts n ≡ None → (found : Marks) → number_at (ids_in x ts found) n ≡ 0
  unfolding ids_in
  no_number n none found = nowhere n none (named_in [] 1 found) (named_in [] 1 found)

behind : {A : Type 0} (xs : List A) (n : ℕ) → length xs ≤ n → slice_get xs n ≡ None
behind [] n p = refl
behind (x ∷ xs) zero p = absurd (omega arith)
behind (x ∷ xs) (suc n) p = behind xs n (omega arith)

none_in : (numbers : List ℕ) (n : ℕ) → length numbers ≤ n → at_in numbers n ≡ 0
none_in numbers n p = ap (λ (o : Option ℕ). unwrap_or o 0) (behind numbers n p)

-- the numbers at the places of the tokens are all
pub numbers_of : (x : List ℕ) (ts : List Token) (found : Marks) (numbers : List ℕ) → length numbers ≡ length ts
    → ((n : ℕ) → n < length ts → at_in numbers n ≡ number_at (ids_in x ts found) n)
    → (n : ℕ) → at_in numbers n ≡ number_at (ids_in x ts found) n
numbers_of x ts found numbers long so n = by_place (lt_or_le n (length ts))
  where
    lt_or_le : (m k : ℕ) → (m < k) ⊎ (k ≤ m)
    lt_or_le m k = grind arith

    by_place : (n < length ts) ⊎ (length ts ≤ n) → at_in numbers n ≡ number_at (ids_in x ts found) n
    by_place (inl inside) = so n inside
    by_place (inr past) =
        none_in numbers n (omega (arith, long, past)) ∙ sym (no_number x ts n (behind ts n past) found)
