-- The numbers at a spelling.
use Rattle.std.specs.Prelude.{ℕ, ◌-◌, ◌<◌, Bool, true, false, List, [], ◌∷◌, ◌++◌, length, take, if◌then◌else◌, bytes_eq}
use Rattle.std.proofs.Common.{◌≡◌, suc, refl, ap, ◌∙◌, arith}
use Rattle.std.proofs.lemmas.List.{append-nil}
use Rattle.es_variables.specs.scope_numbers.Stacks.{last_of}
use Rattle.es_variables.specs.scope_numbers.Spelt.{extra, popped}

last_more : (before : List ℕ) (n : ℕ) → last_of (before ++ n ∷ []) ≡ n
last_more [] n = refl
last_more (x ∷ []) n = refl
last_more (x ∷ y ∷ before) n = last_more (y ∷ before) n

pub last_some : (ns before : List ℕ) (n : ℕ) → ns ≡ before ++ n ∷ [] → last_of ns ≡ n
last_some ns before n e = ap last_of e ∙ last_more before n

pub last_none : (ns : List ℕ) → length ns ≡ 0 → last_of ns ≡ 0
last_none [] e = refl
last_none (n ∷ ns) e = absurd (omega arith)

-- without the last one
longer : (rest : List ℕ) (n : ℕ) → length (rest ++ n ∷ []) ≡ suc (length rest)
longer [] n = refl
longer (x ∷ rest) n = ap suc (longer rest n)

front : (rest ns : List ℕ) → take (length rest) (rest ++ ns) ≡ rest
front [] ns = refl
front (x ∷ rest) ns = ap (λ all. x ∷ all) (front rest ns)

less : (rest : List ℕ) (n : ℕ) → take (length (rest ++ n ∷ []) - 1) (rest ++ n ∷ []) ≡ rest
less rest n =
    let shorter : length (rest ++ n ∷ []) - 1 ≡ length rest = omega (arith, longer rest n) in
    ap (λ k. take k (rest ++ n ∷ [])) shorter ∙ front rest (n ∷ [])

pub is_there : (ns rest : List ℕ) (n : ℕ) → ns ≡ rest ++ n ∷ [] → 0 < length ns
is_there ns rest n e =
    let same : length ns ≡ suc (length rest) = ap (λ (k : List ℕ). length k) e ∙ longer rest n in omega (arith, same)

pub not_there : (ns : List ℕ) → ns ≡ [] → 0 < length ns → ⊥
not_there ns e some = let none : length ns ≡ 0 = ap (λ (k : List ℕ). length k) e in omega (arith, none, some)

popped_by : (b : Bool) (rest : List ℕ) (n : ℕ) (ns : List ℕ) → ns ≡ rest ++ (if b then n ∷ [] else [])
    → (if b then take (length ns - 1) ns else ns) ≡ rest
popped_by true rest n ns e = ap (λ (k : List ℕ). take (length k - 1) k) e ∙ less rest n
popped_by false rest n ns e = e ∙ append-nil rest

pub popped_rest : (name : List ℕ) (rest old new : List ℕ → List ℕ) (n : ℕ)
    → ((q : List ℕ) → new q ≡ popped name q (old q)) → ((q : List ℕ) → old q ≡ rest q ++ extra name n q)
    → (q : List ℕ) → new q ≡ rest q
popped_rest name rest old new n less so q = less q ∙ popped_by (bytes_eq q name) (rest q) n (old q) (so q)
