-- Lists.
use Rattle.std.specs.Prelude.{Bool, true, false, if◌then◌else◌, List, [], ◌∷◌, ◌++◌, map, Option, Some, None, length, filter, filter_map, option_to_list, cond}
use Rattle.std.specs.List.{flat_map, cons_option}
use Rattle.std.proofs.Common.{◌≡◌, refl, sym, ap, ◌∙◌, arith}
use Rattle.std.proofs.lemmas.List.{append-nil, append_assoc}
use Rattle.std.proofs.lemmas.List.Elements.{filter_map-append}

pub firsts_of : {A B : Type 0} (f : A → B) (ts : List A) → map (λ (part : A × B). part.0) (map (λ t. (t, f t)) ts) ≡ ts
firsts_of f [] = refl
firsts_of f (t ∷ ts) = ap (λ rest. t ∷ rest) (firsts_of f ts)

pub seconds_of : {A B : Type 0} (f : A → List B) (ts : List A)
    → flat_map (λ (part : A × List B). part.1) (map (λ t. (t, f t)) ts) ≡ flat_map f ts
seconds_of f [] = refl
seconds_of f (t ∷ ts) = ap (λ rest. f t ++ rest) (seconds_of f ts)

-- what is kept of lists in a row
pub kept_of : {A B C : Type 0} (h : B → Option C) (f : A → List B) (ts : List A)
    → filter_map h (flat_map f ts) ≡ flat_map (λ t. filter_map h (f t)) ts
kept_of h f [] = refl
kept_of h f (t ∷ ts) =
    filter_map-append h (f t) (flat_map f ts) ∙ ap (λ rest. filter_map h (f t) ++ rest) (kept_of h f ts)

pub cons_is : {A : Type 0} (o : Option A) (xs : List A) → cons_option o xs ≡ option_to_list o ++ xs
cons_is None xs = refl
cons_is (Some a) xs = refl

-- one more
pub row_more : {A B : Type 0} (h : A → Option B) (out made whole : List B) (row rest : List A) (a : A)
    → row ≡ a ∷ rest → made ≡ out ++ option_to_list (h a) → out ++ filter_map h row ≡ whole
    → made ++ filter_map h rest ≡ whole
row_more h out made whole row rest a is more so =
    ap (λ s. s ++ filter_map h rest) more ∙ append_assoc out (option_to_list (h a)) (filter_map h rest)
    ∙ ap (λ s. out ++ s) (sym (ap (filter_map h) is ∙ cons_is (h a) (filter_map h rest))) ∙ so

pub row_end : {A B : Type 0} (h : A → Option B) (out whole : List B) (row : List A) → length row ≡ 0
    → out ++ filter_map h row ≡ whole → out ≡ whole
row_end h out whole [] e so = sym (append-nil out) ∙ so
row_end h out whole (a ∷ row) e so = absurd (omega arith)

cond_is : {A : Type 0} (b : Bool) (a : A) (xs : List A)
    → cond b (a ∷ xs) xs ≡ (if b then a ∷ [] else []) ++ xs
cond_is true a xs = refl
cond_is false a xs = refl

pub keep_more : {A : Type 0} (h : A → Bool) (out made whole row rest : List A) (a : A)
    → row ≡ a ∷ rest → made ≡ out ++ (if h a then a ∷ [] else []) → out ++ filter h row ≡ whole
    → made ++ filter h rest ≡ whole
keep_more h out made whole row rest a is more so =
    ap (λ s. s ++ filter h rest) more ∙ append_assoc out (if h a then a ∷ [] else []) (filter h rest)
    ∙ ap (λ s. out ++ s) (sym (ap (filter h) is ∙ cond_is (h a) a (filter h rest))) ∙ so

pub keep_end : {A : Type 0} (h : A → Bool) (out whole row : List A) → length row ≡ 0 → out ++ filter h row ≡ whole
    → out ≡ whole
keep_end h out whole [] e so = sym (append-nil out) ∙ so
keep_end h out whole (a ∷ row) e so = absurd (omega arith)
