-- Small laws of lists of facts.
use Rattle.std.specs.Prelude.{List, [], ◌∷◌, ◌++◌, Option, Some, None, map}
use Rattle.std.specs.List.{flat_map}
use Rattle.std.specs.Option.{option_map}
use Rattle.std.proofs.Common.{◌≡◌, sym, ap, ◌∙◌, refl}
use Rattle.std.proofs.lemmas.List.{append-nil, append_assoc}
use Rattle.cjs_facts.specs.Facts.{Facts, each, firsts, if_there, if_some}

-- parts beside their facts, taken together
pub each_of : {X : Type 0} (facts : X → Facts) (xs : List X) → each (map (λ x. (x, facts x)) xs) ≡ flat_map facts xs
each_of facts [] = refl
each_of facts (x ∷ xs) = ap (λ rest. facts x ++ rest) (each_of facts xs)

pub firsts_of : {X : Type 0} (facts : X → Facts) (xs : List X) → firsts (map (λ x. (x, facts x)) xs) ≡ xs
firsts_of facts [] = refl
firsts_of facts (x ∷ xs) = ap (λ rest. x ∷ rest) (firsts_of facts xs)

pub if_there_of : {X : Type 0} (facts : X → Facts) (x : Option X)
    → if_there (option_map (λ y. (y, facts y)) x) ≡ if_some facts x
if_there_of facts None = refl
if_there_of facts (Some x) = refl

-- what is added to the facts found before
pub adds_none : (found : Facts) {s : Facts} → s ≡ [] → found ++ s ≡ found
adds_none found e = ap (λ x. found ++ x) e ∙ append-nil found

pub adds_one : (found : Facts) {s a : Facts} → s ≡ a → found ++ s ≡ found ++ a
adds_one found e = ap (λ x. found ++ x) e

pub adds_two : (found : Facts) {s : Facts} (a b : Facts) → s ≡ a ++ b → found ++ s ≡ found ++ a ++ b
adds_two found a b e = ap (λ x. found ++ x) e ∙ sym (append_assoc found a b)

pub adds_three : (found : Facts) {s : Facts} (a b c : Facts) → s ≡ a ++ b ++ c → found ++ s ≡ found ++ a ++ b ++ c
adds_three found a b c e = adds_two found (a ++ b) c e ∙ ap (λ x. x ++ c) (sym (append_assoc found a b))

pub adds_four : (found : Facts) {s : Facts} (a b c d : Facts) → s ≡ a ++ b ++ c ++ d
    → found ++ s ≡ found ++ a ++ b ++ c ++ d
adds_four found a b c d e =
    adds_two found (a ++ b ++ c) d e ∙ ap (λ x. x ++ d) (adds_three found a b c refl)
