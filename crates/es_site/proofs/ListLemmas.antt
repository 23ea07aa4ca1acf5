-- Small laws of lists of sites.
use Rattle.std.specs.Prelude.{List, [], ◌∷◌, ◌++◌, Option, Some, None, map}
use Rattle.std.specs.List.{flat_map}
use Rattle.std.specs.Option.{option_map}
use Rattle.std.proofs.Common.{◌≡◌, sym, ap, ◌∙◌, refl}
use Rattle.std.proofs.lemmas.List.{append-nil, append_assoc}
use Rattle.es_site.specs.Sites.{Found, each, firsts, if_there, if_some}

-- parts beside their sites, taken together
pub each_of : {X : Type 0} (sites : X → Found) (xs : List X) → each (map (λ x. (x, sites x)) xs) ≡ flat_map sites xs
each_of sites [] = refl
each_of sites (x ∷ xs) = ap (λ rest. sites x ++ rest) (each_of sites xs)

pub firsts_of : {X : Type 0} (sites : X → Found) (xs : List X) → firsts (map (λ x. (x, sites x)) xs) ≡ xs
firsts_of sites [] = refl
firsts_of sites (x ∷ xs) = ap (λ rest. x ∷ rest) (firsts_of sites xs)

pub if_there_of : {X : Type 0} (sites : X → Found) (x : Option X)
    → if_there (option_map (λ y. (y, sites y)) x) ≡ if_some sites x
if_there_of sites None = refl
if_there_of sites (Some x) = refl

-- what is added to the sites found before
pub adds_none : (found : Found) {s : Found} → s ≡ [] → found ++ s ≡ found
adds_none found e = ap (λ x. found ++ x) e ∙ append-nil found

pub adds_one : (found : Found) {s a : Found} → s ≡ a → found ++ s ≡ found ++ a
adds_one found e = ap (λ x. found ++ x) e

pub adds_two : (found : Found) {s : Found} (a b : Found) → s ≡ a ++ b → found ++ s ≡ found ++ a ++ b
adds_two found a b e = ap (λ x. found ++ x) e ∙ sym (append_assoc found a b)

pub adds_three : (found : Found) {s : Found} (a b c : Found) → s ≡ a ++ b ++ c → found ++ s ≡ found ++ a ++ b ++ c
adds_three found a b c e = adds_two found (a ++ b) c e ∙ ap (λ x. x ++ c) (sym (append_assoc found a b))

pub adds_four : (found : Found) {s : Found} (a b c d : Found) → s ≡ a ++ b ++ c ++ d
    → found ++ s ≡ found ++ a ++ b ++ c ++ d
adds_four found a b c d e =
    adds_two found (a ++ b ++ c) d e ∙ ap (λ x. x ++ d) (adds_three found a b c refl)
