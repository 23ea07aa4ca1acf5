-- What holds in each language.
use Rattle.std.specs.Prelude.{Bool, true, false, ◌&&◌}
use Rattle.std.proofs.Common.{◌≡◌, refl}
use Rattle.grammar_theory.specs.declared.error.Lang.{Lang}
use Rattle.grammar_theory.specs.declared.error.Lang.TheVariants as lang
use Rattle.grammar_theory.proofs.Progress.{both_hold}

pub both_true : (x y : Bool) → x ≡ true → y ≡ true → x && y ≡ true
both_true true true p q = refl
both_true true false p q = q
both_true false y p q = p

-- it holds in each language
abbrev pub in_each : (Lang → Bool) → Bool
in_each p = p lang.Es && (p lang.Typescript && (p lang.Jsx && (p lang.Tsx && p lang.Wide)))

pub each_holds : (p : Lang → Bool) → ((l : Lang) → p l ≡ true) → in_each p ≡ true
each_holds p h =
    both_true (p lang.Es) (p lang.Typescript && (p lang.Jsx && (p lang.Tsx && p lang.Wide))) (h lang.Es)
    (both_true (p lang.Typescript) (p lang.Jsx && (p lang.Tsx && p lang.Wide)) (h lang.Typescript)
    (both_true (p lang.Jsx) (p lang.Tsx && p lang.Wide) (h lang.Jsx)
    (both_true (p lang.Tsx) (p lang.Wide) (h lang.Tsx) (h lang.Wide))))

-- the rest of them
behind_first : (p : Lang → Bool) → in_each p ≡ true → p lang.Typescript && (p lang.Jsx && (p lang.Tsx && p lang.Wide)) ≡ true
behind_first p h = (both_hold (p lang.Es) (p lang.Typescript && (p lang.Jsx && (p lang.Tsx && p lang.Wide))) h).1

behind_second : (p : Lang → Bool) → in_each p ≡ true → p lang.Jsx && (p lang.Tsx && p lang.Wide) ≡ true
behind_second p h = (both_hold (p lang.Typescript) (p lang.Jsx && (p lang.Tsx && p lang.Wide)) (behind_first p h)).1

behind_third : (p : Lang → Bool) → in_each p ≡ true → p lang.Tsx && p lang.Wide ≡ true
behind_third p h = (both_hold (p lang.Jsx) (p lang.Tsx && p lang.Wide) (behind_second p h)).1

pub holds_in : (p : Lang → Bool) → in_each p ≡ true → (l : Lang) → p l ≡ true
holds_in p h lang.Es = (both_hold (p lang.Es) (p lang.Typescript && (p lang.Jsx && (p lang.Tsx && p lang.Wide))) h).0
holds_in p h lang.Typescript =
    (both_hold (p lang.Typescript) (p lang.Jsx && (p lang.Tsx && p lang.Wide)) (behind_first p h)).0
holds_in p h lang.Jsx = (both_hold (p lang.Jsx) (p lang.Tsx && p lang.Wide) (behind_second p h)).0
holds_in p h lang.Tsx = (both_hold (p lang.Tsx) (p lang.Wide) (behind_third p h)).0
holds_in p h lang.Wide = (both_hold (p lang.Tsx) (p lang.Wide) (behind_third p h)).1
