-- A name's number is that of the innermost scope around it that declares it, and no other number is.
use Rattle.std.specs.Prelude.{ℕ, Bool, true, false, List, [], ◌∷◌, Option, if◌then◌else◌}
use Rattle.std.proofs.Common.{◌≡◌, refl, sym, ap, ◌∙◌}
use Rattle.es_token.specs.declared.token.Token.{Token}
use Rattle.es_scopes.specs.Numbers.{Scope, Named, Innermost, none, this, further, declares, declaring, number_of, spelled}

module _ (x : List ℕ) (ts : List Token) (names : List Named) (name : Option (List ℕ)) where
  abbrev told : ℕ → Bool
  told n = declares x ts names n name

  one : (s : Scope) (around : List Scope) → Innermost told around (declaring x ts names name around)
      → (b : Bool) → told s.number ≡ b
      → Innermost told (s ∷ around) (if b then s.number else declaring x ts names name around)
  one s around others true e = this s around e
  one s around others false e = further s around (declaring x ts names name around) e others

  pub are_innermost : (around : List Scope) → Innermost told around (declaring x ts names name around)
  are_innermost [] = none
  are_innermost (s ∷ around) = one s around (are_innermost around) (told s.number) refl

  pub only_innermost : (around : List Scope) (n : ℕ) → Innermost told around n → n ≡ declaring x ts names name around
  only_innermost around n none = refl
  only_innermost around n (this s outer e) =
      ap (λ b. if b then s.number else declaring x ts names name outer) (sym e)
  only_innermost around n (further s outer m e others) =
      only_innermost outer n others ∙ ap (λ b. if b then s.number else declaring x ts names name outer) (sym e)

module _ (x : List ℕ) (ts : List Token) (names : List Named) (it : Named) where
  pub is_innermost : Innermost (λ n. declares x ts names n (spelled x ts it)) it.around (number_of x ts names it)
  is_innermost = are_innermost x ts names (spelled x ts it) it.around
