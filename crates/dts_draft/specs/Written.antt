-- What is written, where a part of the program is there.
use Rattle.std.specs.Prelude.{◌≡◌, ℕ, Bool, true, false, List, [], ◌∷◌, Option, Some, None, map, IfSome}
use Rattle.es_token.specs.declared.token.Token.{Token}
use Rattle.es_lowering.specs.Value.{Value}
use Rattle.es_changed.specs.declared.entry.ChangedEntry.{ChangedEntry}
use Rattle.es_changed.specs.Shape.{Writes}

-- it holds of a part, where that is there
pub record IfThere {A : Type 0} (holds : A → Type 0) (part : Option A) : Type 0 where
  pub is : IfSome part holds

module _ (x : List ℕ) (ts : List Token) where
  -- one part is written, which is this in this role
  pub record Puts {A : Type 0} (role : Value → Option A) (old new : List ChangedEntry) (a : A) : Type 0 where
    pub value : Value
    pub writes : Writes x ts old new (value ∷ [])
    pub is : role value ≡ Some a

  -- parts are written, which are these in this role
  pub record PutsAll {A : Type 0} (role : Value → Option A) (old new : List ChangedEntry) (them : List A) : Type 0 where
    pub values : List Value
    pub writes : Writes x ts old new values
    pub are : map role values ≡ map Some them

  -- whether a part is written: where there is none, nothing is
  abbrev pub Gives : {A : Type 0} → (Value → Option A) → List ChangedEntry → List ChangedEntry → Bool → Option A
      → Type 0
  Gives role old new wrote (Some a) = (wrote ≡ true) × Puts role old new a
  Gives role old new wrote None = (wrote ≡ false) × Writes x ts old new []
