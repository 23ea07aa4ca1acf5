-- What holds of each value that a form may have.
use Rattle.std.specs.Prelude.{Bool, true, false, Option, Some, None, option_map, if◌then◌else◌, IfSome}
use Rattle.std.proofs.Common.{◌≡◌, sym, subst}
use Rattle.es_lowering.specs.Value.{given}

-- it holds of the value, where there is one
pub record Of {A : Type 0} (P : A → Type 0) (o : Option A) : Type 0 where
  pub is : IfSome o P

module _ {A : Type 0} (P : A → Type 0) where
  pub one : {a : A} → P a → Of P (Some a)
  one p = record { is = p }

  pub none : Of P None
  none = record { is = tt }

  -- of a value that isn't there
  pub absent : (o : Option A) → o ≡ None → Of P o
  absent o e = let R : Option A → Type 0 = λ o. Of P o in subst R (sym e) none

  pub of_given : {B : Type 0} (o : Option B) {f : B → Option A} → ((b : B) → Of P (f b)) → Of P (given o f)
  of_given (Some b) each = each b
  of_given None each = none

  pub of_mapped : {B : Type 0} (o : Option B) {f : B → A} → ((b : B) → P (f b)) → Of P (option_map f o)
  of_mapped (Some b) each = one (each b)
  of_mapped None each = none

  -- where the values to be mapped are known
  pub of_known : {B : Type 0} (Q : B → Type 0) (o : Option B) {f : B → A} → Of Q o → ((b : B) → Q b → P (f b))
      → Of P (option_map f o)
  of_known Q (Some b) known each = one (each b known.is)
  of_known Q None known each = none

  pub of_if : (b : Bool) {first second : Option A} → Of P first → Of P second → Of P (if b then first else second)
  of_if true f s = f
  of_if false f s = s

  -- of an alternative that it isn't
  pub of_other : (b : Bool) (first : Option A) {second : Option A} → b ≡ false → Of P second
      → Of P (if b then first else second)
  of_other true first e s = let bad : ⊥ = cc in absurd bad
  of_other false first e s = s
