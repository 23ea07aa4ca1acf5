-- A token cuts its text.
use Rattle.std.specs.Prelude.{ℕ, List, Option, Some, None}
use Rattle.std.proofs.Common.{◌≡◌}
use Rattle.es_token.specs.declared.token.Token.{Token}
use Rattle.es_variables.specs.scope_numbers.Cuts.{Cuts, IsCut}
use Rattle.es_variables.specs.scope_analysis.Events.{told}

pub cut_told : (x : List ℕ) (ts : List Token) → IsCut x ts → (o : Option ℕ) (t : Token) → told ts o ≡ Some t
    → Cuts x t
cut_told x ts cut (Some n) t e = cut n t e
cut_told x ts cut None t e = let bad : ⊥ = cc in absurd bad
