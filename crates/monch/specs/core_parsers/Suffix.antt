-- Suffixes of suffixes, and what tells outcomes apart.
use Rattle.std.specs.Prelude.{◌≢◌, ℕ, List, ◌++◌, [], refl}
use Rattle.std.proofs.Common.{sym, ◌∙◌, ap}
use Rattle.std.proofs.lemmas.List.{append_assoc}
use Rattle.monch.specs.core_parsers.Outcome.{Refusal, success, refused, IsSuffix}

-- a suffix of a suffix is a suffix
pub IsSuffix-trans : {rest mid text : List ℕ} → IsSuffix rest mid → IsSuffix mid text → IsSuffix rest text
IsSuffix-trans {rest = rest} (f, e) (g, d) = (g ++ f, d ∙ ap (λ x. g ++ x) e ∙ sym (append_assoc g f rest))

-- a text is its own suffix
pub IsSuffix-self : (text : List ℕ) → IsSuffix text text
IsSuffix-self text = ([], refl)

-- a success is no refusal
pub success_is_not_refused : {A : Type 0} {rest : List ℕ} {value : A} {why : Refusal} → success rest value ≢ refused why
success_is_not_refused e = cc
