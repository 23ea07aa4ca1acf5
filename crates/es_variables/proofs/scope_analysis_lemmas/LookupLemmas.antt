-- A name that is declared nowhere is global, and a declared one isn't.
use Rattle.std.specs.Prelude.{Bool, true, false, List, [], ◌∷◌, Option, Some, None, is_none}
use Rattle.std.proofs.Common.{◌≡◌, refl, ap, ◌∙◌}
use Rattle.es_variables.specs.declared.scope_analysis.kinds.Id.{Id}
use Rattle.es_variables.specs.declared.scope_analysis.kinds.Var.{Var}
use Rattle.es_variables.specs.scope_analysis.Scope.{same_id, var, is_global}

pub global_none : (declared : List (Id × Var)) (id : Id) → is_global declared id ≡ is_none (var declared id)
global_none [] id = refl
global_none (d ∷ declared) id = one (global_none declared id) (same_id d.0 id) refl (var declared id) refl
  where
    one : is_global declared id ≡ is_none (var declared id) → (b : Bool) → same_id d.0 id ≡ b
        → (v : Option Var) → var declared id ≡ v → is_global (d ∷ declared) id ≡ is_none (var (d ∷ declared) id)
    one others true e None f = rw (e, f) refl
    one others true e (Some v) f = rw (e, f) refl
    one others false e None f = rw (e, f) (others ∙ ap is_none f)
    one others false e (Some v) f = rw (e, f) (others ∙ ap is_none f)
