-- What assignments add.
use Rattle.std.specs.Prelude.{◌≡◌, Option, IfSome, if◌then◌else◌}
use Rattle.es_ast.specs.declared.ast.Expr.{Expr}
use Rattle.es_ast.specs.declared.ast.Pat.{Pat}
use Rattle.cjs_facts.specs.declared.found.Found.{Found}
use Rattle.cjs_facts.specs.Looks.{Key, Object, Look, look}
use Rattle.cjs_facts.specs.Exports.{is_exports_object, key_found, target_found, assigned}

-- to a key of an object
pub record Members (object : Object) (key : Key) (right : Option Expr) (old new : Found) : Type 0 where
  pub sets : IfSome right (λ r. new ≡ (if is_exports_object object then key_found key (look r) old else old))

-- to what looks so
pub record Targets (target : Look) (right : Option Expr) (old new : Found) : Type 0 where
  pub sets : IfSome right (λ r. new ≡ target_found target r old)

-- to a pattern
pub record Assigns (left : Option Pat) (right : Option Expr) (old new : Found) : Type 0 where
  pub sets : IfSome left (λ l. IfSome right (λ r. new ≡ assigned l r old))
