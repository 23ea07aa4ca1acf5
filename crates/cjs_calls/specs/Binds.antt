-- What declarators add.
use Rattle.std.specs.Prelude.{◌≡◌, Bool, Option, Some, IfSome}
use Rattle.base.specs.declared.range.Range.{Range}
use Rattle.es_ast.specs.declared.ts.ts.TsPart.{TsPart}
use Rattle.es_ast.specs.declared.ast.Expr.{Expr}
use Rattle.es_ast.specs.declared.ast.Pat.{Pat, out-Pat}
use Rattle.es_ast.specs.declared.ast.VarDeclarator.{VarDeclarator}
use Rattle.cjs_facts.specs.declared.found.Found.{Found}
use Rattle.cjs_facts.specs.Looks.{Name, look, pat_name_in}
use Rattle.cjs_facts.specs.Exports.{look_of, bind, bound}

-- a name with a value
pub record Binds (name : Name) (value : Option Expr) (old new : Found) : Type 0 where
  pub binds : IfSome value (λ e. new ≡ bind (Some name) (look e) old)

-- a pattern with a value or without
pub record Declares (name : Option Pat) (value : Option (Option Expr)) (old new : Found) : Type 0 where
  pub binds : IfSome name (λ p. IfSome value (λ v. new ≡ bind (pat_name_in (out-Pat p)) (look_of v) old))

-- the same, whatever its mark and its type
pub record Marks (name : Option (Bool → Option TsPart → Range → Pat)) (value : Option (Option Expr)) (old new : Found)
    : Type 0 where
  pub binds : IfSome name (λ m. IfSome value (λ v. (mark : Bool) (ty : Option TsPart) (r : Range)
      → new ≡ bind (pat_name_in (out-Pat (m mark ty r))) (look_of v) old))

pub record Bounds (part : Option VarDeclarator) (old new : Found) : Type 0 where
  pub binds : IfSome part (λ d. new ≡ bound d old)
