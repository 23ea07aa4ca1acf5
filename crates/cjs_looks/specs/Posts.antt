-- What further parts of a chain make of what stands before them.
use Rattle.std.specs.Prelude.{ℕ, List, Option, IfSome}
use Rattle.es_ast.specs.declared.ast.Expr.{Expr}
use Rattle.es_lowering.specs.Expressions.{Post, chained}

-- where the part is there, it makes of what has one property what has the other
pub record Makes (before after : Expr → Type 0) (part : Option Post) : Type 0 where
  pub makes : IfSome part (λ post. (start : ℕ) (e : Expr) → before e → after (post start e))

-- the same of several
pub record AllMake (before after : Expr → Type 0) (parts : Option (List Post)) : Type 0 where
  pub make : IfSome parts (λ posts. (start : ℕ) (e : Expr) → before e → after (chained start e posts))
