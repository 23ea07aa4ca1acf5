-- What functions only return.
use Rattle.std.specs.Prelude.{◌≡◌, ℕ, true, List, [], Option, Some, None, is_some, IfSome}
use Rattle.es_token.specs.declared.token.Token.{Token}
use Rattle.es_ast.specs.declared.ast.Expr.{Expr}
use Rattle.es_ast.specs.declared.ast.Stmt.{Stmt, out-Stmt}
use Rattle.es_syntax.specs.declared.cursor.Item.{Item}
use Rattle.es_syntax.specs.Held.{valued}
use Rattle.es_syntax.specs.Roles.{expr_in}
use Rattle.cjs_facts.specs.Looks.{returned_in, returned_last}

-- what is handed out: nothing, or an item and the expression that it is
abbrev pub handed : List ℕ → List Token → Option Item → Option (Option Expr)
handed x ts (Some it) = Some (expr_in (valued x ts it))
handed x ts None = None

-- nothing is handed out where there is nothing, and else the expression that is there
abbrev pub Meets : Option (Option Expr) → Option Expr → Type 0
Meets (Some e) there = (there ≡ e) × (is_some e ≡ true)
Meets None there = there ≡ None

-- where the part is there, what is handed out is what the definition says
pub record Gives {A : Type 0} (f : A → Option Expr) (part : Option A) (answer : Option (Option Expr)) : Type 0 where
  pub gives : IfSome part (λ a. Meets answer (f a))

-- what a body only returns, and what the only statement of a block does
abbrev pub body_returns : Stmt → Option Expr
body_returns body = returned_in (out-Stmt body)

abbrev pub last_returns : Stmt → Option Expr
last_returns stmt = returned_last [] (out-Stmt stmt)
