-- What stands behind a zero.
use Rattle.std.specs.Prelude.{◌≡◌, Bool, true, List, Option, is_some}
use Rattle.es_ast.specs.declared.ast.Expr.{Expr, out-Expr}
use Rattle.cjs_facts.specs.Looks.{Look, is_zero, second_in, callee_look}
use Rattle.cjs_looks.specs.Kinds.{IsParen, pair_of}
use Rattle.cjs_looks.specs.objects.Returns.{Meets}

abbrev pub zero_of : Expr → Bool
zero_of e = is_zero (out-Expr e)

abbrev pub behind_in : Expr → Option Expr
behind_in e = second_in (out-Expr e)

-- what is handed out is what stands behind the zero in a sequence of these
pub record Pairs (answer : Option (Option Expr)) (first second : Option Expr) (others : Option (List Expr)) : Type 0
  where
    pub are : is_some first ≡ true → is_some second ≡ true → Meets answer (pair_of first second others)

-- brackets around this look so as a callee
pub record InBrackets (told : Look) (inner : Option Expr) : Type 0 where
  pub looks : (e : Expr) → IsParen inner e → callee_look e ≡ told
