-- A node in another role as the head of a loop: the expression that is assigned to.
use Rattle.std.specs.Prelude.{List, None, Option, option_map}
use Rattle.std.proofs.Common.{◌≡◌, ℕ, refl}
use Rattle.es_token.specs.declared.token.Token.{Token}
use Rattle.es_ast.specs.declared.ast.Expr.{Expr}
use Rattle.es_ast.specs.declared.ast.Pat.TheVariants as vPat
use Rattle.es_lowering.specs.Value.{Value, absent, nil, more, token, node}
use Rattle.es_lowering.specs.Lowering.{as_target}
use Rattle.es_syntax.specs.Roles.{expr_in, head_in}

pub head_target : (x : List ℕ) (ts : List Token) (v : Value)
    → head_in (as_target x ts v) ≡ option_map (λ (target : Expr). (None, vPat.Expr target)) (expr_in v)
head_target x ts absent = refl
head_target x ts nil = refl
head_target x ts (more v vs) = refl
head_target x ts (token n) = refl
head_target x ts (node from to m) = refl
