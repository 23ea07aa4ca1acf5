-- A node in another role as a pattern: the expression that is assigned to.
use Rattle.std.specs.Prelude.{List, Option, option_map}
use Rattle.std.proofs.Common.{◌≡◌, ℕ, refl}
use Rattle.es_token.specs.declared.token.Token.{Token}
use Rattle.es_ast.specs.declared.ast.Pat.TheVariants as vPat
use Rattle.es_lowering.specs.Value.{Value, absent, nil, more, token, node}
use Rattle.es_lowering.specs.Lowering.{as_target}
use Rattle.es_syntax.specs.Roles.{expr_in, pat_in}

pub pat_target : (x : List ℕ) (ts : List Token) (v : Value)
    → pat_in (as_target x ts v) ≡ option_map vPat.Expr (expr_in v)
pat_target x ts absent = refl
pat_target x ts nil = refl
pat_target x ts (more v vs) = refl
pat_target x ts (token n) = refl
pat_target x ts (node from to m) = refl
