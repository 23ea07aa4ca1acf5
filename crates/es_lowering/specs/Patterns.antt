-- What patterns become (ECMA-262, "Destructuring Binding Patterns").
use Rattle.std.specs.Prelude.{ℕ, ◌+◌, false, List, Option, Some, None, option_map}
use Rattle.base.specs.declared.range.Range.{Range}
use Rattle.es_token.specs.declared.token.Token.{Token}
use Rattle.es_ast.specs.declared.ast.Expr.{Expr}
use Rattle.es_ast.specs.declared.ast.Pat.{Pat}
use Rattle.es_ast.specs.declared.ast.Pat.TheVariants as vPat
use Rattle.es_ast.specs.declared.ast.ObjectPatProp.{ObjectPatProp}
use Rattle.es_ast.specs.declared.ast.ObjectPatProp.TheVariants as vPatProp
use Rattle.es_lowering.specs.Value.{Value, given, part, group, first_of, behind, optional, turns, expr_at, pat_at, pat_prop_at, key_at}
use Rattle.es_lowering.specs.Texts.{span_of, ident_of, token_at, ident_at}
use Rattle.es_lowering.specs.Expressions.{elements}

-- a name as a pattern
abbrev pub ident_pat : List ℕ → Token → Pat
ident_pat x t = vPat.Ident (ident_of x t) None t.range

unfoldable pub name_pattern : List ℕ → List Token → Value → Option Pat
name_pattern x ts p = option_map (ident_pat x) (token_at ts p 0)

unfoldable pub array_pattern : List Token → ℕ → Range → Value → Option Pat
array_pattern ts from r p =
    option_map (λ elems. vPat.Array elems false None r) (elements vPat.Hole pat_at ts (from + 1) (group p 0))

unfoldable pub object_pattern : Range → Value → Option Pat
object_pattern r p =
    option_map (λ props. vPat.Object props false None r) (turns (λ turn. pat_prop_at turn 0) (group p 0))

unfoldable pub rest_pattern : Range → Value → Option Pat
rest_pattern r p = option_map (λ arg. vPat.Rest arg None r) (pat_at p 0)

unfoldable pub default_pattern : Range → Value → Option Pat
default_pattern r p =
    given (pat_at p 0) (λ left. given (expr_at p 1) (λ right. Some (vPat.Assign left right r)))

-- ---- properties of object patterns
unfoldable pub rest_property : Range → Value → Option ObjectPatProp
rest_property r p = option_map (λ arg. vPatProp.Rest arg r) (pat_at p 0)

-- a pattern with a default or without, which spans both
abbrev pub with_default : Range → Pat → Option Expr → Pat
with_default r pat (Some value) = vPat.Assign pat value r
with_default r pat None = pat

unfoldable pub key_pattern : List Token → Range → Value → Option ObjectPatProp
key_pattern ts r p =
    given (key_at p 0) (λ key.
    given (pat_at p 1) (λ pat.
    given (optional expr_at (group p 2)) (λ value.
    Some (vPatProp.KeyValue key.0 key.1
    (with_default (span_of ts (first_of (part p 1)) (behind (part (group p 2) 0))) pat value) r))))

unfoldable pub name_property : List ℕ → List Token → Range → Value → Option ObjectPatProp
name_property x ts r p =
    given (ident_at x ts p 0) (λ key. given (optional expr_at (group p 1)) (λ value. Some (vPatProp.Assign key value r)))
