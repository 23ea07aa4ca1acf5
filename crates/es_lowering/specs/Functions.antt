-- What functions, parameters, keys and properties become (ECMA-262, "Functions and Classes").
use Rattle.std.specs.Prelude.{ℕ, ◌+◌, ◌-◌, Bool, true, false, List, [], ◌∷◌, ◌++◌, Option, Some, None, option_map}
use Rattle.base.specs.declared.range.Range.{Range}
use Rattle.es_token.specs.declared.token.Token.{Token}
use Rattle.es_ast.specs.declared.ts.leaf.Ident.{Ident}
use Rattle.es_ast.specs.declared.ts.leaf.MethodKind.{MethodKind}
use Rattle.es_ast.specs.declared.leaf.Lit.TheVariants as vLit
use Rattle.es_ast.specs.declared.leaf.Modifiers.{Modifiers}
use Rattle.es_ast.specs.declared.leaf.Accessibility.TheVariants as vAccessibility
use Rattle.es_ast.specs.declared.ast.Expr.{Expr}
use Rattle.es_ast.specs.declared.ast.Expr.TheVariants as vExpr
use Rattle.es_ast.specs.declared.ast.Stmt.{Stmt}
use Rattle.es_ast.specs.declared.ast.Stmt.TheVariants as vStmt
use Rattle.es_ast.specs.declared.ast.Pat.{Pat}
use Rattle.es_ast.specs.declared.ast.Pat.TheVariants as vPat
use Rattle.es_ast.specs.declared.ast.Prop.{Prop}
use Rattle.es_ast.specs.declared.ast.Prop.TheVariants as vProp
use Rattle.es_ast.specs.declared.ast.Function.{Function, roll-Function}
use Rattle.es_ast.specs.declared.ast.Param.{Param, roll-Param}
use Rattle.es_lowering.specs.Value.{Value, node, given, part, group, first_of, behind, optional, option_list, is_there, turns, expr_at, pat_at, stmt_at, param_at, params_at, key_at}
use Rattle.es_lowering.specs.Texts.{span_of, ident_of, token_at, kind_at, ident_at, private_at, str_at, numeric_at, own_name_at}
use Rattle.es_lowering.specs.Operators.{listed, accessor_kinds}

-- ---- parameters
-- what stands before no name
abbrev pub plain : Modifiers
plain = record {
  accessibility = vAccessibility.Absent;
  is_static = false;
  is_abstract = false;
  is_override = false;
  readonly = false;
  declare = false;
  accessor = false;
}

abbrev pub param_of : Range → Pat → Param
param_of r pat = roll-Param (record { modifiers = plain; pat = pat; span = r })

-- a parameter with a default
unfoldable pub default_parameter : Range → Value → Option Param
default_parameter r p =
    given (pat_at p 0) (λ left. given (expr_at p 1) (λ right. Some (param_of r (vPat.Assign left right r))))

-- the last parameter, behind `...`
abbrev pub rest_of : Range → Pat → Param
rest_of r pat = param_of r (vPat.Rest pat None r)

abbrev pub rest_at : List Token → Value → ℕ → Option Param
rest_at ts p n = option_map (rest_of (span_of ts (first_of (part p n) - 1) (behind (part p n)))) (pat_at p n)

-- Param% | (Param ',')* '...' Pat
unfoldable pub parameters : List Token → Value → Option (List Param)
parameters ts p =
    given (turns (λ turn. param_at turn 0) (group p 0)) (λ all.
    given (optional (rest_at ts) (group p 1)) (λ rest. Some (all ++ option_list rest)))

-- '(' Params ')'
unfoldable pub signature : Value → Option (List Param)
signature p = params_at p 0

-- ---- functions
abbrev pub function_of : Bool → Bool → Range → Option Ident → List Param → Stmt → Function
function_of is_async is_generator r name params body = roll-Function (record {
  ident = name;
  is_async = is_async;
  is_generator = is_generator;
  type_params = None;
  params = params;
  return_type = None;
  body = Some body;
  span = r;
})

-- 'function' '*'? Name? Sig Block, behind `async` or not
unfoldable pub function : List ℕ → List Token → Bool → Range → Value → Option Function
function x ts is_async r p =
    given (own_name_at x ts p 1) (λ name.
    given (params_at p 2) (λ params.
    given (stmt_at p 3) (λ body.
    Some (function_of is_async (is_there (group p 0)) r name params body))))

-- Sig Block, which stand from this part on: what follows a key
unfoldable pub method_at : List Token → Bool → Bool → Value → ℕ → Option Function
method_at ts is_async is_generator p n =
    given (params_at p n) (λ params.
    given (stmt_at p (n + 1)) (λ body.
    Some (function_of is_async is_generator (span_of ts (first_of (part p n)) (behind (part p (n + 1)))) None params body)))

-- ---- arrows
-- a body: a block, or an expression alone
abbrev pub block_or : Range → Option (List Stmt) → Option Expr → Option Stmt
block_or r (Some stmts) e = Some (vStmt.Block stmts r)
block_or r None e = option_map (λ e. vStmt.Expr e r) e

abbrev pub body_of : List Token → Value → Option Stmt
body_of ts (node from to m) = block_or (span_of ts from to) m.block m.expr
body_of ts v = None

abbrev pub arrow_of : Bool → Range → List Param → Stmt → Expr
arrow_of is_async r params body = vExpr.Arrow (function_of is_async false r None params body)

-- a name as a parameter
abbrev pub name_param : List ℕ → Token → Param
name_param x t = param_of t.range (vPat.Ident (ident_of x t) None t.range)

unfoldable pub name_arrow : List ℕ → List Token → Bool → Range → Value → Option Expr
name_arrow x ts is_async r p =
    given (token_at ts p 0) (λ t.
    given (body_of ts (part (group p 1) 0)) (λ body.
    Some (arrow_of is_async r (name_param x t ∷ []) body)))

unfoldable pub parenthesized_arrow : List Token → Bool → Range → Value → Option Expr
parenthesized_arrow ts is_async r p =
    given (params_at p 0) (λ params.
    given (body_of ts (part (group p 1) 0)) (λ body.
    Some (arrow_of is_async r params body)))

-- ---- keys
abbrev pub Key : Type 0
Key = Bool × Expr

unfoldable pub word_key : List ℕ → List Token → Value → Option Key
word_key x ts p = option_map (λ name. (false, vExpr.Ident name)) (ident_at x ts p 0)

unfoldable pub str_key : List ℕ → List Token → Value → Option Key
str_key x ts p = option_map (λ s. (false, vExpr.Lit (vLit.Str s))) (str_at x ts p 0)

unfoldable pub number_key : List ℕ → List Token → Value → Option Key
number_key x ts p = option_map (λ lit. (false, vExpr.Lit lit)) (numeric_at x ts p 0)

unfoldable pub computed_key : Value → Option Key
computed_key p = option_map (λ e. (true, e)) (expr_at p 0)

unfoldable pub private_key : List ℕ → List Token → Value → Option Key
private_key x ts p = option_map (λ name. (false, vExpr.PrivateName name)) (private_at x ts p 0)

-- ---- properties of objects
unfoldable pub spread_property : Range → Value → Option Prop
spread_property r p = option_map (λ e. vProp.Spread e r) (expr_at p 0)

unfoldable pub shorthand : List ℕ → List Token → Value → Option Prop
shorthand x ts p = option_map vProp.Shorthand (ident_at x ts p 0)

unfoldable pub key_value : Range → Value → Option Prop
key_value r p =
    given (key_at p 0) (λ key. given (expr_at p 1) (λ value. Some (vProp.KeyValue key.0 key.1 value r)))

-- a method of this kind, whose key stands at this part
unfoldable pub method_property : List Token → MethodKind → Bool → Bool → Range → Value → ℕ → Option Prop
method_property ts kind is_async is_generator r p n =
    given (key_at p n) (λ key.
    given (method_at ts is_async is_generator p (n + 1)) (λ function.
    Some (vProp.Method kind key.0 key.1 function r)))

unfoldable pub accessor_property : List Token → Range → Value → Option Prop
accessor_property ts r p =
    given (given (kind_at ts p 0) (listed accessor_kinds)) (λ kind. method_property ts kind false false r p 1)
