-- What the kinds of expressions mean.
use Rattle.std.specs.Prelude.{◌≡◌, ℕ, Bool, true, false, List, [], Option, Some, None, option_map, is_some, slice_get, bytes_eq, codes, if◌then◌else◌}
use Rattle.es_token.specs.declared.token.Token.{Token}
use Rattle.es_token.specs.declared.token.TokenKind.TheVariants as k
use Rattle.grammar_theory.specs.Key.{same_kind}
use Rattle.es_ast.specs.declared.ast.Expr.{Expr, out-Expr}
use Rattle.es_ast.specs.declared.ast.Prop.{Prop}
use Rattle.es_ast.specs.declared.ast.Stmt.{Stmt}
use Rattle.es_ast.specs.declared.ast.Function.{Function, out-Function}
use Rattle.es_lowering.specs.Value.{turns, expr_at, prop_at}
use Rattle.es_lowering.specs.Functions as functions
use Rattle.es_lowering.specs.TypedParts.{body_in}
use Rattle.es_syntax.specs.declared.cursor.Siblings.{Siblings}
use Rattle.es_syntax.specs.Held.{held, valued}
use Rattle.es_syntax.specs.Roles.{expr_in, stmt_in}
use Rattle.es_syntax.specs.Views.{Under}
use Rattle.cjs_facts.specs.Exports.{is_spread_in}
use Rattle.cjs_facts.specs.Looks.{other, look, props_of, behind_zero, is_zero, second_in, function_in, assigned_last, right_of}
use Rattle.cjs_looks.specs.declared.kind.Kind.{Kind}
use Rattle.cjs_looks.specs.declared.kind.Kind.TheVariants as kind
use Rattle.cjs_looks.specs.declared.kind.Body.{Body}
use Rattle.cjs_looks.specs.declared.kind.Body.TheVariants as vBody
use Rattle.cjs_looks.specs.Odd.{All, Linked}
use Rattle.cjs_looks.specs.Seen.{look_of, name_of}

-- an object with these properties
pub record IsObject (props : Option (List Prop)) (e : Expr) : Type 0 where
  pub there : is_some props ≡ true
  pub holds : props_of e ≡ props
  pub looks : look e ≡ other
  pub follows : behind_zero (out-Expr e) ≡ None
  pub runs : function_in (out-Expr e) ≡ None
  pub ends : assigned_last e ≡ None
  pub zero : is_zero (out-Expr e) ≡ false
  pub pairs : second_in (out-Expr e) ≡ None
  pub spreads : is_spread_in (out-Expr e) ≡ false

-- what stands behind the zero in brackets
abbrev pub second_of : Option Expr → Option Expr
second_of (Some e) = second_in (out-Expr e)
second_of None = None

-- brackets around this
pub record IsParen (inner : Option Expr) (e : Expr) : Type 0 where
  pub there : is_some inner ≡ true
  pub holds : props_of e ≡ None
  pub looks : look e ≡ other
  pub follows : behind_zero (out-Expr e) ≡ second_of inner
  pub runs : function_in (out-Expr e) ≡ None
  pub ends : assigned_last e ≡ None
  pub zero : is_zero (out-Expr e) ≡ false
  pub pairs : second_in (out-Expr e) ≡ None
  pub spreads : is_spread_in (out-Expr e) ≡ false

-- whether a token is the number `0`
abbrev pub number_zero : List ℕ → Option Token → Bool
number_zero x (Some t) = if same_kind t.kind k.Number then bytes_eq (name_of x (Some t)) (codes "0") else false
number_zero x None = false

-- a number, which may be zero
pub record IsNumber (is : Bool) (e : Expr) : Type 0 where
  pub holds : props_of e ≡ None
  pub looks : look e ≡ other
  pub follows : behind_zero (out-Expr e) ≡ None
  pub runs : function_in (out-Expr e) ≡ None
  pub ends : assigned_last e ≡ None
  pub zero : is_zero (out-Expr e) ≡ is
  pub pairs : second_in (out-Expr e) ≡ None
  pub spreads : is_spread_in (out-Expr e) ≡ false

-- what stands behind the zero, where there is nothing else
abbrev pub pair_of : Option Expr → Option Expr → Option (List Expr) → Option Expr
pair_of (Some first) (Some second) (Some []) = if is_zero (out-Expr first) then Some second else None
pair_of _ _ _ = None

-- a sequence of these
pub record IsSequence (first second : Option Expr) (others : Option (List Expr)) (e : Expr) : Type 0 where
  pub there : is_some first ≡ true
  pub there_too : is_some second ≡ true
  pub holds : props_of e ≡ None
  pub looks : look e ≡ other
  pub follows : behind_zero (out-Expr e) ≡ None
  pub runs : function_in (out-Expr e) ≡ None
  pub ends : assigned_last e ≡ None
  pub zero : is_zero (out-Expr e) ≡ false
  pub pairs : second_in (out-Expr e) ≡ pair_of first second others
  pub spreads : is_spread_in (out-Expr e) ≡ false

-- what stands behind `...`
pub record IsSpread (e : Expr) : Type 0 where
  pub holds : props_of e ≡ None
  pub looks : look e ≡ other
  pub follows : behind_zero (out-Expr e) ≡ None
  pub runs : function_in (out-Expr e) ≡ None
  pub ends : assigned_last e ≡ None
  pub zero : is_zero (out-Expr e) ≡ false
  pub pairs : second_in (out-Expr e) ≡ None
  pub spreads : is_spread_in (out-Expr e) ≡ true

-- the body of a function
abbrev pub body_by : Option Function → Option (Option Stmt)
body_by f = option_map (λ f. (out-Function f).body) f

-- a function with this body
pub record IsFunction (body : Option (Option Stmt)) (e : Expr) : Type 0 where
  pub there : is_some body ≡ true
  pub holds : props_of e ≡ None
  pub looks : look e ≡ other
  pub follows : behind_zero (out-Expr e) ≡ None
  pub runs : body_by (function_in (out-Expr e)) ≡ body
  pub ends : assigned_last e ≡ None
  pub zero : is_zero (out-Expr e) ≡ false
  pub pairs : second_in (out-Expr e) ≡ None
  pub spreads : is_spread_in (out-Expr e) ≡ false

-- an assignment of this by `=`
pub record IsAssignment (right : Option Expr) (e : Expr) : Type 0 where
  pub there : is_some right ≡ true
  pub holds : props_of e ≡ None
  pub looks : look e ≡ other
  pub follows : behind_zero (out-Expr e) ≡ None
  pub runs : function_in (out-Expr e) ≡ None
  pub ends : assigned_last e ≡ option_map right_of right
  pub zero : is_zero (out-Expr e) ≡ false
  pub pairs : second_in (out-Expr e) ≡ None
  pub spreads : is_spread_in (out-Expr e) ≡ false

module _ (x : List ℕ) (ts : List Token) where
  abbrev pub body_of : Body → Option (Option Stmt)
  body_of (vBody.Block block) = option_map Some (stmt_in (valued x ts block))
  body_of (vBody.May block) = body_in (held x ts block.entries.now)
  body_of (vBody.Arrow body) = option_map Some (functions.body_of ts (valued x ts body))

  -- where the expression is there, it is of this kind
  abbrev pub IsKind : Kind → Option Expr → Type 0
  IsKind (kind.Plain l) e = All (Linked (look_of x ts l)) e
  IsKind (kind.Object props) e = All (IsObject (turns (λ turn. prop_at turn 0) (held x ts props.entries.now))) e
  IsKind (kind.Paren inner) e = All (IsParen (expr_in (valued x ts inner))) e
  IsKind (kind.Number token) e = All (IsNumber (number_zero x (slice_get ts token))) e
  IsKind (kind.Sequence first second others) e =
      All (IsSequence (expr_in (valued x ts first)) (expr_in (valued x ts second))
      (turns (λ turn. expr_at turn 0) (held x ts others.entries.now))) e
  IsKind kind.Spread e = All IsSpread e
  IsKind (kind.Function body) e = All (IsFunction (body_of body)) e
  IsKind (kind.Assigned right) e = All (IsAssignment (expr_in (valued x ts right))) e

-- the right side of an assignment takes fewer entries than these
abbrev pub IsRightUnder : Siblings → Kind → Type 0
IsRightUnder n (kind.Assigned right) = Under right n
IsRightUnder n _ = Unit {0}
