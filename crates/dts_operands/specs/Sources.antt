-- What decides the type of an expression with `as` and `satisfies` behind it.
use Rattle.std.specs.Prelude.{◌≡◌, ◌||◌, ℕ, Bool, List, Option, Some, None}
use Rattle.base.specs.declared.range.Range.{Range}
use Rattle.es_token.specs.declared.token.Token.{Token}
use Rattle.es_token.specs.declared.token.TokenKind.TheVariants as k
use Rattle.es_ast.specs.declared.ts.ts.TsType.{TsType}
use Rattle.es_ast.specs.declared.ast.Expr.{Expr}
use Rattle.es_ast.specs.declared.ast.Expr.TheVariants as vExpr
use Rattle.es_lowering.specs.Value.{Value, part}
use Rattle.es_lowering.specs.TypedExpressions.{turned_by}
use Rattle.es_syntax.specs.declared.entry.Lean.TheVariants as vLean
use Rattle.es_syntax.specs.declared.cursor.Item.{Item}
use Rattle.es_syntax.specs.Held.{Held, valued, leaned}
use Rattle.es_syntax.specs.Roles.{expr_in, ts_type_in}
use Rattle.dts_rules.specs.Rules.{Env, State}
use Rattle.dts_rules.specs.Programs.{shown_expr}
use Rattle.dts_draft.specs.Drafts.{is_kind}
use Rattle.dts_draft.specs.Written.{IfThere}
use Rattle.dts_operands.specs.declared.sources.Source.{Source}
use Rattle.dts_operands.specs.declared.sources.Source.TheVariants as source

-- `as const` behind an expression
abbrev pub const_of : Expr → Range → Expr
const_of e r = vExpr.TsConstAssertion e r

-- the token is `as`
abbrev pub is_word_as : Option Token → Bool
is_word_as o = is_kind k.AsWord o

module _ (env : Env) (x : List ℕ) (ts : List Token) where
  -- it has this type
  pub record HasIt (ty : Item) (e : Expr) : Type 0 where
    pub it : TsType
    pub there : ts_type_in (valued x ts ty) ≡ Some it
    pub rule : (c r : Bool) (s : State) → (shown_expr env e).rule c r s ≡ (Some it, s)

  -- by the first operand: it has the type of that, behind `as const` or not; another type; or none
  abbrev pub Decides : Expr → Source → Expr → Type 0
  Decides first (source.Operand is_const) e =
      (c r : Bool) (s : State)
      → (shown_expr env e).rule c r s ≡ (shown_expr env first).rule (is_const || c) (is_const || r) s
  Decides first (source.Type ty) e = HasIt ty e
  Decides first source.Untyped e = (c r : Bool) (s : State) → (shown_expr env e).rule c r s ≡ (None, s)
  Decides first source.Broken e = Unit {0}

  -- with this turn behind it
  abbrev pub Turned : Source → Source → Value → Type 0
  Turned before after g =
      (first : Expr) (r : Range) (from : ℕ) (e : Expr) → Decides first before e
      → IfThere (Decides first after) (turned_by ts r e from g (part g 1))

  -- with all of these
  abbrev pub Leaned : Source → Source → List Held → Type 0
  Leaned before after ps =
      (first : Expr) (from : ℕ) (v : Value) → IfThere (Decides first before) (expr_in v)
      → IfThere (Decides first after) (expr_in (leaned x ts vLean.TypedBinary from v ps))
