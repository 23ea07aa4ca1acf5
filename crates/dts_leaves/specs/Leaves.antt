-- What is written of a literal: the type that the rules have it to be.
use Rattle.std.specs.Prelude.{◌≡◌, ℕ, Bool, true, false, List, [], ◌∷◌, Option, Some, None, IfSome}
use Rattle.base.specs.declared.range.Range.{Range}
use Rattle.es_token.specs.declared.token.Token.{Token}
use Rattle.es_ast.specs.declared.ts.leaf.TplElement.{TplElement}
use Rattle.es_ast.specs.declared.ts.ts.TsType.{TsType}
use Rattle.es_ast.specs.declared.leaf.Lit.{Lit}
use Rattle.es_ast.specs.declared.ast.Expr.{Expr}
use Rattle.es_ast.specs.declared.ast.Expr.TheVariants as vExpr
use Rattle.es_syntax.specs.Roles.{ts_type_in}
use Rattle.es_lowering.specs.Value.{Value}
use Rattle.es_changed.specs.declared.entry.Word.{Word}
use Rattle.es_changed.specs.declared.entry.ChangedEntry.{ChangedEntry}
use Rattle.es_changed.specs.Formed.{word_type}
use Rattle.es_changed.specs.Changed.{type_node}
use Rattle.es_changed.specs.Shape.{Writes}
use Rattle.dts_rules.specs.Rules.{Env, State, numeric_type}
use Rattle.dts_rules.specs.Programs.{shown_expr}
use Rattle.dts_draft.specs.Written.{Gives}

-- by whether literals have their own types: whether a type is written, which is that of the expression, whatever was
-- found before and whether arrays are `readonly` there
pub record HasType (env : Env) (x : List ℕ) (ts : List Token) (literal wrote : Bool) (old new : List ChangedEntry)
    (e : Expr) : Type 0 where
  pub ty : Option TsType
  pub rule : (readonly : Bool) (s : State) → (shown_expr env e).rule literal readonly s ≡ (ty, s)
  pub gives : Gives x ts ts_type_in old new wrote ty

module _ (x : List ℕ) (ts : List Token) where
  -- by whether literals have their own types: this one is written, or that of all values of the kind
  abbrev pub OwnOrWide : Bool → List ChangedEntry → List ChangedEntry → Value → Word → Type 0
  OwnOrWide true old new own wide = Writes x ts old new (own ∷ [])
  OwnOrWide false old new own wide = Writes x ts old new (type_node 0 0 (Some (word_type wide)) ∷ [])

  -- a number or a BigInt, behind `-` or not, over this range
  abbrev pub IsNumeric : Bool → Bool → Range → List ChangedEntry → List ChangedEntry → Lit → Type 0
  IsNumeric minus literal span old new it = Gives x ts ts_type_in old new true (numeric_type minus it span literal)

-- a template, whatever its pieces and its holes are
abbrev pub IsTemplate : Env → List ℕ → List Token → Bool → List ChangedEntry → List ChangedEntry → Type 0
IsTemplate env x ts literal old new =
    (pieces : List TplElement) (holes : List Expr) (span : Range)
    → HasType env x ts literal true old new (vExpr.Tpl pieces holes span)
