-- What is written of an operand: what the rules have its node to be.
use Rattle.std.specs.Prelude.{ℕ, Bool, List, Option, None}
use Rattle.base.specs.declared.range.Range.{Range}
use Rattle.es_token.specs.declared.token.Token.{Token}
use Rattle.es_ast.specs.declared.leaf.UnaryOp.TheVariants as vUnary
use Rattle.es_ast.specs.declared.ast.Expr.{Expr, out-Expr}
use Rattle.es_syntax.specs.Roles.{ts_type_in}
use Rattle.es_changed.specs.declared.entry.ChangedEntry.{ChangedEntry}
use Rattle.dts_rules.specs.Rules.{Env, minus_type, new_type}
use Rattle.dts_draft.specs.Written.{Gives}

module _ (env : Env) (x : List ℕ) (ts : List Token) where
  -- with `-` before it, over this range, by whether literals have their own types
  abbrev pub IsNegative : Bool → Range → Bool → List ChangedEntry → List ChangedEntry → Expr → Type 0
  IsNegative literal span wrote old new e =
      Gives x ts ts_type_in old new wrote (minus_type env vUnary.Minus (out-Expr e) span literal)

  -- behind `new`, without type arguments
  abbrev pub IsNew : Bool → List ChangedEntry → List ChangedEntry → Expr → Type 0
  IsNew wrote old new e = Gives x ts ts_type_in old new wrote (new_type env (out-Expr e) None)
