-- Along a chain: what may be `Object`, what `Object.freeze`, and what a call of that freezes.
use Rattle.std.specs.Prelude.{◌≡◌, ◌<◌, ℕ, Bool, true, false, List, [], ◌∷◌, Option, Some, None, map, length}
use Rattle.es_token.specs.declared.token.Token.{Token}
use Rattle.es_ast.specs.declared.ast.Expr.{Expr}
use Rattle.es_lowering.specs.Value.{Value, post_at, turns}
use Rattle.es_lowering.specs.Expressions.{Post, chained}
use Rattle.es_syntax.specs.declared.cursor.Item.{Item}
use Rattle.es_syntax.specs.Held.{valued}
use Rattle.es_syntax.specs.Roles.{expr_in}
use Rattle.dts_rules.specs.Rules.{Env, Shown, Sort, State, after, if_frozen, call_type}
use Rattle.dts_rules.specs.Programs.{shown_expr}
use Rattle.dts_draft.specs.Written.{IfThere}
use Rattle.dts_operands.specs.declared.callees.Callee.{Callee}
use Rattle.dts_operands.specs.declared.callees.Callee.TheVariants as callee
use Rattle.dts_operands.specs.declared.callees.Argument.{Argument}
use Rattle.dts_operands.specs.declared.callees.Argument.TheVariants as argument

-- neither `Object` nor `Object.freeze`
abbrev pub Neither : Env → Shown → Type 0
Neither env it = (it.is_object ≡ false) × (it.is_freeze ≡ false)

-- what stands before a further part
abbrev pub IsCallee : Env → Callee → Expr → Type 0
IsCallee env callee.Object e = ((shown_expr env e).is_object ≡ true) × ((shown_expr env e).is_freeze ≡ false)
IsCallee env callee.Freeze e = ((shown_expr env e).is_object ≡ false) × ((shown_expr env e).is_freeze ≡ true)
IsCallee env (callee.Value value) e = Neither env (shown_expr env e)
IsCallee env callee.Neither e = Neither env (shown_expr env e)
IsCallee env callee.Broken e = Unit {0}

module _ (env : Env) (x : List ℕ) (ts : List Token) where
  -- a call that freezes this value
  pub record Freezes (value : Item) (e : Expr) : Type 0 where
    pub it : Expr
    pub there : expr_in (valued x ts value) ≡ Some it
    pub rule : (c r : Bool) (s : State)
        → (shown_expr env e).rule c r s ≡ after if_frozen ((shown_expr env it).rule c r s)

  -- the type of what a further part makes
  abbrev pub Makes : Callee → Expr → Type 0
  Makes callee.Object e = Unit {0}
  Makes callee.Freeze e = (c r : Bool) (s : State) → (shown_expr env e).rule c r s ≡ (None, s)
  Makes (callee.Value value) e = Freezes value e
  Makes callee.Neither e = (c r : Bool) (s : State) → (shown_expr env e).rule c r s ≡ (None, s)
  Makes callee.Broken e = Unit {0}

  -- what a further part makes of what stands before it
  abbrev pub Made : Callee → Expr → Type 0
  Made callee e = IsCallee env callee e × Makes callee e

  abbrev pub Leads : Callee → Callee → Post → Type 0
  Leads before after post = (start : ℕ) (obj : Expr) → IsCallee env before obj → Made after (post start obj)

  -- the same of further parts, behind one
  abbrev pub LeadsOn : Callee → Callee → Value → Type 0
  LeadsOn before after row =
      (start : ℕ) (obj : Expr) → Made before obj
      → IfThere (λ posts. Made after (chained start obj posts)) (turns (λ turn. post_at turn 0) row)

  -- one plain argument alone, or others
  pub record IsOnly (value : Item) (args : List Expr) : Type 0 where
    pub it : Expr
    pub there : expr_in (valued x ts value) ≡ Some it
    pub alone : args ≡ it ∷ []
    pub sort : (shown_expr env it).sort ≡ Sort.plain

  abbrev pub OnlyBy : Argument → List Expr → Type 0
  OnlyBy (argument.One value) args = IsOnly value args
  OnlyBy argument.Others args =
      (callee : Shown) (mark c r : Bool) (s : State)
      → call_type env callee mark (map (λ (e : Expr). (e, shown_expr env e)) args) c r s ≡ (None, s)
  OnlyBy argument.Broken args = Unit {0}

-- a value that is frozen takes fewer entries than this
abbrev pub IsUnder : Callee → ℕ → Type 0
IsUnder (callee.Value value) n = length value.parts.entries.now < n
IsUnder _ n = Unit {0}

abbrev pub ArgumentUnder : Argument → ℕ → Type 0
ArgumentUnder (argument.One value) n = length value.parts.entries.now < n
ArgumentUnder _ n = Unit {0}
