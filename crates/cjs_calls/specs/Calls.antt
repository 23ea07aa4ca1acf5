-- What calls add.
use Rattle.std.specs.Prelude.{◌≡◌, ℕ, true, false, List, [], ◌∷◌, Option, Some, None, IfSome, if◌then◌else◌}
use Rattle.es_token.specs.declared.token.Token.{Token}
use Rattle.es_ast.specs.declared.ast.Expr.{Expr, out-Expr}
use Rattle.es_syntax.specs.declared.cursor.Siblings.{Siblings}
use Rattle.cjs_facts.specs.declared.found.Found.{Found}
use Rattle.cjs_facts.specs.Looks.{Look, look, props_of}
use Rattle.cjs_facts.specs.Exports.{is_spread_in, defined, starred, is_star, star}
use Rattle.cjs_calls.specs.Getters.{PropsAre}

-- a call that defines nothing
abbrev pub starred_by : Look → List Expr → Found → Found
starred_by callee args f = if is_star callee then star args f else f

-- where the arguments are there, they add this
pub record Makes (f : List Expr → Found → Found) (args : Option (List Expr)) (old new : Found) : Type 0 where
  pub makes : IfSome args (λ args. new ≡ f args old)

-- what is told of an expression: it stands behind `...`; or not, and it has these properties
abbrev pub Told : List ℕ → List Token → Option (Option Siblings) → Expr → Type 0
Told x ts None e = is_spread_in (out-Expr e) ≡ true
Told x ts (Some row) e = (is_spread_in (out-Expr e) ≡ false) × PropsAre x ts row (props_of e)

pub record HasProps (x : List ℕ) (ts : List Token) (told : Option (Option Siblings)) (part : Option Expr) : Type 0 where
  pub has : IfSome part (Told x ts told)

-- `Object.defineProperty` of these three
pub record DefinesBy (object name last : Option Expr) (old new : Found) : Type 0 where
  pub defines : IfSome object (λ a. IfSome name (λ b. IfSome last (λ c. (others : List Expr)
      → new ≡ defined (a ∷ b ∷ c ∷ others) old)))

pub record StarsOne (first : Option Expr) (old new : Found) : Type 0 where
  pub stars : IfSome first (λ a. new ≡ starred (look a) old)

pub record StarsTwo (first second : Option Expr) (old new : Found) : Type 0 where
  pub stars : IfSome first (λ a. IfSome second (λ b. new ≡ star (a ∷ b ∷ []) old))
