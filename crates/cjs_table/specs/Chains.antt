-- What further parts of chains add.
use Rattle.std.specs.Prelude.{◌≡◌, ℕ, Bool, true, false, List, [], ◌∷◌, ◌++◌, map, Option, Some, None, IfSome, IsSomeAnd, ◌⊎◌}
use Rattle.es_token.specs.declared.token.Token.{Token}
use Rattle.es_ast.specs.declared.ast.Expr.{Expr, out-Expr}
use Rattle.es_lowering.specs.Expressions.{Post, chained}
use Rattle.es_syntax.specs.declared.cursor.Item.{Item}
use Rattle.es_syntax.specs.Held.{valued}
use Rattle.es_syntax.specs.Roles.{args_in}
use Rattle.cjs_facts.specs.declared.found.Found.{Found}
use Rattle.cjs_facts.specs.Facts.{Facts, Called}
use Rattle.cjs_facts.specs.Looks.{Look, look, call_of, callee_look}
use Rattle.cjs_facts.specs.Exports.{after, called_by}
use Rattle.cjs_looks.specs.Behind.{IsBehind}
use Rattle.cjs_looks.specs.Odd.{Linked}
use Rattle.cjs_looks.specs.Seen.{look_of}
use Rattle.cjs_table.specs.declared.chain.Along.{Along}
use Rattle.cjs_table.specs.Facts.{called_in, chain_calls}

-- ---- whether a further part is a call
-- its one fact, and what it looks like
abbrev pub IsCall : Post → List Expr → Type 0
IsCall post args =
    (start : ℕ) (e : Expr) → (called_in (out-Expr (post start e)) ≡ Called e args ∷ [])
    × Linked (call_of (look e) (map look args)) (post start e)

abbrev pub IsQuiet : Post → Type 0
IsQuiet post = (start : ℕ) (e : Expr) → called_in (out-Expr (post start e)) ≡ []

-- of these arguments, or none
abbrev pub CallBy : Option (Option (List Expr)) → Post → Type 0
CallBy (Some args) post = IsSomeAnd args (λ args. IsCall post args)
CallBy None post = IsQuiet post

pub record CallsOf (args : Option (Option (List Expr))) (part : Option Post) : Type 0 where
  pub calls : IfSome part (λ post. CallBy args post)

abbrev pub args_seen : List ℕ → List Token → Option Item → Option (Option (List Expr))
args_seen x ts (Some item) = Some (args_in (valued x ts item))
args_seen x ts None = None

-- ---- how far a chain was scanned: what stands by now looks so, so as a callee, and a call counted or not; what is found
pub record Spot : Type 0 where
  pub seen : Look
  pub callee : Look
  pub counted : Bool
  pub found : Found

abbrev pub spot : List ℕ → List Token → Along → Found → Spot
spot x ts along found = record {
  seen = look_of x ts along.seen;
  callee = look_of x ts along.callee;
  counted = along.counted;
  found = found;
}

-- behind a call that counted none does
abbrev pub IsOnce : List ℕ → List Token → Along → Type 0
IsOnce x ts along =
    along.counted ≡ true → IsBehind (look_of x ts along.seen) × IsBehind (look_of x ts along.callee)

-- an expression there: its calls were added
pub record State (e : Expr) (calls : Facts) (s : Spot) (start : Found) : Type 0 where
  pub looks : look e ≡ s.seen
  pub acts : callee_look e ≡ s.callee
  pub found : s.found ≡ after start calls
  pub quiet : s.counted ≡ false → (f : Found) → after f calls ≡ f

-- further parts take each expression on
pub record Follows (part : Option Post) (a b : Spot) : Type 0 where
  pub follows : IfSome part (λ post. (start : Found) (byte : ℕ) (e : Expr) (calls : Facts) → State e calls a start
      → State (post byte e) (called_in (out-Expr (post byte e)) ++ calls) b start)

pub record AllFollow (part : Option (List Post)) (a b : Spot) : Type 0 where
  pub follow : IfSome part (λ posts. (start : Found) (byte : ℕ) (e : Expr) (calls : Facts) → State e calls a start
      → State (chained byte e posts) (chain_calls byte posts e ++ calls) b start)

-- ---- a call of what looks so passes, or counts as the first one
abbrev pub Passes : Look → List Expr → Bool → Bool → Found → Found → Type 0
Passes callee args counted then_counted old new =
    ((f : Found) → called_by callee args f ≡ f) × ((new ≡ old) × (then_counted ≡ counted))

abbrev pub Counts : Look → List Expr → Bool → Bool → Found → Found → Type 0
Counts callee args counted then_counted old new =
    (counted ≡ false) × ((new ≡ called_by callee args old) × (then_counted ≡ true))

pub record Calls (callee : Look) (args : Option (List Expr)) (counted then_counted : Bool) (old new : Found) : Type 0
  where
    pub calls : IfSome args (λ args.
        Passes callee args counted then_counted old new ⊎ Counts callee args counted then_counted old new)

-- with which it looks so
pub record CallStep (args : Option (List Expr)) (seen : Look) (a b : Spot) : Type 0 where
  pub steps : IfSome args (λ args. (post : Post) → IsCall post args
      → ((byte : ℕ) (e : Expr) → look e ≡ a.seen → Linked seen (post byte e)) → (start : Found) (byte : ℕ) (e : Expr)
      (calls : Facts) → State e calls a start
      → State (post byte e) (called_in (out-Expr (post byte e)) ++ calls) b start)
