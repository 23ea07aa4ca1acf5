-- What is no node of its own stands in no role: parts in a row, a node in another role, and nodes that lean left, wherever
-- these have not that role.
use Rattle.std.specs.Prelude.{List, [], ◌∷◌, Option, None}
use Rattle.std.proofs.Common.{◌≡◌, ℕ, refl}
use Rattle.base.specs.declared.range.Range.{Range}
use Rattle.es_token.specs.declared.token.Token.{Token}
use Rattle.es_ast.specs.declared.ast.Expr.{Expr}
use Rattle.es_lowering.specs.Value.{Value, absent, nil, more, token, node, Typed, given, typed, as_group}
use Rattle.es_lowering.specs.Texts.{span_of}
use Rattle.es_lowering.specs.Lowering.{build, as_target, target_of}
use Rattle.es_syntax.specs.declared.entry.Lean.{Lean}
use Rattle.es_syntax.specs.declared.entry.Entry.{Entry}
use Rattle.es_syntax.specs.Held.{label_of, Held, leaning, leaned, leant, row_of, parts_of, held}

module _ (x : List ℕ) (ts : List Token) {A : Type 0} (f : Typed → Option A) where
  in_row : (ps : List Held) → given (typed (row_of x ts ps)) f ≡ None
  in_row [] = refl
  in_row (p ∷ ps) = refl

  pub in_held : (es : List Entry) → given (typed (held x ts es)) f ≡ None
  unfolding held
  in_held es = in_row (parts_of x ts es)

  pub in_role : ((e : Option Expr) → f (target_of x ts e) ≡ None) → (v : Value)
      → given (typed (as_target x ts v)) f ≡ None
  in_role none absent = refl
  in_role none nil = refl
  in_role none (more v vs) = refl
  in_role none (token n) = refl
  in_role none (node from to m) = none m.expr

  in_leaned : ((lean : Lean) (from : ℕ) (r : Range) (p : Value) → f (build x ts (label_of lean) from r p) ≡ None)
      → (lean : Lean) (from : ℕ) (v : Value) (ps : List Held) → given (typed v) f ≡ None
      → given (typed (leaned x ts lean from v ps)) f ≡ None
  unfolding leaned
  in_leaned none lean from v [] e = e
  in_leaned none lean from v (p ∷ ps) e =
      in_leaned none lean from (leaning x ts lean from v p) ps
      (none lean from (span_of ts from p.0) (more v (as_group p.1)))

  pub in_leant : ((lean : Lean) (from : ℕ) (r : Range) (p : Value) → f (build x ts (label_of lean) from r p) ≡ None)
      → (lean : Lean) (from : ℕ) (ps : List Held) → given (typed (leant x ts lean from ps)) f ≡ None
  in_leant none lean from [] = refl
  in_leant none lean from (p ∷ []) = refl
  in_leant none lean from (p ∷ q ∷ ps) =
      in_leaned none lean from (leaning x ts lean from p.1 q) ps
      (none lean from (span_of ts from q.0) (more p.1 (as_group q.1)))
