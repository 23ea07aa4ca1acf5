-- What stands at a place, in a role that neither targets nor nodes that lean left have.
use Rattle.std.specs.Prelude.{Option, Some, None}
use Rattle.std.proofs.Common.{◌≡◌, ℕ, List, [], ◌∷◌, refl}
use Rattle.es_token.specs.declared.token.Token.{Token}
use Rattle.es_ast.specs.declared.ast.Expr.{Expr}
use Rattle.es_lowering.specs.Value.{Typed, Value, absent, nil, more, token, node, given, typed, part}
use Rattle.es_lowering.specs.Texts.{span_of}
use Rattle.es_lowering.specs.Lowering.{build, as_target, target_of}
use Rattle.es_syntax.specs.declared.entry.What.{What}
use Rattle.es_syntax.specs.declared.entry.What.TheVariants as vWhat
use Rattle.es_syntax.specs.declared.entry.Lean.{Lean}
use Rattle.es_syntax.specs.declared.entry.Entry.{Entry}
use Rattle.es_syntax.specs.Held.{Held, label_of, leaning, leaned, leant, made, row_of, parts_of, held}

module _ (x : List ℕ) (ts : List Token) {A : Type 0} (f : Typed → Option A)
    (no_target : (e : Option Expr) → f (target_of x ts e) ≡ None)
    (no_lean : (lean : Lean) (from to : ℕ) (v : Value)
    → f (build x ts (label_of lean) from (span_of ts from to) v) ≡ None) where
  abbrev role : Value → Option A
  role v = given (typed v) f

  -- of a node, by its alternative
  abbrev pub by_node : What → ℕ → ℕ → Value → Option A
  by_node (vWhat.Node label) from to v = f (build x ts label from (span_of ts from to) v)
  by_node _ from to v = None

  role_target : (v : Value) → role (as_target x ts v) ≡ None
  role_target absent = refl
  role_target nil = refl
  role_target (more v vs) = refl
  role_target (token n) = refl
  role_target (node from to m) = no_target m.expr

  role_row : (ps : List Held) → role (row_of x ts ps) ≡ None
  role_row [] = refl
  role_row (p ∷ ps) = refl

  role_held : (es : List Entry) → role (held x ts es) ≡ None
  unfolding held
  role_held es = role_row (parts_of x ts es)

  role_leaned : (lean : Lean) (from : ℕ) (v : Value) (ps : List Held) → role v ≡ None
      → role (leaned x ts lean from v ps) ≡ None
  unfolding leaned
  role_leaned lean from v [] e = e
  role_leaned lean from v (p ∷ ps) e =
      role_leaned lean from (leaning x ts lean from v p) ps (no_lean lean from p.0 _)

  role_leant : (lean : Lean) (from : ℕ) (ps : List Held) → role (leant x ts lean from ps) ≡ None
  role_leant lean from [] = refl
  role_leant lean from (p ∷ []) = refl
  role_leant lean from (p ∷ q ∷ ps) =
      role_leaned lean from (leaning x ts lean from p.1 q) ps (no_lean lean from q.0 _)

  pub made_role : (w : What) (from to : ℕ) (es : List Entry)
      → role (made x ts w from to (held x ts es) (parts_of x ts es)) ≡ by_node w from to (held x ts es)
  made_role vWhat.Leaf from to es = refl
  made_role (vWhat.Node label) from to es = refl
  made_role (vWhat.Role label) from to es = role_target (part (held x ts es) 0)
  made_role vWhat.Parts from to es = role_held es
  made_role (vWhat.Lean lean) from to es = role_leant lean from (parts_of x ts es)
