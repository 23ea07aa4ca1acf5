-- The range of nodes that lean left is where the whole chain stands; what is no node of its own is no expression.
use Rattle.std.specs.Prelude.{ℕ, true, List, [], ◌∷◌, Option, Some, None, IfSome}
use Rattle.std.proofs.Common.{◌≡◌, refl, sym, subst}
use Rattle.base.specs.declared.range.Range.{Range}
use Rattle.es_token.specs.declared.token.Token.{Token}
use Rattle.es_ast.specs.declared.ast.Expr.{Expr}
use Rattle.es_lowering.specs.Value.{Value, absent, nil, more, token, node, as_group}
use Rattle.es_lowering.specs.Texts.{span_of}
use Rattle.es_lowering.specs.Lowering.{build, as_target}
use Rattle.es_syntax.specs.declared.entry.Lean.{Lean}
use Rattle.es_syntax.specs.declared.entry.Lean.TheVariants as vLean
use Rattle.es_syntax.specs.declared.entry.Entry.{Entry}
use Rattle.es_syntax.specs.declared.entry.What.{What}
use Rattle.es_syntax.specs.declared.entry.What.TheVariants as vWhat
use Rattle.es_syntax.specs.declared.cursor.Item.{Item}
use Rattle.es_syntax.specs.Held.{Held, held, parts_of, label_of, leaning, leaned, leant, made, valued}
use Rattle.es_syntax.specs.Places.{place_of}
use Rattle.es_syntax.specs.Roles.{expr_in}
use Rattle.es_syntax.proofs.Others.{in_held, in_role}
use Rattle.es_expr_spans.specs.Spans.{expr_span, is_lean}
use Rattle.es_expr_spans.proofs.Nodes.{node_spans}

module _ (x : List ℕ) (ts : List Token) where
  -- the expression that a node is has the range of the node
  abbrev Fits : Value → Type 0
  Fits v = IfSome (place_of v) (λ place. IfSome (expr_in v) (λ e. expr_span e ≡ span_of ts place.0 place.1))

  fits_leaning : (lean : Lean) (from : ℕ) (v : Value) (turn : Held) → Fits (leaning x ts lean from v turn)
  unfolding build
  fits_leaning vLean.Binary from v turn =
      node_spans x ts (label_of vLean.Binary) from (span_of ts from turn.0) (more v (as_group turn.1)) refl
  fits_leaning vLean.TypedBinary from v turn =
      node_spans x ts (label_of vLean.TypedBinary) from (span_of ts from turn.0) (more v (as_group turn.1)) refl

  fits_leaned : (lean : Lean) (from : ℕ) (v : Value) (ps : List Held) → Fits v → Fits (leaned x ts lean from v ps)
  unfolding leaned
  fits_leaned lean from v [] fits = fits
  fits_leaned lean from v (p ∷ ps) fits =
      fits_leaned lean from (leaning x ts lean from v p) ps (fits_leaning lean from v p)

  fits_leant : (lean : Lean) (from : ℕ) (ps : List Held) → Fits (leant x ts lean from ps)
  fits_leant lean from [] = tt
  fits_leant lean from (p ∷ []) = tt
  fits_leant lean from (p ∷ q ∷ ps) =
      fits_leaned lean from (leaning x ts lean from p.1 q) ps (fits_leaning lean from p.1 q)

  at_place : (v : Value) (from to : ℕ) → place_of v ≡ Some (from, to) → Fits v
      → IfSome (expr_in v) (λ e. span_of ts from to ≡ expr_span e)
  at_place v from to e fits =
      let P : Option (ℕ × ℕ) → Type 0 =
      λ place. IfSome place (λ place. IfSome (expr_in v) (λ e. expr_span e ≡ span_of ts place.0 place.1)) in
      turned (expr_in v) (subst P e fits)
    where
      turned : (o : Option Expr) → IfSome o (λ e. expr_span e ≡ span_of ts from to)
          → IfSome o (λ e. span_of ts from to ≡ expr_span e)
      turned (Some e) known = sym known
      turned None known = tt

  pub leant_span : (lean : Lean) (first from to : ℕ) (es : List Entry)
      → place_of (leant x ts lean first (parts_of x ts es)) ≡ Some (from, to)
      → IfSome (expr_in (leant x ts lean first (parts_of x ts es))) (λ e. span_of ts from to ≡ expr_span e)
  leant_span lean first from to es e =
      at_place (leant x ts lean first (parts_of x ts es)) from to e (fits_leant lean first (parts_of x ts es))

  lean_place : (w : What) (first to : ℕ) (es : List Entry) (place : ℕ × ℕ) → is_lean w ≡ true
      → place_of (made x ts w first to (held x ts es) (parts_of x ts es)) ≡ Some place
      → IfSome (expr_in (made x ts w first to (held x ts es) (parts_of x ts es)))
      (λ e. span_of ts place.0 place.1 ≡ expr_span e)
  lean_place (vWhat.Lean lean) first to es place is e = leant_span lean first place.0 place.1 es e
  lean_place vWhat.Leaf first to es place is e = let bad : ⊥ = cc in absurd bad
  lean_place (vWhat.Node label) first to es place is e = let bad : ⊥ = cc in absurd bad
  lean_place (vWhat.Role label) first to es place is e = let bad : ⊥ = cc in absurd bad
  lean_place vWhat.Parts first to es place is e = let bad : ⊥ = cc in absurd bad

  pub lean_span : (i : Item) (place : ℕ × ℕ) → is_lean i.what ≡ true → place_of (valued x ts i) ≡ Some place
      → IfSome (expr_in (valued x ts i)) (λ e. span_of ts place.0 place.1 ≡ expr_span e)
  lean_span i place is e = lean_place i.what i.from i.to i.parts.entries.now place is e

  -- what stands nowhere is no node
  pub no_place : (v : Value) (r : Range) → place_of v ≡ None → IfSome (expr_in v) (λ e. r ≡ expr_span e)
  no_place absent r e = tt
  no_place nil r e = tt
  no_place (more v vs) r e = tt
  no_place (token n) r e = tt
  no_place (node from to m) r e = absurd (some (from, to) e)
    where
      some : (p : ℕ × ℕ) → Some p ≡ None → ⊥
      some p e = cc

  none : (v : Value) (r : Range) → expr_in v ≡ None → IfSome (expr_in v) (λ e. r ≡ expr_span e)
  none v r e = let P : Option Expr → Type 0 = λ o. IfSome o (λ e. r ≡ expr_span e) in subst P (sym e) tt

  pub role_span : (v : Value) (r : Range) → IfSome (expr_in (as_target x ts v)) (λ e. r ≡ expr_span e)
  role_span v r = none (as_target x ts v) r (in_role x ts (λ m. m.expr) (λ e. refl) v)

  pub parts_span : (es : List Entry) (r : Range) → IfSome (expr_in (held x ts es)) (λ e. r ≡ expr_span e)
  parts_span es r = none (held x ts es) r (in_held x ts (λ m. m.expr) es)
