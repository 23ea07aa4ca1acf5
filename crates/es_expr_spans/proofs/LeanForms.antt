-- What holds of nodes that lean left, of whatever claim holds of each form.
use Rattle.std.specs.Prelude.{ℕ, List, [], ◌∷◌, Option, IfSome}
use Rattle.base.specs.declared.range.Range.{Range}
use Rattle.es_token.specs.declared.token.Token.{Token}
use Rattle.es_ast.specs.declared.ts.ts.TsPart.{TsPart}
use Rattle.es_ast.specs.declared.leaf.BinaryOp.{BinaryOp}
use Rattle.es_ast.specs.declared.ast.Expr.{Expr}
use Rattle.es_ast.specs.declared.ast.Expr.TheVariants as vExpr
use Rattle.es_lowering.specs.Value.{Value, more, as_group}
use Rattle.es_lowering.specs.Texts.{span_of}
use Rattle.es_lowering.specs.Lowering.{build, expr_of}
use Rattle.es_syntax.specs.declared.entry.Lean.{Lean}
use Rattle.es_syntax.specs.declared.entry.Lean.TheVariants as vLean
use Rattle.es_syntax.specs.Held.{Held, leaning, leaned, leant}
use Rattle.es_syntax.specs.Roles.{expr_in}
use Rattle.es_expr_spans.proofs.Forms.{binary, typed_binary}

pub record EachLean (P : Expr → Type 0) : Type 0 where
  pub binary : (op : BinaryOp) (left right : Expr) (r : Range) → P (vExpr.Bin op left right r)
  pub const : (e : Expr) (r : Range) → P (vExpr.TsConstAssertion e r)
  pub as_ : (e : Expr) (ty : Option TsPart) (r : Range) → P (vExpr.TsAs e ty r)
  pub satisfies : (e : Expr) (ty : Option TsPart) (r : Range) → P (vExpr.TsSatisfies e ty r)

module _ (P : Expr → Type 0) (x : List ℕ) (ts : List Token) (each : EachLean P) where
  leaning_forms : (lean : Lean) (from : ℕ) (v : Value) (turn : Held)
      → IfSome (expr_in (leaning x ts lean from v turn)) P
  unfolding build expr_of
  leaning_forms vLean.Binary from v turn =
      let r = span_of ts from turn.0 in
      (binary P x ts r (λ op left right. each.binary op left right r) (more v (as_group turn.1))).is
  leaning_forms vLean.TypedBinary from v turn =
      let r = span_of ts from turn.0 in
      (typed_binary P x ts r (λ e. each.const e r) (λ e ty. each.as_ e ty r) (λ e ty. each.satisfies e ty r)
      (λ op left right. each.binary op left right r) (more v (as_group turn.1))).is

  leaned_forms : (lean : Lean) (from : ℕ) (v : Value) (ps : List Held) → IfSome (expr_in v) P
      → IfSome (expr_in (leaned x ts lean from v ps)) P
  unfolding leaned
  leaned_forms lean from v [] known = known
  leaned_forms lean from v (p ∷ ps) known =
      leaned_forms lean from (leaning x ts lean from v p) ps (leaning_forms lean from v p)

  pub leant_forms : (lean : Lean) (from : ℕ) (ps : List Held) → IfSome (expr_in (leant x ts lean from ps)) P
  leant_forms lean from [] = tt
  leant_forms lean from (p ∷ []) = tt
  leant_forms lean from (p ∷ q ∷ ps) =
      leaned_forms lean from (leaning x ts lean from p.1 q) ps (leaning_forms lean from p.1 q)
