-- The range of what a node becomes is that of the node, but of a token or a chain.
use Rattle.std.specs.Prelude.{ℕ, Bool, true, false, List, Option, Some, None, if◌then◌else◌, IfSome}
use Rattle.std.proofs.Common.{◌≡◌, refl, sym, ◌∙◌}
use Rattle.base.specs.declared.range.Range.{Range}
use Rattle.es_token.specs.declared.token.Token.{Token}
use Rattle.es_grammar.specs.declared.rows.NodeKind.{NodeKind}
use Rattle.es_grammar.specs.declared.rows.NodeKind.TheVariants as l
use Rattle.es_ast.specs.declared.ts.ts.TsPart.{TsPart}
use Rattle.es_ast.specs.declared.leaf.AssignOp.{AssignOp}
use Rattle.es_ast.specs.declared.leaf.BinaryOp.{BinaryOp}
use Rattle.es_ast.specs.declared.leaf.ImportPhase.TheVariants as vPhase
use Rattle.es_ast.specs.declared.leaf.Lit.TheVariants as vLit
use Rattle.es_ast.specs.declared.leaf.UpdateOp.{UpdateOp}
use Rattle.es_ast.specs.declared.ast.Class.{Class, out-Class}
use Rattle.es_ast.specs.declared.ast.Expr.{Expr}
use Rattle.es_ast.specs.declared.ast.Expr.TheVariants as vExpr
use Rattle.es_ast.specs.declared.ast.Function.{Function, out-Function}
use Rattle.es_ast.specs.declared.ast.Pat.{Pat}
use Rattle.es_lowering.specs.Value.{Value}
use Rattle.es_lowering.specs.Expressions as exprs
use Rattle.es_lowering.specs.Lowering.{same_label, expr_of}
use Rattle.es_syntax.specs.Views.{is_one_of}
use Rattle.es_expr_spans.specs.Spans.{expr_span, own_ranges}
use Rattle.es_expr_spans.proofs.Given.{Of, one, none, of_if, of_other}
use Rattle.es_expr_spans.proofs.Spans.{span_This, span_Super, span_Lit, span_Array, span_Spread, span_Object, span_Fn, span_Class, span_Arrow, span_Paren, span_Unary, span_Update, span_Await, span_Yield, span_Bin, span_Assign, span_Cond, span_Seq, span_New, span_ImportCall, span_ImportMeta, span_NewTarget, span_Tpl, span_TsAs, span_TsConstAssertion, span_TsSatisfies}
use Rattle.es_expr_spans.proofs.Forms as forms

abbrev pub Spans : Range → Expr → Type 0
Spans r e = expr_span e ≡ r

-- it is none of these
abbrev Others : NodeKind → Type 0
Others label =
    (same_label label l.Name ≡ false) × (same_label label l.Number ≡ false) × (same_label label l.Str ≡ false)
    × (same_label label l.RegExp ≡ false) × (same_label label l.Chain ≡ false)

module _ (x : List ℕ) (ts : List Token) (r : Range) where
  fn : (f : Function) → (out-Function f).span ≡ r → Spans r (vExpr.Fn f)
  fn f e = span_Fn f ∙ e

  arrow : (f : Function) → (out-Function f).span ≡ r → Spans r (vExpr.Arrow f)
  arrow f e = span_Arrow f ∙ e

  class : (c : Class) → (out-Class c).span ≡ r → Spans r (vExpr.Class c)
  class c e = span_Class c ∙ e

  new_ : (callee : Expr) (type_args : Option TsPart) (has_args : Bool) (args : List Expr)
      → Spans r (vExpr.New callee type_args has_args args r)
  new_ callee type_args has_args args = span_New callee type_args has_args args r

  update : (op : UpdateOp) (prefix : Bool) (arg : Expr) → Spans r (vExpr.Update op prefix arg r)
  update op prefix arg = span_Update op prefix arg r

  bin : (op : BinaryOp) (left right : Expr) → Spans r (vExpr.Bin op left right r)
  bin op left right = span_Bin op left right r

  assign : (op : AssignOp) (left : Pat) (right : Expr) → Spans r (vExpr.Assign op left right r)
  assign op left right = span_Assign op left right r

  spans_of : (label : NodeKind) (from : ℕ) (p : Value) → Others label
      → Of (Spans r) (expr_of x ts label from r p)
  unfolding expr_of
  spans_of label from p e =
      of_other (Spans r) (same_label label l.Name) (exprs.name x ts p) e.0
      (of_if (Spans r) (same_label label l.Word) (forms.word (Spans r) x ts r (span_This r) (span_Lit (vLit.Null r))
      (λ b. span_Lit (vLit.Bool b r)) p)
      (of_other (Spans r) (same_label label l.Number) (exprs.number x ts p) e.1
      (of_other (Spans r) (same_label label l.Str) (exprs.str x ts p) e.2
      (of_other (Spans r) (same_label label l.RegExp) (exprs.regexp x ts p) e.3
      (of_if (Spans r) (same_label label l.Template) (forms.template (Spans r) x ts r (λ quasis es. span_Tpl quasis
      es r) p)
      (of_if (Spans r) (same_label label l.TemplateParts) (forms.template_parts (Spans r) x ts r (λ quasis es.
      span_Tpl quasis es r) p)
      (of_if (Spans r) (same_label label l.Parenthesized) (forms.parenthesized (Spans r) x ts r (λ e. span_Paren e
      r) p)
      (of_if (Spans r) (same_label label l.ArrayLiteral) (forms.array_literal (Spans r) x ts r (λ elems. span_Array
      elems r) from p)
      (of_if (Spans r) (same_label label l.ObjectLiteral) (forms.object_literal (Spans r) x ts r (λ props.
      span_Object props r) p)
      (of_if (Spans r) (same_label label l.Spread) (forms.spread (Spans r) x ts r (λ e. span_Spread e r) p)
      (of_if (Spans r) (same_label label l.Function) (forms.function (Spans r) x ts r fn false p)
      (of_if (Spans r) (same_label label l.AsyncFunction) (forms.function (Spans r) x ts r fn true p)
      (of_if (Spans r) (same_label label l.Class) (forms.class_ (Spans r) x ts r class p)
      (of_if (Spans r) (same_label label l.Super) (one (Spans r) (span_Super r))
      (of_if (Spans r) (same_label label l.ImportCall) (forms.import_call (Spans r) x ts r (λ phase args.
      span_ImportCall phase args r) vPhase.Evaluation p)
      (of_if (Spans r) (same_label label l.SourceCall) (forms.import_call (Spans r) x ts r (λ phase args.
      span_ImportCall phase args r) vPhase.Source p)
      (of_if (Spans r) (same_label label l.DeferCall) (forms.import_call (Spans r) x ts r (λ phase args.
      span_ImportCall phase args r) vPhase.Defer p)
      (of_if (Spans r) (same_label label l.ImportMeta) (one (Spans r) (span_ImportMeta r))
      (of_if (Spans r) (same_label label l.NewTarget) (one (Spans r) (span_NewTarget r))
      (of_if (Spans r) (same_label label l.New) (forms.new_ (Spans r) x ts r new_ p)
      (of_other (Spans r) (same_label label l.Chain) (exprs.chain r p) e.4
      (of_if (Spans r) (same_label label l.UpdatePrefix) (forms.update_prefix (Spans r) x ts r update p)
      (of_if (Spans r) (same_label label l.UpdatePostfix) (forms.update_postfix (Spans r) x ts r update p)
      (of_if (Spans r) (same_label label l.UnaryExpression) (forms.prefix (Spans r) x ts r (λ op arg. span_Unary op
      arg r) p)
      (of_if (Spans r) (same_label label l.AwaitExpression) (forms.await_ (Spans r) x ts r (λ arg. span_Await arg r)
      p)
      (of_if (Spans r) (same_label label l.Binary) (forms.binary (Spans r) x ts r bin p)
      (of_if (Spans r) (same_label label l.PrivateIn) (forms.private_in (Spans r) x ts r bin p)
      (of_if (Spans r) (same_label label l.Conditional) (forms.conditional (Spans r) x ts r (λ test cons alt.
      span_Cond test cons alt r) p)
      (of_if (Spans r) (same_label label l.Assignment) (forms.assignment (Spans r) x ts r assign p)
      (of_if (Spans r) (same_label label l.PatternAssignment) (forms.pattern_assignment (Spans r) x ts r assign p)
      (of_if (Spans r) (same_label label l.Yield) (forms.yield_ (Spans r) x ts r (λ delegate arg. span_Yield
      delegate arg r) p)
      (of_if (Spans r) (same_label label l.NameArrow) (forms.name_arrow (Spans r) x ts r arrow false p)
      (of_if (Spans r) (same_label label l.ParenthesizedArrow) (forms.parenthesized_arrow (Spans r) x ts r arrow
      false p)
      (of_if (Spans r) (same_label label l.AsyncNameArrow) (forms.name_arrow (Spans r) x ts r arrow true p)
      (of_if (Spans r) (same_label label l.AsyncParenthesizedArrow) (forms.parenthesized_arrow (Spans r) x ts r
      arrow true p)
      (of_if (Spans r) (same_label label l.Sequence) (forms.sequence (Spans r) x ts r (λ es. span_Seq es r) p)
      (of_if (Spans r) (same_label label l.TypedFunction) (forms.typed_function (Spans r) x ts r fn false p)
      (of_if (Spans r) (same_label label l.TypedAsyncFunction) (forms.typed_function (Spans r) x ts r fn true p)
      (of_if (Spans r) (same_label label l.TypedClass) (forms.typed_class (Spans r) x ts r class false p)
      (of_if (Spans r) (same_label label l.AbstractClass) (forms.typed_class (Spans r) x ts r class true p)
      (of_if (Spans r) (same_label label l.TypedNew) (forms.typed_new (Spans r) x ts r new_ p)
      (of_if (Spans r) (same_label label l.TypedBinary) (forms.typed_binary (Spans r) x ts r (λ e.
      span_TsConstAssertion e r) (λ e ty. span_TsAs e ty r) (λ e ty. span_TsSatisfies e ty r) bin p)
      (of_if (Spans r) (same_label label l.TypeAssertion) (forms.type_assertion (Spans r) x ts r (λ e.
      span_TsConstAssertion e r) (λ e ty. span_TsAs e ty r) p)
      (of_if (Spans r) (same_label label l.TypedParenthesizedArrow) (forms.typed_arrow (Spans r) x ts r arrow false
      p)
      (of_if (Spans r) (same_label label l.TypedAsyncParenthesizedArrow) (forms.typed_arrow (Spans r) x ts r arrow
      true p)
      (none (Spans r)))))))))))))))))))))))))))))))))))))))))))))))

first : (b rest : Bool) → (if b then true else rest) ≡ false → (b ≡ false) × (rest ≡ false)
first true rest e = let bad : ⊥ = cc in absurd bad
first false rest e = (refl, e)

-- none of the alternatives whose ranges are their own
others : (label : NodeKind) → is_one_of own_ranges label ≡ false → Others label
others label e =
    let a = first (same_label label l.Name) _ e in
    let b = first (same_label label l.Number) _ a.1 in
    let c = first (same_label label l.Str) _ b.1 in
    let d = first (same_label label l.RegExp) _ c.1 in
    let f = first (same_label label l.Chain) _ d.1 in
    (a.0, b.0, c.0, d.0, f.0)

pub node_spans : (x : List ℕ) (ts : List Token) (label : NodeKind) (from : ℕ) (r : Range) (p : Value)
    → is_one_of own_ranges label ≡ false → IfSome (expr_of x ts label from r p) (Spans r)
node_spans x ts label from r p e = (spans_of x ts r label from p (others label e)).is

-- the range of the node, where it has no range of its own
pub other_span : (x : List ℕ) (ts : List Token) (label : NodeKind) (from : ℕ) (r : Range) (p : Value)
    → is_one_of own_ranges label ≡ false → IfSome (expr_of x ts label from r p) (λ e. r ≡ expr_span e)
other_span x ts label from r p e = turned (expr_of x ts label from r p) (node_spans x ts label from r p e)
  where
    turned : (o : Option Expr) → IfSome o (Spans r) → IfSome o (λ e. r ≡ expr_span e)
    turned (Some e) known = sym known
    turned None known = tt
