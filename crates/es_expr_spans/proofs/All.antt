-- What holds of the expression that a node becomes, by its alternative; of whatever claim holds of each form.
use Rattle.std.specs.Prelude.{ℕ, Bool, true, false, List, Option, if◌then◌else◌, IfSome}
use Rattle.std.proofs.Common.{◌≡◌, refl, sym, subst}
use denote.Enum.Bare.{same_true}
use Rattle.base.specs.declared.range.Range.{Range}
use Rattle.es_token.specs.declared.token.Token.{Token}
use Rattle.es_grammar.specs.contracts.rows.NodeKind.{the_type}
use Rattle.es_grammar.specs.declared.rows.NodeKind.{NodeKind}
use Rattle.es_grammar.specs.declared.rows.NodeKind.TheVariants as l
use Rattle.es_ast.specs.declared.ts.leaf.Ident.{Ident}
use Rattle.es_ast.specs.declared.ts.leaf.Str.{Str}
use Rattle.es_ast.specs.declared.ts.leaf.TplElement.{TplElement}
use Rattle.es_ast.specs.declared.ts.ts.TsPart.{TsPart}
use Rattle.es_ast.specs.declared.leaf.AssignOp.{AssignOp}
use Rattle.es_ast.specs.declared.leaf.BinaryOp.{BinaryOp}
use Rattle.es_ast.specs.declared.leaf.ImportPhase.{ImportPhase}
use Rattle.es_ast.specs.declared.leaf.ImportPhase.TheVariants as vPhase
use Rattle.es_ast.specs.declared.leaf.Lit.{Lit}
use Rattle.es_ast.specs.declared.leaf.Lit.TheVariants as vLit
use Rattle.es_ast.specs.declared.leaf.Regex.{Regex}
use Rattle.es_ast.specs.declared.leaf.UnaryOp.{UnaryOp}
use Rattle.es_ast.specs.declared.leaf.UpdateOp.{UpdateOp}
use Rattle.es_ast.specs.declared.ast.Class.{Class, out-Class}
use Rattle.es_ast.specs.declared.ast.Expr.{Expr}
use Rattle.es_ast.specs.declared.ast.Expr.TheVariants as vExpr
use Rattle.es_ast.specs.declared.ast.Function.{Function, out-Function}
use Rattle.es_ast.specs.declared.ast.Pat.{Pat}
use Rattle.es_ast.specs.declared.ast.Prop.{Prop}
use Rattle.es_lowering.specs.Value.{Value}
use Rattle.es_lowering.specs.Texts.{regex_of, ident_at, str_at, numeric_at, token_at}
use Rattle.es_lowering.specs.Expressions as exprs
use Rattle.es_lowering.specs.Lowering.{same_label, expr_of}
use Rattle.es_syntax.specs.declared.entry.Entry.{Entry}
use Rattle.es_syntax.specs.Held.{held}
use Rattle.es_expr_spans.proofs.Given.{Of, one, none, of_mapped}
use Rattle.es_expr_spans.proofs.Forms as forms
use Rattle.es_expr_spans.proofs.PostForms as post_forms
use Rattle.es_expr_spans.proofs.PostForms.{EachLink}

-- a claim of an alternative and an expression, and what holds of each form that stands over this range
pub record Each (P : NodeKind → Expr → Type 0) (r : Range) : Type 0 where
  pub name : (id : Ident) → P l.Name (vExpr.Ident id)
  pub word_this : P l.Word (vExpr.This r)
  pub word_null : P l.Word (vExpr.Lit (vLit.Null r))
  pub word_bool : (b : Bool) → P l.Word (vExpr.Lit (vLit.Bool b r))
  pub number : (lit : Lit) → P l.Number (vExpr.Lit lit)
  pub str : (it : Str) → P l.Str (vExpr.Lit (vLit.Str it))
  pub reg_exp : (it : Regex) → P l.RegExp (vExpr.Lit (vLit.Regex it))
  pub template : (quasis : List TplElement) (es : List Expr) → P l.Template (vExpr.Tpl quasis es r)
  pub template_parts : (quasis : List TplElement) (es : List Expr) → P l.TemplateParts (vExpr.Tpl quasis es r)
  pub parenthesized : (e : Expr) → P l.Parenthesized (vExpr.Paren e r)
  pub array_literal : (elems : List Expr) → P l.ArrayLiteral (vExpr.Array elems r)
  pub object_literal : (props : List Prop) → P l.ObjectLiteral (vExpr.Object props r)
  pub spread : (e : Expr) → P l.Spread (vExpr.Spread e r)
  pub function : (f : Function) → (out-Function f).span ≡ r → P l.Function (vExpr.Fn f)
  pub async_function : (f : Function) → (out-Function f).span ≡ r → P l.AsyncFunction (vExpr.Fn f)
  pub class_ : (c : Class) → (out-Class c).span ≡ r → P l.Class (vExpr.Class c)
  pub super_ : P l.Super (vExpr.Super r)
  pub import_call : (phase : ImportPhase) (args : List Expr) → P l.ImportCall (vExpr.ImportCall phase args r)
  pub source_call : (phase : ImportPhase) (args : List Expr) → P l.SourceCall (vExpr.ImportCall phase args r)
  pub defer_call : (phase : ImportPhase) (args : List Expr) → P l.DeferCall (vExpr.ImportCall phase args r)
  pub import_meta : P l.ImportMeta (vExpr.ImportMeta r)
  pub new_target : P l.NewTarget (vExpr.NewTarget r)
  pub new_ : (callee : Expr) (type_args : Option TsPart) (has_args : Bool) (args : List Expr) → P l.New (vExpr.New
      callee type_args has_args args r)
  pub chain : EachLink (P l.Chain)
  pub update_prefix : (op : UpdateOp) (prefix : Bool) (arg : Expr) → P l.UpdatePrefix (vExpr.Update op prefix arg r)
  pub update_postfix : (op : UpdateOp) (prefix : Bool) (arg : Expr) → P l.UpdatePostfix (vExpr.Update op prefix arg
      r)
  pub unary_expression : (op : UnaryOp) (arg : Expr) → P l.UnaryExpression (vExpr.Unary op arg r)
  pub await_expression : (arg : Expr) → P l.AwaitExpression (vExpr.Await arg r)
  pub binary : (op : BinaryOp) (left right : Expr) → P l.Binary (vExpr.Bin op left right r)
  pub private_in : (op : BinaryOp) (left right : Expr) → P l.PrivateIn (vExpr.Bin op left right r)
  pub conditional : (test cons alt : Expr) → P l.Conditional (vExpr.Cond test cons alt r)
  pub assignment : (op : AssignOp) (left : Pat) (right : Expr) → P l.Assignment (vExpr.Assign op left right r)
  pub pattern_assignment : (op : AssignOp) (left : Pat) (right : Expr) → P l.PatternAssignment (vExpr.Assign op left
      right r)
  pub yield_ : (delegate : Bool) (arg : Option Expr) → P l.Yield (vExpr.Yield delegate arg r)
  pub name_arrow : (f : Function) → (out-Function f).span ≡ r → P l.NameArrow (vExpr.Arrow f)
  pub parenthesized_arrow : (f : Function) → (out-Function f).span ≡ r → P l.ParenthesizedArrow (vExpr.Arrow f)
  pub async_name_arrow : (f : Function) → (out-Function f).span ≡ r → P l.AsyncNameArrow (vExpr.Arrow f)
  pub async_parenthesized_arrow : (f : Function) → (out-Function f).span ≡ r → P l.AsyncParenthesizedArrow
      (vExpr.Arrow f)
  pub sequence : (es : List Expr) → P l.Sequence (vExpr.Seq es r)
  pub typed_function : (f : Function) → (out-Function f).span ≡ r → P l.TypedFunction (vExpr.Fn f)
  pub typed_async_function : (f : Function) → (out-Function f).span ≡ r → P l.TypedAsyncFunction (vExpr.Fn f)
  pub typed_class : (c : Class) → (out-Class c).span ≡ r → P l.TypedClass (vExpr.Class c)
  pub abstract_class : (c : Class) → (out-Class c).span ≡ r → P l.AbstractClass (vExpr.Class c)
  pub typed_new : (callee : Expr) (type_args : Option TsPart) (has_args : Bool) (args : List Expr) → P l.TypedNew
      (vExpr.New callee type_args has_args args r)
  pub type_assertion_const : (e : Expr) → P l.TypeAssertion (vExpr.TsConstAssertion e r)
  pub type_assertion_as : (e : Expr) (ty : Option TsPart) → P l.TypeAssertion (vExpr.TsAs e ty r)
  pub typed_binary_const : (e : Expr) → P l.TypedBinary (vExpr.TsConstAssertion e r)
  pub typed_binary_as : (e : Expr) (ty : Option TsPart) → P l.TypedBinary (vExpr.TsAs e ty r)
  pub typed_binary_satisfies : (e : Expr) (ty : Option TsPart) → P l.TypedBinary (vExpr.TsSatisfies e ty r)
  pub typed_binary_binary : (op : BinaryOp) (left right : Expr) → P l.TypedBinary (vExpr.Bin op left right r)
  pub typed_parenthesized_arrow : (f : Function) → (out-Function f).span ≡ r → P l.TypedParenthesizedArrow
      (vExpr.Arrow f)
  pub typed_async_parenthesized_arrow : (f : Function) → (out-Function f).span ≡ r → P
      l.TypedAsyncParenthesizedArrow (vExpr.Arrow f)

-- of one alternative, and of those after it
of_branch : (P : NodeKind → Expr → Type 0) (label other : NodeKind) {first second : Option Expr} → Of (P other) first
    → Of (P label) second → Of (P label) (if same_label label other then first else second)
of_branch P label other {first} {second} f s = go (same_label label other) refl
  where
    go : (b : Bool) → same_label label other ≡ b → Of (P label) (if b then first else second)
    go true e =
        let R : NodeKind → Type 0 = λ label. Of (P label) first in subst R (sym (same_true the_type tt label other e)) f
    go false e = s

module _ (P : NodeKind → Expr → Type 0) (x : List ℕ) (ts : List Token) (r : Range) (each : Each P r) where
  names : (p : Value) → Of (P l.Name) (exprs.name x ts p)
  unfolding exprs.name
  names p = of_mapped (P l.Name) (ident_at x ts p 0) each.name

  numbers : (p : Value) → Of (P l.Number) (exprs.number x ts p)
  unfolding exprs.number
  numbers p = of_mapped (P l.Number) (numeric_at x ts p 0) each.number

  strs : (p : Value) → Of (P l.Str) (exprs.str x ts p)
  unfolding exprs.str
  strs p = of_mapped (P l.Str) (str_at x ts p 0) each.str

  regexps : (p : Value) → Of (P l.RegExp) (exprs.regexp x ts p)
  unfolding exprs.regexp
  regexps p = of_mapped (P l.RegExp) (token_at ts p 0) (λ t. each.reg_exp (regex_of x t))

  of_forms : (label : NodeKind) (from : ℕ) (es : List Entry) → Of (P label) (expr_of x ts label from r (held x ts es))
  unfolding expr_of
  of_forms label from es =
      of_branch P label l.Name (names (held x ts es))
      (of_branch P label l.Word (forms.word (P l.Word) x ts r each.word_this each.word_null each.word_bool (held x
      ts es))
      (of_branch P label l.Number (numbers (held x ts es))
      (of_branch P label l.Str (strs (held x ts es))
      (of_branch P label l.RegExp (regexps (held x ts es))
      (of_branch P label l.Template (forms.template (P l.Template) x ts r each.template (held x ts es))
      (of_branch P label l.TemplateParts (forms.template_parts (P l.TemplateParts) x ts r each.template_parts (held
      x ts es))
      (of_branch P label l.Parenthesized (forms.parenthesized (P l.Parenthesized) x ts r each.parenthesized (held x
      ts es))
      (of_branch P label l.ArrayLiteral (forms.array_literal (P l.ArrayLiteral) x ts r each.array_literal from (held
      x ts es))
      (of_branch P label l.ObjectLiteral (forms.object_literal (P l.ObjectLiteral) x ts r each.object_literal (held
      x ts es))
      (of_branch P label l.Spread (forms.spread (P l.Spread) x ts r each.spread (held x ts es))
      (of_branch P label l.Function (forms.function (P l.Function) x ts r each.function false (held x ts es))
      (of_branch P label l.AsyncFunction (forms.function (P l.AsyncFunction) x ts r each.async_function true (held x
      ts es))
      (of_branch P label l.Class (forms.class_ (P l.Class) x ts r each.class_ (held x ts es))
      (of_branch P label l.Super (one (P l.Super) each.super_)
      (of_branch P label l.ImportCall (forms.import_call (P l.ImportCall) x ts r each.import_call vPhase.Evaluation
      (held x ts es))
      (of_branch P label l.SourceCall (forms.import_call (P l.SourceCall) x ts r each.source_call vPhase.Source
      (held x ts es))
      (of_branch P label l.DeferCall (forms.import_call (P l.DeferCall) x ts r each.defer_call vPhase.Defer (held x
      ts es))
      (of_branch P label l.ImportMeta (one (P l.ImportMeta) each.import_meta)
      (of_branch P label l.NewTarget (one (P l.NewTarget) each.new_target)
      (of_branch P label l.New (forms.new_ (P l.New) x ts r each.new_ (held x ts es))
      (of_branch P label l.Chain (post_forms.chain (P l.Chain) x ts each.chain r es)
      (of_branch P label l.UpdatePrefix (forms.update_prefix (P l.UpdatePrefix) x ts r each.update_prefix (held x ts
      es))
      (of_branch P label l.UpdatePostfix (forms.update_postfix (P l.UpdatePostfix) x ts r each.update_postfix (held
      x ts es))
      (of_branch P label l.UnaryExpression (forms.prefix (P l.UnaryExpression) x ts r each.unary_expression (held x
      ts es))
      (of_branch P label l.AwaitExpression (forms.await_ (P l.AwaitExpression) x ts r each.await_expression (held x
      ts es))
      (of_branch P label l.Binary (forms.binary (P l.Binary) x ts r each.binary (held x ts es))
      (of_branch P label l.PrivateIn (forms.private_in (P l.PrivateIn) x ts r each.private_in (held x ts es))
      (of_branch P label l.Conditional (forms.conditional (P l.Conditional) x ts r each.conditional (held x ts es))
      (of_branch P label l.Assignment (forms.assignment (P l.Assignment) x ts r each.assignment (held x ts es))
      (of_branch P label l.PatternAssignment (forms.pattern_assignment (P l.PatternAssignment) x ts r
      each.pattern_assignment (held x ts es))
      (of_branch P label l.Yield (forms.yield_ (P l.Yield) x ts r each.yield_ (held x ts es))
      (of_branch P label l.NameArrow (forms.name_arrow (P l.NameArrow) x ts r each.name_arrow false (held x ts es))
      (of_branch P label l.ParenthesizedArrow (forms.parenthesized_arrow (P l.ParenthesizedArrow) x ts r
      each.parenthesized_arrow false (held x ts es))
      (of_branch P label l.AsyncNameArrow (forms.name_arrow (P l.AsyncNameArrow) x ts r each.async_name_arrow true
      (held x ts es))
      (of_branch P label l.AsyncParenthesizedArrow (forms.parenthesized_arrow (P l.AsyncParenthesizedArrow) x ts r
      each.async_parenthesized_arrow true (held x ts es))
      (of_branch P label l.Sequence (forms.sequence (P l.Sequence) x ts r each.sequence (held x ts es))
      (of_branch P label l.TypedFunction (forms.typed_function (P l.TypedFunction) x ts r each.typed_function false
      (held x ts es))
      (of_branch P label l.TypedAsyncFunction (forms.typed_function (P l.TypedAsyncFunction) x ts r
      each.typed_async_function true (held x ts es))
      (of_branch P label l.TypedClass (forms.typed_class (P l.TypedClass) x ts r each.typed_class false (held x ts
      es))
      (of_branch P label l.AbstractClass (forms.typed_class (P l.AbstractClass) x ts r each.abstract_class true
      (held x ts es))
      (of_branch P label l.TypedNew (forms.typed_new (P l.TypedNew) x ts r each.typed_new (held x ts es))
      (of_branch P label l.TypedBinary (forms.typed_binary (P l.TypedBinary) x ts r each.typed_binary_const
      each.typed_binary_as each.typed_binary_satisfies each.typed_binary_binary (held x ts es))
      (of_branch P label l.TypeAssertion (forms.type_assertion (P l.TypeAssertion) x ts r each.type_assertion_const
      each.type_assertion_as (held x ts es))
      (of_branch P label l.TypedParenthesizedArrow (forms.typed_arrow (P l.TypedParenthesizedArrow) x ts r
      each.typed_parenthesized_arrow false (held x ts es))
      (of_branch P label l.TypedAsyncParenthesizedArrow (forms.typed_arrow (P l.TypedAsyncParenthesizedArrow) x ts r
      each.typed_async_parenthesized_arrow true (held x ts es))
      (none (P label)))))))))))))))))))))))))))))))))))))))))))))))

  pub all_forms : (label : NodeKind) (from : ℕ) (es : List Entry)
      → IfSome (expr_of x ts label from r (held x ts es)) (P label)
  all_forms label from es = (of_forms label from es).is
