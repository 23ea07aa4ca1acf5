-- Which expressions are functions or arrows, by their alternatives.
use Rattle.std.specs.Prelude.{ℕ, Bool, false, List, Option, Some, None, IfSome}
use Rattle.std.proofs.Common.{◌≡◌, refl, sym, ap, subst, ◌∙◌}
use Rattle.base.specs.declared.range.Range.{Range}
use Rattle.es_token.specs.declared.token.Token.{Token}
use Rattle.es_grammar.specs.declared.rows.NodeKind.{NodeKind}
use Rattle.es_grammar.specs.declared.rows.NodeKind.TheVariants as l
use Rattle.es_ast.specs.declared.leaf.Lit.TheVariants as vLit
use Rattle.es_ast.specs.declared.ast.Expr.{Expr, out-Expr}
use Rattle.es_lowering.specs.Value.{Value}
use Rattle.es_lowering.specs.Texts.{span_of}
use Rattle.es_lowering.specs.Lowering.{expr_of, build, as_target}
use Rattle.es_syntax.specs.declared.entry.Lean.{Lean}
use Rattle.es_syntax.specs.declared.entry.Entry.{Entry}
use Rattle.es_syntax.specs.Held.{held, parts_of, node_of, leant}
use Rattle.es_syntax.specs.Roles.{expr_in}
use Rattle.es_syntax.proofs.Others.{in_held, in_role}
use Rattle.es_expr_spans.proofs.LeanForms.{EachLean, leant_forms}
use Rattle.es_syntax.specs.Views.{is_one_of}
use Rattle.es_expr_spans.proofs.All.{Each, all_forms}
use Rattle.es_expr_spans.proofs.PostForms.{EachLink}
use Rattle.es_expr_spans.proofs.Spans.{out_This, out_Super, out_Ident, out_Lit, out_Array, out_Spread, out_Object, out_Fn, out_Class, out_Arrow, out_Paren, out_Unary, out_Update, out_Await, out_Yield, out_Bin, out_Assign, out_Cond, out_Seq, out_Member, out_Index, out_Call, out_New, out_ImportCall, out_ImportMeta, out_NewTarget, out_Tpl, out_TaggedTpl, out_TsNonNull, out_TsAs, out_TsConstAssertion, out_TsSatisfies}
use Rattle.dts_rules.specs.Sets.{is_function_by}
use Rattle.dts_sets.specs.Forms.{function_labels}

abbrev pub Tells : NodeKind → Expr → Type 0
Tells label e = is_function_by (out-Expr e) ≡ is_one_of function_labels label

links : EachLink (Tells l.Chain)
links = record {
  member = λ obj mark hidden prop s. ap is_function_by (out_Member obj mark hidden prop s);
  index = λ obj mark e s. ap is_function_by (out_Index obj mark e s);
  call = λ obj mark type_args args s. ap is_function_by (out_Call obj mark type_args args s);
  tagged = λ obj type_args tpl s. ap is_function_by (out_TaggedTpl obj type_args tpl s);
  non_null = λ obj s. ap is_function_by (out_TsNonNull obj s);
}

each : (r : Range) → Each Tells r
each r = record {
  name = λ id. ap is_function_by (out_Ident id);
  word_this = ap is_function_by (out_This r);
  word_null = ap is_function_by (out_Lit (vLit.Null r));
  word_bool = λ b. ap is_function_by (out_Lit (vLit.Bool b r));
  number = λ lit. ap is_function_by (out_Lit lit);
  str = λ it. ap is_function_by (out_Lit (vLit.Str it));
  reg_exp = λ it. ap is_function_by (out_Lit (vLit.Regex it));
  template = λ quasis es. ap is_function_by (out_Tpl quasis es r);
  template_parts = λ quasis es. ap is_function_by (out_Tpl quasis es r);
  parenthesized = λ e. ap is_function_by (out_Paren e r);
  array_literal = λ elems. ap is_function_by (out_Array elems r);
  object_literal = λ props. ap is_function_by (out_Object props r);
  spread = λ e. ap is_function_by (out_Spread e r);
  function = λ f known. ap is_function_by (out_Fn f);
  async_function = λ f known. ap is_function_by (out_Fn f);
  class_ = λ c known. ap is_function_by (out_Class c);
  super_ = ap is_function_by (out_Super r);
  import_call = λ phase args. ap is_function_by (out_ImportCall phase args r);
  source_call = λ phase args. ap is_function_by (out_ImportCall phase args r);
  defer_call = λ phase args. ap is_function_by (out_ImportCall phase args r);
  import_meta = ap is_function_by (out_ImportMeta r);
  new_target = ap is_function_by (out_NewTarget r);
  new_ = λ callee type_args has_args args. ap is_function_by (out_New callee type_args has_args args r);
  chain = links;
  update_prefix = λ op prefix arg. ap is_function_by (out_Update op prefix arg r);
  update_postfix = λ op prefix arg. ap is_function_by (out_Update op prefix arg r);
  unary_expression = λ op arg. ap is_function_by (out_Unary op arg r);
  await_expression = λ arg. ap is_function_by (out_Await arg r);
  binary = λ op left right. ap is_function_by (out_Bin op left right r);
  private_in = λ op left right. ap is_function_by (out_Bin op left right r);
  conditional = λ test cons alt. ap is_function_by (out_Cond test cons alt r);
  assignment = λ op left right. ap is_function_by (out_Assign op left right r);
  pattern_assignment = λ op left right. ap is_function_by (out_Assign op left right r);
  yield_ = λ delegate arg. ap is_function_by (out_Yield delegate arg r);
  name_arrow = λ f known. ap is_function_by (out_Arrow f);
  parenthesized_arrow = λ f known. ap is_function_by (out_Arrow f);
  async_name_arrow = λ f known. ap is_function_by (out_Arrow f);
  async_parenthesized_arrow = λ f known. ap is_function_by (out_Arrow f);
  sequence = λ es. ap is_function_by (out_Seq es r);
  typed_function = λ f known. ap is_function_by (out_Fn f);
  typed_async_function = λ f known. ap is_function_by (out_Fn f);
  typed_class = λ c known. ap is_function_by (out_Class c);
  abstract_class = λ c known. ap is_function_by (out_Class c);
  typed_new = λ callee type_args has_args args. ap is_function_by (out_New callee type_args has_args args r);
  type_assertion_const = λ e. ap is_function_by (out_TsConstAssertion e r);
  type_assertion_as = λ e ty. ap is_function_by (out_TsAs e ty r);
  typed_binary_const = λ e. ap is_function_by (out_TsConstAssertion e r);
  typed_binary_as = λ e ty. ap is_function_by (out_TsAs e ty r);
  typed_binary_satisfies = λ e ty. ap is_function_by (out_TsSatisfies e ty r);
  typed_binary_binary = λ op left right. ap is_function_by (out_Bin op left right r);
  typed_parenthesized_arrow = λ f known. ap is_function_by (out_Arrow f);
  typed_async_parenthesized_arrow = λ f known. ap is_function_by (out_Arrow f);
}

pub function_tells : (x : List ℕ) (ts : List Token) (label : NodeKind) (from : ℕ) (r : Range) (es : List Entry)
    → IfSome (expr_of x ts label from r (held x ts es)) (Tells label)
function_tells x ts label from r es = all_forms Tells x ts r (each r) label from es

abbrev Is : Bool → Option Expr → Type 0
Is b o = IfSome o (λ e. is_function_by (out-Expr e) ≡ b)

module _ (x : List ℕ) (ts : List Token) where
  pub node_function : (label : NodeKind) (from to : ℕ) (b : Bool) (es : List Entry)
      → is_one_of function_labels label ≡ b
      → Is b (expr_in (node_of x ts label from to (held x ts es)))
  unfolding build
  node_function label from to b es e =
      told (expr_of x ts label from (span_of ts from to) (held x ts es))
      (function_tells x ts label from (span_of ts from to) es)
    where
      told : (o : Option Expr) → IfSome o (Tells label) → Is b o
      told (Some it) known = known ∙ e
      told None known = tt

  lean : EachLean (λ e. is_function_by (out-Expr e) ≡ false)
  lean = record {
    binary = λ op left right r. ap is_function_by (out_Bin op left right r);
    const = λ e r. ap is_function_by (out_TsConstAssertion e r);
    as_ = λ e ty r. ap is_function_by (out_TsAs e ty r);
    satisfies = λ e ty r. ap is_function_by (out_TsSatisfies e ty r);
  }

  pub lean_function : (l : Lean) (from : ℕ) (es : List Entry)
      → Is false (expr_in (leant x ts l from (parts_of x ts es)))
  lean_function l from es = leant_forms (λ e. is_function_by (out-Expr e) ≡ false) x ts lean l from (parts_of x ts es)

  pub role_function : (v : Value) → Is false (expr_in (as_target x ts v))
  role_function v =
      let P : Option Expr → Type 0 = λ o. Is false o in subst P (sym (in_role x ts (λ m. m.expr) (λ e. refl) v)) tt

  pub parts_function : (es : List Entry) → Is false (expr_in (held x ts es))
  parts_function es =
      let P : Option Expr → Type 0 = λ o. Is false o in subst P (sym (in_held x ts (λ m. m.expr) es)) tt
