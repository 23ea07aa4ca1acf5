-- Expressions that are no names with dots, and no names of members.
use Rattle.std.specs.Prelude.{◌≢◌, ℕ, Bool, true, false, List, [], ◌∷◌, map, Option, Some, None, option_map, IfSome}
use Rattle.std.proofs.Common.{◌≡◌, refl, sym, ap, subst, ◌∙◌}
use Rattle.std.proofs.lemmas.Bool.{true≢false}
use Rattle.base.specs.declared.range.Range.{Range}
use Rattle.es_token.specs.declared.token.Token.{Token}
use Rattle.es_grammar.specs.declared.rows.NodeKind.{NodeKind}
use Rattle.es_grammar.specs.declared.rows.NodeKind.TheVariants as l
use Rattle.es_ast.specs.declared.leaf.Lit.TheVariants as vLit
use Rattle.es_ast.specs.declared.ast.Expr.{Expr, roll-Expr}
use Rattle.es_ast.specs.declared.ast.Expr.TheVariants as vExpr
use Rattle.es_ast.specs.declared.ast.ClassMember.TheOpen.{Expr-F}
use Rattle.es_site.specs.Parts.{Whole}
use Rattle.es_lowering.specs.Value.{Value, absent, nil, more, token, node, part}
use Rattle.es_lowering.specs.Lowering.{build, expr_of, as_target, packed}
use Rattle.es_syntax.specs.declared.entry.Entry.{Entry}
use Rattle.es_syntax.specs.declared.entry.Lean.{Lean}
use Rattle.es_syntax.specs.declared.entry.What.TheVariants as what
use Rattle.es_syntax.specs.Held.{held, leant, made, parts_of}
use Rattle.es_syntax.specs.Roles.{expr_in}
use Rattle.es_syntax.specs.Views.{is_one_of}
use Rattle.es_expr_spans.proofs.All.{Each, all_forms}
use Rattle.es_expr_spans.proofs.LeanForms.{EachLean, leant_forms}
use Rattle.es_expr_spans.proofs.PostForms.{EachLink}
use Rattle.dts_rules.specs.Ranges.{Name, path, Seen, in_expr, seen_expr}
use Rattle.dts_rules.proofs.Listed.{of_seen_expr, at_seen_expr}
use Rattle.dts_overloads.specs.Names.{keyed, beginning, NoPath, NoKey, Dotted, IsNoPath, IsNoKey, IsDotted}

pub seen_by : (it : Expr) (w : Whole Expr-F) → roll-Expr w ≡ it → seen_expr it ≡ in_expr (of_seen_expr w)
seen_by it w rolls = ap seen_expr (sym rolls) ∙ at_seen_expr w

-- by its alternative
pub record Claim (label : NodeKind) (e : Expr) : Type 0 where
  pub walks : is_one_of beginning label ≡ false → NoPath e
  pub key : is_one_of keyed label ≡ false → NoKey e
  pub dotted : is_one_of beginning label ≡ true → Dotted e

path_by : (it : Expr) (w : Whole Expr-F) → roll-Expr w ≡ it → (in_expr (of_seen_expr w)).path_of ≡ None
    → NoPath it
path_by it w rolls e = ap (λ (s : Seen). s.path_of) (seen_by it w rolls) ∙ e

key_by : (it : Expr) (w : Whole Expr-F) → roll-Expr w ≡ it → (in_expr (of_seen_expr w)).key true ≡ None
    → NoKey it
key_by it w rolls e = ap (λ (s : Seen). s.key true) (seen_by it w rolls) ∙ e

dotted_by : (it : Expr) (w : Whole Expr-F) → roll-Expr w ≡ it
    → (in_expr (of_seen_expr w)).key true ≡ option_map path (in_expr (of_seen_expr w)).path_of → Dotted it
dotted_by it w rolls e =
    ap (λ (s : Seen). s.key true) (seen_by it w rolls) ∙ e
    ∙ ap (λ (s : Seen). option_map path s.path_of) (sym (seen_by it w rolls))

links : EachLink (Claim l.Chain)
links = record {
  member = λ obj mark hidden prop r. record {
    walks = λ h. absurd (true≢false h);
    key = λ h. absurd (true≢false h);
    dotted = λ h. dotted_by _ (Expr-F.Member obj mark hidden prop r) (vExpr.rolls-Member obj mark hidden prop r) refl;
  };
  index = λ obj mark e r. record {
    walks = λ h. absurd (true≢false h);
    key = λ h. absurd (true≢false h);
    dotted = λ h. dotted_by _ (Expr-F.Index obj mark e r) (vExpr.rolls-Index obj mark e r) refl;
  };
  call = λ obj mark type_args args r. record {
    walks = λ h. absurd (true≢false h);
    key = λ h. absurd (true≢false h);
    dotted = λ h. dotted_by _ (Expr-F.Call obj mark type_args args r) (vExpr.rolls-Call obj mark type_args args r) refl;
  };
  tagged = λ obj type_args tpl r. record {
    walks = λ h. absurd (true≢false h);
    key = λ h. absurd (true≢false h);
    dotted = λ h. dotted_by _ (Expr-F.TaggedTpl obj type_args tpl r) (vExpr.rolls-TaggedTpl obj type_args tpl r) refl;
  };
  non_null = λ obj r. record {
    walks = λ h. absurd (true≢false h);
    key = λ h. absurd (true≢false h);
    dotted = λ h. dotted_by _ (Expr-F.TsNonNull obj r) (vExpr.rolls-TsNonNull obj r) refl;
  };
}

each : (r : Range) → Each Claim r
each r = record {
  name = λ id. record {
    walks = λ h. absurd (true≢false h);
    key = λ h. absurd (true≢false h);
    dotted = λ h. dotted_by _ (Expr-F.Expr::Ident id) (vExpr.rolls-Ident id) refl;
  };
  word_this = record {
    walks = λ h. absurd (true≢false h);
    key = λ h. absurd (true≢false h);
    dotted = λ h. dotted_by _ (Expr-F.Expr::This r) (vExpr.rolls-This r) refl;
  };
  word_null = record {
    walks = λ h. absurd (true≢false h);
    key = λ h. absurd (true≢false h);
    dotted = λ h. dotted_by _ (Expr-F.Lit (vLit.Null r)) (vExpr.rolls-Lit (vLit.Null r)) refl;
  };
  word_bool = λ b. record {
    walks = λ h. absurd (true≢false h);
    key = λ h. absurd (true≢false h);
    dotted = λ h. dotted_by _ (Expr-F.Lit (vLit.Bool b r)) (vExpr.rolls-Lit (vLit.Bool b r)) refl;
  };
  number = λ lit. record {
    walks = λ h. path_by _ (Expr-F.Lit lit) (vExpr.rolls-Lit lit) refl;
    key = λ h. absurd (true≢false h);
    dotted = λ h. absurd (true≢false (sym h));
  };
  str = λ it. record {
    walks = λ h. path_by _ (Expr-F.Lit (vLit.Str it)) (vExpr.rolls-Lit (vLit.Str it)) refl;
    key = λ h. absurd (true≢false h);
    dotted = λ h. absurd (true≢false (sym h));
  };
  reg_exp = λ it. record {
    walks = λ h. path_by _ (Expr-F.Lit (vLit.Regex it)) (vExpr.rolls-Lit (vLit.Regex it)) refl;
    key = λ h. key_by _ (Expr-F.Lit (vLit.Regex it)) (vExpr.rolls-Lit (vLit.Regex it)) refl;
    dotted = λ h. absurd (true≢false (sym h));
  };
  template = λ quasis es. record {
    walks = λ h. path_by _ (Expr-F.Tpl quasis es r) (vExpr.rolls-Tpl quasis es r) refl;
    key = λ h. key_by _ (Expr-F.Tpl quasis es r) (vExpr.rolls-Tpl quasis es r) refl;
    dotted = λ h. absurd (true≢false (sym h));
  };
  template_parts = λ quasis es. record {
    walks = λ h. path_by _ (Expr-F.Tpl quasis es r) (vExpr.rolls-Tpl quasis es r) refl;
    key = λ h. key_by _ (Expr-F.Tpl quasis es r) (vExpr.rolls-Tpl quasis es r) refl;
    dotted = λ h. absurd (true≢false (sym h));
  };
  parenthesized = λ e. record {
    walks = λ h. path_by _ (Expr-F.Paren e r) (vExpr.rolls-Paren e r) refl;
    key = λ h. key_by _ (Expr-F.Paren e r) (vExpr.rolls-Paren e r) refl;
    dotted = λ h. absurd (true≢false (sym h));
  };
  array_literal = λ elems. record {
    walks = λ h. path_by _ (Expr-F.Expr::Array elems r) (vExpr.rolls-Array elems r) refl;
    key = λ h. key_by _ (Expr-F.Expr::Array elems r) (vExpr.rolls-Array elems r) refl;
    dotted = λ h. absurd (true≢false (sym h));
  };
  object_literal = λ props. record {
    walks = λ h. path_by _ (Expr-F.Expr::Object props r) (vExpr.rolls-Object props r) refl;
    key = λ h. key_by _ (Expr-F.Expr::Object props r) (vExpr.rolls-Object props r) refl;
    dotted = λ h. absurd (true≢false (sym h));
  };
  spread = λ e. record {
    walks = λ h. path_by _ (Expr-F.Expr::Spread e r) (vExpr.rolls-Spread e r) refl;
    key = λ h. key_by _ (Expr-F.Expr::Spread e r) (vExpr.rolls-Spread e r) refl;
    dotted = λ h. absurd (true≢false (sym h));
  };
  function = λ f e. record {
    walks = λ h. path_by _ (Expr-F.Expr::Fn f) (vExpr.rolls-Fn f) refl;
    key = λ h. key_by _ (Expr-F.Expr::Fn f) (vExpr.rolls-Fn f) refl;
    dotted = λ h. absurd (true≢false (sym h));
  };
  async_function = λ f e. record {
    walks = λ h. path_by _ (Expr-F.Expr::Fn f) (vExpr.rolls-Fn f) refl;
    key = λ h. key_by _ (Expr-F.Expr::Fn f) (vExpr.rolls-Fn f) refl;
    dotted = λ h. absurd (true≢false (sym h));
  };
  class_ = λ c e. record {
    walks = λ h. path_by _ (Expr-F.Expr::Class c) (vExpr.rolls-Class c) refl;
    key = λ h. key_by _ (Expr-F.Expr::Class c) (vExpr.rolls-Class c) refl;
    dotted = λ h. absurd (true≢false (sym h));
  };
  super_ = record {
    walks = λ h. path_by _ (Expr-F.Super r) (vExpr.rolls-Super r) refl;
    key = λ h. key_by _ (Expr-F.Super r) (vExpr.rolls-Super r) refl;
    dotted = λ h. absurd (true≢false (sym h));
  };
  import_call = λ phase args. record {
    walks = λ h. path_by _ (Expr-F.ImportCall phase args r) (vExpr.rolls-ImportCall phase args r) refl;
    key = λ h. key_by _ (Expr-F.ImportCall phase args r) (vExpr.rolls-ImportCall phase args r) refl;
    dotted = λ h. absurd (true≢false (sym h));
  };
  source_call = λ phase args. record {
    walks = λ h. path_by _ (Expr-F.ImportCall phase args r) (vExpr.rolls-ImportCall phase args r) refl;
    key = λ h. key_by _ (Expr-F.ImportCall phase args r) (vExpr.rolls-ImportCall phase args r) refl;
    dotted = λ h. absurd (true≢false (sym h));
  };
  defer_call = λ phase args. record {
    walks = λ h. path_by _ (Expr-F.ImportCall phase args r) (vExpr.rolls-ImportCall phase args r) refl;
    key = λ h. key_by _ (Expr-F.ImportCall phase args r) (vExpr.rolls-ImportCall phase args r) refl;
    dotted = λ h. absurd (true≢false (sym h));
  };
  import_meta = record {
    walks = λ h. path_by _ (Expr-F.ImportMeta r) (vExpr.rolls-ImportMeta r) refl;
    key = λ h. key_by _ (Expr-F.ImportMeta r) (vExpr.rolls-ImportMeta r) refl;
    dotted = λ h. absurd (true≢false (sym h));
  };
  new_target = record {
    walks = λ h. path_by _ (Expr-F.NewTarget r) (vExpr.rolls-NewTarget r) refl;
    key = λ h. key_by _ (Expr-F.NewTarget r) (vExpr.rolls-NewTarget r) refl;
    dotted = λ h. absurd (true≢false (sym h));
  };
  new_ = λ callee type_args has_args args. record {
    walks = λ h. path_by _ (Expr-F.New callee type_args has_args args r)
        (vExpr.rolls-New callee type_args has_args args r) refl;
    key = λ h. key_by _ (Expr-F.New callee type_args has_args args r)
        (vExpr.rolls-New callee type_args has_args args r) refl;
    dotted = λ h. absurd (true≢false (sym h));
  };
  chain = links;
  update_prefix = λ op prefix arg. record {
    walks = λ h. path_by _ (Expr-F.Update op prefix arg r) (vExpr.rolls-Update op prefix arg r) refl;
    key = λ h. key_by _ (Expr-F.Update op prefix arg r) (vExpr.rolls-Update op prefix arg r) refl;
    dotted = λ h. absurd (true≢false (sym h));
  };
  update_postfix = λ op prefix arg. record {
    walks = λ h. path_by _ (Expr-F.Update op prefix arg r) (vExpr.rolls-Update op prefix arg r) refl;
    key = λ h. key_by _ (Expr-F.Update op prefix arg r) (vExpr.rolls-Update op prefix arg r) refl;
    dotted = λ h. absurd (true≢false (sym h));
  };
  unary_expression = λ op arg. record {
    walks = λ h. path_by _ (Expr-F.Unary op arg r) (vExpr.rolls-Unary op arg r) refl;
    key = λ h. key_by _ (Expr-F.Unary op arg r) (vExpr.rolls-Unary op arg r) refl;
    dotted = λ h. absurd (true≢false (sym h));
  };
  await_expression = λ arg. record {
    walks = λ h. path_by _ (Expr-F.Await arg r) (vExpr.rolls-Await arg r) refl;
    key = λ h. key_by _ (Expr-F.Await arg r) (vExpr.rolls-Await arg r) refl;
    dotted = λ h. absurd (true≢false (sym h));
  };
  binary = λ op left right. record {
    walks = λ h. path_by _ (Expr-F.Bin op left right r) (vExpr.rolls-Bin op left right r) refl;
    key = λ h. key_by _ (Expr-F.Bin op left right r) (vExpr.rolls-Bin op left right r) refl;
    dotted = λ h. absurd (true≢false (sym h));
  };
  private_in = λ op left right. record {
    walks = λ h. path_by _ (Expr-F.Bin op left right r) (vExpr.rolls-Bin op left right r) refl;
    key = λ h. key_by _ (Expr-F.Bin op left right r) (vExpr.rolls-Bin op left right r) refl;
    dotted = λ h. absurd (true≢false (sym h));
  };
  conditional = λ test cons alt. record {
    walks = λ h. path_by _ (Expr-F.Cond test cons alt r) (vExpr.rolls-Cond test cons alt r) refl;
    key = λ h. key_by _ (Expr-F.Cond test cons alt r) (vExpr.rolls-Cond test cons alt r) refl;
    dotted = λ h. absurd (true≢false (sym h));
  };
  assignment = λ op left right. record {
    walks = λ h. path_by _ (Expr-F.Expr::Assign op left right r) (vExpr.rolls-Assign op left right r) refl;
    key = λ h. key_by _ (Expr-F.Expr::Assign op left right r) (vExpr.rolls-Assign op left right r) refl;
    dotted = λ h. absurd (true≢false (sym h));
  };
  pattern_assignment = λ op left right. record {
    walks = λ h. path_by _ (Expr-F.Expr::Assign op left right r) (vExpr.rolls-Assign op left right r) refl;
    key = λ h. key_by _ (Expr-F.Expr::Assign op left right r) (vExpr.rolls-Assign op left right r) refl;
    dotted = λ h. absurd (true≢false (sym h));
  };
  yield_ = λ delegate arg. record {
    walks = λ h. path_by _ (Expr-F.Yield delegate arg r) (vExpr.rolls-Yield delegate arg r) refl;
    key = λ h. key_by _ (Expr-F.Yield delegate arg r) (vExpr.rolls-Yield delegate arg r) refl;
    dotted = λ h. absurd (true≢false (sym h));
  };
  name_arrow = λ f e. record {
    walks = λ h. path_by _ (Expr-F.Arrow f) (vExpr.rolls-Arrow f) refl;
    key = λ h. key_by _ (Expr-F.Arrow f) (vExpr.rolls-Arrow f) refl;
    dotted = λ h. absurd (true≢false (sym h));
  };
  parenthesized_arrow = λ f e. record {
    walks = λ h. path_by _ (Expr-F.Arrow f) (vExpr.rolls-Arrow f) refl;
    key = λ h. key_by _ (Expr-F.Arrow f) (vExpr.rolls-Arrow f) refl;
    dotted = λ h. absurd (true≢false (sym h));
  };
  async_name_arrow = λ f e. record {
    walks = λ h. path_by _ (Expr-F.Arrow f) (vExpr.rolls-Arrow f) refl;
    key = λ h. key_by _ (Expr-F.Arrow f) (vExpr.rolls-Arrow f) refl;
    dotted = λ h. absurd (true≢false (sym h));
  };
  async_parenthesized_arrow = λ f e. record {
    walks = λ h. path_by _ (Expr-F.Arrow f) (vExpr.rolls-Arrow f) refl;
    key = λ h. key_by _ (Expr-F.Arrow f) (vExpr.rolls-Arrow f) refl;
    dotted = λ h. absurd (true≢false (sym h));
  };
  sequence = λ es. record {
    walks = λ h. path_by _ (Expr-F.Seq es r) (vExpr.rolls-Seq es r) refl;
    key = λ h. key_by _ (Expr-F.Seq es r) (vExpr.rolls-Seq es r) refl;
    dotted = λ h. absurd (true≢false (sym h));
  };
  typed_function = λ f e. record {
    walks = λ h. path_by _ (Expr-F.Expr::Fn f) (vExpr.rolls-Fn f) refl;
    key = λ h. key_by _ (Expr-F.Expr::Fn f) (vExpr.rolls-Fn f) refl;
    dotted = λ h. absurd (true≢false (sym h));
  };
  typed_async_function = λ f e. record {
    walks = λ h. path_by _ (Expr-F.Expr::Fn f) (vExpr.rolls-Fn f) refl;
    key = λ h. key_by _ (Expr-F.Expr::Fn f) (vExpr.rolls-Fn f) refl;
    dotted = λ h. absurd (true≢false (sym h));
  };
  typed_class = λ c e. record {
    walks = λ h. path_by _ (Expr-F.Expr::Class c) (vExpr.rolls-Class c) refl;
    key = λ h. key_by _ (Expr-F.Expr::Class c) (vExpr.rolls-Class c) refl;
    dotted = λ h. absurd (true≢false (sym h));
  };
  abstract_class = λ c e. record {
    walks = λ h. path_by _ (Expr-F.Expr::Class c) (vExpr.rolls-Class c) refl;
    key = λ h. key_by _ (Expr-F.Expr::Class c) (vExpr.rolls-Class c) refl;
    dotted = λ h. absurd (true≢false (sym h));
  };
  typed_new = λ callee type_args has_args args. record {
    walks = λ h. path_by _ (Expr-F.New callee type_args has_args args r)
        (vExpr.rolls-New callee type_args has_args args r) refl;
    key = λ h. key_by _ (Expr-F.New callee type_args has_args args r)
        (vExpr.rolls-New callee type_args has_args args r) refl;
    dotted = λ h. absurd (true≢false (sym h));
  };
  type_assertion_const = λ e. record {
    walks = λ h. path_by _ (Expr-F.TsConstAssertion e r) (vExpr.rolls-TsConstAssertion e r) refl;
    key = λ h. key_by _ (Expr-F.TsConstAssertion e r) (vExpr.rolls-TsConstAssertion e r) refl;
    dotted = λ h. absurd (true≢false (sym h));
  };
  type_assertion_as = λ e ty. record {
    walks = λ h. path_by _ (Expr-F.TsAs e ty r) (vExpr.rolls-TsAs e ty r) refl;
    key = λ h. key_by _ (Expr-F.TsAs e ty r) (vExpr.rolls-TsAs e ty r) refl;
    dotted = λ h. absurd (true≢false (sym h));
  };
  typed_binary_const = λ e. record {
    walks = λ h. path_by _ (Expr-F.TsConstAssertion e r) (vExpr.rolls-TsConstAssertion e r) refl;
    key = λ h. key_by _ (Expr-F.TsConstAssertion e r) (vExpr.rolls-TsConstAssertion e r) refl;
    dotted = λ h. absurd (true≢false (sym h));
  };
  typed_binary_as = λ e ty. record {
    walks = λ h. path_by _ (Expr-F.TsAs e ty r) (vExpr.rolls-TsAs e ty r) refl;
    key = λ h. key_by _ (Expr-F.TsAs e ty r) (vExpr.rolls-TsAs e ty r) refl;
    dotted = λ h. absurd (true≢false (sym h));
  };
  typed_binary_satisfies = λ e ty. record {
    walks = λ h. path_by _ (Expr-F.TsSatisfies e ty r) (vExpr.rolls-TsSatisfies e ty r) refl;
    key = λ h. key_by _ (Expr-F.TsSatisfies e ty r) (vExpr.rolls-TsSatisfies e ty r) refl;
    dotted = λ h. absurd (true≢false (sym h));
  };
  typed_binary_binary = λ op left right. record {
    walks = λ h. path_by _ (Expr-F.Bin op left right r) (vExpr.rolls-Bin op left right r) refl;
    key = λ h. key_by _ (Expr-F.Bin op left right r) (vExpr.rolls-Bin op left right r) refl;
    dotted = λ h. absurd (true≢false (sym h));
  };
  typed_parenthesized_arrow = λ f e. record {
    walks = λ h. path_by _ (Expr-F.Arrow f) (vExpr.rolls-Arrow f) refl;
    key = λ h. key_by _ (Expr-F.Arrow f) (vExpr.rolls-Arrow f) refl;
    dotted = λ h. absurd (true≢false (sym h));
  };
  typed_async_parenthesized_arrow = λ f e. record {
    walks = λ h. path_by _ (Expr-F.Arrow f) (vExpr.rolls-Arrow f) refl;
    key = λ h. key_by _ (Expr-F.Arrow f) (vExpr.rolls-Arrow f) refl;
    dotted = λ h. absurd (true≢false (sym h));
  };
}

-- what leans left is neither
leaning : EachLean (λ e. NoPath e × NoKey e)
leaning = record {
  binary = λ op left right r. (
    path_by _ (Expr-F.Bin op left right r) (vExpr.rolls-Bin op left right r) refl,
    key_by _ (Expr-F.Bin op left right r) (vExpr.rolls-Bin op left right r) refl,
  );
  const = λ e r. (
    path_by _ (Expr-F.TsConstAssertion e r) (vExpr.rolls-TsConstAssertion e r) refl,
    key_by _ (Expr-F.TsConstAssertion e r) (vExpr.rolls-TsConstAssertion e r) refl,
  );
  as_ = λ e ty r. (
    path_by _ (Expr-F.TsAs e ty r) (vExpr.rolls-TsAs e ty r) refl,
    key_by _ (Expr-F.TsAs e ty r) (vExpr.rolls-TsAs e ty r) refl,
  );
  satisfies = λ e ty r. (
    path_by _ (Expr-F.TsSatisfies e ty r) (vExpr.rolls-TsSatisfies e ty r) refl,
    key_by _ (Expr-F.TsSatisfies e ty r) (vExpr.rolls-TsSatisfies e ty r) refl,
  );
}

module _ (x : List ℕ) (ts : List Token) where
  by_path : (label : NodeKind) (o : Option Expr) → is_one_of beginning label ≡ false → IfSome o (Claim label)
      → IsNoPath o
  by_path label None h a = record { is = tt }
  by_path label (Some e) h a = record { is = a.walks h }

  by_key : (label : NodeKind) (o : Option Expr) → is_one_of keyed label ≡ false → IfSome o (Claim label)
      → IsNoKey o
  by_key label None h a = record { is = tt }
  by_key label (Some e) h a = record { is = a.key h }

  pub node_path : (label : NodeKind) (from to : ℕ) (es : List Entry) → is_one_of beginning label ≡ false
      → IsNoPath (expr_in (made x ts (what.Node label) from to (held x ts es) (parts_of x ts es)))
  unfolding build
  node_path label from to es h =
      by_path label _ h (all_forms Claim x ts _ (each _) label from es)

  pub node_key : (label : NodeKind) (from to : ℕ) (es : List Entry) → is_one_of keyed label ≡ false
      → IsNoKey (expr_in (made x ts (what.Node label) from to (held x ts es) (parts_of x ts es)))
  unfolding build
  node_key label from to es h =
      by_key label _ h (all_forms Claim x ts _ (each _) label from es)

  by_dotted : (label : NodeKind) (o : Option Expr) → is_one_of beginning label ≡ true → IfSome o (Claim label)
      → IsDotted o
  by_dotted label None h a = record { is = tt }
  by_dotted label (Some e) h a = record { is = a.dotted h }

  pub node_dotted : (label : NodeKind) (from to : ℕ) (es : List Entry) → is_one_of beginning label ≡ true
      → IsDotted (expr_in (made x ts (what.Node label) from to (held x ts es) (parts_of x ts es)))
  unfolding build
  node_dotted label from to es h =
      by_dotted label _ h (all_forms Claim x ts _ (each _) label from es)

  both : (o : Option Expr) → IfSome o (λ e. NoPath e × NoKey e) → IsNoPath o × IsNoKey o
  both None a = (record { is = tt }, record { is = tt })
  both (Some e) a = (record { is = a.0 }, record { is = a.1 })

  pub lean_path : (lean : Lean) (from to : ℕ) (es : List Entry)
      → IsNoPath (expr_in (made x ts (what.Lean lean) from to (held x ts es) (parts_of x ts es)))
  lean_path lean from to es =
      (both _ (leant_forms (λ e. NoPath e × NoKey e) x ts leaning lean from (parts_of x ts es))).0

  pub lean_key : (lean : Lean) (from to : ℕ) (es : List Entry)
      → IsNoKey (expr_in (made x ts (what.Lean lean) from to (held x ts es) (parts_of x ts es)))
  lean_key lean from to es =
      (both _ (leant_forms (λ e. NoPath e × NoKey e) x ts leaning lean from (parts_of x ts es))).1

  -- a node in another role is no expression
  pub role_path : (label : NodeKind) (from to : ℕ) (es : List Entry)
      → IsNoPath (expr_in (made x ts (what.Role label) from to (held x ts es) (parts_of x ts es)))
  role_path label from to es = go (part (held x ts es) 0)
    where
      go : (v : Value) → IsNoPath (expr_in (as_target x ts v))
      go absent = record { is = tt }
      go nil = record { is = tt }
      go (more a b) = record { is = tt }
      go (token n) = record { is = tt }
      go (node a b m) = record { is = tt }

  pub role_key : (label : NodeKind) (from to : ℕ) (es : List Entry)
      → IsNoKey (expr_in (made x ts (what.Role label) from to (held x ts es) (parts_of x ts es)))
  role_key label from to es = go (part (held x ts es) 0)
    where
      go : (v : Value) → IsNoKey (expr_in (as_target x ts v))
      go absent = record { is = tt }
      go nil = record { is = tt }
      go (more a b) = record { is = tt }
      go (token n) = record { is = tt }
      go (node a b m) = record { is = tt }

  packed_none : (vs : List Value) → expr_in (packed vs) ≡ None
  packed_none [] = refl
  packed_none (v ∷ vs) = refl

  pub parts_path : (from to : ℕ) (es : List Entry)
      → IsNoPath (expr_in (made x ts what.Parts from to (held x ts es) (parts_of x ts es)))
  unfolding held
  parts_path from to es =
      subst (λ (o : Option Expr). IsNoPath o) (sym (packed_none (map (λ p. p.1) (parts_of x ts es)))) (record { is = tt })

  pub parts_key : (from to : ℕ) (es : List Entry)
      → IsNoKey (expr_in (made x ts what.Parts from to (held x ts es) (parts_of x ts es)))
  unfolding held
  parts_key from to es =
      subst (λ (o : Option Expr). IsNoKey o) (sym (packed_none (map (λ p. p.1) (parts_of x ts es)))) (record { is = tt })

  pub leaf_path : (from to : ℕ) (es : List Entry)
      → IsNoPath (expr_in (made x ts what.Leaf from to (held x ts es) (parts_of x ts es)))
  leaf_path from to es = record { is = tt }

  pub leaf_key : (from to : ℕ) (es : List Entry)
      → IsNoKey (expr_in (made x ts what.Leaf from to (held x ts es) (parts_of x ts es)))
  leaf_key from to es = record { is = tt }
