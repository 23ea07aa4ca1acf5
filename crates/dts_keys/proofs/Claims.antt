-- Expressions that are no names of types, and no keys of types.
use Rattle.std.specs.Prelude.{◌≢◌, ℕ, Bool, true, false, List, Option, Some, None, IfSome}
use Rattle.std.proofs.Common.{◌≡◌, refl, ap, ◌∙◌}
use Rattle.std.proofs.lemmas.Bool.{true≢false}
use Rattle.base.specs.declared.range.Range.{Range}
use Rattle.es_token.specs.declared.token.Token.{Token}
use Rattle.es_grammar.specs.declared.rows.NodeKind.{NodeKind}
use Rattle.es_grammar.specs.declared.rows.NodeKind.TheVariants as l
use Rattle.es_ast.specs.declared.leaf.Lit.TheVariants as vLit
use Rattle.es_ast.specs.declared.ast.Expr.{Expr, roll-Expr}
use Rattle.es_ast.specs.declared.ast.Expr.TheVariants as vExpr
use Rattle.es_ast.specs.declared.ast.ClassMember.TheOpen.{Expr-F}
use Rattle.es_site.specs.Parts.{Whole}
use Rattle.es_lowering.specs.Lowering.{build, expr_of}
use Rattle.es_syntax.specs.declared.entry.Entry.{Entry}
use Rattle.es_syntax.specs.declared.entry.Lean.{Lean}
use Rattle.es_syntax.specs.declared.entry.What.TheVariants as what
use Rattle.es_syntax.specs.Held.{held, leant, made, parts_of}
use Rattle.es_syntax.specs.Roles.{expr_in}
use Rattle.es_syntax.specs.Views.{is_one_of}
use Rattle.es_expr_spans.proofs.All.{Each, all_forms}
use Rattle.es_expr_spans.proofs.LeanForms.{EachLean, leant_forms}
use Rattle.es_expr_spans.proofs.PostForms.{EachLink}
use Rattle.dts_rules.specs.Rules.{Env, Shown, in_expr}
use Rattle.dts_rules.specs.Programs.{shown_expr}
use Rattle.dts_rules.proofs.Shown.{beside_expr}
use Rattle.dts_draft.specs.Written.{IfThere}
use Rattle.dts_leaves.proofs.Shown.{shown_by}
use Rattle.dts_keys.specs.Keys.{keyed, beginning}

module _ (env : Env) where
  abbrev NoEntity : Expr → Type 0
  NoEntity e = (shown_expr env e).entity ≡ None

  abbrev NoKey : Expr → Type 0
  NoKey e = (shown_expr env e).type_key ≡ None

  -- by its alternative
  pub record Claim (label : NodeKind) (e : Expr) : Type 0 where
    pub entity : is_one_of beginning label ≡ false → NoEntity e
    pub key : is_one_of keyed label ≡ false → NoKey e

  entity_by : (it : Expr) (w : Whole Expr-F) → roll-Expr w ≡ it → (in_expr env (beside_expr env w)).entity ≡ None
      → NoEntity it
  entity_by it w rolls e = ap (λ (s : Shown). s.entity) (shown_by env it w rolls) ∙ e

  key_by : (it : Expr) (w : Whole Expr-F) → roll-Expr w ≡ it → (in_expr env (beside_expr env w)).type_key ≡ None
      → NoKey it
  key_by it w rolls e = ap (λ (s : Shown). s.type_key) (shown_by env it w rolls) ∙ e

  links : EachLink (Claim l.Chain)
  links = record {
    member = λ obj mark hidden prop r.
        record { entity = λ h. absurd (true≢false h); key = λ h. absurd (true≢false h) };
    index = λ obj mark e r. record { entity = λ h. absurd (true≢false h); key = λ h. absurd (true≢false h) };
    call = λ obj mark type_args args r. record {
      entity = λ h. absurd (true≢false h);
      key = λ h. absurd (true≢false h);
    };
    tagged = λ obj type_args tpl r. record { entity = λ h. absurd (true≢false h); key = λ h. absurd (true≢false h) };
    non_null = λ obj r. record { entity = λ h. absurd (true≢false h); key = λ h. absurd (true≢false h) };
  }

  each : (r : Range) → Each Claim r
  each r = record {
    name = λ id. record { entity = λ h. absurd (true≢false h); key = λ h. absurd (true≢false h) };
    word_this = record { entity = λ h. absurd (true≢false h); key = λ h. absurd (true≢false h) };
    word_null = record { entity = λ h. absurd (true≢false h); key = λ h. absurd (true≢false h) };
    word_bool = λ b. record { entity = λ h. absurd (true≢false h); key = λ h. absurd (true≢false h) };
    number = λ lit. record {
      entity = λ h. entity_by _ (Expr-F.Lit lit) (vExpr.rolls-Lit lit) refl;
      key = λ h. absurd (true≢false h);
    };
    str = λ it. record {
      entity = λ h. entity_by _ (Expr-F.Lit (vLit.Str it)) (vExpr.rolls-Lit (vLit.Str it)) refl;
      key = λ h. absurd (true≢false h);
    };
    reg_exp = λ it. record {
      entity = λ h. entity_by _ (Expr-F.Lit (vLit.Regex it)) (vExpr.rolls-Lit (vLit.Regex it)) refl;
      key = λ h. key_by _ (Expr-F.Lit (vLit.Regex it)) (vExpr.rolls-Lit (vLit.Regex it)) refl;
    };
    template = λ quasis es. record {
      entity = λ h. entity_by _ (Expr-F.Tpl quasis es r) (vExpr.rolls-Tpl quasis es r) refl;
      key = λ h. key_by _ (Expr-F.Tpl quasis es r) (vExpr.rolls-Tpl quasis es r) refl;
    };
    template_parts = λ quasis es. record {
      entity = λ h. entity_by _ (Expr-F.Tpl quasis es r) (vExpr.rolls-Tpl quasis es r) refl;
      key = λ h. key_by _ (Expr-F.Tpl quasis es r) (vExpr.rolls-Tpl quasis es r) refl;
    };
    parenthesized = λ e. record {
      entity = λ h. entity_by _ (Expr-F.Paren e r) (vExpr.rolls-Paren e r) refl;
      key = λ h. key_by _ (Expr-F.Paren e r) (vExpr.rolls-Paren e r) refl;
    };
    array_literal = λ elems. record {
      entity = λ h. entity_by _ (Expr-F.Expr::Array elems r) (vExpr.rolls-Array elems r) refl;
      key = λ h. key_by _ (Expr-F.Expr::Array elems r) (vExpr.rolls-Array elems r) refl;
    };
    object_literal = λ props. record {
      entity = λ h. entity_by _ (Expr-F.Expr::Object props r) (vExpr.rolls-Object props r) refl;
      key = λ h. key_by _ (Expr-F.Expr::Object props r) (vExpr.rolls-Object props r) refl;
    };
    spread = λ e. record {
      entity = λ h. entity_by _ (Expr-F.Expr::Spread e r) (vExpr.rolls-Spread e r) refl;
      key = λ h. key_by _ (Expr-F.Expr::Spread e r) (vExpr.rolls-Spread e r) refl;
    };
    function = λ f e. record {
      entity = λ h. entity_by _ (Expr-F.Expr::Fn f) (vExpr.rolls-Fn f) refl;
      key = λ h. key_by _ (Expr-F.Expr::Fn f) (vExpr.rolls-Fn f) refl;
    };
    async_function = λ f e. record {
      entity = λ h. entity_by _ (Expr-F.Expr::Fn f) (vExpr.rolls-Fn f) refl;
      key = λ h. key_by _ (Expr-F.Expr::Fn f) (vExpr.rolls-Fn f) refl;
    };
    class_ = λ c e. record {
      entity = λ h. entity_by _ (Expr-F.Expr::Class c) (vExpr.rolls-Class c) refl;
      key = λ h. key_by _ (Expr-F.Expr::Class c) (vExpr.rolls-Class c) refl;
    };
    super_ = record {
      entity = λ h. entity_by _ (Expr-F.Super r) (vExpr.rolls-Super r) refl;
      key = λ h. key_by _ (Expr-F.Super r) (vExpr.rolls-Super r) refl;
    };
    import_call = λ phase args. record {
      entity = λ h. entity_by _ (Expr-F.ImportCall phase args r) (vExpr.rolls-ImportCall phase args r) refl;
      key = λ h. key_by _ (Expr-F.ImportCall phase args r) (vExpr.rolls-ImportCall phase args r) refl;
    };
    source_call = λ phase args. record {
      entity = λ h. entity_by _ (Expr-F.ImportCall phase args r) (vExpr.rolls-ImportCall phase args r) refl;
      key = λ h. key_by _ (Expr-F.ImportCall phase args r) (vExpr.rolls-ImportCall phase args r) refl;
    };
    defer_call = λ phase args. record {
      entity = λ h. entity_by _ (Expr-F.ImportCall phase args r) (vExpr.rolls-ImportCall phase args r) refl;
      key = λ h. key_by _ (Expr-F.ImportCall phase args r) (vExpr.rolls-ImportCall phase args r) refl;
    };
    import_meta = record {
      entity = λ h. entity_by _ (Expr-F.ImportMeta r) (vExpr.rolls-ImportMeta r) refl;
      key = λ h. key_by _ (Expr-F.ImportMeta r) (vExpr.rolls-ImportMeta r) refl;
    };
    new_target = record {
      entity = λ h. entity_by _ (Expr-F.NewTarget r) (vExpr.rolls-NewTarget r) refl;
      key = λ h. key_by _ (Expr-F.NewTarget r) (vExpr.rolls-NewTarget r) refl;
    };
    new_ = λ callee type_args has_args args. record {
      entity = λ h. entity_by _ (Expr-F.New callee type_args has_args args r)
          (vExpr.rolls-New callee type_args has_args args r) refl;
      key = λ h. key_by _ (Expr-F.New callee type_args has_args args r)
          (vExpr.rolls-New callee type_args has_args args r) refl;
    };
    chain = links;
    update_prefix = λ op prefix arg. record {
      entity = λ h. entity_by _ (Expr-F.Update op prefix arg r) (vExpr.rolls-Update op prefix arg r) refl;
      key = λ h. key_by _ (Expr-F.Update op prefix arg r) (vExpr.rolls-Update op prefix arg r) refl;
    };
    update_postfix = λ op prefix arg. record {
      entity = λ h. entity_by _ (Expr-F.Update op prefix arg r) (vExpr.rolls-Update op prefix arg r) refl;
      key = λ h. key_by _ (Expr-F.Update op prefix arg r) (vExpr.rolls-Update op prefix arg r) refl;
    };
    unary_expression = λ op arg. record {
      entity = λ h. entity_by _ (Expr-F.Unary op arg r) (vExpr.rolls-Unary op arg r) refl;
      key = λ h. key_by _ (Expr-F.Unary op arg r) (vExpr.rolls-Unary op arg r) refl;
    };
    await_expression = λ arg. record {
      entity = λ h. entity_by _ (Expr-F.Await arg r) (vExpr.rolls-Await arg r) refl;
      key = λ h. key_by _ (Expr-F.Await arg r) (vExpr.rolls-Await arg r) refl;
    };
    binary = λ op left right. record {
      entity = λ h. entity_by _ (Expr-F.Bin op left right r) (vExpr.rolls-Bin op left right r) refl;
      key = λ h. key_by _ (Expr-F.Bin op left right r) (vExpr.rolls-Bin op left right r) refl;
    };
    private_in = λ op left right. record {
      entity = λ h. entity_by _ (Expr-F.Bin op left right r) (vExpr.rolls-Bin op left right r) refl;
      key = λ h. key_by _ (Expr-F.Bin op left right r) (vExpr.rolls-Bin op left right r) refl;
    };
    conditional = λ test cons alt. record {
      entity = λ h. entity_by _ (Expr-F.Cond test cons alt r) (vExpr.rolls-Cond test cons alt r) refl;
      key = λ h. key_by _ (Expr-F.Cond test cons alt r) (vExpr.rolls-Cond test cons alt r) refl;
    };
    assignment = λ op left right. record {
      entity = λ h. entity_by _ (Expr-F.Expr::Assign op left right r) (vExpr.rolls-Assign op left right r) refl;
      key = λ h. key_by _ (Expr-F.Expr::Assign op left right r) (vExpr.rolls-Assign op left right r) refl;
    };
    pattern_assignment = λ op left right. record {
      entity = λ h. entity_by _ (Expr-F.Expr::Assign op left right r) (vExpr.rolls-Assign op left right r) refl;
      key = λ h. key_by _ (Expr-F.Expr::Assign op left right r) (vExpr.rolls-Assign op left right r) refl;
    };
    yield_ = λ delegate arg. record {
      entity = λ h. entity_by _ (Expr-F.Yield delegate arg r) (vExpr.rolls-Yield delegate arg r) refl;
      key = λ h. key_by _ (Expr-F.Yield delegate arg r) (vExpr.rolls-Yield delegate arg r) refl;
    };
    name_arrow = λ f e. record {
      entity = λ h. entity_by _ (Expr-F.Arrow f) (vExpr.rolls-Arrow f) refl;
      key = λ h. key_by _ (Expr-F.Arrow f) (vExpr.rolls-Arrow f) refl;
    };
    parenthesized_arrow = λ f e. record {
      entity = λ h. entity_by _ (Expr-F.Arrow f) (vExpr.rolls-Arrow f) refl;
      key = λ h. key_by _ (Expr-F.Arrow f) (vExpr.rolls-Arrow f) refl;
    };
    async_name_arrow = λ f e. record {
      entity = λ h. entity_by _ (Expr-F.Arrow f) (vExpr.rolls-Arrow f) refl;
      key = λ h. key_by _ (Expr-F.Arrow f) (vExpr.rolls-Arrow f) refl;
    };
    async_parenthesized_arrow = λ f e. record {
      entity = λ h. entity_by _ (Expr-F.Arrow f) (vExpr.rolls-Arrow f) refl;
      key = λ h. key_by _ (Expr-F.Arrow f) (vExpr.rolls-Arrow f) refl;
    };
    sequence = λ es. record {
      entity = λ h. entity_by _ (Expr-F.Seq es r) (vExpr.rolls-Seq es r) refl;
      key = λ h. key_by _ (Expr-F.Seq es r) (vExpr.rolls-Seq es r) refl;
    };
    typed_function = λ f e. record {
      entity = λ h. entity_by _ (Expr-F.Expr::Fn f) (vExpr.rolls-Fn f) refl;
      key = λ h. key_by _ (Expr-F.Expr::Fn f) (vExpr.rolls-Fn f) refl;
    };
    typed_async_function = λ f e. record {
      entity = λ h. entity_by _ (Expr-F.Expr::Fn f) (vExpr.rolls-Fn f) refl;
      key = λ h. key_by _ (Expr-F.Expr::Fn f) (vExpr.rolls-Fn f) refl;
    };
    typed_class = λ c e. record {
      entity = λ h. entity_by _ (Expr-F.Expr::Class c) (vExpr.rolls-Class c) refl;
      key = λ h. key_by _ (Expr-F.Expr::Class c) (vExpr.rolls-Class c) refl;
    };
    abstract_class = λ c e. record {
      entity = λ h. entity_by _ (Expr-F.Expr::Class c) (vExpr.rolls-Class c) refl;
      key = λ h. key_by _ (Expr-F.Expr::Class c) (vExpr.rolls-Class c) refl;
    };
    typed_new = λ callee type_args has_args args. record {
      entity = λ h. entity_by _ (Expr-F.New callee type_args has_args args r)
          (vExpr.rolls-New callee type_args has_args args r) refl;
      key = λ h. key_by _ (Expr-F.New callee type_args has_args args r)
          (vExpr.rolls-New callee type_args has_args args r) refl;
    };
    type_assertion_const = λ e. record {
      entity = λ h. entity_by _ (Expr-F.TsConstAssertion e r) (vExpr.rolls-TsConstAssertion e r) refl;
      key = λ h. key_by _ (Expr-F.TsConstAssertion e r) (vExpr.rolls-TsConstAssertion e r) refl;
    };
    type_assertion_as = λ e ty. record {
      entity = λ h. entity_by _ (Expr-F.TsAs e ty r) (vExpr.rolls-TsAs e ty r) refl;
      key = λ h. key_by _ (Expr-F.TsAs e ty r) (vExpr.rolls-TsAs e ty r) refl;
    };
    typed_binary_const = λ e. record {
      entity = λ h. entity_by _ (Expr-F.TsConstAssertion e r) (vExpr.rolls-TsConstAssertion e r) refl;
      key = λ h. key_by _ (Expr-F.TsConstAssertion e r) (vExpr.rolls-TsConstAssertion e r) refl;
    };
    typed_binary_as = λ e ty. record {
      entity = λ h. entity_by _ (Expr-F.TsAs e ty r) (vExpr.rolls-TsAs e ty r) refl;
      key = λ h. key_by _ (Expr-F.TsAs e ty r) (vExpr.rolls-TsAs e ty r) refl;
    };
    typed_binary_satisfies = λ e ty. record {
      entity = λ h. entity_by _ (Expr-F.TsSatisfies e ty r) (vExpr.rolls-TsSatisfies e ty r) refl;
      key = λ h. key_by _ (Expr-F.TsSatisfies e ty r) (vExpr.rolls-TsSatisfies e ty r) refl;
    };
    typed_binary_binary = λ op left right. record {
      entity = λ h. entity_by _ (Expr-F.Bin op left right r) (vExpr.rolls-Bin op left right r) refl;
      key = λ h. key_by _ (Expr-F.Bin op left right r) (vExpr.rolls-Bin op left right r) refl;
    };
    typed_parenthesized_arrow = λ f e. record {
      entity = λ h. entity_by _ (Expr-F.Arrow f) (vExpr.rolls-Arrow f) refl;
      key = λ h. key_by _ (Expr-F.Arrow f) (vExpr.rolls-Arrow f) refl;
    };
    typed_async_parenthesized_arrow = λ f e. record {
      entity = λ h. entity_by _ (Expr-F.Arrow f) (vExpr.rolls-Arrow f) refl;
      key = λ h. key_by _ (Expr-F.Arrow f) (vExpr.rolls-Arrow f) refl;
    };
  }

  -- what leans left is neither
  leaning : EachLean (λ e. NoEntity e × NoKey e)
  leaning = record {
    binary = λ op left right r. (
      entity_by _ (Expr-F.Bin op left right r) (vExpr.rolls-Bin op left right r) refl,
      key_by _ (Expr-F.Bin op left right r) (vExpr.rolls-Bin op left right r) refl,
    );
    const = λ e r. (
      entity_by _ (Expr-F.TsConstAssertion e r) (vExpr.rolls-TsConstAssertion e r) refl,
      key_by _ (Expr-F.TsConstAssertion e r) (vExpr.rolls-TsConstAssertion e r) refl,
    );
    as_ = λ e ty r. (
      entity_by _ (Expr-F.TsAs e ty r) (vExpr.rolls-TsAs e ty r) refl,
      key_by _ (Expr-F.TsAs e ty r) (vExpr.rolls-TsAs e ty r) refl,
    );
    satisfies = λ e ty r. (
      entity_by _ (Expr-F.TsSatisfies e ty r) (vExpr.rolls-TsSatisfies e ty r) refl,
      key_by _ (Expr-F.TsSatisfies e ty r) (vExpr.rolls-TsSatisfies e ty r) refl,
    );
  }

  module _ (x : List ℕ) (ts : List Token) where
    by_entity : (label : NodeKind) (o : Option Expr) → is_one_of beginning label ≡ false → IfSome o (Claim label)
        → IfThere NoEntity o
    by_entity label None h a = record { is = tt }
    by_entity label (Some e) h a = record { is = a.entity h }

    by_key : (label : NodeKind) (o : Option Expr) → is_one_of keyed label ≡ false → IfSome o (Claim label)
        → IfThere NoKey o
    by_key label None h a = record { is = tt }
    by_key label (Some e) h a = record { is = a.key h }

    pub node_entity : (label : NodeKind) (from to : ℕ) (es : List Entry) → is_one_of beginning label ≡ false
        → IfThere NoEntity (expr_in (made x ts (what.Node label) from to (held x ts es) (parts_of x ts es)))
    unfolding build
    node_entity label from to es h =
        by_entity label _ h (all_forms Claim x ts _ (each _) label from es)

    pub node_key : (label : NodeKind) (from to : ℕ) (es : List Entry) → is_one_of keyed label ≡ false
        → IfThere NoKey (expr_in (made x ts (what.Node label) from to (held x ts es) (parts_of x ts es)))
    unfolding build
    node_key label from to es h =
        by_key label _ h (all_forms Claim x ts _ (each _) label from es)

    both : (o : Option Expr) → IfSome o (λ e. NoEntity e × NoKey e) → IfThere NoEntity o × IfThere NoKey o
    both None a = (record { is = tt }, record { is = tt })
    both (Some e) a = (record { is = a.0 }, record { is = a.1 })

    pub lean_entity : (lean : Lean) (from to : ℕ) (es : List Entry)
        → IfThere NoEntity (expr_in (made x ts (what.Lean lean) from to (held x ts es) (parts_of x ts es)))
    lean_entity lean from to es =
        (both _ (leant_forms (λ e. NoEntity e × NoKey e) x ts leaning lean from (parts_of x ts es))).0

    pub lean_key : (lean : Lean) (from to : ℕ) (es : List Entry)
        → IfThere NoKey (expr_in (made x ts (what.Lean lean) from to (held x ts es) (parts_of x ts es)))
    lean_key lean from to es =
        (both _ (leant_forms (λ e. NoEntity e × NoKey e) x ts leaning lean from (parts_of x ts es))).1
