-- Expressions that are no keys of members, and are not `Symbol`.
use Rattle.std.specs.Prelude.{ℕ, false, List, Option, Some, None, IfSome}
use Rattle.std.proofs.Common.{◌≡◌, refl, ap, ◌∙◌}
use Rattle.std.proofs.lemmas.Bool.{true≢false}
use Rattle.base.specs.declared.range.Range.{Range}
use Rattle.es_token.specs.declared.token.Token.{Token}
use Rattle.es_grammar.specs.declared.rows.NodeKind.{NodeKind}
use Rattle.es_grammar.specs.declared.rows.NodeKind.TheVariants as l
use Rattle.es_ast.specs.declared.leaf.Lit.TheVariants as vLit
use Rattle.es_ast.specs.declared.ast.Expr.{Expr, roll-Expr}
use Rattle.es_ast.specs.declared.ast.Expr.TheVariants as vExpr
use Rattle.es_ast.specs.declared.ast.ClassMember.TheOpen.{Expr-F}
use Rattle.es_site.specs.Parts.{Whole}
use Rattle.es_lowering.specs.Lowering.{build}
use Rattle.es_syntax.specs.declared.entry.Entry.{Entry}
use Rattle.es_syntax.specs.declared.entry.Lean.{Lean}
use Rattle.es_syntax.specs.declared.entry.What.TheVariants as what
use Rattle.es_syntax.specs.Held.{held, made, parts_of}
use Rattle.es_syntax.specs.Roles.{expr_in}
use Rattle.es_syntax.specs.Views.{is_one_of}
use Rattle.es_expr_spans.proofs.All.{Each, all_forms}
use Rattle.es_expr_spans.proofs.LeanForms.{EachLean, leant_forms}
use Rattle.es_expr_spans.proofs.PostForms.{EachLink}
use Rattle.dts_rules.specs.Rules.{Env, Shown, in_expr}
use Rattle.dts_rules.specs.Programs.{shown_expr}
use Rattle.dts_rules.proofs.Shown.{beside_expr}
use Rattle.dts_draft.specs.Written.{IfThere}
use Rattle.dts_leaves.proofs.Shown.{shown_by}
use Rattle.dts_member_keys.specs.Looks.{keyed, naming}

module _ (env : Env) where
  abbrev NoSymbol : Expr → Type 0
  NoSymbol e = (shown_expr env e).is_symbol ≡ false

  abbrev NoKey : Expr → Type 0
  NoKey e = (shown_expr env e).key ≡ None

  -- by its alternative
  pub record Claim (label : NodeKind) (e : Expr) : Type 0 where
    pub symbol : is_one_of naming label ≡ false → NoSymbol e
    pub key : is_one_of keyed label ≡ false → NoKey e

  symbol_by : (it : Expr) (w : Whole Expr-F) → roll-Expr w ≡ it → (in_expr env (beside_expr env w)).is_symbol ≡ false
      → NoSymbol it
  symbol_by it w rolls e = ap (λ (s : Shown). s.is_symbol) (shown_by env it w rolls) ∙ e

  key_by : (it : Expr) (w : Whole Expr-F) → roll-Expr w ≡ it → (in_expr env (beside_expr env w)).key ≡ None
      → NoKey it
  key_by it w rolls e = ap (λ (s : Shown). s.key) (shown_by env it w rolls) ∙ e

  links : EachLink (Claim l.Chain)
  links = record {
    member = λ obj mark hidden prop r. record {
      symbol = λ h. symbol_by _ (Expr-F.Member obj mark hidden prop r) (vExpr.rolls-Member obj mark hidden prop r) refl;
      key = λ h. absurd (true≢false h);
    };
    index = λ obj mark e r. record {
      symbol = λ h. symbol_by _ (Expr-F.Index obj mark e r) (vExpr.rolls-Index obj mark e r) refl;
      key = λ h. absurd (true≢false h);
    };
    call = λ obj mark type_args args r. record {
      symbol = λ h. symbol_by _ (Expr-F.Call obj mark type_args args r) (vExpr.rolls-Call obj mark type_args args r) refl;
      key = λ h. absurd (true≢false h);
    };
    tagged = λ obj type_args tpl r. record {
      symbol = λ h. symbol_by _ (Expr-F.TaggedTpl obj type_args tpl r) (vExpr.rolls-TaggedTpl obj type_args tpl r) refl;
      key = λ h. absurd (true≢false h);
    };
    non_null = λ obj r. record {
      symbol = λ h. symbol_by _ (Expr-F.TsNonNull obj r) (vExpr.rolls-TsNonNull obj r) refl;
      key = λ h. absurd (true≢false h);
    };
  }

  each : (r : Range) → Each Claim r
  each r = record {
    name = λ id. record { symbol = λ h. absurd (true≢false h); key = λ h. absurd (true≢false h) };
    word_this = record {
      symbol = λ h. symbol_by _ (Expr-F.Expr::This r) (vExpr.rolls-This r) refl;
      key = λ h. key_by _ (Expr-F.Expr::This r) (vExpr.rolls-This r) refl;
    };
    word_null = record {
      symbol = λ h. symbol_by _ (Expr-F.Lit (vLit.Null r)) (vExpr.rolls-Lit (vLit.Null r)) refl;
      key = λ h. key_by _ (Expr-F.Lit (vLit.Null r)) (vExpr.rolls-Lit (vLit.Null r)) refl;
    };
    word_bool = λ b. record {
      symbol = λ h. symbol_by _ (Expr-F.Lit (vLit.Bool b r)) (vExpr.rolls-Lit (vLit.Bool b r)) refl;
      key = λ h. key_by _ (Expr-F.Lit (vLit.Bool b r)) (vExpr.rolls-Lit (vLit.Bool b r)) refl;
    };
    number = λ lit. record {
      symbol = λ h. symbol_by _ (Expr-F.Lit lit) (vExpr.rolls-Lit lit) refl;
      key = λ h. absurd (true≢false h);
    };
    str = λ it. record {
      symbol = λ h. symbol_by _ (Expr-F.Lit (vLit.Str it)) (vExpr.rolls-Lit (vLit.Str it)) refl;
      key = λ h. absurd (true≢false h);
    };
    reg_exp = λ it. record {
      symbol = λ h. symbol_by _ (Expr-F.Lit (vLit.Regex it)) (vExpr.rolls-Lit (vLit.Regex it)) refl;
      key = λ h. key_by _ (Expr-F.Lit (vLit.Regex it)) (vExpr.rolls-Lit (vLit.Regex it)) refl;
    };
    template = λ quasis es. record {
      symbol = λ h. symbol_by _ (Expr-F.Tpl quasis es r) (vExpr.rolls-Tpl quasis es r) refl;
      key = λ h. key_by _ (Expr-F.Tpl quasis es r) (vExpr.rolls-Tpl quasis es r) refl;
    };
    template_parts = λ quasis es. record {
      symbol = λ h. symbol_by _ (Expr-F.Tpl quasis es r) (vExpr.rolls-Tpl quasis es r) refl;
      key = λ h. key_by _ (Expr-F.Tpl quasis es r) (vExpr.rolls-Tpl quasis es r) refl;
    };
    parenthesized = λ e. record {
      symbol = λ h. symbol_by _ (Expr-F.Paren e r) (vExpr.rolls-Paren e r) refl;
      key = λ h. absurd (true≢false h);
    };
    array_literal = λ elems. record {
      symbol = λ h. symbol_by _ (Expr-F.Expr::Array elems r) (vExpr.rolls-Array elems r) refl;
      key = λ h. key_by _ (Expr-F.Expr::Array elems r) (vExpr.rolls-Array elems r) refl;
    };
    object_literal = λ props. record {
      symbol = λ h. symbol_by _ (Expr-F.Expr::Object props r) (vExpr.rolls-Object props r) refl;
      key = λ h. key_by _ (Expr-F.Expr::Object props r) (vExpr.rolls-Object props r) refl;
    };
    spread = λ e. record {
      symbol = λ h. symbol_by _ (Expr-F.Expr::Spread e r) (vExpr.rolls-Spread e r) refl;
      key = λ h. key_by _ (Expr-F.Expr::Spread e r) (vExpr.rolls-Spread e r) refl;
    };
    function = λ f e. record {
      symbol = λ h. symbol_by _ (Expr-F.Expr::Fn f) (vExpr.rolls-Fn f) refl;
      key = λ h. key_by _ (Expr-F.Expr::Fn f) (vExpr.rolls-Fn f) refl;
    };
    async_function = λ f e. record {
      symbol = λ h. symbol_by _ (Expr-F.Expr::Fn f) (vExpr.rolls-Fn f) refl;
      key = λ h. key_by _ (Expr-F.Expr::Fn f) (vExpr.rolls-Fn f) refl;
    };
    class_ = λ c e. record {
      symbol = λ h. symbol_by _ (Expr-F.Expr::Class c) (vExpr.rolls-Class c) refl;
      key = λ h. key_by _ (Expr-F.Expr::Class c) (vExpr.rolls-Class c) refl;
    };
    super_ = record {
      symbol = λ h. symbol_by _ (Expr-F.Super r) (vExpr.rolls-Super r) refl;
      key = λ h. key_by _ (Expr-F.Super r) (vExpr.rolls-Super r) refl;
    };
    import_call = λ phase args. record {
      symbol = λ h. symbol_by _ (Expr-F.ImportCall phase args r) (vExpr.rolls-ImportCall phase args r) refl;
      key = λ h. key_by _ (Expr-F.ImportCall phase args r) (vExpr.rolls-ImportCall phase args r) refl;
    };
    source_call = λ phase args. record {
      symbol = λ h. symbol_by _ (Expr-F.ImportCall phase args r) (vExpr.rolls-ImportCall phase args r) refl;
      key = λ h. key_by _ (Expr-F.ImportCall phase args r) (vExpr.rolls-ImportCall phase args r) refl;
    };
    defer_call = λ phase args. record {
      symbol = λ h. symbol_by _ (Expr-F.ImportCall phase args r) (vExpr.rolls-ImportCall phase args r) refl;
      key = λ h. key_by _ (Expr-F.ImportCall phase args r) (vExpr.rolls-ImportCall phase args r) refl;
    };
    import_meta = record {
      symbol = λ h. symbol_by _ (Expr-F.ImportMeta r) (vExpr.rolls-ImportMeta r) refl;
      key = λ h. key_by _ (Expr-F.ImportMeta r) (vExpr.rolls-ImportMeta r) refl;
    };
    new_target = record {
      symbol = λ h. symbol_by _ (Expr-F.NewTarget r) (vExpr.rolls-NewTarget r) refl;
      key = λ h. key_by _ (Expr-F.NewTarget r) (vExpr.rolls-NewTarget r) refl;
    };
    new_ = λ callee type_args has_args args. record {
      symbol = λ h. symbol_by _ (Expr-F.New callee type_args has_args args r)
          (vExpr.rolls-New callee type_args has_args args r) refl;
      key = λ h. key_by _ (Expr-F.New callee type_args has_args args r)
          (vExpr.rolls-New callee type_args has_args args r) refl;
    };
    chain = links;
    update_prefix = λ op prefix arg. record {
      symbol = λ h. symbol_by _ (Expr-F.Update op prefix arg r) (vExpr.rolls-Update op prefix arg r) refl;
      key = λ h. key_by _ (Expr-F.Update op prefix arg r) (vExpr.rolls-Update op prefix arg r) refl;
    };
    update_postfix = λ op prefix arg. record {
      symbol = λ h. symbol_by _ (Expr-F.Update op prefix arg r) (vExpr.rolls-Update op prefix arg r) refl;
      key = λ h. key_by _ (Expr-F.Update op prefix arg r) (vExpr.rolls-Update op prefix arg r) refl;
    };
    unary_expression = λ op arg. record {
      symbol = λ h. symbol_by _ (Expr-F.Unary op arg r) (vExpr.rolls-Unary op arg r) refl;
      key = λ h. key_by _ (Expr-F.Unary op arg r) (vExpr.rolls-Unary op arg r) refl;
    };
    await_expression = λ arg. record {
      symbol = λ h. symbol_by _ (Expr-F.Await arg r) (vExpr.rolls-Await arg r) refl;
      key = λ h. key_by _ (Expr-F.Await arg r) (vExpr.rolls-Await arg r) refl;
    };
    binary = λ op left right. record {
      symbol = λ h. symbol_by _ (Expr-F.Bin op left right r) (vExpr.rolls-Bin op left right r) refl;
      key = λ h. key_by _ (Expr-F.Bin op left right r) (vExpr.rolls-Bin op left right r) refl;
    };
    private_in = λ op left right. record {
      symbol = λ h. symbol_by _ (Expr-F.Bin op left right r) (vExpr.rolls-Bin op left right r) refl;
      key = λ h. key_by _ (Expr-F.Bin op left right r) (vExpr.rolls-Bin op left right r) refl;
    };
    conditional = λ test cons alt. record {
      symbol = λ h. symbol_by _ (Expr-F.Cond test cons alt r) (vExpr.rolls-Cond test cons alt r) refl;
      key = λ h. key_by _ (Expr-F.Cond test cons alt r) (vExpr.rolls-Cond test cons alt r) refl;
    };
    assignment = λ op left right. record {
      symbol = λ h. symbol_by _ (Expr-F.Expr::Assign op left right r) (vExpr.rolls-Assign op left right r) refl;
      key = λ h. key_by _ (Expr-F.Expr::Assign op left right r) (vExpr.rolls-Assign op left right r) refl;
    };
    pattern_assignment = λ op left right. record {
      symbol = λ h. symbol_by _ (Expr-F.Expr::Assign op left right r) (vExpr.rolls-Assign op left right r) refl;
      key = λ h. key_by _ (Expr-F.Expr::Assign op left right r) (vExpr.rolls-Assign op left right r) refl;
    };
    yield_ = λ delegate arg. record {
      symbol = λ h. symbol_by _ (Expr-F.Yield delegate arg r) (vExpr.rolls-Yield delegate arg r) refl;
      key = λ h. key_by _ (Expr-F.Yield delegate arg r) (vExpr.rolls-Yield delegate arg r) refl;
    };
    name_arrow = λ f e. record {
      symbol = λ h. symbol_by _ (Expr-F.Arrow f) (vExpr.rolls-Arrow f) refl;
      key = λ h. key_by _ (Expr-F.Arrow f) (vExpr.rolls-Arrow f) refl;
    };
    parenthesized_arrow = λ f e. record {
      symbol = λ h. symbol_by _ (Expr-F.Arrow f) (vExpr.rolls-Arrow f) refl;
      key = λ h. key_by _ (Expr-F.Arrow f) (vExpr.rolls-Arrow f) refl;
    };
    async_name_arrow = λ f e. record {
      symbol = λ h. symbol_by _ (Expr-F.Arrow f) (vExpr.rolls-Arrow f) refl;
      key = λ h. key_by _ (Expr-F.Arrow f) (vExpr.rolls-Arrow f) refl;
    };
    async_parenthesized_arrow = λ f e. record {
      symbol = λ h. symbol_by _ (Expr-F.Arrow f) (vExpr.rolls-Arrow f) refl;
      key = λ h. key_by _ (Expr-F.Arrow f) (vExpr.rolls-Arrow f) refl;
    };
    sequence = λ es. record {
      symbol = λ h. symbol_by _ (Expr-F.Seq es r) (vExpr.rolls-Seq es r) refl;
      key = λ h. key_by _ (Expr-F.Seq es r) (vExpr.rolls-Seq es r) refl;
    };
    typed_function = λ f e. record {
      symbol = λ h. symbol_by _ (Expr-F.Expr::Fn f) (vExpr.rolls-Fn f) refl;
      key = λ h. key_by _ (Expr-F.Expr::Fn f) (vExpr.rolls-Fn f) refl;
    };
    typed_async_function = λ f e. record {
      symbol = λ h. symbol_by _ (Expr-F.Expr::Fn f) (vExpr.rolls-Fn f) refl;
      key = λ h. key_by _ (Expr-F.Expr::Fn f) (vExpr.rolls-Fn f) refl;
    };
    typed_class = λ c e. record {
      symbol = λ h. symbol_by _ (Expr-F.Expr::Class c) (vExpr.rolls-Class c) refl;
      key = λ h. key_by _ (Expr-F.Expr::Class c) (vExpr.rolls-Class c) refl;
    };
    abstract_class = λ c e. record {
      symbol = λ h. symbol_by _ (Expr-F.Expr::Class c) (vExpr.rolls-Class c) refl;
      key = λ h. key_by _ (Expr-F.Expr::Class c) (vExpr.rolls-Class c) refl;
    };
    typed_new = λ callee type_args has_args args. record {
      symbol = λ h. symbol_by _ (Expr-F.New callee type_args has_args args r)
          (vExpr.rolls-New callee type_args has_args args r) refl;
      key = λ h. key_by _ (Expr-F.New callee type_args has_args args r)
          (vExpr.rolls-New callee type_args has_args args r) refl;
    };
    type_assertion_const = λ e. record {
      symbol = λ h. symbol_by _ (Expr-F.TsConstAssertion e r) (vExpr.rolls-TsConstAssertion e r) refl;
      key = λ h. absurd (true≢false h);
    };
    type_assertion_as = λ e ty. record {
      symbol = λ h. symbol_by _ (Expr-F.TsAs e ty r) (vExpr.rolls-TsAs e ty r) refl;
      key = λ h. absurd (true≢false h);
    };
    typed_binary_const = λ e. record {
      symbol = λ h. symbol_by _ (Expr-F.TsConstAssertion e r) (vExpr.rolls-TsConstAssertion e r) refl;
      key = λ h. absurd (true≢false h);
    };
    typed_binary_as = λ e ty. record {
      symbol = λ h. symbol_by _ (Expr-F.TsAs e ty r) (vExpr.rolls-TsAs e ty r) refl;
      key = λ h. absurd (true≢false h);
    };
    typed_binary_satisfies = λ e ty. record {
      symbol = λ h. symbol_by _ (Expr-F.TsSatisfies e ty r) (vExpr.rolls-TsSatisfies e ty r) refl;
      key = λ h. absurd (true≢false h);
    };
    typed_binary_binary = λ op left right. record {
      symbol = λ h. symbol_by _ (Expr-F.Bin op left right r) (vExpr.rolls-Bin op left right r) refl;
      key = λ h. absurd (true≢false h);
    };
    typed_parenthesized_arrow = λ f e. record {
      symbol = λ h. symbol_by _ (Expr-F.Arrow f) (vExpr.rolls-Arrow f) refl;
      key = λ h. key_by _ (Expr-F.Arrow f) (vExpr.rolls-Arrow f) refl;
    };
    typed_async_parenthesized_arrow = λ f e. record {
      symbol = λ h. symbol_by _ (Expr-F.Arrow f) (vExpr.rolls-Arrow f) refl;
      key = λ h. key_by _ (Expr-F.Arrow f) (vExpr.rolls-Arrow f) refl;
    };
  }

  -- what leans left is no name
  leaning : EachLean NoSymbol
  leaning = record {
    binary = λ op left right r. symbol_by _ (Expr-F.Bin op left right r) (vExpr.rolls-Bin op left right r) refl;
    const = λ e r. symbol_by _ (Expr-F.TsConstAssertion e r) (vExpr.rolls-TsConstAssertion e r) refl;
    as_ = λ e ty r. symbol_by _ (Expr-F.TsAs e ty r) (vExpr.rolls-TsAs e ty r) refl;
    satisfies = λ e ty r. symbol_by _ (Expr-F.TsSatisfies e ty r) (vExpr.rolls-TsSatisfies e ty r) refl;
  }

  module _ (x : List ℕ) (ts : List Token) where
    by_symbol : (label : NodeKind) (o : Option Expr) → is_one_of naming label ≡ false → IfSome o (Claim label)
        → IfThere NoSymbol o
    by_symbol label None h a = record { is = tt }
    by_symbol label (Some e) h a = record { is = a.symbol h }

    by_key : (label : NodeKind) (o : Option Expr) → is_one_of keyed label ≡ false → IfSome o (Claim label)
        → IfThere NoKey o
    by_key label None h a = record { is = tt }
    by_key label (Some e) h a = record { is = a.key h }

    pub node_symbol : (label : NodeKind) (from to : ℕ) (es : List Entry) → is_one_of naming label ≡ false
        → IfThere NoSymbol (expr_in (made x ts (what.Node label) from to (held x ts es) (parts_of x ts es)))
    unfolding build
    node_symbol label from to es h =
        by_symbol label _ h (all_forms Claim x ts _ (each _) label from es)

    pub node_key : (label : NodeKind) (from to : ℕ) (es : List Entry) → is_one_of keyed label ≡ false
        → IfThere NoKey (expr_in (made x ts (what.Node label) from to (held x ts es) (parts_of x ts es)))
    unfolding build
    node_key label from to es h =
        by_key label _ h (all_forms Claim x ts _ (each _) label from es)

    lean_there : (o : Option Expr) → IfSome o NoSymbol → IfThere NoSymbol o
    lean_there None a = record { is = tt }
    lean_there (Some e) a = record { is = a }

    pub lean_symbol : (lean : Lean) (from to : ℕ) (es : List Entry)
        → IfThere NoSymbol (expr_in (made x ts (what.Lean lean) from to (held x ts es) (parts_of x ts es)))
    lean_symbol lean from to es = lean_there _ (leant_forms NoSymbol x ts leaning lean from (parts_of x ts es))
