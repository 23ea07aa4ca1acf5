-- What expressions of all other alternatives show: nothing.
use Rattle.std.specs.Prelude.{◌≢◌, ℕ, Bool, true, false, List, [], ◌∷◌, Option, Some, None, IfSome}
use Rattle.std.proofs.Common.{◌≡◌, refl, sym, subst}
use Rattle.std.proofs.lemmas.Bool.{true≢false}
use Rattle.base.specs.declared.range.Range.{Range}
use Rattle.es_token.specs.declared.token.Token.{Token}
use Rattle.es_grammar.specs.declared.rows.NodeKind.{NodeKind}
use Rattle.es_grammar.specs.declared.rows.NodeKind.TheVariants as l
use Rattle.es_ast.specs.declared.ast.Expr.{Expr, roll-Expr}
use Rattle.es_ast.specs.declared.ast.Expr.TheVariants as vExpr
use Rattle.es_ast.specs.declared.ast.ClassMember.TheOpen.{Expr-F}
use Rattle.es_site.specs.Parts.{Whole}
use Rattle.es_lowering.specs.Lowering.{expr_of}
use Rattle.es_syntax.specs.declared.entry.Entry.{Entry}
use Rattle.es_syntax.specs.Held.{held}
use Rattle.es_syntax.specs.Views.{is_one_of}
use Rattle.es_expr_spans.proofs.All.{Each, all_forms}
use Rattle.es_expr_spans.proofs.PostForms.{EachLink}
use Rattle.dts_rules.specs.Rules.{Env, Shown, Sort, State, in_expr}
use Rattle.dts_rules.specs.Programs.{shown_expr}
use Rattle.dts_rules.proofs.Shown.{beside_expr}
use Rattle.dts_leaves.proofs.Shown.{shown_by}

-- an expression without a type, which is no key and no name of a type, and no element that is a hole or a spread
pub record ShowsNothing (it : Shown) : Type 0 where
  pub sort : it.sort ≡ Sort.plain
  pub rule : (c r : Bool) (s : State) → it.rule c r s ≡ (None, s)
  pub rest : (c : Bool) (s : State) → it.rest c s ≡ (None, s)
  pub type_key : it.type_key ≡ None
  pub entity : it.entity ≡ None

-- the alternatives that may show something
abbrev pub showing : List NodeKind
showing =
    l.Name ∷ l.Word ∷ l.Number ∷ l.Str ∷ l.RegExp ∷ l.Template ∷ l.TemplateParts ∷ l.ArrayLiteral ∷ l.ObjectLiteral
    ∷ l.Spread ∷
    l.Function ∷ l.AsyncFunction ∷ l.TypedFunction ∷ l.TypedAsyncFunction ∷ l.NameArrow ∷ l.ParenthesizedArrow ∷
    l.AsyncNameArrow ∷ l.AsyncParenthesizedArrow ∷ l.TypedParenthesizedArrow ∷ l.TypedAsyncParenthesizedArrow ∷ l.New ∷
    l.TypedNew ∷ l.Chain ∷ l.UnaryExpression ∷ l.TypedBinary ∷ l.TypeAssertion ∷ []

module _ (env : Env) where
  abbrev pub Claim : NodeKind → Expr → Type 0
  Claim label e = is_one_of showing label ≡ false → ShowsNothing (shown_expr env e)

  bare : (it : Expr) (w : Whole Expr-F) → roll-Expr w ≡ it → ShowsNothing (in_expr env (beside_expr env w))
      → ShowsNothing (shown_expr env it)
  bare it w rolls n = subst ShowsNothing (sym (shown_by env it w rolls)) n

  links : EachLink (Claim l.Chain)
  links = record {
    member = λ obj mark hidden prop r h. absurd (true≢false h);
    index = λ obj mark e r h. absurd (true≢false h);
    call = λ obj mark type_args args r h. absurd (true≢false h);
    tagged = λ obj type_args tpl r h. absurd (true≢false h);
    non_null = λ obj r h. absurd (true≢false h);
  }

  each : (r : Range) → Each Claim r
  each r = record {
    name = λ id h. absurd (true≢false h);
    word_this = λ h. absurd (true≢false h);
    word_null = λ h. absurd (true≢false h);
    word_bool = λ b h. absurd (true≢false h);
    number = λ lit h. absurd (true≢false h);
    str = λ it h. absurd (true≢false h);
    reg_exp = λ it h. absurd (true≢false h);
    template = λ quasis es h. absurd (true≢false h);
    template_parts = λ quasis es h. absurd (true≢false h);
    parenthesized = λ e h.
        bare _ (Expr-F.Paren e r) (vExpr.rolls-Paren e r)
        (record { sort = refl; rule = λ c r s. refl; rest = λ c s. refl; type_key = refl; entity = refl });
    array_literal = λ elems h. absurd (true≢false h);
    object_literal = λ props h. absurd (true≢false h);
    spread = λ e h. absurd (true≢false h);
    function = λ f e h. absurd (true≢false h);
    async_function = λ f e h. absurd (true≢false h);
    class_ = λ c e h.
        bare _ (Expr-F.Expr::Class c) (vExpr.rolls-Class c)
        (record { sort = refl; rule = λ c r s. refl; rest = λ c s. refl; type_key = refl; entity = refl });
    super_ = λ h.
        bare _ (Expr-F.Super r) (vExpr.rolls-Super r)
        (record { sort = refl; rule = λ c r s. refl; rest = λ c s. refl; type_key = refl; entity = refl });
    import_call = λ phase args h.
        bare _ (Expr-F.ImportCall phase args r) (vExpr.rolls-ImportCall phase args r)
        (record { sort = refl; rule = λ c r s. refl; rest = λ c s. refl; type_key = refl; entity = refl });
    source_call = λ phase args h.
        bare _ (Expr-F.ImportCall phase args r) (vExpr.rolls-ImportCall phase args r)
        (record { sort = refl; rule = λ c r s. refl; rest = λ c s. refl; type_key = refl; entity = refl });
    defer_call = λ phase args h.
        bare _ (Expr-F.ImportCall phase args r) (vExpr.rolls-ImportCall phase args r)
        (record { sort = refl; rule = λ c r s. refl; rest = λ c s. refl; type_key = refl; entity = refl });
    import_meta = λ h.
        bare _ (Expr-F.ImportMeta r) (vExpr.rolls-ImportMeta r)
        (record { sort = refl; rule = λ c r s. refl; rest = λ c s. refl; type_key = refl; entity = refl });
    new_target = λ h.
        bare _ (Expr-F.NewTarget r) (vExpr.rolls-NewTarget r)
        (record { sort = refl; rule = λ c r s. refl; rest = λ c s. refl; type_key = refl; entity = refl });
    new_ = λ callee type_args has_args args h. absurd (true≢false h);
    chain = links;
    update_prefix = λ op prefix arg h.
        bare _ (Expr-F.Update op prefix arg r) (vExpr.rolls-Update op prefix arg r)
        (record { sort = refl; rule = λ c r s. refl; rest = λ c s. refl; type_key = refl; entity = refl });
    update_postfix = λ op prefix arg h.
        bare _ (Expr-F.Update op prefix arg r) (vExpr.rolls-Update op prefix arg r)
        (record { sort = refl; rule = λ c r s. refl; rest = λ c s. refl; type_key = refl; entity = refl });
    unary_expression = λ op arg h. absurd (true≢false h);
    await_expression = λ arg h.
        bare _ (Expr-F.Await arg r) (vExpr.rolls-Await arg r)
        (record { sort = refl; rule = λ c r s. refl; rest = λ c s. refl; type_key = refl; entity = refl });
    binary = λ op left right h.
        bare _ (Expr-F.Bin op left right r) (vExpr.rolls-Bin op left right r)
        (record { sort = refl; rule = λ c r s. refl; rest = λ c s. refl; type_key = refl; entity = refl });
    private_in = λ op left right h.
        bare _ (Expr-F.Bin op left right r) (vExpr.rolls-Bin op left right r)
        (record { sort = refl; rule = λ c r s. refl; rest = λ c s. refl; type_key = refl; entity = refl });
    conditional = λ test cons alt h.
        bare _ (Expr-F.Cond test cons alt r) (vExpr.rolls-Cond test cons alt r)
        (record { sort = refl; rule = λ c r s. refl; rest = λ c s. refl; type_key = refl; entity = refl });
    assignment = λ op left right h.
        bare _ (Expr-F.Expr::Assign op left right r) (vExpr.rolls-Assign op left right r)
        (record { sort = refl; rule = λ c r s. refl; rest = λ c s. refl; type_key = refl; entity = refl });
    pattern_assignment = λ op left right h.
        bare _ (Expr-F.Expr::Assign op left right r) (vExpr.rolls-Assign op left right r)
        (record { sort = refl; rule = λ c r s. refl; rest = λ c s. refl; type_key = refl; entity = refl });
    yield_ = λ delegate arg h.
        bare _ (Expr-F.Yield delegate arg r) (vExpr.rolls-Yield delegate arg r)
        (record { sort = refl; rule = λ c r s. refl; rest = λ c s. refl; type_key = refl; entity = refl });
    name_arrow = λ f e h. absurd (true≢false h);
    parenthesized_arrow = λ f e h. absurd (true≢false h);
    async_name_arrow = λ f e h. absurd (true≢false h);
    async_parenthesized_arrow = λ f e h. absurd (true≢false h);
    sequence = λ es h.
        bare _ (Expr-F.Seq es r) (vExpr.rolls-Seq es r)
        (record { sort = refl; rule = λ c r s. refl; rest = λ c s. refl; type_key = refl; entity = refl });
    typed_function = λ f e h. absurd (true≢false h);
    typed_async_function = λ f e h. absurd (true≢false h);
    typed_class = λ c e h.
        bare _ (Expr-F.Expr::Class c) (vExpr.rolls-Class c)
        (record { sort = refl; rule = λ c r s. refl; rest = λ c s. refl; type_key = refl; entity = refl });
    abstract_class = λ c e h.
        bare _ (Expr-F.Expr::Class c) (vExpr.rolls-Class c)
        (record { sort = refl; rule = λ c r s. refl; rest = λ c s. refl; type_key = refl; entity = refl });
    typed_new = λ callee type_args has_args args h. absurd (true≢false h);
    type_assertion_const = λ e h. absurd (true≢false h);
    type_assertion_as = λ e ty h. absurd (true≢false h);
    typed_binary_const = λ e h. absurd (true≢false h);
    typed_binary_as = λ e ty h. absurd (true≢false h);
    typed_binary_satisfies = λ e ty h. absurd (true≢false h);
    typed_binary_binary = λ op left right h. absurd (true≢false h);
    typed_parenthesized_arrow = λ f e h. absurd (true≢false h);
    typed_async_parenthesized_arrow = λ f e h. absurd (true≢false h);
  }

  -- of all other alternatives
  pub others : (x : List ℕ) (ts : List Token) (label : NodeKind) (from : ℕ) (r : Range) (es : List Entry)
      → is_one_of showing label ≡ false
      → IfSome (expr_of x ts label from r (held x ts es)) (λ e. ShowsNothing (shown_expr env e))
  others x ts label from r es h =
      go (expr_of x ts label from r (held x ts es)) (all_forms Claim x ts r (each r) label from es)
    where
      go : (o : Option Expr) → IfSome o (Claim label) → IfSome o (λ e. ShowsNothing (shown_expr env e))
      go None a = tt
      go (Some e) a = a h
