-- What expressions of each alternative show, wherever the alternative alone tells it.
use Rattle.std.specs.Prelude.{ℕ, Bool, true, false, ◌&&◌, ◌||◌, ◌==◌, List, [], ◌∷◌, Option, Some, None, option_map, if◌then◌else◌, IfSome, bytes_eq, codes}
use Rattle.std.proofs.Common.{◌≡◌, refl, sym, ap, subst, ◌∙◌}
use Rattle.base.specs.declared.range.Range.{Range}
use Rattle.es_token.specs.declared.token.Token.{Token}
use Rattle.es_grammar.specs.declared.rows.NodeKind.{NodeKind}
use Rattle.es_grammar.specs.declared.rows.NodeKind.TheVariants as l
use Rattle.es_ast.specs.declared.ts.leaf.Ident.{Ident}
use Rattle.es_ast.specs.declared.ts.leaf.TsKeywordTypeKind.{TsKeywordTypeKind}
use Rattle.es_ast.specs.declared.ts.leaf.TsKeywordTypeKind.TheVariants as keyword
use Rattle.es_ast.specs.declared.ts.leaf.TsLit.TheVariants as vTsLit
use Rattle.es_ast.specs.declared.ts.ts.TsPart.{TsPart}
use Rattle.es_ast.specs.declared.ts.ts.TsType.{TsType}
use Rattle.es_ast.specs.declared.ts.ts.TsType.TheVariants as vType
use Rattle.es_ast.specs.declared.leaf.Lit.{Lit}
use Rattle.es_ast.specs.declared.leaf.Lit.TheVariants as vLit
use Rattle.es_ast.specs.declared.leaf.UnaryOp.{UnaryOp}
use Rattle.es_ast.specs.declared.leaf.UnaryOp.TheVariants as vUnary
use Rattle.es_ast.specs.declared.ast.Class.{Class, out-Class, roll-Class, roll-out-Class}
use Rattle.es_ast.specs.declared.ast.Expr.{Expr, roll-Expr, out-Expr, out-roll-Expr, roll-out-Expr}
use Rattle.es_ast.specs.declared.ast.Expr.TheVariants as vExpr
use Rattle.es_ast.specs.declared.ast.Function.{Function, out-Function, roll-Function, roll-out-Function}
use Rattle.es_ast.specs.declared.ast.ClassMember.TheOpen.{Expr-F}
use Rattle.es_site.specs.Parts.{Whole}
use Rattle.es_lowering.specs.Value.{Value}
use Rattle.es_lowering.specs.Lowering.{expr_of}
use Rattle.es_syntax.specs.declared.entry.Entry.{Entry}
use Rattle.es_syntax.specs.declared.entry.Lean.{Lean}
use Rattle.es_syntax.specs.Held.{Held, held, leant}
use Rattle.es_syntax.specs.Roles.{expr_in}
use Rattle.es_syntax.specs.Views.{is_one_of}
use Rattle.es_expr_spans.specs.Spans.{expr_span, span_by}
use Rattle.es_expr_spans.proofs.All.{Each, all_forms}
use Rattle.es_expr_spans.proofs.PostForms.{EachLink}
use Rattle.es_expr_spans.proofs.LeanForms.{EachLean, leant_forms}
use Rattle.dts_rules.specs.Made.{word, if_true, made_name, named_type, typeof_name}
use Rattle.dts_rules.specs.Sets.{is_in, id_of}
use Rattle.dts_rules.specs.Rules.{Env, Shown, ShownClass, ShownFunction, Sort, State, after, if_frozen, by_const, lit_type, numeric_type, free_type, name_type, is_free, minus_type, new_type, in_expr}
use Rattle.dts_rules.specs.Programs.{shown_expr, shown_function, shown_class}
use Rattle.dts_rules.proofs.Shown.{at_expr, at_function, at_class, beside_expr, beside_function, beside_class}
use Rattle.dts_draft.specs.Written.{IfThere}
use Rattle.dts_leaves.proofs.Shown.{shown_by}
use Rattle.dts_kept.proofs.TypeForms.{frozen_Keyword, frozen_Lit, frozen_Ref, frozen_Query}
use Rattle.dts_operands.specs.Labels.{typing, freezing, spreading, resting, counting, naming, beginning}
use Rattle.dts_operands.specs.Callees.{Neither}

never : {A : Type 0} → true ≡ false → A
never e = let bad : ⊥ = cc in absurd bad

known : (P : Expr → Type 0) (b : Bool) (o : Option Expr) → b ≡ false → IfSome o (λ e. b ≡ false → P e) → IfThere P o
known P b None h k = record { is = tt }
known P b (Some e) h k = record { is = k h }

-- ---- types that no frozen value has
pub keyword_unfrozen : (kind : TsKeywordTypeKind) → if_frozen (Some (word kind)) ≡ None
keyword_unfrozen kind = frozen_Keyword kind _

numeric_unfrozen : (minus : Bool) (it : Lit) (span : Range) (c : Bool) → if_frozen (numeric_type minus it span c) ≡ None
numeric_unfrozen minus (vLit.Num it) span true = frozen_Lit (vTsLit.Number minus it span)
numeric_unfrozen minus (vLit.Num it) span false = keyword_unfrozen keyword.Number
numeric_unfrozen minus (vLit.BigInt it) span true = frozen_Lit (vTsLit.BigInt minus it span)
numeric_unfrozen minus (vLit.BigInt it) span false = keyword_unfrozen keyword.BigInt
numeric_unfrozen minus (vLit.Null at) span c = refl
numeric_unfrozen minus (vLit.Bool value at) span c = refl
numeric_unfrozen minus (vLit.Str it) span c = refl
numeric_unfrozen minus (vLit.Regex it) span c = refl

pub lit_unfrozen : (it : Lit) (c : Bool) → if_frozen (lit_type it c) ≡ None
lit_unfrozen (vLit.Null at) c = keyword_unfrozen keyword.Null
lit_unfrozen (vLit.Bool value at) true = frozen_Lit (vTsLit.Bool value at)
lit_unfrozen (vLit.Bool value at) false = keyword_unfrozen keyword.Boolean
lit_unfrozen (vLit.Str it) true = frozen_Lit (vTsLit.Str it)
lit_unfrozen (vLit.Str it) false = keyword_unfrozen keyword.String
lit_unfrozen (vLit.Regex it) c = frozen_Ref _ None (made_name (codes "RegExp")).span
lit_unfrozen (vLit.Num it) c = numeric_unfrozen false (vLit.Num it) it.span c
lit_unfrozen (vLit.BigInt it) c = numeric_unfrozen false (vLit.BigInt it) it.span c

two_unfrozen : (a b : Bool) → if_frozen (if a then Some (word keyword.Undefined)
    else (if b then Some (word keyword.Number) else None)) ≡ None
two_unfrozen true b = keyword_unfrozen keyword.Undefined
two_unfrozen false true = keyword_unfrozen keyword.Number
two_unfrozen false false = refl

query_unfrozen : (b : Bool) (id : Ident) → if_frozen (if_true b (typeof_name id)) ≡ None
query_unfrozen true id = frozen_Query _ _
query_unfrozen false id = refl

ref_unfrozen : (b : Bool) (id : Ident) → if_frozen (if_true b (named_type id)) ≡ None
ref_unfrozen true id = frozen_Ref _ None id.span
ref_unfrozen false id = refl

by_op : (env : Env) (op : UnaryOp) (w : Whole Expr-F) (span : Range) (c : Bool)
    → if_frozen (minus_type env vUnary.Minus w span c) ≡ None
    → if_frozen (minus_type env op w span c) ≡ None
by_op env vUnary.Minus w span c e = e
by_op env vUnary.Plus w span c e = refl
by_op env vUnary.Bang w span c e = refl
by_op env vUnary.Tilde w span c e = refl
by_op env vUnary.TypeOf w span c e = refl
by_op env vUnary.Void w span c e = refl
by_op env vUnary.Delete w span c e = refl

signed_unfrozen : (env : Env) (w : Whole Expr-F) (at : Range) (c : Bool)
    → if_frozen (minus_type env vUnary.Minus w at c) ≡ None
signed_unfrozen env (Expr-F.Expr::This span) at c = refl
signed_unfrozen env (Expr-F.Super span) at c = refl
signed_unfrozen env (Expr-F.Expr::Ident id) at c = refl
signed_unfrozen env (Expr-F.PrivateName id) at c = refl
signed_unfrozen env (Expr-F.Lit it) at c = numeric_unfrozen true it at c
signed_unfrozen env (Expr-F.Expr::Hole span) at c = refl
signed_unfrozen env (Expr-F.Expr::Array elems span) at c = refl
signed_unfrozen env (Expr-F.Expr::Spread expr span) at c = refl
signed_unfrozen env (Expr-F.Expr::Object props span) at c = refl
signed_unfrozen env (Expr-F.Expr::Fn it) at c = refl
signed_unfrozen env (Expr-F.Expr::Class it) at c = refl
signed_unfrozen env (Expr-F.Arrow it) at c = refl
signed_unfrozen env (Expr-F.Paren expr span) at c = refl
signed_unfrozen env (Expr-F.Unary op arg span) at c = refl
signed_unfrozen env (Expr-F.Update op prefix arg span) at c = refl
signed_unfrozen env (Expr-F.Await arg span) at c = refl
signed_unfrozen env (Expr-F.Yield delegate arg span) at c = refl
signed_unfrozen env (Expr-F.Bin op left right span) at c = refl
signed_unfrozen env (Expr-F.Expr::Assign op left right span) at c = refl
signed_unfrozen env (Expr-F.Cond test cons alt span) at c = refl
signed_unfrozen env (Expr-F.Seq exprs span) at c = refl
signed_unfrozen env (Expr-F.Member obj mark hidden prop span) at c = refl
signed_unfrozen env (Expr-F.Index obj mark prop span) at c = refl
signed_unfrozen env (Expr-F.Call callee mark type_args args span) at c = refl
signed_unfrozen env (Expr-F.New callee type_args has_args args span) at c = refl
signed_unfrozen env (Expr-F.ImportCall phase args span) at c = refl
signed_unfrozen env (Expr-F.ImportMeta span) at c = refl
signed_unfrozen env (Expr-F.NewTarget span) at c = refl
signed_unfrozen env (Expr-F.Tpl quasis exprs span) at c = refl
signed_unfrozen env (Expr-F.TaggedTpl tag type_args tpl span) at c = refl
signed_unfrozen env (Expr-F.TsNonNull expr span) at c = refl
signed_unfrozen env (Expr-F.TsAs expr ty span) at c = refl
signed_unfrozen env (Expr-F.TsConstAssertion expr span) at c = refl
signed_unfrozen env (Expr-F.TsSatisfies expr ty span) at c = refl

pub minus_unfrozen : (env : Env) (op : UnaryOp) (w : Whole Expr-F) (span : Range) (c : Bool)
    → if_frozen (minus_type env op w span c) ≡ None
minus_unfrozen env op w span c = by_op env op w span c (signed_unfrozen env w span c)

module _ (env : Env) where
  pub name_unfrozen : (id : Ident) (c : Bool) → if_frozen (name_type env id c) ≡ None
  name_unfrozen id c = go (is_free env id)
    where
      go : (b : Bool) → if_frozen (if b then free_type env id c
          else if_true (is_in env.sets.typeofs (id_of env.number id)) (typeof_name id)) ≡ None
      go true =
          two_unfrozen (c && bytes_eq id.sym (codes "undefined"))
          (bytes_eq id.sym (codes "NaN") || bytes_eq id.sym (codes "Infinity"))
      go false = query_unfrozen (is_in env.sets.typeofs (id_of env.number id)) id

  pub new_unfrozen : (w : Whole Expr-F) (type_args : Option TsPart) → if_frozen (new_type env w type_args) ≡ None
  new_unfrozen (Expr-F.Expr::This span) type_args = refl
  new_unfrozen (Expr-F.Super span) type_args = refl
  new_unfrozen (Expr-F.Expr::Ident id) None = ref_unfrozen (is_in env.sets.plain (id_of env.number id)) id
  new_unfrozen (Expr-F.Expr::Ident id) (Some part) = refl
  new_unfrozen (Expr-F.PrivateName id) type_args = refl
  new_unfrozen (Expr-F.Lit it) type_args = refl
  new_unfrozen (Expr-F.Expr::Hole span) type_args = refl
  new_unfrozen (Expr-F.Expr::Array elems span) type_args = refl
  new_unfrozen (Expr-F.Expr::Spread expr span) type_args = refl
  new_unfrozen (Expr-F.Expr::Object props span) type_args = refl
  new_unfrozen (Expr-F.Expr::Fn it) type_args = refl
  new_unfrozen (Expr-F.Expr::Class it) type_args = refl
  new_unfrozen (Expr-F.Arrow it) type_args = refl
  new_unfrozen (Expr-F.Paren expr span) type_args = refl
  new_unfrozen (Expr-F.Unary op arg span) type_args = refl
  new_unfrozen (Expr-F.Update op prefix arg span) type_args = refl
  new_unfrozen (Expr-F.Await arg span) type_args = refl
  new_unfrozen (Expr-F.Yield delegate arg span) type_args = refl
  new_unfrozen (Expr-F.Bin op left right span) type_args = refl
  new_unfrozen (Expr-F.Expr::Assign op left right span) type_args = refl
  new_unfrozen (Expr-F.Cond test cons alt span) type_args = refl
  new_unfrozen (Expr-F.Seq exprs span) type_args = refl
  new_unfrozen (Expr-F.Member obj mark hidden prop span) type_args = refl
  new_unfrozen (Expr-F.Index obj mark prop span) type_args = refl
  new_unfrozen (Expr-F.Call callee mark args_of args span) type_args = refl
  new_unfrozen (Expr-F.New callee args_of has_args args span) type_args = refl
  new_unfrozen (Expr-F.ImportCall phase args span) type_args = refl
  new_unfrozen (Expr-F.ImportMeta span) type_args = refl
  new_unfrozen (Expr-F.NewTarget span) type_args = refl
  new_unfrozen (Expr-F.Tpl quasis exprs span) type_args = refl
  new_unfrozen (Expr-F.TaggedTpl tag args_of tpl span) type_args = refl
  new_unfrozen (Expr-F.TsNonNull expr span) type_args = refl
  new_unfrozen (Expr-F.TsAs expr ty span) type_args = refl
  new_unfrozen (Expr-F.TsConstAssertion expr span) type_args = refl
  new_unfrozen (Expr-F.TsSatisfies expr ty span) type_args = refl

  -- ---- from a form
  rule_by : {it : Expr} (w : Whole Expr-F) → roll-Expr w ≡ it → (c r : Bool) (s : State)
      → (shown_expr env it).rule c r s ≡ (in_expr env (beside_expr env w)).rule c r s
  rule_by {it = it} w rolls c r s = ap (λ (k : Shown). k.rule c r s) (shown_by env it w rolls)

  frozen_by_rule : {it : Expr} (w : Whole Expr-F) → roll-Expr w ≡ it → (c r : Bool) (s : State)
      → after if_frozen ((in_expr env (beside_expr env w)).rule c r s) ≡ (None, s)
      → after if_frozen ((shown_expr env it).rule c r s) ≡ (None, s)
  frozen_by_rule w rolls c r s e = ap (λ p. after if_frozen p) (rule_by w rolls c r s) ∙ e

  out_is : (it : Expr) (w : Whole Expr-F) → roll-Expr w ≡ it → out-Expr it ≡ w
  out_is it w rolls = ap out-Expr (sym rolls) ∙ out-roll-Expr w

  neither_by : {it : Expr} (w : Whole Expr-F) → roll-Expr w ≡ it → (in_expr env (beside_expr env w)).is_object ≡ false
      → (in_expr env (beside_expr env w)).is_freeze ≡ false → Neither env (shown_expr env it)
  neither_by {it = it} w rolls a b = (
    ap (λ (k : Shown). k.is_object) (shown_by env it w rolls) ∙ a,
    ap (λ (k : Shown). k.is_freeze) (shown_by env it w rolls) ∙ b,
  )

  -- ---- each claim of all other alternatives
  abbrev Untyped : NodeKind → Expr → Type 0
  Untyped label e = is_one_of typing label ≡ false → (c r : Bool) (s : State)
      → (shown_expr env e).rule c r s ≡ (None, s)

  untyped_links : EachLink (Untyped l.Chain)
  untyped_links = record {
    member = λ obj mark hidden prop s h. never h;
    index = λ obj mark e s h. never h;
    call = λ obj mark type_args args s h. never h;
    tagged = λ obj type_args tpl s h. never h;
    non_null = λ obj s h. never h;
  }

  untyped_each : (r : Range) → Each Untyped r
  untyped_each r = record {
    name = λ id h. never h;
    word_this = λ h. never h;
    word_null = λ h. never h;
    word_bool = λ b h. never h;
    number = λ lit h. never h;
    str = λ it h. never h;
    reg_exp = λ it h. never h;
    template = λ quasis es h. never h;
    template_parts = λ quasis es h. never h;
    parenthesized = λ e h. λ c u s. rule_by (Expr-F.Paren e r) (vExpr.rolls-Paren e r) c u s;
    array_literal = λ elems h. never h;
    object_literal = λ props h. never h;
    spread = λ e h. λ c u s. rule_by (Expr-F.Expr::Spread e r) (vExpr.rolls-Spread e r) c u s;
    function = λ f known h. never h;
    async_function = λ f known h. never h;
    class_ = λ f known h. λ c u s. rule_by (Expr-F.Expr::Class f) (vExpr.rolls-Class f) c u s;
    super_ = λ h. λ c u s. rule_by (Expr-F.Super r) (vExpr.rolls-Super r) c u s;
    import_call = λ phase args h.
        λ c u s. rule_by (Expr-F.ImportCall phase args r) (vExpr.rolls-ImportCall phase args r) c u s;
    source_call = λ phase args h.
        λ c u s. rule_by (Expr-F.ImportCall phase args r) (vExpr.rolls-ImportCall phase args r) c u s;
    defer_call = λ phase args h.
        λ c u s. rule_by (Expr-F.ImportCall phase args r) (vExpr.rolls-ImportCall phase args r) c u s;
    import_meta = λ h. λ c u s. rule_by (Expr-F.ImportMeta r) (vExpr.rolls-ImportMeta r) c u s;
    new_target = λ h. λ c u s. rule_by (Expr-F.NewTarget r) (vExpr.rolls-NewTarget r) c u s;
    new_ = λ callee type_args has_args args h. never h;
    chain = untyped_links;
    update_prefix = λ op prefix arg h.
        λ c u s. rule_by (Expr-F.Update op prefix arg r) (vExpr.rolls-Update op prefix arg r) c u s;
    update_postfix = λ op prefix arg h.
        λ c u s. rule_by (Expr-F.Update op prefix arg r) (vExpr.rolls-Update op prefix arg r) c u s;
    unary_expression = λ op arg h. never h;
    await_expression = λ arg h. λ c u s. rule_by (Expr-F.Await arg r) (vExpr.rolls-Await arg r) c u s;
    binary = λ op left right h. λ c u s. rule_by (Expr-F.Bin op left right r) (vExpr.rolls-Bin op left right r) c u s;
    private_in = λ op left right h.
        λ c u s. rule_by (Expr-F.Bin op left right r) (vExpr.rolls-Bin op left right r) c u s;
    conditional = λ test cons alt h.
        λ c u s. rule_by (Expr-F.Cond test cons alt r) (vExpr.rolls-Cond test cons alt r) c u s;
    assignment = λ op left right h.
        λ c u s. rule_by (Expr-F.Expr::Assign op left right r) (vExpr.rolls-Assign op left right r) c u s;
    pattern_assignment =
        λ op left right h. λ c u s. rule_by (Expr-F.Expr::Assign op left right r) (vExpr.rolls-Assign op left right r)
        c u s;
    yield_ = λ delegate arg h. λ c u s. rule_by (Expr-F.Yield delegate arg r) (vExpr.rolls-Yield delegate arg r) c u s;
    name_arrow = λ f known h. never h;
    parenthesized_arrow = λ f known h. never h;
    async_name_arrow = λ f known h. never h;
    async_parenthesized_arrow = λ f known h. never h;
    sequence = λ es h. λ c u s. rule_by (Expr-F.Seq es r) (vExpr.rolls-Seq es r) c u s;
    typed_function = λ f known h. never h;
    typed_async_function = λ f known h. never h;
    typed_class = λ f known h. λ c u s. rule_by (Expr-F.Expr::Class f) (vExpr.rolls-Class f) c u s;
    abstract_class = λ f known h. λ c u s. rule_by (Expr-F.Expr::Class f) (vExpr.rolls-Class f) c u s;
    typed_new = λ callee type_args has_args args h. never h;
    typed_binary_const = λ e h. never h;
    typed_binary_as = λ e ty h. never h;
    typed_binary_satisfies = λ e ty h. never h;
    typed_binary_binary = λ op left right h. never h;
    type_assertion_const = λ e h. never h;
    type_assertion_as = λ e ty h. never h;
    typed_parenthesized_arrow = λ f known h. never h;
    typed_async_parenthesized_arrow = λ f known h. never h;
  }

  pub untyped_forms : (x : List ℕ) (ts : List Token) (label : NodeKind) (from : ℕ) (r : Range)
      (es : List Entry) → is_one_of typing label ≡ false
      → IfThere (λ e. (c r : Bool) (s : State) → (shown_expr env e).rule c r s ≡ (None, s))
      (expr_of x ts label from r (held x ts es))
  untyped_forms x ts label from r es h =
      known (λ e. (c r : Bool) (s : State) → (shown_expr env e).rule c r s ≡ (None, s)) (is_one_of typing label) _ h
      (all_forms Untyped x ts r (untyped_each r) label from es)

  abbrev Unfrozen : NodeKind → Expr → Type 0
  Unfrozen label e = is_one_of freezing label ≡ false → (c r : Bool) (s : State)
      → after if_frozen ((shown_expr env e).rule c r s) ≡ (None, s)

  unfrozen_links : EachLink (Unfrozen l.Chain)
  unfrozen_links = record {
    member = λ obj mark hidden prop s h. never h;
    index = λ obj mark e s h. never h;
    call = λ obj mark type_args args s h. never h;
    tagged = λ obj type_args tpl s h. never h;
    non_null = λ obj s h. never h;
  }

  unfrozen_each : (r : Range) → Each Unfrozen r
  unfrozen_each r = record {
    name = λ id h. λ c u s. frozen_by_rule (Expr-F.Expr::Ident id) (vExpr.rolls-Ident id) c u s
        (ap (λ (ty : Option TsType). (ty, s)) (name_unfrozen id c));
    word_this = λ h. λ c u s. frozen_by_rule (Expr-F.Expr::This r) (vExpr.rolls-This r) c u s refl;
    word_null = λ h. λ c u s. frozen_by_rule (Expr-F.Lit (vLit.Null r)) (vExpr.rolls-Lit (vLit.Null r)) c u s
        (ap (λ (ty : Option TsType). (ty, s)) (lit_unfrozen (vLit.Null r) c));
    word_bool = λ b h. λ c u s. frozen_by_rule (Expr-F.Lit (vLit.Bool b r)) (vExpr.rolls-Lit (vLit.Bool b r)) c u s
        (ap (λ (ty : Option TsType). (ty, s)) (lit_unfrozen (vLit.Bool b r) c));
    number = λ lit h. λ c u s. frozen_by_rule (Expr-F.Lit lit) (vExpr.rolls-Lit lit) c u s
        (ap (λ (ty : Option TsType). (ty, s)) (lit_unfrozen lit c));
    str = λ it h. λ c u s. frozen_by_rule (Expr-F.Lit (vLit.Str it)) (vExpr.rolls-Lit (vLit.Str it)) c u s
        (ap (λ (ty : Option TsType). (ty, s)) (lit_unfrozen (vLit.Str it) c));
    reg_exp = λ it h. λ c u s. frozen_by_rule (Expr-F.Lit (vLit.Regex it)) (vExpr.rolls-Lit (vLit.Regex it)) c u s
        (ap (λ (ty : Option TsType). (ty, s)) (lit_unfrozen (vLit.Regex it) c));
    template = λ quasis es h.
        λ c u s. frozen_by_rule (Expr-F.Tpl quasis es r) (vExpr.rolls-Tpl quasis es r) c u s
        (ap (λ (ty : Option TsType). (ty, s)) (keyword_unfrozen keyword.String));
    template_parts = λ quasis es h.
        λ c u s. frozen_by_rule (Expr-F.Tpl quasis es r) (vExpr.rolls-Tpl quasis es r) c u s
        (ap (λ (ty : Option TsType). (ty, s)) (keyword_unfrozen keyword.String));
    parenthesized = λ e h. λ c u s. frozen_by_rule (Expr-F.Paren e r) (vExpr.rolls-Paren e r) c u s refl;
    array_literal = λ elems h. never h;
    object_literal = λ props h. never h;
    spread = λ e h. λ c u s. frozen_by_rule (Expr-F.Expr::Spread e r) (vExpr.rolls-Spread e r) c u s refl;
    function = λ f known h. never h;
    async_function = λ f known h. never h;
    class_ = λ f known h. λ c u s. frozen_by_rule (Expr-F.Expr::Class f) (vExpr.rolls-Class f) c u s refl;
    super_ = λ h. λ c u s. frozen_by_rule (Expr-F.Super r) (vExpr.rolls-Super r) c u s refl;
    import_call = λ phase args h.
        λ c u s. frozen_by_rule (Expr-F.ImportCall phase args r) (vExpr.rolls-ImportCall phase args r) c u s refl;
    source_call = λ phase args h.
        λ c u s. frozen_by_rule (Expr-F.ImportCall phase args r) (vExpr.rolls-ImportCall phase args r) c u s refl;
    defer_call = λ phase args h.
        λ c u s. frozen_by_rule (Expr-F.ImportCall phase args r) (vExpr.rolls-ImportCall phase args r) c u s refl;
    import_meta = λ h. λ c u s. frozen_by_rule (Expr-F.ImportMeta r) (vExpr.rolls-ImportMeta r) c u s refl;
    new_target = λ h. λ c u s. frozen_by_rule (Expr-F.NewTarget r) (vExpr.rolls-NewTarget r) c u s refl;
    new_ = λ callee type_args has_args args h.
        λ c u s. frozen_by_rule (Expr-F.New callee type_args has_args args r)
        (vExpr.rolls-New callee type_args has_args args r) c u s
        (ap (λ (ty : Option TsType). (ty, s)) (new_unfrozen (out-Expr callee) type_args));
    chain = unfrozen_links;
    update_prefix = λ op prefix arg h.
        λ c u s. frozen_by_rule (Expr-F.Update op prefix arg r) (vExpr.rolls-Update op prefix arg r) c u s refl;
    update_postfix = λ op prefix arg h.
        λ c u s. frozen_by_rule (Expr-F.Update op prefix arg r) (vExpr.rolls-Update op prefix arg r) c u s refl;
    unary_expression = λ op arg h.
        λ c u s. frozen_by_rule (Expr-F.Unary op arg r) (vExpr.rolls-Unary op arg r) c u s
        (ap (λ (ty : Option TsType). (ty, s)) (minus_unfrozen env op (out-Expr arg) r c));
    await_expression = λ arg h. λ c u s. frozen_by_rule (Expr-F.Await arg r) (vExpr.rolls-Await arg r) c u s refl;
    binary = λ op left right h.
        λ c u s. frozen_by_rule (Expr-F.Bin op left right r) (vExpr.rolls-Bin op left right r) c u s refl;
    private_in = λ op left right h.
        λ c u s. frozen_by_rule (Expr-F.Bin op left right r) (vExpr.rolls-Bin op left right r) c u s refl;
    conditional = λ test cons alt h.
        λ c u s. frozen_by_rule (Expr-F.Cond test cons alt r) (vExpr.rolls-Cond test cons alt r) c u s refl;
    assignment = λ op left right h.
        λ c u s. frozen_by_rule (Expr-F.Expr::Assign op left right r) (vExpr.rolls-Assign op left right r) c u s refl;
    pattern_assignment =
        λ op left right h. λ c u s. frozen_by_rule (Expr-F.Expr::Assign op left right r)
        (vExpr.rolls-Assign op left right r) c u s refl;
    yield_ = λ delegate arg h.
        λ c u s. frozen_by_rule (Expr-F.Yield delegate arg r) (vExpr.rolls-Yield delegate arg r) c u s refl;
    name_arrow = λ f known h. never h;
    parenthesized_arrow = λ f known h. never h;
    async_name_arrow = λ f known h. never h;
    async_parenthesized_arrow = λ f known h. never h;
    sequence = λ es h. λ c u s. frozen_by_rule (Expr-F.Seq es r) (vExpr.rolls-Seq es r) c u s refl;
    typed_function = λ f known h. never h;
    typed_async_function = λ f known h. never h;
    typed_class = λ f known h. λ c u s. frozen_by_rule (Expr-F.Expr::Class f) (vExpr.rolls-Class f) c u s refl;
    abstract_class = λ f known h. λ c u s. frozen_by_rule (Expr-F.Expr::Class f) (vExpr.rolls-Class f) c u s refl;
    typed_new = λ callee type_args has_args args h.
        λ c u s. frozen_by_rule (Expr-F.New callee type_args has_args args r)
        (vExpr.rolls-New callee type_args has_args args r) c u s
        (ap (λ (ty : Option TsType). (ty, s)) (new_unfrozen (out-Expr callee) type_args));
    typed_binary_const = λ e h. never h;
    typed_binary_as = λ e ty h. never h;
    typed_binary_satisfies = λ e ty h. never h;
    typed_binary_binary = λ op left right h. never h;
    type_assertion_const = λ e h. never h;
    type_assertion_as = λ e ty h. never h;
    typed_parenthesized_arrow = λ f known h. never h;
    typed_async_parenthesized_arrow = λ f known h. never h;
  }

  pub unfrozen_forms : (x : List ℕ) (ts : List Token) (label : NodeKind) (from : ℕ) (r : Range)
      (es : List Entry) → is_one_of freezing label ≡ false
      → IfThere (λ e. (c r : Bool) (s : State) → after if_frozen ((shown_expr env e).rule c r s) ≡ (None, s))
      (expr_of x ts label from r (held x ts es))
  unfrozen_forms x ts label from r es h =
      known (λ e. (c r : Bool) (s : State) → after if_frozen ((shown_expr env e).rule c r s) ≡ (None, s))
      (is_one_of freezing label) _ h
      (all_forms Unfrozen x ts r (unfrozen_each r) label from es)

  abbrev Plain : NodeKind → Expr → Type 0
  Plain label e = is_one_of spreading label ≡ false → (shown_expr env e).sort ≡ Sort.plain

  plain_links : EachLink (Plain l.Chain)
  plain_links = record {
    member = λ obj mark hidden prop s h. ap (λ (k : Shown). k.sort)
        (shown_by env _ (Expr-F.Member obj mark hidden prop s) (vExpr.rolls-Member obj mark hidden prop s));
    index = λ obj mark e s h. ap (λ (k : Shown). k.sort)
        (shown_by env _ (Expr-F.Index obj mark e s) (vExpr.rolls-Index obj mark e s));
    call = λ obj mark type_args args s h. ap (λ (k : Shown). k.sort)
        (shown_by env _ (Expr-F.Call obj mark type_args args s) (vExpr.rolls-Call obj mark type_args args s));
    tagged = λ obj type_args tpl s h. ap (λ (k : Shown). k.sort)
        (shown_by env _ (Expr-F.TaggedTpl obj type_args tpl s) (vExpr.rolls-TaggedTpl obj type_args tpl s));
    non_null = λ obj s h. ap (λ (k : Shown). k.sort)
        (shown_by env _ (Expr-F.TsNonNull obj s) (vExpr.rolls-TsNonNull obj s));
  }

  plain_each : (r : Range) → Each Plain r
  plain_each r = record {
    name = λ id h. ap (λ (k : Shown). k.sort) (shown_by env _ (Expr-F.Expr::Ident id) (vExpr.rolls-Ident id));
    word_this = λ h. ap (λ (k : Shown). k.sort) (shown_by env _ (Expr-F.Expr::This r) (vExpr.rolls-This r));
    word_null = λ h. ap (λ (k : Shown). k.sort)
        (shown_by env _ (Expr-F.Lit (vLit.Null r)) (vExpr.rolls-Lit (vLit.Null r)));
    word_bool = λ b h. ap (λ (k : Shown). k.sort)
        (shown_by env _ (Expr-F.Lit (vLit.Bool b r)) (vExpr.rolls-Lit (vLit.Bool b r)));
    number = λ lit h. ap (λ (k : Shown). k.sort) (shown_by env _ (Expr-F.Lit lit) (vExpr.rolls-Lit lit));
    str = λ it h. ap (λ (k : Shown). k.sort)
        (shown_by env _ (Expr-F.Lit (vLit.Str it)) (vExpr.rolls-Lit (vLit.Str it)));
    reg_exp = λ it h. ap (λ (k : Shown). k.sort)
        (shown_by env _ (Expr-F.Lit (vLit.Regex it)) (vExpr.rolls-Lit (vLit.Regex it)));
    template = λ quasis es h. ap (λ (k : Shown). k.sort)
        (shown_by env _ (Expr-F.Tpl quasis es r) (vExpr.rolls-Tpl quasis es r));
    template_parts = λ quasis es h. ap (λ (k : Shown). k.sort)
        (shown_by env _ (Expr-F.Tpl quasis es r) (vExpr.rolls-Tpl quasis es r));
    parenthesized = λ e h. ap (λ (k : Shown). k.sort) (shown_by env _ (Expr-F.Paren e r) (vExpr.rolls-Paren e r));
    array_literal = λ elems h. ap (λ (k : Shown). k.sort)
        (shown_by env _ (Expr-F.Expr::Array elems r) (vExpr.rolls-Array elems r));
    object_literal = λ props h. ap (λ (k : Shown). k.sort)
        (shown_by env _ (Expr-F.Expr::Object props r) (vExpr.rolls-Object props r));
    spread = λ e h. never h;
    function = λ f known h. ap (λ (k : Shown). k.sort) (shown_by env _ (Expr-F.Expr::Fn f) (vExpr.rolls-Fn f));
    async_function = λ f known h. ap (λ (k : Shown). k.sort) (shown_by env _ (Expr-F.Expr::Fn f) (vExpr.rolls-Fn f));
    class_ = λ f known h. ap (λ (k : Shown). k.sort) (shown_by env _ (Expr-F.Expr::Class f) (vExpr.rolls-Class f));
    super_ = λ h. ap (λ (k : Shown). k.sort) (shown_by env _ (Expr-F.Super r) (vExpr.rolls-Super r));
    import_call = λ phase args h. ap (λ (k : Shown). k.sort)
        (shown_by env _ (Expr-F.ImportCall phase args r) (vExpr.rolls-ImportCall phase args r));
    source_call = λ phase args h. ap (λ (k : Shown). k.sort)
        (shown_by env _ (Expr-F.ImportCall phase args r) (vExpr.rolls-ImportCall phase args r));
    defer_call = λ phase args h. ap (λ (k : Shown). k.sort)
        (shown_by env _ (Expr-F.ImportCall phase args r) (vExpr.rolls-ImportCall phase args r));
    import_meta = λ h. ap (λ (k : Shown). k.sort) (shown_by env _ (Expr-F.ImportMeta r) (vExpr.rolls-ImportMeta r));
    new_target = λ h. ap (λ (k : Shown). k.sort) (shown_by env _ (Expr-F.NewTarget r) (vExpr.rolls-NewTarget r));
    new_ = λ callee type_args has_args args h. ap (λ (k : Shown). k.sort)
        (shown_by env _ (Expr-F.New callee type_args has_args args r)
        (vExpr.rolls-New callee type_args has_args args r));
    chain = plain_links;
    update_prefix = λ op prefix arg h. ap (λ (k : Shown). k.sort)
        (shown_by env _ (Expr-F.Update op prefix arg r) (vExpr.rolls-Update op prefix arg r));
    update_postfix = λ op prefix arg h. ap (λ (k : Shown). k.sort)
        (shown_by env _ (Expr-F.Update op prefix arg r) (vExpr.rolls-Update op prefix arg r));
    unary_expression = λ op arg h. ap (λ (k : Shown). k.sort)
        (shown_by env _ (Expr-F.Unary op arg r) (vExpr.rolls-Unary op arg r));
    await_expression = λ arg h. ap (λ (k : Shown). k.sort)
        (shown_by env _ (Expr-F.Await arg r) (vExpr.rolls-Await arg r));
    binary = λ op left right h. ap (λ (k : Shown). k.sort)
        (shown_by env _ (Expr-F.Bin op left right r) (vExpr.rolls-Bin op left right r));
    private_in = λ op left right h. ap (λ (k : Shown). k.sort)
        (shown_by env _ (Expr-F.Bin op left right r) (vExpr.rolls-Bin op left right r));
    conditional = λ test cons alt h. ap (λ (k : Shown). k.sort)
        (shown_by env _ (Expr-F.Cond test cons alt r) (vExpr.rolls-Cond test cons alt r));
    assignment = λ op left right h. ap (λ (k : Shown). k.sort)
        (shown_by env _ (Expr-F.Expr::Assign op left right r) (vExpr.rolls-Assign op left right r));
    pattern_assignment =
        λ op left right h. ap (λ (k : Shown). k.sort)
        (shown_by env _ (Expr-F.Expr::Assign op left right r) (vExpr.rolls-Assign op left right r));
    yield_ = λ delegate arg h. ap (λ (k : Shown). k.sort)
        (shown_by env _ (Expr-F.Yield delegate arg r) (vExpr.rolls-Yield delegate arg r));
    name_arrow = λ f known h. ap (λ (k : Shown). k.sort) (shown_by env _ (Expr-F.Arrow f) (vExpr.rolls-Arrow f));
    parenthesized_arrow =
        λ f known h. ap (λ (k : Shown). k.sort) (shown_by env _ (Expr-F.Arrow f) (vExpr.rolls-Arrow f));
    async_name_arrow = λ f known h. ap (λ (k : Shown). k.sort) (shown_by env _ (Expr-F.Arrow f) (vExpr.rolls-Arrow f));
    async_parenthesized_arrow =
        λ f known h. ap (λ (k : Shown). k.sort) (shown_by env _ (Expr-F.Arrow f) (vExpr.rolls-Arrow f));
    sequence = λ es h. ap (λ (k : Shown). k.sort) (shown_by env _ (Expr-F.Seq es r) (vExpr.rolls-Seq es r));
    typed_function = λ f known h. ap (λ (k : Shown). k.sort) (shown_by env _ (Expr-F.Expr::Fn f) (vExpr.rolls-Fn f));
    typed_async_function =
        λ f known h. ap (λ (k : Shown). k.sort) (shown_by env _ (Expr-F.Expr::Fn f) (vExpr.rolls-Fn f));
    typed_class = λ f known h. ap (λ (k : Shown). k.sort) (shown_by env _ (Expr-F.Expr::Class f) (vExpr.rolls-Class f));
    abstract_class = λ f known h. ap (λ (k : Shown). k.sort)
        (shown_by env _ (Expr-F.Expr::Class f) (vExpr.rolls-Class f));
    typed_new = λ callee type_args has_args args h. ap (λ (k : Shown). k.sort)
        (shown_by env _ (Expr-F.New callee type_args has_args args r)
        (vExpr.rolls-New callee type_args has_args args r));
    typed_binary_const =
        λ e h. ap (λ (k : Shown). k.sort)
        (shown_by env _ (Expr-F.TsConstAssertion e r) (vExpr.rolls-TsConstAssertion e r));
    typed_binary_as = λ e ty h. ap (λ (k : Shown). k.sort)
        (shown_by env _ (Expr-F.TsAs e ty r) (vExpr.rolls-TsAs e ty r));
    typed_binary_satisfies =
        λ e ty h. ap (λ (k : Shown). k.sort)
        (shown_by env _ (Expr-F.TsSatisfies e ty r) (vExpr.rolls-TsSatisfies e ty r));
    typed_binary_binary =
        λ op left right h. ap (λ (k : Shown). k.sort)
        (shown_by env _ (Expr-F.Bin op left right r) (vExpr.rolls-Bin op left right r));
    type_assertion_const =
        λ e h. ap (λ (k : Shown). k.sort)
        (shown_by env _ (Expr-F.TsConstAssertion e r) (vExpr.rolls-TsConstAssertion e r));
    type_assertion_as = λ e ty h. ap (λ (k : Shown). k.sort)
        (shown_by env _ (Expr-F.TsAs e ty r) (vExpr.rolls-TsAs e ty r));
    typed_parenthesized_arrow =
        λ f known h. ap (λ (k : Shown). k.sort) (shown_by env _ (Expr-F.Arrow f) (vExpr.rolls-Arrow f));
    typed_async_parenthesized_arrow =
        λ f known h. ap (λ (k : Shown). k.sort) (shown_by env _ (Expr-F.Arrow f) (vExpr.rolls-Arrow f));
  }

  pub plain_forms : (x : List ℕ) (ts : List Token) (label : NodeKind) (from : ℕ) (r : Range)
      (es : List Entry) → is_one_of spreading label ≡ false
      → IfThere (λ e. (shown_expr env e).sort ≡ Sort.plain) (expr_of x ts label from r (held x ts es))
  plain_forms x ts label from r es h =
      known (λ e. (shown_expr env e).sort ≡ Sort.plain) (is_one_of spreading label) _ h
      (all_forms Plain x ts r (plain_each r) label from es)

  plain_leans : EachLean (λ e. (shown_expr env e).sort ≡ Sort.plain)
  plain_leans = record {
    binary = λ op left right s. ap (λ (k : Shown). k.sort)
        (shown_by env _ (Expr-F.Bin op left right s) (vExpr.rolls-Bin op left right s));
    const = λ e s. ap (λ (k : Shown). k.sort)
        (shown_by env _ (Expr-F.TsConstAssertion e s) (vExpr.rolls-TsConstAssertion e s));
    as_ = λ e ty s. ap (λ (k : Shown). k.sort) (shown_by env _ (Expr-F.TsAs e ty s) (vExpr.rolls-TsAs e ty s));
    satisfies = λ e ty s. ap (λ (k : Shown). k.sort)
        (shown_by env _ (Expr-F.TsSatisfies e ty s) (vExpr.rolls-TsSatisfies e ty s));
  }

  pub plain_leant : (x : List ℕ) (ts : List Token) (lean : Lean) (from : ℕ) (ps : List Held)
      → IfThere (λ e. (shown_expr env e).sort ≡ Sort.plain) (expr_in (leant x ts lean from ps))
  plain_leant x ts lean from ps =
      record { is = leant_forms (λ e. (shown_expr env e).sort ≡ Sort.plain) x ts plain_leans lean from ps }

  abbrev Restless : NodeKind → Expr → Type 0
  Restless label e = is_one_of resting label ≡ false → (c : Bool) (s : State) → (shown_expr env e).rest c s ≡ (None, s)

  restless_links : EachLink (Restless l.Chain)
  restless_links = record {
    member = λ obj mark hidden prop s h.
        λ c st. ap (λ (k : Shown). k.rest c st)
        (shown_by env _ (Expr-F.Member obj mark hidden prop s) (vExpr.rolls-Member obj mark hidden prop s));
    index = λ obj mark e s h.
        λ c st. ap (λ (k : Shown). k.rest c st)
        (shown_by env _ (Expr-F.Index obj mark e s) (vExpr.rolls-Index obj mark e s));
    call = λ obj mark type_args args s h.
        λ c st. ap (λ (k : Shown). k.rest c st)
        (shown_by env _ (Expr-F.Call obj mark type_args args s) (vExpr.rolls-Call obj mark type_args args s));
    tagged = λ obj type_args tpl s h.
        λ c st. ap (λ (k : Shown). k.rest c st)
        (shown_by env _ (Expr-F.TaggedTpl obj type_args tpl s) (vExpr.rolls-TaggedTpl obj type_args tpl s));
    non_null = λ obj s h.
        λ c st. ap (λ (k : Shown). k.rest c st) (shown_by env _ (Expr-F.TsNonNull obj s) (vExpr.rolls-TsNonNull obj s));
  }

  restless_each : (r : Range) → Each Restless r
  restless_each r = record {
    name = λ id h. never h;
    word_this = λ h. λ c s. ap (λ (k : Shown). k.rest c s) (shown_by env _ (Expr-F.Expr::This r) (vExpr.rolls-This r));
    word_null = λ h. λ c s. ap (λ (k : Shown). k.rest c s)
        (shown_by env _ (Expr-F.Lit (vLit.Null r)) (vExpr.rolls-Lit (vLit.Null r)));
    word_bool = λ b h. λ c s. ap (λ (k : Shown). k.rest c s)
        (shown_by env _ (Expr-F.Lit (vLit.Bool b r)) (vExpr.rolls-Lit (vLit.Bool b r)));
    number = λ lit h. λ c s. ap (λ (k : Shown). k.rest c s) (shown_by env _ (Expr-F.Lit lit) (vExpr.rolls-Lit lit));
    str = λ it h. λ c s. ap (λ (k : Shown). k.rest c s)
        (shown_by env _ (Expr-F.Lit (vLit.Str it)) (vExpr.rolls-Lit (vLit.Str it)));
    reg_exp = λ it h. λ c s. ap (λ (k : Shown). k.rest c s)
        (shown_by env _ (Expr-F.Lit (vLit.Regex it)) (vExpr.rolls-Lit (vLit.Regex it)));
    template = λ quasis es h.
        λ c s. ap (λ (k : Shown). k.rest c s) (shown_by env _ (Expr-F.Tpl quasis es r) (vExpr.rolls-Tpl quasis es r));
    template_parts = λ quasis es h.
        λ c s. ap (λ (k : Shown). k.rest c s) (shown_by env _ (Expr-F.Tpl quasis es r) (vExpr.rolls-Tpl quasis es r));
    parenthesized = λ e h.
        λ c s. ap (λ (k : Shown). k.rest c s) (shown_by env _ (Expr-F.Paren e r) (vExpr.rolls-Paren e r));
    array_literal = λ elems h. never h;
    object_literal = λ props h.
        λ c s. ap (λ (k : Shown). k.rest c s)
        (shown_by env _ (Expr-F.Expr::Object props r) (vExpr.rolls-Object props r));
    spread = λ e h. never h;
    function = λ f known h.
        λ c s. ap (λ (k : Shown). k.rest c s) (shown_by env _ (Expr-F.Expr::Fn f) (vExpr.rolls-Fn f));
    async_function = λ f known h.
        λ c s. ap (λ (k : Shown). k.rest c s) (shown_by env _ (Expr-F.Expr::Fn f) (vExpr.rolls-Fn f));
    class_ = λ f known h.
        λ c s. ap (λ (k : Shown). k.rest c s) (shown_by env _ (Expr-F.Expr::Class f) (vExpr.rolls-Class f));
    super_ = λ h. λ c s. ap (λ (k : Shown). k.rest c s) (shown_by env _ (Expr-F.Super r) (vExpr.rolls-Super r));
    import_call = λ phase args h.
        λ c s. ap (λ (k : Shown). k.rest c s)
        (shown_by env _ (Expr-F.ImportCall phase args r) (vExpr.rolls-ImportCall phase args r));
    source_call = λ phase args h.
        λ c s. ap (λ (k : Shown). k.rest c s)
        (shown_by env _ (Expr-F.ImportCall phase args r) (vExpr.rolls-ImportCall phase args r));
    defer_call = λ phase args h.
        λ c s. ap (λ (k : Shown). k.rest c s)
        (shown_by env _ (Expr-F.ImportCall phase args r) (vExpr.rolls-ImportCall phase args r));
    import_meta = λ h. λ c s. ap (λ (k : Shown). k.rest c s)
        (shown_by env _ (Expr-F.ImportMeta r) (vExpr.rolls-ImportMeta r));
    new_target = λ h. λ c s. ap (λ (k : Shown). k.rest c s)
        (shown_by env _ (Expr-F.NewTarget r) (vExpr.rolls-NewTarget r));
    new_ = λ callee type_args has_args args h.
        λ c s. ap (λ (k : Shown). k.rest c s)
        (shown_by env _ (Expr-F.New callee type_args has_args args r)
        (vExpr.rolls-New callee type_args has_args args r));
    chain = restless_links;
    update_prefix = λ op prefix arg h.
        λ c s. ap (λ (k : Shown). k.rest c s)
        (shown_by env _ (Expr-F.Update op prefix arg r) (vExpr.rolls-Update op prefix arg r));
    update_postfix = λ op prefix arg h.
        λ c s. ap (λ (k : Shown). k.rest c s)
        (shown_by env _ (Expr-F.Update op prefix arg r) (vExpr.rolls-Update op prefix arg r));
    unary_expression = λ op arg h.
        λ c s. ap (λ (k : Shown). k.rest c s) (shown_by env _ (Expr-F.Unary op arg r) (vExpr.rolls-Unary op arg r));
    await_expression = λ arg h.
        λ c s. ap (λ (k : Shown). k.rest c s) (shown_by env _ (Expr-F.Await arg r) (vExpr.rolls-Await arg r));
    binary = λ op left right h.
        λ c s. ap (λ (k : Shown). k.rest c s)
        (shown_by env _ (Expr-F.Bin op left right r) (vExpr.rolls-Bin op left right r));
    private_in = λ op left right h.
        λ c s. ap (λ (k : Shown). k.rest c s)
        (shown_by env _ (Expr-F.Bin op left right r) (vExpr.rolls-Bin op left right r));
    conditional = λ test cons alt h.
        λ c s. ap (λ (k : Shown). k.rest c s)
        (shown_by env _ (Expr-F.Cond test cons alt r) (vExpr.rolls-Cond test cons alt r));
    assignment = λ op left right h.
        λ c s. ap (λ (k : Shown). k.rest c s)
        (shown_by env _ (Expr-F.Expr::Assign op left right r) (vExpr.rolls-Assign op left right r));
    pattern_assignment =
        λ op left right h. λ c s. ap (λ (k : Shown). k.rest c s)
        (shown_by env _ (Expr-F.Expr::Assign op left right r) (vExpr.rolls-Assign op left right r));
    yield_ = λ delegate arg h.
        λ c s. ap (λ (k : Shown). k.rest c s)
        (shown_by env _ (Expr-F.Yield delegate arg r) (vExpr.rolls-Yield delegate arg r));
    name_arrow = λ f known h.
        λ c s. ap (λ (k : Shown). k.rest c s) (shown_by env _ (Expr-F.Arrow f) (vExpr.rolls-Arrow f));
    parenthesized_arrow =
        λ f known h. λ c s. ap (λ (k : Shown). k.rest c s) (shown_by env _ (Expr-F.Arrow f) (vExpr.rolls-Arrow f));
    async_name_arrow = λ f known h.
        λ c s. ap (λ (k : Shown). k.rest c s) (shown_by env _ (Expr-F.Arrow f) (vExpr.rolls-Arrow f));
    async_parenthesized_arrow =
        λ f known h. λ c s. ap (λ (k : Shown). k.rest c s) (shown_by env _ (Expr-F.Arrow f) (vExpr.rolls-Arrow f));
    sequence = λ es h. λ c s. ap (λ (k : Shown). k.rest c s) (shown_by env _ (Expr-F.Seq es r) (vExpr.rolls-Seq es r));
    typed_function = λ f known h.
        λ c s. ap (λ (k : Shown). k.rest c s) (shown_by env _ (Expr-F.Expr::Fn f) (vExpr.rolls-Fn f));
    typed_async_function =
        λ f known h. λ c s. ap (λ (k : Shown). k.rest c s) (shown_by env _ (Expr-F.Expr::Fn f) (vExpr.rolls-Fn f));
    typed_class = λ f known h.
        λ c s. ap (λ (k : Shown). k.rest c s) (shown_by env _ (Expr-F.Expr::Class f) (vExpr.rolls-Class f));
    abstract_class = λ f known h.
        λ c s. ap (λ (k : Shown). k.rest c s) (shown_by env _ (Expr-F.Expr::Class f) (vExpr.rolls-Class f));
    typed_new = λ callee type_args has_args args h.
        λ c s. ap (λ (k : Shown). k.rest c s)
        (shown_by env _ (Expr-F.New callee type_args has_args args r)
        (vExpr.rolls-New callee type_args has_args args r));
    typed_binary_const =
        λ e h. λ c s. ap (λ (k : Shown). k.rest c s)
        (shown_by env _ (Expr-F.TsConstAssertion e r) (vExpr.rolls-TsConstAssertion e r));
    typed_binary_as = λ e ty h.
        λ c s. ap (λ (k : Shown). k.rest c s) (shown_by env _ (Expr-F.TsAs e ty r) (vExpr.rolls-TsAs e ty r));
    typed_binary_satisfies =
        λ e ty h. λ c s. ap (λ (k : Shown). k.rest c s)
        (shown_by env _ (Expr-F.TsSatisfies e ty r) (vExpr.rolls-TsSatisfies e ty r));
    typed_binary_binary =
        λ op left right h. λ c s. ap (λ (k : Shown). k.rest c s)
        (shown_by env _ (Expr-F.Bin op left right r) (vExpr.rolls-Bin op left right r));
    type_assertion_const =
        λ e h. λ c s. ap (λ (k : Shown). k.rest c s)
        (shown_by env _ (Expr-F.TsConstAssertion e r) (vExpr.rolls-TsConstAssertion e r));
    type_assertion_as = λ e ty h.
        λ c s. ap (λ (k : Shown). k.rest c s) (shown_by env _ (Expr-F.TsAs e ty r) (vExpr.rolls-TsAs e ty r));
    typed_parenthesized_arrow =
        λ f known h. λ c s. ap (λ (k : Shown). k.rest c s) (shown_by env _ (Expr-F.Arrow f) (vExpr.rolls-Arrow f));
    typed_async_parenthesized_arrow =
        λ f known h. λ c s. ap (λ (k : Shown). k.rest c s) (shown_by env _ (Expr-F.Arrow f) (vExpr.rolls-Arrow f));
  }

  pub restless_forms : (x : List ℕ) (ts : List Token) (label : NodeKind) (from : ℕ) (r : Range)
      (es : List Entry) → is_one_of resting label ≡ false
      → IfThere (λ e. (c : Bool) (s : State) → (shown_expr env e).rest c s ≡ (None, s))
      (expr_of x ts label from r (held x ts es))
  restless_forms x ts label from r es h =
      known (λ e. (c : Bool) (s : State) → (shown_expr env e).rest c s ≡ (None, s)) (is_one_of resting label) _ h
      (all_forms Restless x ts r (restless_each r) label from es)

  restless_leans : EachLean (λ e. (c : Bool) (s : State) → (shown_expr env e).rest c s ≡ (None, s))
  restless_leans = record {
    binary = λ op left right s.
        λ c st. ap (λ (k : Shown). k.rest c st)
        (shown_by env _ (Expr-F.Bin op left right s) (vExpr.rolls-Bin op left right s));
    const = λ e s. λ c st. ap (λ (k : Shown). k.rest c st)
        (shown_by env _ (Expr-F.TsConstAssertion e s) (vExpr.rolls-TsConstAssertion e s));
    as_ = λ e ty s. λ c st. ap (λ (k : Shown). k.rest c st)
        (shown_by env _ (Expr-F.TsAs e ty s) (vExpr.rolls-TsAs e ty s));
    satisfies = λ e ty s.
        λ c st. ap (λ (k : Shown). k.rest c st)
        (shown_by env _ (Expr-F.TsSatisfies e ty s) (vExpr.rolls-TsSatisfies e ty s));
  }

  pub restless_leant : (x : List ℕ) (ts : List Token) (lean : Lean) (from : ℕ) (ps : List Held)
      → IfThere (λ e. (c : Bool) (s : State) → (shown_expr env e).rest c s ≡ (None, s))
      (expr_in (leant x ts lean from ps))
  restless_leant x ts lean from ps =
      record {
        is = leant_forms (λ e. (c : Bool) (s : State) → (shown_expr env e).rest c s ≡ (None, s)) x ts
            restless_leans lean from ps;
      }

  abbrev Uncounted : NodeKind → Expr → Type 0
  Uncounted label e = is_one_of counting label ≡ false → (span : Range) (c : Bool)
      → minus_type env vUnary.Minus (out-Expr e) span c ≡ None

  uncounted_links : EachLink (Uncounted l.Chain)
  uncounted_links = record {
    member = λ obj mark hidden prop s h.
        λ span c. ap (λ (w : Whole Expr-F). minus_type env vUnary.Minus w span c)
        (out_is _ (Expr-F.Member obj mark hidden prop s) (vExpr.rolls-Member obj mark hidden prop s));
    index = λ obj mark e s h.
        λ span c. ap (λ (w : Whole Expr-F). minus_type env vUnary.Minus w span c)
        (out_is _ (Expr-F.Index obj mark e s) (vExpr.rolls-Index obj mark e s));
    call = λ obj mark type_args args s h.
        λ span c. ap (λ (w : Whole Expr-F). minus_type env vUnary.Minus w span c)
        (out_is _ (Expr-F.Call obj mark type_args args s) (vExpr.rolls-Call obj mark type_args args s));
    tagged = λ obj type_args tpl s h.
        λ span c. ap (λ (w : Whole Expr-F). minus_type env vUnary.Minus w span c)
        (out_is _ (Expr-F.TaggedTpl obj type_args tpl s) (vExpr.rolls-TaggedTpl obj type_args tpl s));
    non_null = λ obj s h.
        λ span c. ap (λ (w : Whole Expr-F). minus_type env vUnary.Minus w span c)
        (out_is _ (Expr-F.TsNonNull obj s) (vExpr.rolls-TsNonNull obj s));
  }

  uncounted_each : (r : Range) → Each Uncounted r
  uncounted_each r = record {
    name = λ id h. λ span c. ap (λ (w : Whole Expr-F). minus_type env vUnary.Minus w span c)
        (out_is _ (Expr-F.Expr::Ident id) (vExpr.rolls-Ident id));
    word_this = λ h. λ span c. ap (λ (w : Whole Expr-F). minus_type env vUnary.Minus w span c)
        (out_is _ (Expr-F.Expr::This r) (vExpr.rolls-This r));
    word_null = λ h. λ span c. ap (λ (w : Whole Expr-F). minus_type env vUnary.Minus w span c)
        (out_is _ (Expr-F.Lit (vLit.Null r)) (vExpr.rolls-Lit (vLit.Null r)));
    word_bool = λ b h. λ span c. ap (λ (w : Whole Expr-F). minus_type env vUnary.Minus w span c)
        (out_is _ (Expr-F.Lit (vLit.Bool b r)) (vExpr.rolls-Lit (vLit.Bool b r)));
    number = λ lit h. never h;
    str = λ it h. λ span c. ap (λ (w : Whole Expr-F). minus_type env vUnary.Minus w span c)
        (out_is _ (Expr-F.Lit (vLit.Str it)) (vExpr.rolls-Lit (vLit.Str it)));
    reg_exp = λ it h. λ span c. ap (λ (w : Whole Expr-F). minus_type env vUnary.Minus w span c)
        (out_is _ (Expr-F.Lit (vLit.Regex it)) (vExpr.rolls-Lit (vLit.Regex it)));
    template = λ quasis es h.
        λ span c. ap (λ (w : Whole Expr-F). minus_type env vUnary.Minus w span c)
        (out_is _ (Expr-F.Tpl quasis es r) (vExpr.rolls-Tpl quasis es r));
    template_parts = λ quasis es h.
        λ span c. ap (λ (w : Whole Expr-F). minus_type env vUnary.Minus w span c)
        (out_is _ (Expr-F.Tpl quasis es r) (vExpr.rolls-Tpl quasis es r));
    parenthesized = λ e h.
        λ span c. ap (λ (w : Whole Expr-F). minus_type env vUnary.Minus w span c)
        (out_is _ (Expr-F.Paren e r) (vExpr.rolls-Paren e r));
    array_literal = λ elems h.
        λ span c. ap (λ (w : Whole Expr-F). minus_type env vUnary.Minus w span c)
        (out_is _ (Expr-F.Expr::Array elems r) (vExpr.rolls-Array elems r));
    object_literal = λ props h.
        λ span c. ap (λ (w : Whole Expr-F). minus_type env vUnary.Minus w span c)
        (out_is _ (Expr-F.Expr::Object props r) (vExpr.rolls-Object props r));
    spread = λ e h. λ span c. ap (λ (w : Whole Expr-F). minus_type env vUnary.Minus w span c)
        (out_is _ (Expr-F.Expr::Spread e r) (vExpr.rolls-Spread e r));
    function = λ f known h.
        λ span c. ap (λ (w : Whole Expr-F). minus_type env vUnary.Minus w span c)
        (out_is _ (Expr-F.Expr::Fn f) (vExpr.rolls-Fn f));
    async_function = λ f known h.
        λ span c. ap (λ (w : Whole Expr-F). minus_type env vUnary.Minus w span c)
        (out_is _ (Expr-F.Expr::Fn f) (vExpr.rolls-Fn f));
    class_ = λ f known h.
        λ span c. ap (λ (w : Whole Expr-F). minus_type env vUnary.Minus w span c)
        (out_is _ (Expr-F.Expr::Class f) (vExpr.rolls-Class f));
    super_ = λ h. λ span c. ap (λ (w : Whole Expr-F). minus_type env vUnary.Minus w span c)
        (out_is _ (Expr-F.Super r) (vExpr.rolls-Super r));
    import_call = λ phase args h.
        λ span c. ap (λ (w : Whole Expr-F). minus_type env vUnary.Minus w span c)
        (out_is _ (Expr-F.ImportCall phase args r) (vExpr.rolls-ImportCall phase args r));
    source_call = λ phase args h.
        λ span c. ap (λ (w : Whole Expr-F). minus_type env vUnary.Minus w span c)
        (out_is _ (Expr-F.ImportCall phase args r) (vExpr.rolls-ImportCall phase args r));
    defer_call = λ phase args h.
        λ span c. ap (λ (w : Whole Expr-F). minus_type env vUnary.Minus w span c)
        (out_is _ (Expr-F.ImportCall phase args r) (vExpr.rolls-ImportCall phase args r));
    import_meta = λ h. λ span c. ap (λ (w : Whole Expr-F). minus_type env vUnary.Minus w span c)
        (out_is _ (Expr-F.ImportMeta r) (vExpr.rolls-ImportMeta r));
    new_target = λ h. λ span c. ap (λ (w : Whole Expr-F). minus_type env vUnary.Minus w span c)
        (out_is _ (Expr-F.NewTarget r) (vExpr.rolls-NewTarget r));
    new_ = λ callee type_args has_args args h.
        λ span c. ap (λ (w : Whole Expr-F). minus_type env vUnary.Minus w span c)
        (out_is _ (Expr-F.New callee type_args has_args args r) (vExpr.rolls-New callee type_args has_args args r));
    chain = uncounted_links;
    update_prefix = λ op prefix arg h.
        λ span c. ap (λ (w : Whole Expr-F). minus_type env vUnary.Minus w span c)
        (out_is _ (Expr-F.Update op prefix arg r) (vExpr.rolls-Update op prefix arg r));
    update_postfix = λ op prefix arg h.
        λ span c. ap (λ (w : Whole Expr-F). minus_type env vUnary.Minus w span c)
        (out_is _ (Expr-F.Update op prefix arg r) (vExpr.rolls-Update op prefix arg r));
    unary_expression = λ op arg h.
        λ span c. ap (λ (w : Whole Expr-F). minus_type env vUnary.Minus w span c)
        (out_is _ (Expr-F.Unary op arg r) (vExpr.rolls-Unary op arg r));
    await_expression = λ arg h.
        λ span c. ap (λ (w : Whole Expr-F). minus_type env vUnary.Minus w span c)
        (out_is _ (Expr-F.Await arg r) (vExpr.rolls-Await arg r));
    binary = λ op left right h.
        λ span c. ap (λ (w : Whole Expr-F). minus_type env vUnary.Minus w span c)
        (out_is _ (Expr-F.Bin op left right r) (vExpr.rolls-Bin op left right r));
    private_in = λ op left right h.
        λ span c. ap (λ (w : Whole Expr-F). minus_type env vUnary.Minus w span c)
        (out_is _ (Expr-F.Bin op left right r) (vExpr.rolls-Bin op left right r));
    conditional = λ test cons alt h.
        λ span c. ap (λ (w : Whole Expr-F). minus_type env vUnary.Minus w span c)
        (out_is _ (Expr-F.Cond test cons alt r) (vExpr.rolls-Cond test cons alt r));
    assignment = λ op left right h.
        λ span c. ap (λ (w : Whole Expr-F). minus_type env vUnary.Minus w span c)
        (out_is _ (Expr-F.Expr::Assign op left right r) (vExpr.rolls-Assign op left right r));
    pattern_assignment =
        λ op left right h. λ span c. ap (λ (w : Whole Expr-F). minus_type env vUnary.Minus w span c)
        (out_is _ (Expr-F.Expr::Assign op left right r) (vExpr.rolls-Assign op left right r));
    yield_ = λ delegate arg h.
        λ span c. ap (λ (w : Whole Expr-F). minus_type env vUnary.Minus w span c)
        (out_is _ (Expr-F.Yield delegate arg r) (vExpr.rolls-Yield delegate arg r));
    name_arrow = λ f known h.
        λ span c. ap (λ (w : Whole Expr-F). minus_type env vUnary.Minus w span c)
        (out_is _ (Expr-F.Arrow f) (vExpr.rolls-Arrow f));
    parenthesized_arrow =
        λ f known h. λ span c. ap (λ (w : Whole Expr-F). minus_type env vUnary.Minus w span c)
        (out_is _ (Expr-F.Arrow f) (vExpr.rolls-Arrow f));
    async_name_arrow = λ f known h.
        λ span c. ap (λ (w : Whole Expr-F). minus_type env vUnary.Minus w span c)
        (out_is _ (Expr-F.Arrow f) (vExpr.rolls-Arrow f));
    async_parenthesized_arrow =
        λ f known h. λ span c. ap (λ (w : Whole Expr-F). minus_type env vUnary.Minus w span c)
        (out_is _ (Expr-F.Arrow f) (vExpr.rolls-Arrow f));
    sequence = λ es h. λ span c. ap (λ (w : Whole Expr-F). minus_type env vUnary.Minus w span c)
        (out_is _ (Expr-F.Seq es r) (vExpr.rolls-Seq es r));
    typed_function = λ f known h.
        λ span c. ap (λ (w : Whole Expr-F). minus_type env vUnary.Minus w span c)
        (out_is _ (Expr-F.Expr::Fn f) (vExpr.rolls-Fn f));
    typed_async_function =
        λ f known h. λ span c. ap (λ (w : Whole Expr-F). minus_type env vUnary.Minus w span c)
        (out_is _ (Expr-F.Expr::Fn f) (vExpr.rolls-Fn f));
    typed_class = λ f known h.
        λ span c. ap (λ (w : Whole Expr-F). minus_type env vUnary.Minus w span c)
        (out_is _ (Expr-F.Expr::Class f) (vExpr.rolls-Class f));
    abstract_class = λ f known h.
        λ span c. ap (λ (w : Whole Expr-F). minus_type env vUnary.Minus w span c)
        (out_is _ (Expr-F.Expr::Class f) (vExpr.rolls-Class f));
    typed_new = λ callee type_args has_args args h.
        λ span c. ap (λ (w : Whole Expr-F). minus_type env vUnary.Minus w span c)
        (out_is _ (Expr-F.New callee type_args has_args args r) (vExpr.rolls-New callee type_args has_args args r));
    typed_binary_const =
        λ e h. λ span c. ap (λ (w : Whole Expr-F). minus_type env vUnary.Minus w span c)
        (out_is _ (Expr-F.TsConstAssertion e r) (vExpr.rolls-TsConstAssertion e r));
    typed_binary_as = λ e ty h.
        λ span c. ap (λ (w : Whole Expr-F). minus_type env vUnary.Minus w span c)
        (out_is _ (Expr-F.TsAs e ty r) (vExpr.rolls-TsAs e ty r));
    typed_binary_satisfies =
        λ e ty h. λ span c. ap (λ (w : Whole Expr-F). minus_type env vUnary.Minus w span c)
        (out_is _ (Expr-F.TsSatisfies e ty r) (vExpr.rolls-TsSatisfies e ty r));
    typed_binary_binary =
        λ op left right h. λ span c. ap (λ (w : Whole Expr-F). minus_type env vUnary.Minus w span c)
        (out_is _ (Expr-F.Bin op left right r) (vExpr.rolls-Bin op left right r));
    type_assertion_const =
        λ e h. λ span c. ap (λ (w : Whole Expr-F). minus_type env vUnary.Minus w span c)
        (out_is _ (Expr-F.TsConstAssertion e r) (vExpr.rolls-TsConstAssertion e r));
    type_assertion_as = λ e ty h.
        λ span c. ap (λ (w : Whole Expr-F). minus_type env vUnary.Minus w span c)
        (out_is _ (Expr-F.TsAs e ty r) (vExpr.rolls-TsAs e ty r));
    typed_parenthesized_arrow =
        λ f known h. λ span c. ap (λ (w : Whole Expr-F). minus_type env vUnary.Minus w span c)
        (out_is _ (Expr-F.Arrow f) (vExpr.rolls-Arrow f));
    typed_async_parenthesized_arrow =
        λ f known h. λ span c. ap (λ (w : Whole Expr-F). minus_type env vUnary.Minus w span c)
        (out_is _ (Expr-F.Arrow f) (vExpr.rolls-Arrow f));
  }

  pub uncounted_forms : (x : List ℕ) (ts : List Token) (label : NodeKind) (from : ℕ) (r : Range)
      (es : List Entry) → is_one_of counting label ≡ false
      → IfThere (λ e. (span : Range) (c : Bool) → minus_type env vUnary.Minus (out-Expr e) span c ≡ None)
      (expr_of x ts label from r (held x ts es))
  uncounted_forms x ts label from r es h =
      known (λ e. (span : Range) (c : Bool) → minus_type env vUnary.Minus (out-Expr e) span c ≡ None)
      (is_one_of counting label) _ h
      (all_forms Uncounted x ts r (uncounted_each r) label from es)

  uncounted_leans : EachLean (λ e. (span : Range) (c : Bool) → minus_type env vUnary.Minus (out-Expr e) span c ≡ None)
  uncounted_leans = record {
    binary = λ op left right s.
        λ span c. ap (λ (w : Whole Expr-F). minus_type env vUnary.Minus w span c)
        (out_is _ (Expr-F.Bin op left right s) (vExpr.rolls-Bin op left right s));
    const = λ e s. λ span c. ap (λ (w : Whole Expr-F). minus_type env vUnary.Minus w span c)
        (out_is _ (Expr-F.TsConstAssertion e s) (vExpr.rolls-TsConstAssertion e s));
    as_ = λ e ty s. λ span c. ap (λ (w : Whole Expr-F). minus_type env vUnary.Minus w span c)
        (out_is _ (Expr-F.TsAs e ty s) (vExpr.rolls-TsAs e ty s));
    satisfies = λ e ty s.
        λ span c. ap (λ (w : Whole Expr-F). minus_type env vUnary.Minus w span c)
        (out_is _ (Expr-F.TsSatisfies e ty s) (vExpr.rolls-TsSatisfies e ty s));
  }

  pub uncounted_leant : (x : List ℕ) (ts : List Token) (lean : Lean) (from : ℕ) (ps : List Held)
      → IfThere (λ e. (span : Range) (c : Bool) → minus_type env vUnary.Minus (out-Expr e) span c ≡ None)
      (expr_in (leant x ts lean from ps))
  uncounted_leant x ts lean from ps =
      record {
        is = leant_forms
            (λ e. (span : Range) (c : Bool) → minus_type env vUnary.Minus (out-Expr e) span c ≡ None) x ts
            uncounted_leans lean from ps;
      }

  abbrev Unnamed : NodeKind → Expr → Type 0
  Unnamed label e = is_one_of naming label ≡ false → new_type env (out-Expr e) None ≡ None

  unnamed_links : EachLink (Unnamed l.Chain)
  unnamed_links = record {
    member = λ obj mark hidden prop s h. ap (λ (w : Whole Expr-F). new_type env w None)
        (out_is _ (Expr-F.Member obj mark hidden prop s) (vExpr.rolls-Member obj mark hidden prop s));
    index = λ obj mark e s h. ap (λ (w : Whole Expr-F). new_type env w None)
        (out_is _ (Expr-F.Index obj mark e s) (vExpr.rolls-Index obj mark e s));
    call = λ obj mark type_args args s h. ap (λ (w : Whole Expr-F). new_type env w None)
        (out_is _ (Expr-F.Call obj mark type_args args s) (vExpr.rolls-Call obj mark type_args args s));
    tagged = λ obj type_args tpl s h. ap (λ (w : Whole Expr-F). new_type env w None)
        (out_is _ (Expr-F.TaggedTpl obj type_args tpl s) (vExpr.rolls-TaggedTpl obj type_args tpl s));
    non_null = λ obj s h. ap (λ (w : Whole Expr-F). new_type env w None)
        (out_is _ (Expr-F.TsNonNull obj s) (vExpr.rolls-TsNonNull obj s));
  }

  unnamed_each : (r : Range) → Each Unnamed r
  unnamed_each r = record {
    name = λ id h. never h;
    word_this = λ h. ap (λ (w : Whole Expr-F). new_type env w None)
        (out_is _ (Expr-F.Expr::This r) (vExpr.rolls-This r));
    word_null = λ h. ap (λ (w : Whole Expr-F). new_type env w None)
        (out_is _ (Expr-F.Lit (vLit.Null r)) (vExpr.rolls-Lit (vLit.Null r)));
    word_bool = λ b h. ap (λ (w : Whole Expr-F). new_type env w None)
        (out_is _ (Expr-F.Lit (vLit.Bool b r)) (vExpr.rolls-Lit (vLit.Bool b r)));
    number = λ lit h. ap (λ (w : Whole Expr-F). new_type env w None) (out_is _ (Expr-F.Lit lit) (vExpr.rolls-Lit lit));
    str = λ it h. ap (λ (w : Whole Expr-F). new_type env w None)
        (out_is _ (Expr-F.Lit (vLit.Str it)) (vExpr.rolls-Lit (vLit.Str it)));
    reg_exp = λ it h. ap (λ (w : Whole Expr-F). new_type env w None)
        (out_is _ (Expr-F.Lit (vLit.Regex it)) (vExpr.rolls-Lit (vLit.Regex it)));
    template = λ quasis es h. ap (λ (w : Whole Expr-F). new_type env w None)
        (out_is _ (Expr-F.Tpl quasis es r) (vExpr.rolls-Tpl quasis es r));
    template_parts = λ quasis es h. ap (λ (w : Whole Expr-F). new_type env w None)
        (out_is _ (Expr-F.Tpl quasis es r) (vExpr.rolls-Tpl quasis es r));
    parenthesized = λ e h. ap (λ (w : Whole Expr-F). new_type env w None)
        (out_is _ (Expr-F.Paren e r) (vExpr.rolls-Paren e r));
    array_literal = λ elems h. ap (λ (w : Whole Expr-F). new_type env w None)
        (out_is _ (Expr-F.Expr::Array elems r) (vExpr.rolls-Array elems r));
    object_literal = λ props h. ap (λ (w : Whole Expr-F). new_type env w None)
        (out_is _ (Expr-F.Expr::Object props r) (vExpr.rolls-Object props r));
    spread = λ e h. ap (λ (w : Whole Expr-F). new_type env w None)
        (out_is _ (Expr-F.Expr::Spread e r) (vExpr.rolls-Spread e r));
    function = λ f known h. ap (λ (w : Whole Expr-F). new_type env w None)
        (out_is _ (Expr-F.Expr::Fn f) (vExpr.rolls-Fn f));
    async_function = λ f known h. ap (λ (w : Whole Expr-F). new_type env w None)
        (out_is _ (Expr-F.Expr::Fn f) (vExpr.rolls-Fn f));
    class_ = λ f known h. ap (λ (w : Whole Expr-F). new_type env w None)
        (out_is _ (Expr-F.Expr::Class f) (vExpr.rolls-Class f));
    super_ = λ h. ap (λ (w : Whole Expr-F). new_type env w None) (out_is _ (Expr-F.Super r) (vExpr.rolls-Super r));
    import_call = λ phase args h. ap (λ (w : Whole Expr-F). new_type env w None)
        (out_is _ (Expr-F.ImportCall phase args r) (vExpr.rolls-ImportCall phase args r));
    source_call = λ phase args h. ap (λ (w : Whole Expr-F). new_type env w None)
        (out_is _ (Expr-F.ImportCall phase args r) (vExpr.rolls-ImportCall phase args r));
    defer_call = λ phase args h. ap (λ (w : Whole Expr-F). new_type env w None)
        (out_is _ (Expr-F.ImportCall phase args r) (vExpr.rolls-ImportCall phase args r));
    import_meta = λ h. ap (λ (w : Whole Expr-F). new_type env w None)
        (out_is _ (Expr-F.ImportMeta r) (vExpr.rolls-ImportMeta r));
    new_target = λ h. ap (λ (w : Whole Expr-F). new_type env w None)
        (out_is _ (Expr-F.NewTarget r) (vExpr.rolls-NewTarget r));
    new_ = λ callee type_args has_args args h. ap (λ (w : Whole Expr-F). new_type env w None)
        (out_is _ (Expr-F.New callee type_args has_args args r) (vExpr.rolls-New callee type_args has_args args r));
    chain = unnamed_links;
    update_prefix = λ op prefix arg h. ap (λ (w : Whole Expr-F). new_type env w None)
        (out_is _ (Expr-F.Update op prefix arg r) (vExpr.rolls-Update op prefix arg r));
    update_postfix = λ op prefix arg h. ap (λ (w : Whole Expr-F). new_type env w None)
        (out_is _ (Expr-F.Update op prefix arg r) (vExpr.rolls-Update op prefix arg r));
    unary_expression = λ op arg h. ap (λ (w : Whole Expr-F). new_type env w None)
        (out_is _ (Expr-F.Unary op arg r) (vExpr.rolls-Unary op arg r));
    await_expression = λ arg h. ap (λ (w : Whole Expr-F). new_type env w None)
        (out_is _ (Expr-F.Await arg r) (vExpr.rolls-Await arg r));
    binary = λ op left right h. ap (λ (w : Whole Expr-F). new_type env w None)
        (out_is _ (Expr-F.Bin op left right r) (vExpr.rolls-Bin op left right r));
    private_in = λ op left right h. ap (λ (w : Whole Expr-F). new_type env w None)
        (out_is _ (Expr-F.Bin op left right r) (vExpr.rolls-Bin op left right r));
    conditional = λ test cons alt h. ap (λ (w : Whole Expr-F). new_type env w None)
        (out_is _ (Expr-F.Cond test cons alt r) (vExpr.rolls-Cond test cons alt r));
    assignment = λ op left right h. ap (λ (w : Whole Expr-F). new_type env w None)
        (out_is _ (Expr-F.Expr::Assign op left right r) (vExpr.rolls-Assign op left right r));
    pattern_assignment =
        λ op left right h. ap (λ (w : Whole Expr-F). new_type env w None)
        (out_is _ (Expr-F.Expr::Assign op left right r) (vExpr.rolls-Assign op left right r));
    yield_ = λ delegate arg h. ap (λ (w : Whole Expr-F). new_type env w None)
        (out_is _ (Expr-F.Yield delegate arg r) (vExpr.rolls-Yield delegate arg r));
    name_arrow = λ f known h. ap (λ (w : Whole Expr-F). new_type env w None)
        (out_is _ (Expr-F.Arrow f) (vExpr.rolls-Arrow f));
    parenthesized_arrow =
        λ f known h. ap (λ (w : Whole Expr-F). new_type env w None) (out_is _ (Expr-F.Arrow f) (vExpr.rolls-Arrow f));
    async_name_arrow = λ f known h. ap (λ (w : Whole Expr-F). new_type env w None)
        (out_is _ (Expr-F.Arrow f) (vExpr.rolls-Arrow f));
    async_parenthesized_arrow =
        λ f known h. ap (λ (w : Whole Expr-F). new_type env w None) (out_is _ (Expr-F.Arrow f) (vExpr.rolls-Arrow f));
    sequence = λ es h. ap (λ (w : Whole Expr-F). new_type env w None)
        (out_is _ (Expr-F.Seq es r) (vExpr.rolls-Seq es r));
    typed_function = λ f known h. ap (λ (w : Whole Expr-F). new_type env w None)
        (out_is _ (Expr-F.Expr::Fn f) (vExpr.rolls-Fn f));
    typed_async_function =
        λ f known h. ap (λ (w : Whole Expr-F). new_type env w None) (out_is _ (Expr-F.Expr::Fn f) (vExpr.rolls-Fn f));
    typed_class = λ f known h. ap (λ (w : Whole Expr-F). new_type env w None)
        (out_is _ (Expr-F.Expr::Class f) (vExpr.rolls-Class f));
    abstract_class = λ f known h. ap (λ (w : Whole Expr-F). new_type env w None)
        (out_is _ (Expr-F.Expr::Class f) (vExpr.rolls-Class f));
    typed_new = λ callee type_args has_args args h. ap (λ (w : Whole Expr-F). new_type env w None)
        (out_is _ (Expr-F.New callee type_args has_args args r) (vExpr.rolls-New callee type_args has_args args r));
    typed_binary_const =
        λ e h. ap (λ (w : Whole Expr-F). new_type env w None)
        (out_is _ (Expr-F.TsConstAssertion e r) (vExpr.rolls-TsConstAssertion e r));
    typed_binary_as = λ e ty h. ap (λ (w : Whole Expr-F). new_type env w None)
        (out_is _ (Expr-F.TsAs e ty r) (vExpr.rolls-TsAs e ty r));
    typed_binary_satisfies =
        λ e ty h. ap (λ (w : Whole Expr-F). new_type env w None)
        (out_is _ (Expr-F.TsSatisfies e ty r) (vExpr.rolls-TsSatisfies e ty r));
    typed_binary_binary =
        λ op left right h. ap (λ (w : Whole Expr-F). new_type env w None)
        (out_is _ (Expr-F.Bin op left right r) (vExpr.rolls-Bin op left right r));
    type_assertion_const =
        λ e h. ap (λ (w : Whole Expr-F). new_type env w None)
        (out_is _ (Expr-F.TsConstAssertion e r) (vExpr.rolls-TsConstAssertion e r));
    type_assertion_as = λ e ty h. ap (λ (w : Whole Expr-F). new_type env w None)
        (out_is _ (Expr-F.TsAs e ty r) (vExpr.rolls-TsAs e ty r));
    typed_parenthesized_arrow =
        λ f known h. ap (λ (w : Whole Expr-F). new_type env w None) (out_is _ (Expr-F.Arrow f) (vExpr.rolls-Arrow f));
    typed_async_parenthesized_arrow =
        λ f known h. ap (λ (w : Whole Expr-F). new_type env w None) (out_is _ (Expr-F.Arrow f) (vExpr.rolls-Arrow f));
  }

  pub unnamed_forms : (x : List ℕ) (ts : List Token) (label : NodeKind) (from : ℕ) (r : Range)
      (es : List Entry) → is_one_of naming label ≡ false
      → IfThere (λ e. new_type env (out-Expr e) None ≡ None) (expr_of x ts label from r (held x ts es))
  unnamed_forms x ts label from r es h =
      known (λ e. new_type env (out-Expr e) None ≡ None) (is_one_of naming label) _ h
      (all_forms Unnamed x ts r (unnamed_each r) label from es)

  unnamed_leans : EachLean (λ e. new_type env (out-Expr e) None ≡ None)
  unnamed_leans = record {
    binary = λ op left right s. ap (λ (w : Whole Expr-F). new_type env w None)
        (out_is _ (Expr-F.Bin op left right s) (vExpr.rolls-Bin op left right s));
    const = λ e s. ap (λ (w : Whole Expr-F). new_type env w None)
        (out_is _ (Expr-F.TsConstAssertion e s) (vExpr.rolls-TsConstAssertion e s));
    as_ = λ e ty s. ap (λ (w : Whole Expr-F). new_type env w None)
        (out_is _ (Expr-F.TsAs e ty s) (vExpr.rolls-TsAs e ty s));
    satisfies = λ e ty s. ap (λ (w : Whole Expr-F). new_type env w None)
        (out_is _ (Expr-F.TsSatisfies e ty s) (vExpr.rolls-TsSatisfies e ty s));
  }

  pub unnamed_leant : (x : List ℕ) (ts : List Token) (lean : Lean) (from : ℕ) (ps : List Held)
      → IfThere (λ e. new_type env (out-Expr e) None ≡ None) (expr_in (leant x ts lean from ps))
  unnamed_leant x ts lean from ps =
      record { is = leant_forms (λ e. new_type env (out-Expr e) None ≡ None) x ts unnamed_leans lean from ps }

  abbrev No_callee : NodeKind → Expr → Type 0
  No_callee label e = is_one_of beginning label ≡ false → Neither env (shown_expr env e)

  no_callee_links : EachLink (No_callee l.Chain)
  no_callee_links = record {
    member = λ obj mark hidden prop s h. never h;
    index = λ obj mark e s h. never h;
    call = λ obj mark type_args args s h. never h;
    tagged = λ obj type_args tpl s h. never h;
    non_null = λ obj s h. never h;
  }

  no_callee_each : (r : Range) → Each No_callee r
  no_callee_each r = record {
    name = λ id h. never h;
    word_this = λ h. neither_by (Expr-F.Expr::This r) (vExpr.rolls-This r) refl refl;
    word_null = λ h. neither_by (Expr-F.Lit (vLit.Null r)) (vExpr.rolls-Lit (vLit.Null r)) refl refl;
    word_bool = λ b h. neither_by (Expr-F.Lit (vLit.Bool b r)) (vExpr.rolls-Lit (vLit.Bool b r)) refl refl;
    number = λ lit h. neither_by (Expr-F.Lit lit) (vExpr.rolls-Lit lit) refl refl;
    str = λ it h. neither_by (Expr-F.Lit (vLit.Str it)) (vExpr.rolls-Lit (vLit.Str it)) refl refl;
    reg_exp = λ it h. neither_by (Expr-F.Lit (vLit.Regex it)) (vExpr.rolls-Lit (vLit.Regex it)) refl refl;
    template = λ quasis es h. neither_by (Expr-F.Tpl quasis es r) (vExpr.rolls-Tpl quasis es r) refl refl;
    template_parts = λ quasis es h. neither_by (Expr-F.Tpl quasis es r) (vExpr.rolls-Tpl quasis es r) refl refl;
    parenthesized = λ e h. neither_by (Expr-F.Paren e r) (vExpr.rolls-Paren e r) refl refl;
    array_literal = λ elems h. neither_by (Expr-F.Expr::Array elems r) (vExpr.rolls-Array elems r) refl refl;
    object_literal = λ props h. neither_by (Expr-F.Expr::Object props r) (vExpr.rolls-Object props r) refl refl;
    spread = λ e h. neither_by (Expr-F.Expr::Spread e r) (vExpr.rolls-Spread e r) refl refl;
    function = λ f known h. neither_by (Expr-F.Expr::Fn f) (vExpr.rolls-Fn f) refl refl;
    async_function = λ f known h. neither_by (Expr-F.Expr::Fn f) (vExpr.rolls-Fn f) refl refl;
    class_ = λ f known h. neither_by (Expr-F.Expr::Class f) (vExpr.rolls-Class f) refl refl;
    super_ = λ h. neither_by (Expr-F.Super r) (vExpr.rolls-Super r) refl refl;
    import_call = λ phase args h. neither_by (Expr-F.ImportCall phase args r) (vExpr.rolls-ImportCall phase args r)
        refl refl;
    source_call = λ phase args h. neither_by (Expr-F.ImportCall phase args r) (vExpr.rolls-ImportCall phase args r)
        refl refl;
    defer_call = λ phase args h. neither_by (Expr-F.ImportCall phase args r) (vExpr.rolls-ImportCall phase args r) refl
        refl;
    import_meta = λ h. neither_by (Expr-F.ImportMeta r) (vExpr.rolls-ImportMeta r) refl refl;
    new_target = λ h. neither_by (Expr-F.NewTarget r) (vExpr.rolls-NewTarget r) refl refl;
    new_ = λ callee type_args has_args args h. neither_by (Expr-F.New callee type_args has_args args r)
        (vExpr.rolls-New callee type_args has_args args r) refl refl;
    chain = no_callee_links;
    update_prefix = λ op prefix arg h. neither_by (Expr-F.Update op prefix arg r) (vExpr.rolls-Update op prefix arg r)
        refl refl;
    update_postfix = λ op prefix arg h. neither_by (Expr-F.Update op prefix arg r) (vExpr.rolls-Update op prefix arg r)
        refl refl;
    unary_expression = λ op arg h. neither_by (Expr-F.Unary op arg r) (vExpr.rolls-Unary op arg r) refl refl;
    await_expression = λ arg h. neither_by (Expr-F.Await arg r) (vExpr.rolls-Await arg r) refl refl;
    binary = λ op left right h. neither_by (Expr-F.Bin op left right r) (vExpr.rolls-Bin op left right r) refl refl;
    private_in = λ op left right h. neither_by (Expr-F.Bin op left right r) (vExpr.rolls-Bin op left right r) refl refl;
    conditional = λ test cons alt h. neither_by (Expr-F.Cond test cons alt r) (vExpr.rolls-Cond test cons alt r) refl
        refl;
    assignment = λ op left right h. neither_by (Expr-F.Expr::Assign op left right r)
        (vExpr.rolls-Assign op left right r) refl refl;
    pattern_assignment =
        λ op left right h. neither_by (Expr-F.Expr::Assign op left right r) (vExpr.rolls-Assign op left right r) refl
        refl;
    yield_ = λ delegate arg h. neither_by (Expr-F.Yield delegate arg r) (vExpr.rolls-Yield delegate arg r) refl refl;
    name_arrow = λ f known h. neither_by (Expr-F.Arrow f) (vExpr.rolls-Arrow f) refl refl;
    parenthesized_arrow = λ f known h. neither_by (Expr-F.Arrow f) (vExpr.rolls-Arrow f) refl refl;
    async_name_arrow = λ f known h. neither_by (Expr-F.Arrow f) (vExpr.rolls-Arrow f) refl refl;
    async_parenthesized_arrow = λ f known h. neither_by (Expr-F.Arrow f) (vExpr.rolls-Arrow f) refl refl;
    sequence = λ es h. neither_by (Expr-F.Seq es r) (vExpr.rolls-Seq es r) refl refl;
    typed_function = λ f known h. neither_by (Expr-F.Expr::Fn f) (vExpr.rolls-Fn f) refl refl;
    typed_async_function = λ f known h. neither_by (Expr-F.Expr::Fn f) (vExpr.rolls-Fn f) refl refl;
    typed_class = λ f known h. neither_by (Expr-F.Expr::Class f) (vExpr.rolls-Class f) refl refl;
    abstract_class = λ f known h. neither_by (Expr-F.Expr::Class f) (vExpr.rolls-Class f) refl refl;
    typed_new = λ callee type_args has_args args h. neither_by (Expr-F.New callee type_args has_args args r)
        (vExpr.rolls-New callee type_args has_args args r) refl refl;
    typed_binary_const = λ e h. neither_by (Expr-F.TsConstAssertion e r) (vExpr.rolls-TsConstAssertion e r) refl refl;
    typed_binary_as = λ e ty h. neither_by (Expr-F.TsAs e ty r) (vExpr.rolls-TsAs e ty r) refl refl;
    typed_binary_satisfies =
        λ e ty h. neither_by (Expr-F.TsSatisfies e ty r) (vExpr.rolls-TsSatisfies e ty r) refl refl;
    typed_binary_binary =
        λ op left right h. neither_by (Expr-F.Bin op left right r) (vExpr.rolls-Bin op left right r) refl refl;
    type_assertion_const = λ e h. neither_by (Expr-F.TsConstAssertion e r) (vExpr.rolls-TsConstAssertion e r) refl refl;
    type_assertion_as = λ e ty h. neither_by (Expr-F.TsAs e ty r) (vExpr.rolls-TsAs e ty r) refl refl;
    typed_parenthesized_arrow = λ f known h. neither_by (Expr-F.Arrow f) (vExpr.rolls-Arrow f) refl refl;
    typed_async_parenthesized_arrow = λ f known h. neither_by (Expr-F.Arrow f) (vExpr.rolls-Arrow f) refl refl;
  }

  pub no_callee_forms : (x : List ℕ) (ts : List Token) (label : NodeKind) (from : ℕ) (r : Range)
      (es : List Entry) → is_one_of beginning label ≡ false
      → IfThere (λ e. Neither env (shown_expr env e)) (expr_of x ts label from r (held x ts es))
  no_callee_forms x ts label from r es h =
      known (λ e. Neither env (shown_expr env e)) (is_one_of beginning label) _ h
      (all_forms No_callee x ts r (no_callee_each r) label from es)

  -- ---- where an expression stands
  function_span : (f : Function) → (shown_function env f).span ≡ (out-Function f).span
  function_span f =
      ap (λ (g : Function). (shown_function env g).span) (sym (roll-out-Function f))
      ∙ ap (λ (k : ShownFunction). k.span) (at_function env (out-Function f))

  class_span : (c : Class) → (shown_class env c).span ≡ (out-Class c).span
  class_span c =
      ap (λ (d : Class). (shown_class env d).span) (sym (roll-out-Class c))
      ∙ ap (λ (k : ShownClass). k.span) (at_class env (out-Class c))

  form_span : (w : Whole Expr-F) → (in_expr env (beside_expr env w)).span ≡ span_by w
  form_span (Expr-F.Expr::This span) = refl
  form_span (Expr-F.Super span) = refl
  form_span (Expr-F.Expr::Ident id) = refl
  form_span (Expr-F.PrivateName id) = refl
  form_span (Expr-F.Lit (vLit.Null at)) = refl
  form_span (Expr-F.Lit (vLit.Bool value at)) = refl
  form_span (Expr-F.Lit (vLit.Num it)) = refl
  form_span (Expr-F.Lit (vLit.BigInt it)) = refl
  form_span (Expr-F.Lit (vLit.Str it)) = refl
  form_span (Expr-F.Lit (vLit.Regex it)) = refl
  form_span (Expr-F.Expr::Hole span) = refl
  form_span (Expr-F.Expr::Array elems span) = refl
  form_span (Expr-F.Expr::Spread expr span) = refl
  form_span (Expr-F.Expr::Object props span) = refl
  form_span (Expr-F.Expr::Fn it) = function_span it
  form_span (Expr-F.Expr::Class it) = class_span it
  form_span (Expr-F.Arrow it) = function_span it
  form_span (Expr-F.Paren expr span) = refl
  form_span (Expr-F.Unary op arg span) = refl
  form_span (Expr-F.Update op prefix arg span) = refl
  form_span (Expr-F.Await arg span) = refl
  form_span (Expr-F.Yield delegate arg span) = refl
  form_span (Expr-F.Bin op left right span) = refl
  form_span (Expr-F.Expr::Assign op left right span) = refl
  form_span (Expr-F.Cond test cons alt span) = refl
  form_span (Expr-F.Seq exprs span) = refl
  form_span (Expr-F.Member obj mark hidden prop span) = refl
  form_span (Expr-F.Index obj mark prop span) = refl
  form_span (Expr-F.Call callee mark type_args args span) = refl
  form_span (Expr-F.New callee type_args has_args args span) = refl
  form_span (Expr-F.ImportCall phase args span) = refl
  form_span (Expr-F.ImportMeta span) = refl
  form_span (Expr-F.NewTarget span) = refl
  form_span (Expr-F.Tpl quasis exprs span) = refl
  form_span (Expr-F.TaggedTpl tag type_args tpl span) = refl
  form_span (Expr-F.TsNonNull expr span) = refl
  form_span (Expr-F.TsAs expr ty span) = refl
  form_span (Expr-F.TsConstAssertion expr span) = refl
  form_span (Expr-F.TsSatisfies expr ty span) = refl

  pub span_is : (e : Expr) → (shown_expr env e).span ≡ expr_span e
  unfolding expr_span
  span_is e =
      ap (λ (e : Expr). (shown_expr env e).span) (sym (roll-out-Expr e))
      ∙ (ap (λ (k : Shown). k.span) (at_expr env (out-Expr e)) ∙ form_span (out-Expr e))
