-- Which forms of expressions an enum keeps as a value.
use Rattle.std.specs.Prelude.{ℕ, Bool, true, false, ◌&&◌, List, [], ◌∷◌, Option, Some, None, map, IfSome}
use Rattle.std.proofs.Common.{◌≡◌, refl, sym, ap, ◌∙◌}
use Rattle.base.specs.declared.range.Range.{Range}
use Rattle.es_token.specs.declared.token.Token.{Token}
use Rattle.es_grammar.specs.declared.rows.NodeKind.{NodeKind}
use Rattle.es_grammar.specs.declared.rows.NodeKind.TheVariants as l
use Rattle.es_ast.specs.declared.ts.leaf.Ident.{Ident}
use Rattle.es_ast.specs.declared.ts.leaf.TplElement.{TplElement}
use Rattle.es_ast.specs.declared.ts.ts.TsPart.{TsPart}
use Rattle.es_ast.specs.declared.leaf.AssignOp.{AssignOp}
use Rattle.es_ast.specs.declared.leaf.BinaryOp.{BinaryOp}
use Rattle.es_ast.specs.declared.leaf.ImportPhase.{ImportPhase}
use Rattle.es_ast.specs.declared.leaf.Lit.{Lit}
use Rattle.es_ast.specs.declared.leaf.Lit.TheVariants as vLit
use Rattle.es_ast.specs.declared.leaf.UnaryOp.{UnaryOp}
use Rattle.es_ast.specs.declared.leaf.UpdateOp.{UpdateOp}
use Rattle.es_ast.specs.declared.ast.Class.{Class}
use Rattle.es_ast.specs.declared.ast.Expr.{Expr}
use Rattle.es_ast.specs.declared.ast.Expr.TheVariants as vExpr
use Rattle.es_ast.specs.declared.ast.Function.{Function}
use Rattle.es_ast.specs.declared.ast.Pat.{Pat}
use Rattle.es_ast.specs.declared.ast.Prop.{Prop}
use Rattle.es_ast.specs.declared.ast.ClassMember.TheOpen.{Expr-F}
use Rattle.es_lowering.specs.Lowering.{expr_of}
use Rattle.es_syntax.specs.declared.entry.Entry.{Entry}
use Rattle.es_syntax.specs.Held.{held}
use Rattle.es_syntax.specs.Views.{is_one_of}
use Rattle.es_expr_spans.proofs.All.{Each, all_forms}
use Rattle.es_expr_spans.proofs.PostForms.{EachLink}
use Rattle.dts_rules.specs.Sets.{type_in}
use Rattle.dts_rules.specs.Rules.{Env, Shown, lit_starts, is_number_type, all_of}
use Rattle.dts_rules.specs.Programs.{shown_expr}
use Rattle.dts_rules.proofs.Shown.{at_expr, with_expr}
use Rattle.dts_enums.specs.Forms.{value_labels, Starts, all_start}

module _ (env : Env) where
  abbrev starts : Expr → Bool
  starts e = (shown_expr env e).starts_enum

  pub starts_This : (span : Range) → starts (vExpr.This span) ≡ false
  starts_This span =
      ap starts (sym (vExpr.rolls-This span))
      ∙ ap (λ (s : Shown). s.starts_enum) (at_expr env (Expr-F.Expr::This span))

  pub starts_Super : (span : Range) → starts (vExpr.Super span) ≡ false
  starts_Super span =
      ap starts (sym (vExpr.rolls-Super span))
      ∙ ap (λ (s : Shown). s.starts_enum) (at_expr env (Expr-F.Super span))

  pub starts_Ident : (id : Ident) → starts (vExpr.Ident id) ≡ true
  starts_Ident id =
      ap starts (sym (vExpr.rolls-Ident id))
      ∙ ap (λ (s : Shown). s.starts_enum) (at_expr env (Expr-F.Expr::Ident id))

  pub starts_PrivateName : (id : Ident) → starts (vExpr.PrivateName id) ≡ false
  starts_PrivateName id =
      ap starts (sym (vExpr.rolls-PrivateName id))
      ∙ ap (λ (s : Shown). s.starts_enum) (at_expr env (Expr-F.PrivateName id))

  pub starts_Lit : (it : Lit) → starts (vExpr.Lit it) ≡ lit_starts it
  starts_Lit it =
      ap starts (sym (vExpr.rolls-Lit it))
      ∙ ap (λ (s : Shown). s.starts_enum) (at_expr env (Expr-F.Lit it))

  pub starts_Array : (elems : List Expr) (span : Range) → starts (vExpr.Array elems span) ≡ false
  starts_Array elems span =
      ap starts (sym (vExpr.rolls-Array elems span))
      ∙ ap (λ (s : Shown). s.starts_enum) (at_expr env (Expr-F.Expr::Array elems span))

  pub starts_Spread : (expr : Expr) (span : Range) → starts (vExpr.Spread expr span) ≡ false
  starts_Spread expr span =
      ap starts (sym (vExpr.rolls-Spread expr span))
      ∙ ap (λ (s : Shown). s.starts_enum) (at_expr env (Expr-F.Expr::Spread expr span))

  pub starts_Object : (props : List Prop) (span : Range) → starts (vExpr.Object props span) ≡ false
  starts_Object props span =
      ap starts (sym (vExpr.rolls-Object props span))
      ∙ ap (λ (s : Shown). s.starts_enum) (at_expr env (Expr-F.Expr::Object props span))

  pub starts_Fn : (it : Function) → starts (vExpr.Fn it) ≡ false
  starts_Fn it =
      ap starts (sym (vExpr.rolls-Fn it))
      ∙ ap (λ (s : Shown). s.starts_enum) (at_expr env (Expr-F.Expr::Fn it))

  pub starts_Class : (it : Class) → starts (vExpr.Class it) ≡ false
  starts_Class it =
      ap starts (sym (vExpr.rolls-Class it))
      ∙ ap (λ (s : Shown). s.starts_enum) (at_expr env (Expr-F.Expr::Class it))

  pub starts_Arrow : (it : Function) → starts (vExpr.Arrow it) ≡ false
  starts_Arrow it =
      ap starts (sym (vExpr.rolls-Arrow it))
      ∙ ap (λ (s : Shown). s.starts_enum) (at_expr env (Expr-F.Arrow it))

  pub starts_Paren : (expr : Expr) (span : Range) → starts (vExpr.Paren expr span) ≡ starts expr
  starts_Paren expr span =
      ap starts (sym (vExpr.rolls-Paren expr span))
      ∙ ap (λ (s : Shown). s.starts_enum) (at_expr env (Expr-F.Paren expr span))

  pub starts_Unary : (op : UnaryOp) (arg : Expr) (span : Range) → starts (vExpr.Unary op arg span) ≡ false
  starts_Unary op arg span =
      ap starts (sym (vExpr.rolls-Unary op arg span))
      ∙ ap (λ (s : Shown). s.starts_enum) (at_expr env (Expr-F.Unary op arg span))

  pub starts_Update : (op : UpdateOp) (prefix : Bool) (arg : Expr) (span : Range)
      → starts (vExpr.Update op prefix arg span) ≡ false
  starts_Update op prefix arg span =
      ap starts (sym (vExpr.rolls-Update op prefix arg span))
      ∙ ap (λ (s : Shown). s.starts_enum) (at_expr env (Expr-F.Update op prefix arg span))

  pub starts_Await : (arg : Expr) (span : Range) → starts (vExpr.Await arg span) ≡ false
  starts_Await arg span =
      ap starts (sym (vExpr.rolls-Await arg span))
      ∙ ap (λ (s : Shown). s.starts_enum) (at_expr env (Expr-F.Await arg span))

  pub starts_Yield : (delegate : Bool) (arg : Option Expr) (span : Range)
      → starts (vExpr.Yield delegate arg span) ≡ false
  starts_Yield delegate arg span =
      ap starts (sym (vExpr.rolls-Yield delegate arg span))
      ∙ ap (λ (s : Shown). s.starts_enum) (at_expr env (Expr-F.Yield delegate arg span))

  pub starts_Bin : (op : BinaryOp) (left : Expr) (right : Expr) (span : Range)
      → starts (vExpr.Bin op left right span) ≡ (starts left && starts right)
  starts_Bin op left right span =
      ap starts (sym (vExpr.rolls-Bin op left right span))
      ∙ ap (λ (s : Shown). s.starts_enum) (at_expr env (Expr-F.Bin op left right span))

  pub starts_Assign : (op : AssignOp) (left : Pat) (right : Expr) (span : Range)
      → starts (vExpr.Assign op left right span) ≡ false
  starts_Assign op left right span =
      ap starts (sym (vExpr.rolls-Assign op left right span))
      ∙ ap (λ (s : Shown). s.starts_enum) (at_expr env (Expr-F.Expr::Assign op left right span))

  pub starts_Cond : (test : Expr) (cons : Expr) (alt : Expr) (span : Range)
      → starts (vExpr.Cond test cons alt span) ≡ false
  starts_Cond test cons alt span =
      ap starts (sym (vExpr.rolls-Cond test cons alt span))
      ∙ ap (λ (s : Shown). s.starts_enum) (at_expr env (Expr-F.Cond test cons alt span))

  pub starts_Seq : (exprs : List Expr) (span : Range) → starts (vExpr.Seq exprs span) ≡ false
  starts_Seq exprs span =
      ap starts (sym (vExpr.rolls-Seq exprs span))
      ∙ ap (λ (s : Shown). s.starts_enum) (at_expr env (Expr-F.Seq exprs span))

  pub starts_Member : (obj : Expr) (mark : Bool) (hidden : Bool) (prop : Ident) (span : Range)
      → starts (vExpr.Member obj mark hidden prop span) ≡ starts obj
  starts_Member obj mark hidden prop span =
      ap starts (sym (vExpr.rolls-Member obj mark hidden prop span))
      ∙ ap (λ (s : Shown). s.starts_enum) (at_expr env (Expr-F.Member obj mark hidden prop span))

  pub starts_Index : (obj : Expr) (mark : Bool) (prop : Expr) (span : Range)
      → starts (vExpr.Index obj mark prop span) ≡ starts obj
  starts_Index obj mark prop span =
      ap starts (sym (vExpr.rolls-Index obj mark prop span))
      ∙ ap (λ (s : Shown). s.starts_enum) (at_expr env (Expr-F.Index obj mark prop span))

  pub starts_Call : (callee : Expr) (mark : Bool) (type_args : Option TsPart) (args : List Expr) (span : Range)
      → starts (vExpr.Call callee mark type_args args span) ≡ false
  starts_Call callee mark type_args args span =
      ap starts (sym (vExpr.rolls-Call callee mark type_args args span))
      ∙ ap (λ (s : Shown). s.starts_enum) (at_expr env (Expr-F.Call callee mark type_args args span))

  pub starts_New : (callee : Expr) (type_args : Option TsPart) (has_args : Bool) (args : List Expr) (span : Range)
      → starts (vExpr.New callee type_args has_args args span) ≡ false
  starts_New callee type_args has_args args span =
      ap starts (sym (vExpr.rolls-New callee type_args has_args args span))
      ∙ ap (λ (s : Shown). s.starts_enum) (at_expr env (Expr-F.New callee type_args has_args args span))

  pub starts_ImportCall : (phase : ImportPhase) (args : List Expr) (span : Range)
      → starts (vExpr.ImportCall phase args span) ≡ false
  starts_ImportCall phase args span =
      ap starts (sym (vExpr.rolls-ImportCall phase args span))
      ∙ ap (λ (s : Shown). s.starts_enum) (at_expr env (Expr-F.ImportCall phase args span))

  pub starts_ImportMeta : (span : Range) → starts (vExpr.ImportMeta span) ≡ false
  starts_ImportMeta span =
      ap starts (sym (vExpr.rolls-ImportMeta span))
      ∙ ap (λ (s : Shown). s.starts_enum) (at_expr env (Expr-F.ImportMeta span))

  pub starts_NewTarget : (span : Range) → starts (vExpr.NewTarget span) ≡ false
  starts_NewTarget span =
      ap starts (sym (vExpr.rolls-NewTarget span))
      ∙ ap (λ (s : Shown). s.starts_enum) (at_expr env (Expr-F.NewTarget span))

  all_starts : (es : List Expr)
      → all_of (λ (e : Expr × Shown). e.1.starts_enum) (map (with_expr env) es) ≡ all_start env es
  all_starts [] = refl
  all_starts (e ∷ es) = ap (λ rest. starts e && rest) (all_starts es)

  pub starts_Tpl : (quasis : List TplElement) (exprs : List Expr) (span : Range)
      → starts (vExpr.Tpl quasis exprs span) ≡ all_start env exprs
  starts_Tpl quasis exprs span =
      ap starts (sym (vExpr.rolls-Tpl quasis exprs span))
      ∙ ap (λ (s : Shown). s.starts_enum) (at_expr env (Expr-F.Tpl quasis exprs span)) ∙ all_starts exprs

  pub starts_TaggedTpl : (tag : Expr) (type_args : Option TsPart) (tpl : Expr) (span : Range)
      → starts (vExpr.TaggedTpl tag type_args tpl span) ≡ false
  starts_TaggedTpl tag type_args tpl span =
      ap starts (sym (vExpr.rolls-TaggedTpl tag type_args tpl span))
      ∙ ap (λ (s : Shown). s.starts_enum) (at_expr env (Expr-F.TaggedTpl tag type_args tpl span))

  pub starts_TsNonNull : (expr : Expr) (span : Range) → starts (vExpr.TsNonNull expr span) ≡ false
  starts_TsNonNull expr span =
      ap starts (sym (vExpr.rolls-TsNonNull expr span))
      ∙ ap (λ (s : Shown). s.starts_enum) (at_expr env (Expr-F.TsNonNull expr span))

  pub starts_TsAs : (expr : Expr) (ty : Option TsPart) (span : Range)
      → starts (vExpr.TsAs expr ty span) ≡ is_number_type (type_in ty)
  starts_TsAs expr ty span =
      ap starts (sym (vExpr.rolls-TsAs expr ty span))
      ∙ ap (λ (s : Shown). s.starts_enum) (at_expr env (Expr-F.TsAs expr ty span))

  pub starts_TsConstAssertion : (expr : Expr) (span : Range) → starts (vExpr.TsConstAssertion expr span) ≡ false
  starts_TsConstAssertion expr span =
      ap starts (sym (vExpr.rolls-TsConstAssertion expr span))
      ∙ ap (λ (s : Shown). s.starts_enum) (at_expr env (Expr-F.TsConstAssertion expr span))

  pub starts_TsSatisfies : (expr : Expr) (ty : Option TsPart) (span : Range)
      → starts (vExpr.TsSatisfies expr ty span) ≡ false
  starts_TsSatisfies expr ty span =
      ap starts (sym (vExpr.rolls-TsSatisfies expr ty span))
      ∙ ap (λ (s : Shown). s.starts_enum) (at_expr env (Expr-F.TsSatisfies expr ty span))

  -- a form that none of them is
  abbrev Plain : NodeKind → Expr → Type 0
  Plain label e = is_one_of value_labels label ≡ false → starts e ≡ false

  never : {A : Type 0} → true ≡ false → A
  never e = let bad : ⊥ = cc in absurd bad

  links : EachLink (Plain l.Chain)
  links = record {
    member = λ obj mark hidden prop s. never;
    index = λ obj mark e s. never;
    call = λ obj mark type_args args s. never;
    tagged = λ obj type_args tpl s. never;
    non_null = λ obj s. never;
  }

  each : (r : Range) → Each Plain r
  each r = record {
    name = λ id. never;
    word_this = λ other. starts_This r;
    word_null = λ other. starts_Lit (vLit.Null r);
    word_bool = λ b other. starts_Lit (vLit.Bool b r);
    number = λ lit. never;
    str = λ it. never;
    reg_exp = λ it other. starts_Lit (vLit.Regex it);
    template = λ quasis es. never;
    template_parts = λ quasis es. never;
    parenthesized = λ e. never;
    array_literal = λ elems other. starts_Array elems r;
    object_literal = λ props other. starts_Object props r;
    spread = λ e other. starts_Spread e r;
    function = λ f known other. starts_Fn f;
    async_function = λ f known other. starts_Fn f;
    class_ = λ c known other. starts_Class c;
    super_ = λ other. starts_Super r;
    import_call = λ phase args other. starts_ImportCall phase args r;
    source_call = λ phase args other. starts_ImportCall phase args r;
    defer_call = λ phase args other. starts_ImportCall phase args r;
    import_meta = λ other. starts_ImportMeta r;
    new_target = λ other. starts_NewTarget r;
    new_ = λ callee type_args has_args args other. starts_New callee type_args has_args args r;
    chain = links;
    update_prefix = λ op prefix arg other. starts_Update op prefix arg r;
    update_postfix = λ op prefix arg other. starts_Update op prefix arg r;
    unary_expression = λ op arg other. starts_Unary op arg r;
    await_expression = λ arg other. starts_Await arg r;
    binary = λ op left right. never;
    private_in = λ op left right. never;
    conditional = λ test cons alt other. starts_Cond test cons alt r;
    assignment = λ op left right other. starts_Assign op left right r;
    pattern_assignment = λ op left right other. starts_Assign op left right r;
    yield_ = λ delegate arg other. starts_Yield delegate arg r;
    name_arrow = λ f known other. starts_Arrow f;
    parenthesized_arrow = λ f known other. starts_Arrow f;
    async_name_arrow = λ f known other. starts_Arrow f;
    async_parenthesized_arrow = λ f known other. starts_Arrow f;
    sequence = λ es other. starts_Seq es r;
    typed_function = λ f known other. starts_Fn f;
    typed_async_function = λ f known other. starts_Fn f;
    typed_class = λ c known other. starts_Class c;
    abstract_class = λ c known other. starts_Class c;
    typed_new = λ callee type_args has_args args other. starts_New callee type_args has_args args r;
    type_assertion_const = λ e. never;
    type_assertion_as = λ e ty. never;
    typed_binary_const = λ e. never;
    typed_binary_as = λ e ty. never;
    typed_binary_satisfies = λ e ty. never;
    typed_binary_binary = λ op left right. never;
    typed_parenthesized_arrow = λ f known other. starts_Arrow f;
    typed_async_parenthesized_arrow = λ f known other. starts_Arrow f;
  }

  -- what an enum doesn't keep
  pub other_value : (x : List ℕ) (ts : List Token) (label : NodeKind) (from : ℕ) (r : Range) (es : List Entry)
      → is_one_of value_labels label ≡ false → Starts env false (expr_of x ts label from r (held x ts es))
  other_value x ts label from r es e =
      plain (expr_of x ts label from r (held x ts es)) (all_forms Plain x ts r (each r) label from es)
    where
      plain : (o : Option Expr) → IfSome o (Plain label) → Starts env false o
      plain (Some it) known = known e
      plain None known = tt
