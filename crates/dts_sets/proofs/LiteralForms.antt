-- Which forms of expressions are array literals.
use Rattle.std.specs.Prelude.{ℕ, Bool, true, false, List, Option, Some, None, IfSome}
use Rattle.std.proofs.Common.{◌≡◌, sym, ap, ◌∙◌}
use Rattle.base.specs.declared.range.Range.{Range}
use Rattle.es_token.specs.declared.token.Token.{Token}
use Rattle.es_grammar.specs.declared.rows.NodeKind.{NodeKind}
use Rattle.es_grammar.specs.declared.rows.NodeKind.TheVariants as l
use Rattle.es_ast.specs.declared.ts.leaf.Ident.{Ident}
use Rattle.es_ast.specs.declared.ts.leaf.TplElement.{TplElement}
use Rattle.es_ast.specs.declared.ts.ts.TsPart.{TsPart}
use Rattle.es_ast.specs.declared.leaf.AssignOp.{AssignOp}
use Rattle.es_ast.specs.declared.leaf.BinaryOp.{BinaryOp}
use Rattle.es_ast.specs.declared.leaf.ImportPhase.{ImportPhase}
use Rattle.es_ast.specs.declared.leaf.Lit.{Lit}
use Rattle.es_ast.specs.declared.leaf.Lit.TheVariants as vLit
use Rattle.es_ast.specs.declared.leaf.UnaryOp.{UnaryOp}
use Rattle.es_ast.specs.declared.leaf.UpdateOp.{UpdateOp}
use Rattle.es_ast.specs.declared.ast.Class.{Class}
use Rattle.es_ast.specs.declared.ast.Expr.{Expr}
use Rattle.es_ast.specs.declared.ast.Expr.TheVariants as vExpr
use Rattle.es_ast.specs.declared.ast.Function.{Function}
use Rattle.es_ast.specs.declared.ast.Pat.{Pat}
use Rattle.es_ast.specs.declared.ast.Prop.{Prop}
use Rattle.es_ast.specs.declared.ast.ClassMember.TheOpen.{Expr-F}
use Rattle.es_ast.specs.declared.leaf.Regex.{Regex}
use Rattle.es_ast.specs.declared.ast.ClassMember.TheFolds.{fold-roll-Expr}
use Rattle.es_lowering.specs.Lowering.{expr_of}
use Rattle.es_syntax.specs.declared.entry.Entry.{Entry}
use Rattle.es_syntax.specs.Held.{held}
use Rattle.es_syntax.specs.Views.{is_one_of}
use Rattle.es_expr_spans.proofs.All.{Each, all_forms}
use Rattle.es_expr_spans.proofs.PostForms.{EachLink}
use Rattle.dts_rules.specs.Sets.{no_array, literal_by, is_array_literal, is_array_part, type_in}
use Rattle.dts_sets.specs.Forms.{literal_labels, Literal}

pub literal_This : (span : Range) → is_array_literal (vExpr.This span) ≡ false
unfolding is_array_literal
literal_This span =
    ap is_array_literal (sym (vExpr.rolls-This span))
    ∙ fold-roll-Expr Bool Bool Bool Bool Bool Bool Bool Bool Bool Bool Bool Bool Bool Bool Bool
    no_array no_array literal_by no_array no_array no_array no_array no_array no_array no_array no_array no_array
    no_array no_array no_array (Expr-F.Expr::This span)

pub literal_Super : (span : Range) → is_array_literal (vExpr.Super span) ≡ false
unfolding is_array_literal
literal_Super span =
    ap is_array_literal (sym (vExpr.rolls-Super span))
    ∙ fold-roll-Expr Bool Bool Bool Bool Bool Bool Bool Bool Bool Bool Bool Bool Bool Bool Bool
    no_array no_array literal_by no_array no_array no_array no_array no_array no_array no_array no_array no_array
    no_array no_array no_array (Expr-F.Super span)

pub literal_Ident : (id : Ident) → is_array_literal (vExpr.Ident id) ≡ false
unfolding is_array_literal
literal_Ident id =
    ap is_array_literal (sym (vExpr.rolls-Ident id))
    ∙ fold-roll-Expr Bool Bool Bool Bool Bool Bool Bool Bool Bool Bool Bool Bool Bool Bool Bool
    no_array no_array literal_by no_array no_array no_array no_array no_array no_array no_array no_array no_array
    no_array no_array no_array (Expr-F.Expr::Ident id)

pub literal_Lit : (it : Lit) → is_array_literal (vExpr.Lit it) ≡ false
unfolding is_array_literal
literal_Lit it =
    ap is_array_literal (sym (vExpr.rolls-Lit it))
    ∙ fold-roll-Expr Bool Bool Bool Bool Bool Bool Bool Bool Bool Bool Bool Bool Bool Bool Bool
    no_array no_array literal_by no_array no_array no_array no_array no_array no_array no_array no_array no_array
    no_array no_array no_array (Expr-F.Lit it)

pub literal_Array : (elems : List Expr) (span : Range) → is_array_literal (vExpr.Array elems span) ≡ true
unfolding is_array_literal
literal_Array elems span =
    ap is_array_literal (sym (vExpr.rolls-Array elems span))
    ∙ fold-roll-Expr Bool Bool Bool Bool Bool Bool Bool Bool Bool Bool Bool Bool Bool Bool Bool
    no_array no_array literal_by no_array no_array no_array no_array no_array no_array no_array no_array no_array
    no_array no_array no_array (Expr-F.Expr::Array elems span)

pub literal_Spread : (expr : Expr) (span : Range) → is_array_literal (vExpr.Spread expr span) ≡ false
unfolding is_array_literal
literal_Spread expr span =
    ap is_array_literal (sym (vExpr.rolls-Spread expr span))
    ∙ fold-roll-Expr Bool Bool Bool Bool Bool Bool Bool Bool Bool Bool Bool Bool Bool Bool Bool
    no_array no_array literal_by no_array no_array no_array no_array no_array no_array no_array no_array no_array
    no_array no_array no_array (Expr-F.Expr::Spread expr span)

pub literal_Object : (props : List Prop) (span : Range) → is_array_literal (vExpr.Object props span) ≡ false
unfolding is_array_literal
literal_Object props span =
    ap is_array_literal (sym (vExpr.rolls-Object props span))
    ∙ fold-roll-Expr Bool Bool Bool Bool Bool Bool Bool Bool Bool Bool Bool Bool Bool Bool Bool
    no_array no_array literal_by no_array no_array no_array no_array no_array no_array no_array no_array no_array
    no_array no_array no_array (Expr-F.Expr::Object props span)

pub literal_Fn : (it : Function) → is_array_literal (vExpr.Fn it) ≡ false
unfolding is_array_literal
literal_Fn it =
    ap is_array_literal (sym (vExpr.rolls-Fn it))
    ∙ fold-roll-Expr Bool Bool Bool Bool Bool Bool Bool Bool Bool Bool Bool Bool Bool Bool Bool
    no_array no_array literal_by no_array no_array no_array no_array no_array no_array no_array no_array no_array
    no_array no_array no_array (Expr-F.Expr::Fn it)

pub literal_Class : (it : Class) → is_array_literal (vExpr.Class it) ≡ false
unfolding is_array_literal
literal_Class it =
    ap is_array_literal (sym (vExpr.rolls-Class it))
    ∙ fold-roll-Expr Bool Bool Bool Bool Bool Bool Bool Bool Bool Bool Bool Bool Bool Bool Bool
    no_array no_array literal_by no_array no_array no_array no_array no_array no_array no_array no_array no_array
    no_array no_array no_array (Expr-F.Expr::Class it)

pub literal_Arrow : (it : Function) → is_array_literal (vExpr.Arrow it) ≡ false
unfolding is_array_literal
literal_Arrow it =
    ap is_array_literal (sym (vExpr.rolls-Arrow it))
    ∙ fold-roll-Expr Bool Bool Bool Bool Bool Bool Bool Bool Bool Bool Bool Bool Bool Bool Bool
    no_array no_array literal_by no_array no_array no_array no_array no_array no_array no_array no_array no_array
    no_array no_array no_array (Expr-F.Arrow it)

pub literal_Paren : (expr : Expr) (span : Range) → is_array_literal (vExpr.Paren expr span) ≡ is_array_literal expr
unfolding is_array_literal
literal_Paren expr span =
    ap is_array_literal (sym (vExpr.rolls-Paren expr span))
    ∙ fold-roll-Expr Bool Bool Bool Bool Bool Bool Bool Bool Bool Bool Bool Bool Bool Bool Bool
    no_array no_array literal_by no_array no_array no_array no_array no_array no_array no_array no_array no_array
    no_array no_array no_array (Expr-F.Paren expr span)

pub literal_Unary : (op : UnaryOp) (arg : Expr) (span : Range) → is_array_literal (vExpr.Unary op arg span) ≡ false
unfolding is_array_literal
literal_Unary op arg span =
    ap is_array_literal (sym (vExpr.rolls-Unary op arg span))
    ∙ fold-roll-Expr Bool Bool Bool Bool Bool Bool Bool Bool Bool Bool Bool Bool Bool Bool Bool
    no_array no_array literal_by no_array no_array no_array no_array no_array no_array no_array no_array no_array
    no_array no_array no_array (Expr-F.Unary op arg span)

pub literal_Update : (op : UpdateOp) (prefix : Bool) (arg : Expr) (span : Range) → is_array_literal (vExpr.Update op
    prefix arg span) ≡ false
unfolding is_array_literal
literal_Update op prefix arg span =
    ap is_array_literal (sym (vExpr.rolls-Update op prefix arg span))
    ∙ fold-roll-Expr Bool Bool Bool Bool Bool Bool Bool Bool Bool Bool Bool Bool Bool Bool Bool
    no_array no_array literal_by no_array no_array no_array no_array no_array no_array no_array no_array no_array
    no_array no_array no_array (Expr-F.Update op prefix arg span)

pub literal_Await : (arg : Expr) (span : Range) → is_array_literal (vExpr.Await arg span) ≡ false
unfolding is_array_literal
literal_Await arg span =
    ap is_array_literal (sym (vExpr.rolls-Await arg span))
    ∙ fold-roll-Expr Bool Bool Bool Bool Bool Bool Bool Bool Bool Bool Bool Bool Bool Bool Bool
    no_array no_array literal_by no_array no_array no_array no_array no_array no_array no_array no_array no_array
    no_array no_array no_array (Expr-F.Await arg span)

pub literal_Yield : (delegate : Bool) (arg : Option Expr) (span : Range) → is_array_literal (vExpr.Yield delegate
    arg span) ≡ false
unfolding is_array_literal
literal_Yield delegate arg span =
    ap is_array_literal (sym (vExpr.rolls-Yield delegate arg span))
    ∙ fold-roll-Expr Bool Bool Bool Bool Bool Bool Bool Bool Bool Bool Bool Bool Bool Bool Bool
    no_array no_array literal_by no_array no_array no_array no_array no_array no_array no_array no_array no_array
    no_array no_array no_array (Expr-F.Yield delegate arg span)

pub literal_Bin : (op : BinaryOp) (left : Expr) (right : Expr) (span : Range) → is_array_literal (vExpr.Bin op left
    right span) ≡ false
unfolding is_array_literal
literal_Bin op left right span =
    ap is_array_literal (sym (vExpr.rolls-Bin op left right span))
    ∙ fold-roll-Expr Bool Bool Bool Bool Bool Bool Bool Bool Bool Bool Bool Bool Bool Bool Bool
    no_array no_array literal_by no_array no_array no_array no_array no_array no_array no_array no_array no_array
    no_array no_array no_array (Expr-F.Bin op left right span)

pub literal_Assign : (op : AssignOp) (left : Pat) (right : Expr) (span : Range) → is_array_literal (vExpr.Assign op
    left right span) ≡ false
unfolding is_array_literal
literal_Assign op left right span =
    ap is_array_literal (sym (vExpr.rolls-Assign op left right span))
    ∙ fold-roll-Expr Bool Bool Bool Bool Bool Bool Bool Bool Bool Bool Bool Bool Bool Bool Bool
    no_array no_array literal_by no_array no_array no_array no_array no_array no_array no_array no_array no_array
    no_array no_array no_array (Expr-F.Expr::Assign op left right span)

pub literal_Cond : (test : Expr) (cons : Expr) (alt : Expr) (span : Range) → is_array_literal (vExpr.Cond test cons
    alt span) ≡ false
unfolding is_array_literal
literal_Cond test cons alt span =
    ap is_array_literal (sym (vExpr.rolls-Cond test cons alt span))
    ∙ fold-roll-Expr Bool Bool Bool Bool Bool Bool Bool Bool Bool Bool Bool Bool Bool Bool Bool
    no_array no_array literal_by no_array no_array no_array no_array no_array no_array no_array no_array no_array
    no_array no_array no_array (Expr-F.Cond test cons alt span)

pub literal_Seq : (exprs : List Expr) (span : Range) → is_array_literal (vExpr.Seq exprs span) ≡ false
unfolding is_array_literal
literal_Seq exprs span =
    ap is_array_literal (sym (vExpr.rolls-Seq exprs span))
    ∙ fold-roll-Expr Bool Bool Bool Bool Bool Bool Bool Bool Bool Bool Bool Bool Bool Bool Bool
    no_array no_array literal_by no_array no_array no_array no_array no_array no_array no_array no_array no_array
    no_array no_array no_array (Expr-F.Seq exprs span)

pub literal_Member : (obj : Expr) (mark : Bool) (hidden : Bool) (prop : Ident) (span : Range) → is_array_literal
    (vExpr.Member obj mark hidden prop span) ≡ false
unfolding is_array_literal
literal_Member obj mark hidden prop span =
    ap is_array_literal (sym (vExpr.rolls-Member obj mark hidden prop span))
    ∙ fold-roll-Expr Bool Bool Bool Bool Bool Bool Bool Bool Bool Bool Bool Bool Bool Bool Bool
    no_array no_array literal_by no_array no_array no_array no_array no_array no_array no_array no_array no_array
    no_array no_array no_array (Expr-F.Member obj mark hidden prop span)

pub literal_Index : (obj : Expr) (mark : Bool) (prop : Expr) (span : Range) → is_array_literal (vExpr.Index obj mark
    prop span) ≡ false
unfolding is_array_literal
literal_Index obj mark prop span =
    ap is_array_literal (sym (vExpr.rolls-Index obj mark prop span))
    ∙ fold-roll-Expr Bool Bool Bool Bool Bool Bool Bool Bool Bool Bool Bool Bool Bool Bool Bool
    no_array no_array literal_by no_array no_array no_array no_array no_array no_array no_array no_array no_array
    no_array no_array no_array (Expr-F.Index obj mark prop span)

pub literal_Call : (callee : Expr) (mark : Bool) (type_args : Option TsPart) (args : List Expr) (span : Range) →
    is_array_literal (vExpr.Call callee mark type_args args span) ≡ false
unfolding is_array_literal
literal_Call callee mark type_args args span =
    ap is_array_literal (sym (vExpr.rolls-Call callee mark type_args args span))
    ∙ fold-roll-Expr Bool Bool Bool Bool Bool Bool Bool Bool Bool Bool Bool Bool Bool Bool Bool
    no_array no_array literal_by no_array no_array no_array no_array no_array no_array no_array no_array no_array
    no_array no_array no_array (Expr-F.Call callee mark type_args args span)

pub literal_New : (callee : Expr) (type_args : Option TsPart) (has_args : Bool) (args : List Expr) (span : Range) →
    is_array_literal (vExpr.New callee type_args has_args args span) ≡ false
unfolding is_array_literal
literal_New callee type_args has_args args span =
    ap is_array_literal (sym (vExpr.rolls-New callee type_args has_args args span))
    ∙ fold-roll-Expr Bool Bool Bool Bool Bool Bool Bool Bool Bool Bool Bool Bool Bool Bool Bool
    no_array no_array literal_by no_array no_array no_array no_array no_array no_array no_array no_array no_array
    no_array no_array no_array (Expr-F.New callee type_args has_args args span)

pub literal_ImportCall : (phase : ImportPhase) (args : List Expr) (span : Range) → is_array_literal
    (vExpr.ImportCall phase args span) ≡ false
unfolding is_array_literal
literal_ImportCall phase args span =
    ap is_array_literal (sym (vExpr.rolls-ImportCall phase args span))
    ∙ fold-roll-Expr Bool Bool Bool Bool Bool Bool Bool Bool Bool Bool Bool Bool Bool Bool Bool
    no_array no_array literal_by no_array no_array no_array no_array no_array no_array no_array no_array no_array
    no_array no_array no_array (Expr-F.ImportCall phase args span)

pub literal_ImportMeta : (span : Range) → is_array_literal (vExpr.ImportMeta span) ≡ false
unfolding is_array_literal
literal_ImportMeta span =
    ap is_array_literal (sym (vExpr.rolls-ImportMeta span))
    ∙ fold-roll-Expr Bool Bool Bool Bool Bool Bool Bool Bool Bool Bool Bool Bool Bool Bool Bool
    no_array no_array literal_by no_array no_array no_array no_array no_array no_array no_array no_array no_array
    no_array no_array no_array (Expr-F.ImportMeta span)

pub literal_NewTarget : (span : Range) → is_array_literal (vExpr.NewTarget span) ≡ false
unfolding is_array_literal
literal_NewTarget span =
    ap is_array_literal (sym (vExpr.rolls-NewTarget span))
    ∙ fold-roll-Expr Bool Bool Bool Bool Bool Bool Bool Bool Bool Bool Bool Bool Bool Bool Bool
    no_array no_array literal_by no_array no_array no_array no_array no_array no_array no_array no_array no_array
    no_array no_array no_array (Expr-F.NewTarget span)

pub literal_Tpl : (quasis : List TplElement) (exprs : List Expr) (span : Range) → is_array_literal (vExpr.Tpl quasis
    exprs span) ≡ false
unfolding is_array_literal
literal_Tpl quasis exprs span =
    ap is_array_literal (sym (vExpr.rolls-Tpl quasis exprs span))
    ∙ fold-roll-Expr Bool Bool Bool Bool Bool Bool Bool Bool Bool Bool Bool Bool Bool Bool Bool
    no_array no_array literal_by no_array no_array no_array no_array no_array no_array no_array no_array no_array
    no_array no_array no_array (Expr-F.Tpl quasis exprs span)

pub literal_TaggedTpl : (tag : Expr) (type_args : Option TsPart) (tpl : Expr) (span : Range) → is_array_literal
    (vExpr.TaggedTpl tag type_args tpl span) ≡ false
unfolding is_array_literal
literal_TaggedTpl tag type_args tpl span =
    ap is_array_literal (sym (vExpr.rolls-TaggedTpl tag type_args tpl span))
    ∙ fold-roll-Expr Bool Bool Bool Bool Bool Bool Bool Bool Bool Bool Bool Bool Bool Bool Bool
    no_array no_array literal_by no_array no_array no_array no_array no_array no_array no_array no_array no_array
    no_array no_array no_array (Expr-F.TaggedTpl tag type_args tpl span)

pub literal_TsNonNull : (expr : Expr) (span : Range) → is_array_literal (vExpr.TsNonNull expr span) ≡ false
unfolding is_array_literal
literal_TsNonNull expr span =
    ap is_array_literal (sym (vExpr.rolls-TsNonNull expr span))
    ∙ fold-roll-Expr Bool Bool Bool Bool Bool Bool Bool Bool Bool Bool Bool Bool Bool Bool Bool
    no_array no_array literal_by no_array no_array no_array no_array no_array no_array no_array no_array no_array
    no_array no_array no_array (Expr-F.TsNonNull expr span)

pub literal_TsAs : (expr : Expr) (ty : Option TsPart) (span : Range) → is_array_literal (vExpr.TsAs expr ty span) ≡
    is_array_part (type_in ty)
unfolding is_array_literal
literal_TsAs expr ty span =
    ap is_array_literal (sym (vExpr.rolls-TsAs expr ty span))
    ∙ fold-roll-Expr Bool Bool Bool Bool Bool Bool Bool Bool Bool Bool Bool Bool Bool Bool Bool
    no_array no_array literal_by no_array no_array no_array no_array no_array no_array no_array no_array no_array
    no_array no_array no_array (Expr-F.TsAs expr ty span)

pub literal_TsConstAssertion : (expr : Expr) (span : Range) → is_array_literal (vExpr.TsConstAssertion expr span) ≡
    is_array_literal expr
unfolding is_array_literal
literal_TsConstAssertion expr span =
    ap is_array_literal (sym (vExpr.rolls-TsConstAssertion expr span))
    ∙ fold-roll-Expr Bool Bool Bool Bool Bool Bool Bool Bool Bool Bool Bool Bool Bool Bool Bool
    no_array no_array literal_by no_array no_array no_array no_array no_array no_array no_array no_array no_array
    no_array no_array no_array (Expr-F.TsConstAssertion expr span)

pub literal_TsSatisfies : (expr : Expr) (ty : Option TsPart) (span : Range) → is_array_literal (vExpr.TsSatisfies
    expr ty span) ≡ is_array_literal expr
unfolding is_array_literal
literal_TsSatisfies expr ty span =
    ap is_array_literal (sym (vExpr.rolls-TsSatisfies expr ty span))
    ∙ fold-roll-Expr Bool Bool Bool Bool Bool Bool Bool Bool Bool Bool Bool Bool Bool Bool Bool
    no_array no_array literal_by no_array no_array no_array no_array no_array no_array no_array no_array no_array
    no_array no_array no_array (Expr-F.TsSatisfies expr ty span)

-- a form that none of them is
abbrev Plain : NodeKind → Expr → Type 0
Plain label e = is_one_of literal_labels label ≡ false → is_array_literal e ≡ false

never : {A : Type 0} → true ≡ false → A
never e = let bad : ⊥ = cc in absurd bad

links : EachLink (Plain l.Chain)
links = record {
  member = λ obj mark hidden prop s other. literal_Member obj mark hidden prop s;
  index = λ obj mark e s other. literal_Index obj mark e s;
  call = λ obj mark type_args args s other. literal_Call obj mark type_args args s;
  tagged = λ obj type_args tpl s other. literal_TaggedTpl obj type_args tpl s;
  non_null = λ obj s other. literal_TsNonNull obj s;
}

each : (r : Range) → Each Plain r
each r = record {
  name = λ id other. literal_Ident id;
  word_this = λ other. literal_This r;
  word_null = λ other. literal_Lit (vLit.Null r);
  word_bool = λ b other. literal_Lit (vLit.Bool b r);
  number = λ lit other. literal_Lit lit;
  str = λ it other. literal_Lit (vLit.Str it);
  reg_exp = λ it other. literal_Lit (vLit.Regex it);
  template = λ quasis es other. literal_Tpl quasis es r;
  template_parts = λ quasis es other. literal_Tpl quasis es r;
  parenthesized = λ e. never;
  array_literal = λ elems. never;
  object_literal = λ props other. literal_Object props r;
  spread = λ e other. literal_Spread e r;
  function = λ f known other. literal_Fn f;
  async_function = λ f known other. literal_Fn f;
  class_ = λ c known other. literal_Class c;
  super_ = λ other. literal_Super r;
  import_call = λ phase args other. literal_ImportCall phase args r;
  source_call = λ phase args other. literal_ImportCall phase args r;
  defer_call = λ phase args other. literal_ImportCall phase args r;
  import_meta = λ other. literal_ImportMeta r;
  new_target = λ other. literal_NewTarget r;
  new_ = λ callee type_args has_args args other. literal_New callee type_args has_args args r;
  chain = links;
  update_prefix = λ op prefix arg other. literal_Update op prefix arg r;
  update_postfix = λ op prefix arg other. literal_Update op prefix arg r;
  unary_expression = λ op arg other. literal_Unary op arg r;
  await_expression = λ arg other. literal_Await arg r;
  binary = λ op left right other. literal_Bin op left right r;
  private_in = λ op left right other. literal_Bin op left right r;
  conditional = λ test cons alt other. literal_Cond test cons alt r;
  assignment = λ op left right other. literal_Assign op left right r;
  pattern_assignment = λ op left right other. literal_Assign op left right r;
  yield_ = λ delegate arg other. literal_Yield delegate arg r;
  name_arrow = λ f known other. literal_Arrow f;
  parenthesized_arrow = λ f known other. literal_Arrow f;
  async_name_arrow = λ f known other. literal_Arrow f;
  async_parenthesized_arrow = λ f known other. literal_Arrow f;
  sequence = λ es other. literal_Seq es r;
  typed_function = λ f known other. literal_Fn f;
  typed_async_function = λ f known other. literal_Fn f;
  typed_class = λ c known other. literal_Class c;
  abstract_class = λ c known other. literal_Class c;
  typed_new = λ callee type_args has_args args other. literal_New callee type_args has_args args r;
  type_assertion_const = λ e. never;
  type_assertion_as = λ e ty. never;
  typed_binary_const = λ e. never;
  typed_binary_as = λ e ty. never;
  typed_binary_satisfies = λ e ty. never;
  typed_binary_binary = λ op left right. never;
  typed_parenthesized_arrow = λ f known other. literal_Arrow f;
  typed_async_parenthesized_arrow = λ f known other. literal_Arrow f;
}

-- what is no array, no brackets and no `as` is none
pub other_literal : (x : List ℕ) (ts : List Token) (label : NodeKind) (from : ℕ) (r : Range) (es : List Entry)
    → is_one_of literal_labels label ≡ false → Literal false (expr_of x ts label from r (held x ts es))
other_literal x ts label from r es e =
    plain (expr_of x ts label from r (held x ts es)) (all_forms Plain x ts r (each r) label from es)
  where
    plain : (o : Option Expr) → IfSome o (Plain label) → Literal false o
    plain (Some it) known = known e
    plain None known = tt
