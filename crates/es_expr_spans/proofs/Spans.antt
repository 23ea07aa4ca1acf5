-- The node that each form of expression is, and its range.
use Rattle.std.specs.Prelude.{Bool, List, Option}
use Rattle.std.proofs.Common.{◌≡◌, sym, ap, ◌∙◌}
use Rattle.base.specs.declared.range.Range.{Range}
use Rattle.es_ast.specs.declared.ts.leaf.Ident.{Ident}
use Rattle.es_ast.specs.declared.ts.leaf.TplElement.{TplElement}
use Rattle.es_ast.specs.declared.ts.ts.TsPart.{TsPart}
use Rattle.es_ast.specs.declared.leaf.AssignOp.{AssignOp}
use Rattle.es_ast.specs.declared.leaf.BinaryOp.{BinaryOp}
use Rattle.es_ast.specs.declared.leaf.ImportPhase.{ImportPhase}
use Rattle.es_ast.specs.declared.leaf.Lit.{Lit}
use Rattle.es_ast.specs.declared.leaf.UnaryOp.{UnaryOp}
use Rattle.es_ast.specs.declared.leaf.UpdateOp.{UpdateOp}
use Rattle.es_ast.specs.declared.ast.Class.{Class, out-Class}
use Rattle.es_ast.specs.declared.ast.Expr.{Expr, out-roll-Expr}
use Rattle.es_ast.specs.declared.ast.Expr.{out-Expr}
use Rattle.es_ast.specs.declared.ast.Expr.TheVariants as vExpr
use Rattle.es_ast.specs.declared.ast.Function.{Function, out-Function}
use Rattle.es_ast.specs.declared.ast.Pat.{Pat}
use Rattle.es_ast.specs.declared.ast.Prop.{Prop}
use Rattle.es_ast.specs.declared.ast.ClassMember.TheOpen.{Expr-F}
use Rattle.es_expr_spans.specs.Spans.{lit_span, span_by, expr_span}

pub out_This : (span : Range) → out-Expr (vExpr.This span) ≡ Expr-F.Expr::This span
out_This span = ap out-Expr (sym (vExpr.rolls-This span)) ∙ out-roll-Expr (Expr-F.Expr::This span)

pub out_Super : (span : Range) → out-Expr (vExpr.Super span) ≡ Expr-F.Super span
out_Super span = ap out-Expr (sym (vExpr.rolls-Super span)) ∙ out-roll-Expr (Expr-F.Super span)

pub out_Ident : (id : Ident) → out-Expr (vExpr.Ident id) ≡ Expr-F.Expr::Ident id
out_Ident id = ap out-Expr (sym (vExpr.rolls-Ident id)) ∙ out-roll-Expr (Expr-F.Expr::Ident id)

pub out_PrivateName : (id : Ident) → out-Expr (vExpr.PrivateName id) ≡ Expr-F.PrivateName id
out_PrivateName id = ap out-Expr (sym (vExpr.rolls-PrivateName id)) ∙ out-roll-Expr (Expr-F.PrivateName id)

pub out_Lit : (it : Lit) → out-Expr (vExpr.Lit it) ≡ Expr-F.Lit it
out_Lit it = ap out-Expr (sym (vExpr.rolls-Lit it)) ∙ out-roll-Expr (Expr-F.Lit it)

pub out_Hole : (span : Range) → out-Expr (vExpr.Hole span) ≡ Expr-F.Expr::Hole span
out_Hole span = ap out-Expr (sym (vExpr.rolls-Hole span)) ∙ out-roll-Expr (Expr-F.Expr::Hole span)

pub out_Array : (elems : List Expr) (span : Range) → out-Expr (vExpr.Array elems span) ≡ Expr-F.Expr::Array elems span
out_Array elems span = ap out-Expr (sym (vExpr.rolls-Array elems span)) ∙ out-roll-Expr (Expr-F.Expr::Array elems span)

pub out_Spread : (expr : Expr) (span : Range) → out-Expr (vExpr.Spread expr span) ≡ Expr-F.Expr::Spread expr span
out_Spread expr span = ap out-Expr (sym (vExpr.rolls-Spread expr span)) ∙ out-roll-Expr (Expr-F.Expr::Spread expr span)

pub out_Object : (props : List Prop) (span : Range)
    → out-Expr (vExpr.Object props span) ≡ Expr-F.Expr::Object props span
out_Object props span =
    ap out-Expr (sym (vExpr.rolls-Object props span)) ∙ out-roll-Expr (Expr-F.Expr::Object props span)

pub out_Fn : (it : Function) → out-Expr (vExpr.Fn it) ≡ Expr-F.Expr::Fn it
out_Fn it = ap out-Expr (sym (vExpr.rolls-Fn it)) ∙ out-roll-Expr (Expr-F.Expr::Fn it)

pub out_Class : (it : Class) → out-Expr (vExpr.Class it) ≡ Expr-F.Expr::Class it
out_Class it = ap out-Expr (sym (vExpr.rolls-Class it)) ∙ out-roll-Expr (Expr-F.Expr::Class it)

pub out_Arrow : (it : Function) → out-Expr (vExpr.Arrow it) ≡ Expr-F.Arrow it
out_Arrow it = ap out-Expr (sym (vExpr.rolls-Arrow it)) ∙ out-roll-Expr (Expr-F.Arrow it)

pub out_Paren : (expr : Expr) (span : Range) → out-Expr (vExpr.Paren expr span) ≡ Expr-F.Paren expr span
out_Paren expr span = ap out-Expr (sym (vExpr.rolls-Paren expr span)) ∙ out-roll-Expr (Expr-F.Paren expr span)

pub out_Unary : (op : UnaryOp) (arg : Expr) (span : Range)
    → out-Expr (vExpr.Unary op arg span) ≡ Expr-F.Unary op arg span
out_Unary op arg span = ap out-Expr (sym (vExpr.rolls-Unary op arg span)) ∙ out-roll-Expr (Expr-F.Unary op arg span)

pub out_Update : (op : UpdateOp) (prefix : Bool) (arg : Expr) (span : Range)
    → out-Expr (vExpr.Update op prefix arg span) ≡ Expr-F.Update op prefix arg span
out_Update op prefix arg span =
    ap out-Expr (sym (vExpr.rolls-Update op prefix arg span)) ∙ out-roll-Expr (Expr-F.Update op prefix arg span)

pub out_Await : (arg : Expr) (span : Range) → out-Expr (vExpr.Await arg span) ≡ Expr-F.Await arg span
out_Await arg span = ap out-Expr (sym (vExpr.rolls-Await arg span)) ∙ out-roll-Expr (Expr-F.Await arg span)

pub out_Yield : (delegate : Bool) (arg : Option Expr) (span : Range)
    → out-Expr (vExpr.Yield delegate arg span) ≡ Expr-F.Yield delegate arg span
out_Yield delegate arg span =
    ap out-Expr (sym (vExpr.rolls-Yield delegate arg span)) ∙ out-roll-Expr (Expr-F.Yield delegate arg span)

pub out_Bin : (op : BinaryOp) (left : Expr) (right : Expr) (span : Range)
    → out-Expr (vExpr.Bin op left right span) ≡ Expr-F.Bin op left right span
out_Bin op left right span =
    ap out-Expr (sym (vExpr.rolls-Bin op left right span)) ∙ out-roll-Expr (Expr-F.Bin op left right span)

pub out_Assign : (op : AssignOp) (left : Pat) (right : Expr) (span : Range)
    → out-Expr (vExpr.Assign op left right span) ≡ Expr-F.Expr::Assign op left right span
out_Assign op left right span =
    ap out-Expr (sym (vExpr.rolls-Assign op left right span)) ∙ out-roll-Expr (Expr-F.Expr::Assign op left right span)

pub out_Cond : (test : Expr) (cons : Expr) (alt : Expr) (span : Range)
    → out-Expr (vExpr.Cond test cons alt span) ≡ Expr-F.Cond test cons alt span
out_Cond test cons alt span =
    ap out-Expr (sym (vExpr.rolls-Cond test cons alt span)) ∙ out-roll-Expr (Expr-F.Cond test cons alt span)

pub out_Seq : (exprs : List Expr) (span : Range) → out-Expr (vExpr.Seq exprs span) ≡ Expr-F.Seq exprs span
out_Seq exprs span = ap out-Expr (sym (vExpr.rolls-Seq exprs span)) ∙ out-roll-Expr (Expr-F.Seq exprs span)

pub out_Member : (obj : Expr) (mark : Bool) (hidden : Bool) (prop : Ident) (span : Range)
    → out-Expr (vExpr.Member obj mark hidden prop span) ≡ Expr-F.Member obj mark hidden prop span
out_Member obj mark hidden prop span =
    ap out-Expr (sym (vExpr.rolls-Member obj mark hidden prop span))
    ∙ out-roll-Expr (Expr-F.Member obj mark hidden prop span)

pub out_Index : (obj : Expr) (mark : Bool) (prop : Expr) (span : Range)
    → out-Expr (vExpr.Index obj mark prop span) ≡ Expr-F.Index obj mark prop span
out_Index obj mark prop span =
    ap out-Expr (sym (vExpr.rolls-Index obj mark prop span)) ∙ out-roll-Expr (Expr-F.Index obj mark prop span)

pub out_Call : (callee : Expr) (mark : Bool) (type_args : Option TsPart) (args : List Expr) (span : Range)
    → out-Expr (vExpr.Call callee mark type_args args span) ≡ Expr-F.Call callee mark type_args args span
out_Call callee mark type_args args span =
    ap out-Expr (sym (vExpr.rolls-Call callee mark type_args args span))
    ∙ out-roll-Expr (Expr-F.Call callee mark type_args args span)

pub out_New : (callee : Expr) (type_args : Option TsPart) (has_args : Bool) (args : List Expr) (span : Range)
    → out-Expr (vExpr.New callee type_args has_args args span) ≡ Expr-F.New callee type_args has_args args span
out_New callee type_args has_args args span =
    ap out-Expr (sym (vExpr.rolls-New callee type_args has_args args span))
    ∙ out-roll-Expr (Expr-F.New callee type_args has_args args span)

pub out_ImportCall : (phase : ImportPhase) (args : List Expr) (span : Range)
    → out-Expr (vExpr.ImportCall phase args span) ≡ Expr-F.ImportCall phase args span
out_ImportCall phase args span =
    ap out-Expr (sym (vExpr.rolls-ImportCall phase args span)) ∙ out-roll-Expr (Expr-F.ImportCall phase args span)

pub out_ImportMeta : (span : Range) → out-Expr (vExpr.ImportMeta span) ≡ Expr-F.ImportMeta span
out_ImportMeta span = ap out-Expr (sym (vExpr.rolls-ImportMeta span)) ∙ out-roll-Expr (Expr-F.ImportMeta span)

pub out_NewTarget : (span : Range) → out-Expr (vExpr.NewTarget span) ≡ Expr-F.NewTarget span
out_NewTarget span = ap out-Expr (sym (vExpr.rolls-NewTarget span)) ∙ out-roll-Expr (Expr-F.NewTarget span)

pub out_Tpl : (quasis : List TplElement) (exprs : List Expr) (span : Range)
    → out-Expr (vExpr.Tpl quasis exprs span) ≡ Expr-F.Tpl quasis exprs span
out_Tpl quasis exprs span =
    ap out-Expr (sym (vExpr.rolls-Tpl quasis exprs span)) ∙ out-roll-Expr (Expr-F.Tpl quasis exprs span)

pub out_TaggedTpl : (tag : Expr) (type_args : Option TsPart) (tpl : Expr) (span : Range)
    → out-Expr (vExpr.TaggedTpl tag type_args tpl span) ≡ Expr-F.TaggedTpl tag type_args tpl span
out_TaggedTpl tag type_args tpl span =
    ap out-Expr (sym (vExpr.rolls-TaggedTpl tag type_args tpl span))
    ∙ out-roll-Expr (Expr-F.TaggedTpl tag type_args tpl span)

pub out_TsNonNull : (expr : Expr) (span : Range) → out-Expr (vExpr.TsNonNull expr span) ≡ Expr-F.TsNonNull expr span
out_TsNonNull expr span =
    ap out-Expr (sym (vExpr.rolls-TsNonNull expr span)) ∙ out-roll-Expr (Expr-F.TsNonNull expr span)

pub out_TsAs : (expr : Expr) (ty : Option TsPart) (span : Range)
    → out-Expr (vExpr.TsAs expr ty span) ≡ Expr-F.TsAs expr ty span
out_TsAs expr ty span = ap out-Expr (sym (vExpr.rolls-TsAs expr ty span)) ∙ out-roll-Expr (Expr-F.TsAs expr ty span)

pub out_TsConstAssertion : (expr : Expr) (span : Range)
    → out-Expr (vExpr.TsConstAssertion expr span) ≡ Expr-F.TsConstAssertion expr span
out_TsConstAssertion expr span =
    ap out-Expr (sym (vExpr.rolls-TsConstAssertion expr span)) ∙ out-roll-Expr (Expr-F.TsConstAssertion expr span)

pub out_TsSatisfies : (expr : Expr) (ty : Option TsPart) (span : Range)
    → out-Expr (vExpr.TsSatisfies expr ty span) ≡ Expr-F.TsSatisfies expr ty span
out_TsSatisfies expr ty span =
    ap out-Expr (sym (vExpr.rolls-TsSatisfies expr ty span)) ∙ out-roll-Expr (Expr-F.TsSatisfies expr ty span)

pub span_This : (span : Range) → expr_span (vExpr.This span) ≡ span
unfolding expr_span
span_This span = ap span_by (out_This span)

pub span_Super : (span : Range) → expr_span (vExpr.Super span) ≡ span
unfolding expr_span
span_Super span = ap span_by (out_Super span)

pub span_Ident : (id : Ident) → expr_span (vExpr.Ident id) ≡ id.span
unfolding expr_span
span_Ident id = ap span_by (out_Ident id)

pub span_PrivateName : (id : Ident) → expr_span (vExpr.PrivateName id) ≡ id.span
unfolding expr_span
span_PrivateName id = ap span_by (out_PrivateName id)

pub span_Lit : (it : Lit) → expr_span (vExpr.Lit it) ≡ lit_span it
unfolding expr_span
span_Lit it = ap span_by (out_Lit it)

pub span_Hole : (span : Range) → expr_span (vExpr.Hole span) ≡ span
unfolding expr_span
span_Hole span = ap span_by (out_Hole span)

pub span_Array : (elems : List Expr) (span : Range) → expr_span (vExpr.Array elems span) ≡ span
unfolding expr_span
span_Array elems span = ap span_by (out_Array elems span)

pub span_Spread : (expr : Expr) (span : Range) → expr_span (vExpr.Spread expr span) ≡ span
unfolding expr_span
span_Spread expr span = ap span_by (out_Spread expr span)

pub span_Object : (props : List Prop) (span : Range) → expr_span (vExpr.Object props span) ≡ span
unfolding expr_span
span_Object props span = ap span_by (out_Object props span)

pub span_Fn : (it : Function) → expr_span (vExpr.Fn it) ≡ (out-Function it).span
unfolding expr_span
span_Fn it = ap span_by (out_Fn it)

pub span_Class : (it : Class) → expr_span (vExpr.Class it) ≡ (out-Class it).span
unfolding expr_span
span_Class it = ap span_by (out_Class it)

pub span_Arrow : (it : Function) → expr_span (vExpr.Arrow it) ≡ (out-Function it).span
unfolding expr_span
span_Arrow it = ap span_by (out_Arrow it)

pub span_Paren : (expr : Expr) (span : Range) → expr_span (vExpr.Paren expr span) ≡ span
unfolding expr_span
span_Paren expr span = ap span_by (out_Paren expr span)

pub span_Unary : (op : UnaryOp) (arg : Expr) (span : Range) → expr_span (vExpr.Unary op arg span) ≡ span
unfolding expr_span
span_Unary op arg span = ap span_by (out_Unary op arg span)

pub span_Update : (op : UpdateOp) (prefix : Bool) (arg : Expr) (span : Range)
    → expr_span (vExpr.Update op prefix arg span) ≡ span
unfolding expr_span
span_Update op prefix arg span = ap span_by (out_Update op prefix arg span)

pub span_Await : (arg : Expr) (span : Range) → expr_span (vExpr.Await arg span) ≡ span
unfolding expr_span
span_Await arg span = ap span_by (out_Await arg span)

pub span_Yield : (delegate : Bool) (arg : Option Expr) (span : Range)
    → expr_span (vExpr.Yield delegate arg span) ≡ span
unfolding expr_span
span_Yield delegate arg span = ap span_by (out_Yield delegate arg span)

pub span_Bin : (op : BinaryOp) (left : Expr) (right : Expr) (span : Range)
    → expr_span (vExpr.Bin op left right span) ≡ span
unfolding expr_span
span_Bin op left right span = ap span_by (out_Bin op left right span)

pub span_Assign : (op : AssignOp) (left : Pat) (right : Expr) (span : Range)
    → expr_span (vExpr.Assign op left right span) ≡ span
unfolding expr_span
span_Assign op left right span = ap span_by (out_Assign op left right span)

pub span_Cond : (test : Expr) (cons : Expr) (alt : Expr) (span : Range)
    → expr_span (vExpr.Cond test cons alt span) ≡ span
unfolding expr_span
span_Cond test cons alt span = ap span_by (out_Cond test cons alt span)

pub span_Seq : (exprs : List Expr) (span : Range) → expr_span (vExpr.Seq exprs span) ≡ span
unfolding expr_span
span_Seq exprs span = ap span_by (out_Seq exprs span)

pub span_Member : (obj : Expr) (mark : Bool) (hidden : Bool) (prop : Ident) (span : Range)
    → expr_span (vExpr.Member obj mark hidden prop span) ≡ span
unfolding expr_span
span_Member obj mark hidden prop span = ap span_by (out_Member obj mark hidden prop span)

pub span_Index : (obj : Expr) (mark : Bool) (prop : Expr) (span : Range)
    → expr_span (vExpr.Index obj mark prop span) ≡ span
unfolding expr_span
span_Index obj mark prop span = ap span_by (out_Index obj mark prop span)

pub span_Call : (callee : Expr) (mark : Bool) (type_args : Option TsPart) (args : List Expr) (span : Range)
    → expr_span (vExpr.Call callee mark type_args args span) ≡ span
unfolding expr_span
span_Call callee mark type_args args span = ap span_by (out_Call callee mark type_args args span)

pub span_New : (callee : Expr) (type_args : Option TsPart) (has_args : Bool) (args : List Expr) (span : Range)
    → expr_span (vExpr.New callee type_args has_args args span) ≡ span
unfolding expr_span
span_New callee type_args has_args args span = ap span_by (out_New callee type_args has_args args span)

pub span_ImportCall : (phase : ImportPhase) (args : List Expr) (span : Range)
    → expr_span (vExpr.ImportCall phase args span) ≡ span
unfolding expr_span
span_ImportCall phase args span = ap span_by (out_ImportCall phase args span)

pub span_ImportMeta : (span : Range) → expr_span (vExpr.ImportMeta span) ≡ span
unfolding expr_span
span_ImportMeta span = ap span_by (out_ImportMeta span)

pub span_NewTarget : (span : Range) → expr_span (vExpr.NewTarget span) ≡ span
unfolding expr_span
span_NewTarget span = ap span_by (out_NewTarget span)

pub span_Tpl : (quasis : List TplElement) (exprs : List Expr) (span : Range)
    → expr_span (vExpr.Tpl quasis exprs span) ≡ span
unfolding expr_span
span_Tpl quasis exprs span = ap span_by (out_Tpl quasis exprs span)

pub span_TaggedTpl : (tag : Expr) (type_args : Option TsPart) (tpl : Expr) (span : Range)
    → expr_span (vExpr.TaggedTpl tag type_args tpl span) ≡ span
unfolding expr_span
span_TaggedTpl tag type_args tpl span = ap span_by (out_TaggedTpl tag type_args tpl span)

pub span_TsNonNull : (expr : Expr) (span : Range) → expr_span (vExpr.TsNonNull expr span) ≡ span
unfolding expr_span
span_TsNonNull expr span = ap span_by (out_TsNonNull expr span)

pub span_TsAs : (expr : Expr) (ty : Option TsPart) (span : Range) → expr_span (vExpr.TsAs expr ty span) ≡ span
unfolding expr_span
span_TsAs expr ty span = ap span_by (out_TsAs expr ty span)

pub span_TsConstAssertion : (expr : Expr) (span : Range) → expr_span (vExpr.TsConstAssertion expr span) ≡ span
unfolding expr_span
span_TsConstAssertion expr span = ap span_by (out_TsConstAssertion expr span)

pub span_TsSatisfies : (expr : Expr) (ty : Option TsPart) (span : Range)
    → expr_span (vExpr.TsSatisfies expr ty span) ≡ span
unfolding expr_span
span_TsSatisfies expr ty span = ap span_by (out_TsSatisfies expr ty span)
