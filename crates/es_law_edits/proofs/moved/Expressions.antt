-- Each form of expressions moves as its parts do.
use Rattle.std.specs.Prelude.{Bool, List, Option, Some, None, option_map}
use Rattle.std.proofs.Common.{◌≡◌, sym, ap, ◌∙◌}
use Rattle.base.specs.declared.range.Range.{Range}
use Rattle.es_ast.specs.declared.ts.leaf.Ident.{Ident}
use Rattle.es_ast.specs.declared.ts.leaf.TplElement.{TplElement}
use Rattle.es_ast.specs.declared.ts.leaf.MethodKind.{MethodKind}
use Rattle.es_ast.specs.declared.ts.ts.TsPart.{TsPart}
use Rattle.es_ast.specs.declared.leaf.Lit.{Lit}
use Rattle.es_ast.specs.declared.leaf.ImportPhase.{ImportPhase}
use Rattle.es_ast.specs.declared.leaf.UnaryOp.{UnaryOp}
use Rattle.es_ast.specs.declared.leaf.UpdateOp.{UpdateOp}
use Rattle.es_ast.specs.declared.leaf.BinaryOp.{BinaryOp}
use Rattle.es_ast.specs.declared.leaf.AssignOp.{AssignOp}
use Rattle.es_ast.specs.declared.ast.ModuleItem.{ModuleItem}
use Rattle.es_ast.specs.declared.ast.ModuleDecl.{ModuleDecl}
use Rattle.es_ast.specs.declared.ast.Stmt.{Stmt}
use Rattle.es_ast.specs.declared.ast.Decl.{Decl}
use Rattle.es_ast.specs.declared.ast.Expr.{Expr, roll-Expr, map-Expr}
use Rattle.es_ast.specs.declared.ast.Expr.TheVariants as vExpr
use Rattle.es_ast.specs.declared.ast.Pat.{Pat}
use Rattle.es_ast.specs.declared.ast.ObjectPatProp.{ObjectPatProp}
use Rattle.es_ast.specs.declared.ast.Prop.{Prop, roll-Prop, map-Prop}
use Rattle.es_ast.specs.declared.ast.Prop.TheVariants as vProp
use Rattle.es_ast.specs.declared.ast.Function.{Function}
use Rattle.es_ast.specs.declared.ast.Param.{Param}
use Rattle.es_ast.specs.declared.ast.VarDeclarator.{VarDeclarator}
use Rattle.es_ast.specs.declared.ast.SwitchCase.{SwitchCase}
use Rattle.es_ast.specs.declared.ast.TsEnumMember.{TsEnumMember}
use Rattle.es_ast.specs.declared.ast.Class.{Class}
use Rattle.es_ast.specs.declared.ast.ClassMember.{ClassMember}
use Rattle.es_ast.specs.declared.ast.ClassMember.TheOpen.{Expr-F, Prop-F}
use Rattle.es_ast.specs.declared.ast.ClassMember.TheFolds.{fold-roll-Expr, fold-roll-Prop}
use Rattle.es_law_edits.specs.moved.Move.{Move, range_to}
use Rattle.es_law_edits.specs.moved.Leaves.{ident_to, tpl_element_to}
use Rattle.es_law_edits.specs.moved.Types.{ts_part_to}
use Rattle.es_law_edits.specs.moved.ModuleLeaves.{lit_to}
use Rattle.es_law_edits.specs.moved.Steps.{Moved, in_class_member, in_decl, in_expr, in_module_decl, in_module_item, in_object_pat_prop, in_pat, in_prop, in_stmt, in_class, in_function, in_param, in_switch_case, in_ts_enum_member, in_var_declarator}
use Rattle.es_law_edits.specs.moved.Trees.{module_item_to, module_decl_to, stmt_to, decl_to, expr_to, pat_to, object_pat_prop_to, prop_to, function_to, param_to, var_declarator_to, switch_case_to, ts_enum_member_to, class_to, class_member_to}
use Rattle.es_law_edits.proofs.moved.Rel.{By, Opt, Each, opt_is, each_is}
use Rattle.es_law_edits.proofs.moved.Same.{same1, same2, same3, same4, same5}

at_expr : (m : Move) (it : Moved Expr-F) → expr_to m (roll-Expr it) ≡ in_expr m
    (map-Expr ClassMember Decl Expr ModuleDecl ModuleItem ObjectPatProp Pat Prop Stmt Class Function Param
    SwitchCase TsEnumMember VarDeclarator ClassMember Decl Expr ModuleDecl ModuleItem ObjectPatProp Pat Prop Stmt
    Class Function Param SwitchCase TsEnumMember VarDeclarator (class_member_to m) (decl_to m) (expr_to m)
    (module_decl_to m) (module_item_to m) (object_pat_prop_to m) (pat_to m) (prop_to m) (stmt_to m) (class_to m)
    (function_to m) (param_to m) (switch_case_to m) (ts_enum_member_to m) (var_declarator_to m) it)
unfolding class_member_to decl_to expr_to module_decl_to module_item_to object_pat_prop_to pat_to prop_to stmt_to
    class_to function_to param_to switch_case_to ts_enum_member_to var_declarator_to
at_expr m it = fold-roll-Expr ClassMember Decl Expr ModuleDecl ModuleItem ObjectPatProp Pat Prop Stmt Class Function
    Param SwitchCase TsEnumMember VarDeclarator (in_class_member m) (in_decl m) (in_expr m) (in_module_decl m)
    (in_module_item m) (in_object_pat_prop m) (in_pat m) (in_prop m) (in_stmt m) (in_class m) (in_function m)
    (in_param m) (in_switch_case m) (in_ts_enum_member m) (in_var_declarator m) it

pub expr_This : (m : Move) {span span2 : Range} → By (range_to m) span span2
    → By (expr_to m) (vExpr.This span) (vExpr.This span2)
expr_This m {span = span} h0 =
    record {
      is = same1 vExpr.This h0.is ∙ sym (ap (expr_to m) (sym (vExpr.rolls-This span)) ∙ at_expr m
          (Expr-F.Expr::This span));
    }

pub expr_Super : (m : Move) {span span2 : Range} → By (range_to m) span span2
    → By (expr_to m) (vExpr.Super span) (vExpr.Super span2)
expr_Super m {span = span} h0 =
    record {
      is = same1 vExpr.Super h0.is ∙ sym (ap (expr_to m) (sym (vExpr.rolls-Super span)) ∙ at_expr m
          (Expr-F.Super span));
    }

pub expr_Ident : (m : Move) {ident ident2 : Ident} → By (ident_to m) ident ident2
    → By (expr_to m) (vExpr.Ident ident) (vExpr.Ident ident2)
expr_Ident m {ident = ident} h0 =
    record {
      is = same1 vExpr.Ident h0.is ∙ sym (ap (expr_to m) (sym (vExpr.rolls-Ident ident)) ∙ at_expr m
          (Expr-F.Expr::Ident ident));
    }

pub expr_PrivateName : (m : Move) {ident ident2 : Ident} → By (ident_to m) ident ident2
    → By (expr_to m) (vExpr.PrivateName ident) (vExpr.PrivateName ident2)
expr_PrivateName m {ident = ident} h0 =
    record {
      is = same1 vExpr.PrivateName h0.is ∙ sym (ap (expr_to m) (sym (vExpr.rolls-PrivateName ident)) ∙
          at_expr m (Expr-F.PrivateName ident));
    }

pub expr_Lit : (m : Move) {lit lit2 : Lit} → By (lit_to m) lit lit2
    → By (expr_to m) (vExpr.Lit lit) (vExpr.Lit lit2)
expr_Lit m {lit = lit} h0 =
    record {
      is = same1 vExpr.Lit h0.is ∙ sym (ap (expr_to m) (sym (vExpr.rolls-Lit lit)) ∙ at_expr m
          (Expr-F.Lit lit));
    }

pub expr_Hole : (m : Move) {span span2 : Range} → By (range_to m) span span2
    → By (expr_to m) (vExpr.Hole span) (vExpr.Hole span2)
expr_Hole m {span = span} h0 =
    record {
      is = same1 vExpr.Hole h0.is ∙ sym (ap (expr_to m) (sym (vExpr.rolls-Hole span)) ∙ at_expr m
          (Expr-F.Expr::Hole span));
    }

pub expr_Array : (m : Move) {elems elems2 : List Expr} {span span2 : Range} → Each (By (expr_to m)) elems elems2
    → By (range_to m) span span2 → By (expr_to m) (vExpr.Array elems span) (vExpr.Array elems2 span2)
expr_Array m {elems = elems} {span = span} h0 h1 =
    record {
      is = same2 vExpr.Array (each_is h0) h1.is ∙ sym (ap (expr_to m) (sym (vExpr.rolls-Array elems span)) ∙
          at_expr m (Expr-F.Expr::Array elems span));
    }

pub expr_Spread : (m : Move) {expr expr2 : Expr} {span span2 : Range} → By (expr_to m) expr expr2
    → By (range_to m) span span2 → By (expr_to m) (vExpr.Spread expr span) (vExpr.Spread expr2 span2)
expr_Spread m {expr = expr} {span = span} h0 h1 =
    record {
      is = same2 vExpr.Spread h0.is h1.is ∙ sym (ap (expr_to m) (sym (vExpr.rolls-Spread expr span)) ∙
          at_expr m (Expr-F.Expr::Spread expr span));
    }

pub expr_Object : (m : Move) {props props2 : List Prop} {span span2 : Range} → Each (By (prop_to m)) props props2
    → By (range_to m) span span2 → By (expr_to m) (vExpr.Object props span) (vExpr.Object props2 span2)
expr_Object m {props = props} {span = span} h0 h1 =
    record {
      is = same2 vExpr.Object (each_is h0) h1.is ∙ sym
          (ap (expr_to m) (sym (vExpr.rolls-Object props span)) ∙ at_expr m (Expr-F.Expr::Object props span));
    }

pub expr_Fn : (m : Move) {function function2 : Function} → By (function_to m) function function2
    → By (expr_to m) (vExpr.Fn function) (vExpr.Fn function2)
expr_Fn m {function = function} h0 =
    record {
      is = same1 vExpr.Fn h0.is ∙ sym (ap (expr_to m) (sym (vExpr.rolls-Fn function)) ∙ at_expr m
          (Expr-F.Expr::Fn function));
    }

pub expr_Class : (m : Move) {class class2 : Class} → By (class_to m) class class2
    → By (expr_to m) (vExpr.Class class) (vExpr.Class class2)
expr_Class m {class = class} h0 =
    record {
      is = same1 vExpr.Class h0.is ∙ sym (ap (expr_to m) (sym (vExpr.rolls-Class class)) ∙ at_expr m
          (Expr-F.Expr::Class class));
    }

pub expr_Arrow : (m : Move) {function function2 : Function} → By (function_to m) function function2
    → By (expr_to m) (vExpr.Arrow function) (vExpr.Arrow function2)
expr_Arrow m {function = function} h0 =
    record {
      is = same1 vExpr.Arrow h0.is ∙ sym (ap (expr_to m) (sym (vExpr.rolls-Arrow function)) ∙ at_expr m
          (Expr-F.Arrow function));
    }

pub expr_Paren : (m : Move) {expr expr2 : Expr} {span span2 : Range} → By (expr_to m) expr expr2
    → By (range_to m) span span2 → By (expr_to m) (vExpr.Paren expr span) (vExpr.Paren expr2 span2)
expr_Paren m {expr = expr} {span = span} h0 h1 =
    record {
      is = same2 vExpr.Paren h0.is h1.is ∙ sym (ap (expr_to m) (sym (vExpr.rolls-Paren expr span)) ∙ at_expr
          m (Expr-F.Paren expr span));
    }

pub expr_Unary : (m : Move) {op op2 : UnaryOp} {arg arg2 : Expr} {span span2 : Range} → op2 ≡ op
    → By (expr_to m) arg arg2 → By (range_to m) span span2 → By (expr_to m) (vExpr.Unary op arg span)
    (vExpr.Unary op2 arg2 span2)
expr_Unary m {op = op} {arg = arg} {span = span} h0 h1 h2 =
    record {
      is = same3 vExpr.Unary h0 h1.is h2.is ∙ sym (ap (expr_to m) (sym (vExpr.rolls-Unary op arg span)) ∙
          at_expr m (Expr-F.Unary op arg span));
    }

pub expr_Update : (m : Move) {op op2 : UpdateOp} {prefix prefix2 : Bool} {arg arg2 : Expr} {span span2 : Range}
    → op2 ≡ op → prefix2 ≡ prefix → By (expr_to m) arg arg2 → By (range_to m) span span2
    → By (expr_to m) (vExpr.Update op prefix arg span) (vExpr.Update op2 prefix2 arg2 span2)
expr_Update m {op = op} {prefix = prefix} {arg = arg} {span = span} h0 h1 h2 h3 =
    record {
      is = same4 vExpr.Update h0 h1 h2.is h3.is ∙ sym (ap (expr_to m)
          (sym (vExpr.rolls-Update op prefix arg span)) ∙ at_expr m (Expr-F.Update op prefix arg span));
    }

pub expr_Await : (m : Move) {arg arg2 : Expr} {span span2 : Range} → By (expr_to m) arg arg2
    → By (range_to m) span span2 → By (expr_to m) (vExpr.Await arg span) (vExpr.Await arg2 span2)
expr_Await m {arg = arg} {span = span} h0 h1 =
    record {
      is = same2 vExpr.Await h0.is h1.is ∙ sym (ap (expr_to m) (sym (vExpr.rolls-Await arg span)) ∙ at_expr m
          (Expr-F.Await arg span));
    }

expr_Yield_is : (m : Move) (delegate : Bool) (arg : Option Expr) (span : Range)
    → expr_to m (vExpr.Yield delegate arg span) ≡ vExpr.Yield delegate (option_map (expr_to m) arg)
    (range_to m span)
expr_Yield_is m delegate None span =
    ap (expr_to m) (sym (vExpr.rolls-Yield delegate None span)) ∙ at_expr m (Expr-F.Yield delegate None span)
expr_Yield_is m delegate (Some arg) span =
    ap (expr_to m) (sym (vExpr.rolls-Yield delegate (Some arg) span)) ∙ at_expr m
    (Expr-F.Yield delegate (Some arg) span)

pub expr_Yield : (m : Move) {delegate delegate2 : Bool} {arg arg2 : Option Expr} {span span2 : Range}
    → delegate2 ≡ delegate → Opt (By (expr_to m)) arg arg2 → By (range_to m) span span2
    → By (expr_to m) (vExpr.Yield delegate arg span) (vExpr.Yield delegate2 arg2 span2)
expr_Yield m {delegate = delegate} {arg = arg} {span = span} h0 h1 h2 =
    record { is = same3 vExpr.Yield h0 (opt_is h1) h2.is ∙ sym (expr_Yield_is m delegate arg span) }

pub expr_Bin : (m : Move) {op op2 : BinaryOp} {left left2 : Expr} {right right2 : Expr} {span span2 : Range}
    → op2 ≡ op → By (expr_to m) left left2 → By (expr_to m) right right2 → By (range_to m) span span2
    → By (expr_to m) (vExpr.Bin op left right span) (vExpr.Bin op2 left2 right2 span2)
expr_Bin m {op = op} {left = left} {right = right} {span = span} h0 h1 h2 h3 =
    record {
      is = same4 vExpr.Bin h0 h1.is h2.is h3.is ∙ sym (ap (expr_to m)
          (sym (vExpr.rolls-Bin op left right span)) ∙ at_expr m (Expr-F.Bin op left right span));
    }

pub expr_Assign : (m : Move) {op op2 : AssignOp} {left left2 : Pat} {right right2 : Expr} {span span2 : Range}
    → op2 ≡ op → By (pat_to m) left left2 → By (expr_to m) right right2 → By (range_to m) span span2
    → By (expr_to m) (vExpr.Assign op left right span) (vExpr.Assign op2 left2 right2 span2)
expr_Assign m {op = op} {left = left} {right = right} {span = span} h0 h1 h2 h3 =
    record {
      is = same4 vExpr.Assign h0 h1.is h2.is h3.is ∙ sym
          (ap (expr_to m) (sym (vExpr.rolls-Assign op left right span)) ∙ at_expr m
          (Expr-F.Expr::Assign op left right span));
    }

pub expr_Cond : (m : Move) {test test2 : Expr} {cons cons2 : Expr} {alt alt2 : Expr} {span span2 : Range}
    → By (expr_to m) test test2 → By (expr_to m) cons cons2 → By (expr_to m) alt alt2 → By (range_to m) span span2
    → By (expr_to m) (vExpr.Cond test cons alt span) (vExpr.Cond test2 cons2 alt2 span2)
expr_Cond m {test = test} {cons = cons} {alt = alt} {span = span} h0 h1 h2 h3 =
    record {
      is = same4 vExpr.Cond h0.is h1.is h2.is h3.is ∙ sym
          (ap (expr_to m) (sym (vExpr.rolls-Cond test cons alt span)) ∙ at_expr m (Expr-F.Cond test cons alt span));
    }

pub expr_Seq : (m : Move) {exprs exprs2 : List Expr} {span span2 : Range} → Each (By (expr_to m)) exprs exprs2
    → By (range_to m) span span2 → By (expr_to m) (vExpr.Seq exprs span) (vExpr.Seq exprs2 span2)
expr_Seq m {exprs = exprs} {span = span} h0 h1 =
    record {
      is = same2 vExpr.Seq (each_is h0) h1.is ∙ sym (ap (expr_to m) (sym (vExpr.rolls-Seq exprs span)) ∙
          at_expr m (Expr-F.Seq exprs span));
    }

pub expr_Member : (m : Move) {obj obj2 : Expr} {optional optional2 : Bool} {is_private is_private2 : Bool}
    {prop prop2 : Ident} {span span2 : Range} → By (expr_to m) obj obj2 → optional2 ≡ optional
    → is_private2 ≡ is_private → By (ident_to m) prop prop2 → By (range_to m) span span2
    → By (expr_to m) (vExpr.Member obj optional is_private prop span)
    (vExpr.Member obj2 optional2 is_private2 prop2 span2)
expr_Member m {obj = obj} {optional = optional} {is_private = is_private} {prop = prop} {span = span} h0 h1 h2 h3
    h4 =
    record {
      is = same5 vExpr.Member h0.is h1 h2 h3.is h4.is ∙ sym
          (ap (expr_to m) (sym (vExpr.rolls-Member obj optional is_private prop span)) ∙ at_expr m
          (Expr-F.Member obj optional is_private prop span));
    }

pub expr_Index : (m : Move) {obj obj2 : Expr} {optional optional2 : Bool} {prop prop2 : Expr} {span span2 : Range}
    → By (expr_to m) obj obj2 → optional2 ≡ optional → By (expr_to m) prop prop2 → By (range_to m) span span2
    → By (expr_to m) (vExpr.Index obj optional prop span) (vExpr.Index obj2 optional2 prop2 span2)
expr_Index m {obj = obj} {optional = optional} {prop = prop} {span = span} h0 h1 h2 h3 =
    record {
      is = same4 vExpr.Index h0.is h1 h2.is h3.is ∙ sym
          (ap (expr_to m) (sym (vExpr.rolls-Index obj optional prop span)) ∙ at_expr m
          (Expr-F.Index obj optional prop span));
    }

pub expr_Call : (m : Move) {callee callee2 : Expr} {optional optional2 : Bool}
    {type_args type_args2 : Option TsPart} {args args2 : List Expr} {span span2 : Range}
    → By (expr_to m) callee callee2 → optional2 ≡ optional → Opt (By (ts_part_to m)) type_args type_args2
    → Each (By (expr_to m)) args args2 → By (range_to m) span span2
    → By (expr_to m) (vExpr.Call callee optional type_args args span)
    (vExpr.Call callee2 optional2 type_args2 args2 span2)
expr_Call m {callee = callee} {optional = optional} {type_args = type_args} {args = args} {span = span} h0 h1 h2 h3
    h4 =
    record {
      is = same5 vExpr.Call h0.is h1 (opt_is h2) (each_is h3) h4.is ∙ sym
          (ap (expr_to m) (sym (vExpr.rolls-Call callee optional type_args args span)) ∙ at_expr m
          (Expr-F.Call callee optional type_args args span));
    }

pub expr_New : (m : Move) {callee callee2 : Expr} {type_args type_args2 : Option TsPart} {has_args has_args2 : Bool}
    {args args2 : List Expr} {span span2 : Range} → By (expr_to m) callee callee2
    → Opt (By (ts_part_to m)) type_args type_args2 → has_args2 ≡ has_args → Each (By (expr_to m)) args args2
    → By (range_to m) span span2 → By (expr_to m) (vExpr.New callee type_args has_args args span)
    (vExpr.New callee2 type_args2 has_args2 args2 span2)
expr_New m {callee = callee} {type_args = type_args} {has_args = has_args} {args = args} {span = span} h0 h1 h2 h3
    h4 =
    record {
      is = same5 vExpr.New h0.is (opt_is h1) h2 (each_is h3) h4.is ∙ sym
          (ap (expr_to m) (sym (vExpr.rolls-New callee type_args has_args args span)) ∙ at_expr m
          (Expr-F.New callee type_args has_args args span));
    }

pub expr_ImportCall : (m : Move) {phase phase2 : ImportPhase} {args args2 : List Expr} {span span2 : Range}
    → phase2 ≡ phase → Each (By (expr_to m)) args args2 → By (range_to m) span span2
    → By (expr_to m) (vExpr.ImportCall phase args span) (vExpr.ImportCall phase2 args2 span2)
expr_ImportCall m {phase = phase} {args = args} {span = span} h0 h1 h2 =
    record {
      is = same3 vExpr.ImportCall h0 (each_is h1) h2.is ∙ sym
          (ap (expr_to m) (sym (vExpr.rolls-ImportCall phase args span))
          ∙ at_expr m (Expr-F.ImportCall phase args span));
    }

pub expr_ImportMeta : (m : Move) {span span2 : Range} → By (range_to m) span span2
    → By (expr_to m) (vExpr.ImportMeta span) (vExpr.ImportMeta span2)
expr_ImportMeta m {span = span} h0 =
    record {
      is = same1 vExpr.ImportMeta h0.is ∙ sym (ap (expr_to m) (sym (vExpr.rolls-ImportMeta span)) ∙ at_expr m
          (Expr-F.ImportMeta span));
    }

pub expr_NewTarget : (m : Move) {span span2 : Range} → By (range_to m) span span2
    → By (expr_to m) (vExpr.NewTarget span) (vExpr.NewTarget span2)
expr_NewTarget m {span = span} h0 =
    record {
      is = same1 vExpr.NewTarget h0.is ∙ sym (ap (expr_to m) (sym (vExpr.rolls-NewTarget span)) ∙ at_expr m
          (Expr-F.NewTarget span));
    }

pub expr_Tpl : (m : Move) {quasis quasis2 : List TplElement} {exprs exprs2 : List Expr} {span span2 : Range}
    → Each (By (tpl_element_to m)) quasis quasis2 → Each (By (expr_to m)) exprs exprs2 → By (range_to m) span span2
    → By (expr_to m) (vExpr.Tpl quasis exprs span) (vExpr.Tpl quasis2 exprs2 span2)
expr_Tpl m {quasis = quasis} {exprs = exprs} {span = span} h0 h1 h2 =
    record {
      is = same3 vExpr.Tpl (each_is h0) (each_is h1) h2.is ∙ sym
          (ap (expr_to m) (sym (vExpr.rolls-Tpl quasis exprs span)) ∙ at_expr m (Expr-F.Tpl quasis exprs span));
    }

pub expr_TaggedTpl : (m : Move) {tag tag2 : Expr} {type_args type_args2 : Option TsPart} {tpl tpl2 : Expr}
    {span span2 : Range} → By (expr_to m) tag tag2 → Opt (By (ts_part_to m)) type_args type_args2
    → By (expr_to m) tpl tpl2 → By (range_to m) span span2 → By (expr_to m) (vExpr.TaggedTpl tag type_args tpl span)
    (vExpr.TaggedTpl tag2 type_args2 tpl2 span2)
expr_TaggedTpl m {tag = tag} {type_args = type_args} {tpl = tpl} {span = span} h0 h1 h2 h3 =
    record {
      is = same4 vExpr.TaggedTpl h0.is (opt_is h1) h2.is h3.is ∙ sym
          (ap (expr_to m) (sym (vExpr.rolls-TaggedTpl tag type_args tpl span)) ∙ at_expr m
          (Expr-F.TaggedTpl tag type_args tpl span));
    }

pub expr_TsNonNull : (m : Move) {expr expr2 : Expr} {span span2 : Range} → By (expr_to m) expr expr2
    → By (range_to m) span span2 → By (expr_to m) (vExpr.TsNonNull expr span) (vExpr.TsNonNull expr2 span2)
expr_TsNonNull m {expr = expr} {span = span} h0 h1 =
    record {
      is = same2 vExpr.TsNonNull h0.is h1.is ∙ sym (ap (expr_to m) (sym (vExpr.rolls-TsNonNull expr span)) ∙
          at_expr m (Expr-F.TsNonNull expr span));
    }

pub expr_TsAs : (m : Move) {expr expr2 : Expr} {type_ann type_ann2 : Option TsPart} {span span2 : Range}
    → By (expr_to m) expr expr2 → Opt (By (ts_part_to m)) type_ann type_ann2 → By (range_to m) span span2
    → By (expr_to m) (vExpr.TsAs expr type_ann span) (vExpr.TsAs expr2 type_ann2 span2)
expr_TsAs m {expr = expr} {type_ann = type_ann} {span = span} h0 h1 h2 =
    record {
      is = same3 vExpr.TsAs h0.is (opt_is h1) h2.is ∙ sym
          (ap (expr_to m) (sym (vExpr.rolls-TsAs expr type_ann span)) ∙ at_expr m (Expr-F.TsAs expr type_ann span));
    }

pub expr_TsConstAssertion : (m : Move) {expr expr2 : Expr} {span span2 : Range} → By (expr_to m) expr expr2
    → By (range_to m) span span2 → By (expr_to m) (vExpr.TsConstAssertion expr span)
    (vExpr.TsConstAssertion expr2 span2)
expr_TsConstAssertion m {expr = expr} {span = span} h0 h1 =
    record {
      is = same2 vExpr.TsConstAssertion h0.is h1.is ∙ sym
          (ap (expr_to m) (sym (vExpr.rolls-TsConstAssertion expr span))
          ∙ at_expr m (Expr-F.TsConstAssertion expr span));
    }

pub expr_TsSatisfies : (m : Move) {expr expr2 : Expr} {type_ann type_ann2 : Option TsPart} {span span2 : Range}
    → By (expr_to m) expr expr2 → Opt (By (ts_part_to m)) type_ann type_ann2 → By (range_to m) span span2
    → By (expr_to m) (vExpr.TsSatisfies expr type_ann span) (vExpr.TsSatisfies expr2 type_ann2 span2)
expr_TsSatisfies m {expr = expr} {type_ann = type_ann} {span = span} h0 h1 h2 =
    record {
      is = same3 vExpr.TsSatisfies h0.is (opt_is h1) h2.is ∙ sym
          (ap (expr_to m) (sym (vExpr.rolls-TsSatisfies expr type_ann span)) ∙ at_expr m
          (Expr-F.TsSatisfies expr type_ann span));
    }

at_prop : (m : Move) (it : Moved Prop-F) → prop_to m (roll-Prop it) ≡ in_prop m
    (map-Prop ClassMember Decl Expr ModuleDecl ModuleItem ObjectPatProp Pat Prop Stmt Class Function Param
    SwitchCase TsEnumMember VarDeclarator ClassMember Decl Expr ModuleDecl ModuleItem ObjectPatProp Pat Prop Stmt
    Class Function Param SwitchCase TsEnumMember VarDeclarator (class_member_to m) (decl_to m) (expr_to m)
    (module_decl_to m) (module_item_to m) (object_pat_prop_to m) (pat_to m) (prop_to m) (stmt_to m) (class_to m)
    (function_to m) (param_to m) (switch_case_to m) (ts_enum_member_to m) (var_declarator_to m) it)
unfolding class_member_to decl_to expr_to module_decl_to module_item_to object_pat_prop_to pat_to prop_to stmt_to
    class_to function_to param_to switch_case_to ts_enum_member_to var_declarator_to
at_prop m it = fold-roll-Prop ClassMember Decl Expr ModuleDecl ModuleItem ObjectPatProp Pat Prop Stmt Class Function
    Param SwitchCase TsEnumMember VarDeclarator (in_class_member m) (in_decl m) (in_expr m) (in_module_decl m)
    (in_module_item m) (in_object_pat_prop m) (in_pat m) (in_prop m) (in_stmt m) (in_class m) (in_function m)
    (in_param m) (in_switch_case m) (in_ts_enum_member m) (in_var_declarator m) it

pub prop_Spread : (m : Move) {expr expr2 : Expr} {span span2 : Range} → By (expr_to m) expr expr2
    → By (range_to m) span span2 → By (prop_to m) (vProp.Spread expr span) (vProp.Spread expr2 span2)
prop_Spread m {expr = expr} {span = span} h0 h1 =
    record {
      is = same2 vProp.Spread h0.is h1.is ∙ sym (ap (prop_to m) (sym (vProp.rolls-Spread expr span)) ∙
          at_prop m (Prop-F.Prop::Spread expr span));
    }

pub prop_Shorthand : (m : Move) {ident ident2 : Ident} → By (ident_to m) ident ident2
    → By (prop_to m) (vProp.Shorthand ident) (vProp.Shorthand ident2)
prop_Shorthand m {ident = ident} h0 =
    record {
      is = same1 vProp.Shorthand h0.is ∙ sym (ap (prop_to m) (sym (vProp.rolls-Shorthand ident)) ∙ at_prop m
          (Prop-F.Shorthand ident));
    }

pub prop_KeyValue : (m : Move) {computed computed2 : Bool} {key key2 : Expr} {value value2 : Expr}
    {span span2 : Range} → computed2 ≡ computed → By (expr_to m) key key2 → By (expr_to m) value value2
    → By (range_to m) span span2 → By (prop_to m) (vProp.KeyValue computed key value span)
    (vProp.KeyValue computed2 key2 value2 span2)
prop_KeyValue m {computed = computed} {key = key} {value = value} {span = span} h0 h1 h2 h3 =
    record {
      is = same4 vProp.KeyValue h0 h1.is h2.is h3.is ∙ sym
          (ap (prop_to m) (sym (vProp.rolls-KeyValue computed key value span)) ∙ at_prop m
          (Prop-F.Prop::KeyValue computed key value span));
    }

pub prop_Method : (m : Move) {kind kind2 : MethodKind} {computed computed2 : Bool} {key key2 : Expr}
    {function function2 : Function} {span span2 : Range} → kind2 ≡ kind → computed2 ≡ computed
    → By (expr_to m) key key2 → By (function_to m) function function2 → By (range_to m) span span2
    → By (prop_to m) (vProp.Method kind computed key function span)
    (vProp.Method kind2 computed2 key2 function2 span2)
prop_Method m {kind = kind} {computed = computed} {key = key} {function = function} {span = span} h0 h1 h2 h3 h4 =
    record {
      is = same5 vProp.Method h0 h1 h2.is h3.is h4.is ∙ sym
          (ap (prop_to m) (sym (vProp.rolls-Method kind computed key function span)) ∙ at_prop m
          (Prop-F.Prop::Method kind computed key function span));
    }
