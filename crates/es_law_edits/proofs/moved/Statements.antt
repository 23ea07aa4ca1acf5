-- Each form of statements and declarations moves as its parts do.
use Rattle.std.specs.Prelude.{Bool, List, Option, Some, None, option_map, map}
use Rattle.std.proofs.Common.{◌≡◌, sym, ap, ◌∙◌}
use Rattle.base.specs.declared.range.Range.{Range}
use Rattle.es_ast.specs.declared.ts.leaf.Ident.{Ident}
use Rattle.es_ast.specs.declared.ts.leaf.Str.{Str}
use Rattle.es_ast.specs.declared.ts.leaf.TsEntityName.{TsEntityName}
use Rattle.es_ast.specs.declared.ts.ts.TsPart.{TsPart}
use Rattle.es_ast.specs.declared.leaf.VarDeclKind.{VarDeclKind}
use Rattle.es_ast.specs.declared.ast.ModuleItem.{ModuleItem}
use Rattle.es_ast.specs.declared.ast.ModuleDecl.{ModuleDecl}
use Rattle.es_ast.specs.declared.ast.Stmt.{Stmt, roll-Stmt, map-Stmt}
use Rattle.es_ast.specs.declared.ast.Stmt.TheVariants as vStmt
use Rattle.es_ast.specs.declared.ast.Decl.{Decl, roll-Decl, map-Decl}
use Rattle.es_ast.specs.declared.ast.Decl.TheVariants as vDecl
use Rattle.es_ast.specs.declared.ast.Expr.{Expr}
use Rattle.es_ast.specs.declared.ast.Pat.{Pat}
use Rattle.es_ast.specs.declared.ast.ObjectPatProp.{ObjectPatProp}
use Rattle.es_ast.specs.declared.ast.Prop.{Prop}
use Rattle.es_ast.specs.declared.ast.Function.{Function}
use Rattle.es_ast.specs.declared.ast.Param.{Param}
use Rattle.es_ast.specs.declared.ast.VarDeclarator.{VarDeclarator}
use Rattle.es_ast.specs.declared.ast.SwitchCase.{SwitchCase, roll-SwitchCase, map-SwitchCase}
use Rattle.es_ast.specs.declared.ast.TsEnumMember.{TsEnumMember}
use Rattle.es_ast.specs.declared.ast.Class.{Class}
use Rattle.es_ast.specs.declared.ast.ClassMember.{ClassMember}
use Rattle.es_ast.specs.declared.ast.ClassMember.TheOpen.{Decl-F, Stmt-F, SwitchCase-F}
use Rattle.es_ast.specs.declared.ast.ClassMember.TheFolds.{fold-roll-Decl, fold-roll-Stmt, fold-roll-SwitchCase}
use Rattle.es_law_edits.specs.moved.Move.{Move, range_to}
use Rattle.es_law_edits.specs.moved.Leaves.{ident_to, str_to, ts_entity_name_to}
use Rattle.es_law_edits.specs.moved.Types.{ts_part_to}
use Rattle.es_law_edits.specs.moved.Steps.{Moved, in_class_member, in_decl, in_expr, in_module_decl, in_module_item, in_object_pat_prop, in_pat, in_prop, in_stmt, in_class, in_function, in_param, in_switch_case, in_ts_enum_member, in_var_declarator}
use Rattle.es_law_edits.specs.moved.Trees.{module_item_to, module_decl_to, stmt_to, decl_to, expr_to, pat_to, object_pat_prop_to, prop_to, function_to, param_to, var_declarator_to, switch_case_to, ts_enum_member_to, class_to, class_member_to}
use Rattle.es_law_edits.proofs.moved.Rel.{By, Opt, Each, opt_is, each_is}
use Rattle.es_law_edits.proofs.moved.Same.{same1, same2, same3, same4, same5, same6}

at_stmt : (m : Move) (it : Moved Stmt-F) → stmt_to m (roll-Stmt it) ≡ in_stmt m
    (map-Stmt ClassMember Decl Expr ModuleDecl ModuleItem ObjectPatProp Pat Prop Stmt Class Function Param
    SwitchCase TsEnumMember VarDeclarator ClassMember Decl Expr ModuleDecl ModuleItem ObjectPatProp Pat Prop Stmt
    Class Function Param SwitchCase TsEnumMember VarDeclarator (class_member_to m) (decl_to m) (expr_to m)
    (module_decl_to m) (module_item_to m) (object_pat_prop_to m) (pat_to m) (prop_to m) (stmt_to m) (class_to m)
    (function_to m) (param_to m) (switch_case_to m) (ts_enum_member_to m) (var_declarator_to m) it)
unfolding class_member_to decl_to expr_to module_decl_to module_item_to object_pat_prop_to pat_to prop_to stmt_to
    class_to function_to param_to switch_case_to ts_enum_member_to var_declarator_to
at_stmt m it = fold-roll-Stmt ClassMember Decl Expr ModuleDecl ModuleItem ObjectPatProp Pat Prop Stmt Class Function
    Param SwitchCase TsEnumMember VarDeclarator (in_class_member m) (in_decl m) (in_expr m) (in_module_decl m)
    (in_module_item m) (in_object_pat_prop m) (in_pat m) (in_prop m) (in_stmt m) (in_class m) (in_function m)
    (in_param m) (in_switch_case m) (in_ts_enum_member m) (in_var_declarator m) it

pub stmt_Block : (m : Move) {stmts stmts2 : List Stmt} {span span2 : Range} → Each (By (stmt_to m)) stmts stmts2
    → By (range_to m) span span2 → By (stmt_to m) (vStmt.Block stmts span) (vStmt.Block stmts2 span2)
stmt_Block m {stmts = stmts} {span = span} h0 h1 =
    record {
      is = same2 vStmt.Block (each_is h0) h1.is ∙ sym (ap (stmt_to m) (sym (vStmt.rolls-Block stmts span)) ∙
          at_stmt m (Stmt-F.Block stmts span));
    }

pub stmt_Empty : (m : Move) {span span2 : Range} → By (range_to m) span span2
    → By (stmt_to m) (vStmt.Empty span) (vStmt.Empty span2)
stmt_Empty m {span = span} h0 =
    record {
      is = same1 vStmt.Empty h0.is ∙ sym (ap (stmt_to m) (sym (vStmt.rolls-Empty span)) ∙ at_stmt m
          (Stmt-F.Stmt::Empty span));
    }

pub stmt_Debugger : (m : Move) {span span2 : Range} → By (range_to m) span span2
    → By (stmt_to m) (vStmt.Debugger span) (vStmt.Debugger span2)
stmt_Debugger m {span = span} h0 =
    record {
      is = same1 vStmt.Debugger h0.is ∙ sym (ap (stmt_to m) (sym (vStmt.rolls-Debugger span)) ∙ at_stmt m
          (Stmt-F.Debugger span));
    }

pub stmt_With : (m : Move) {obj obj2 : Expr} {body body2 : Stmt} {span span2 : Range} → By (expr_to m) obj obj2
    → By (stmt_to m) body body2 → By (range_to m) span span2 → By (stmt_to m) (vStmt.With obj body span)
    (vStmt.With obj2 body2 span2)
stmt_With m {obj = obj} {body = body} {span = span} h0 h1 h2 =
    record {
      is = same3 vStmt.With h0.is h1.is h2.is ∙ sym (ap (stmt_to m) (sym (vStmt.rolls-With obj body span)) ∙
          at_stmt m (Stmt-F.With obj body span));
    }

stmt_Return_is : (m : Move) (arg : Option Expr) (span : Range)
    → stmt_to m (vStmt.Return arg span) ≡ vStmt.Return (option_map (expr_to m) arg) (range_to m span)
stmt_Return_is m None span =
    ap (stmt_to m) (sym (vStmt.rolls-Return None span)) ∙ at_stmt m (Stmt-F.Return None span)
stmt_Return_is m (Some arg) span =
    ap (stmt_to m) (sym (vStmt.rolls-Return (Some arg) span)) ∙ at_stmt m (Stmt-F.Return (Some arg) span)

pub stmt_Return : (m : Move) {arg arg2 : Option Expr} {span span2 : Range} → Opt (By (expr_to m)) arg arg2
    → By (range_to m) span span2 → By (stmt_to m) (vStmt.Return arg span) (vStmt.Return arg2 span2)
stmt_Return m {arg = arg} {span = span} h0 h1 =
    record { is = same2 vStmt.Return (opt_is h0) h1.is ∙ sym (stmt_Return_is m arg span) }

pub stmt_Labeled : (m : Move) {label label2 : Ident} {body body2 : Stmt} {span span2 : Range}
    → By (ident_to m) label label2 → By (stmt_to m) body body2 → By (range_to m) span span2
    → By (stmt_to m) (vStmt.Labeled label body span) (vStmt.Labeled label2 body2 span2)
stmt_Labeled m {label = label} {body = body} {span = span} h0 h1 h2 =
    record {
      is = same3 vStmt.Labeled h0.is h1.is h2.is ∙ sym
          (ap (stmt_to m) (sym (vStmt.rolls-Labeled label body span)) ∙ at_stmt m (Stmt-F.Labeled label body span));
    }

pub stmt_Break : (m : Move) {label label2 : Option Ident} {span span2 : Range} → Opt (By (ident_to m)) label label2
    → By (range_to m) span span2 → By (stmt_to m) (vStmt.Break label span) (vStmt.Break label2 span2)
stmt_Break m {label = label} {span = span} h0 h1 =
    record {
      is = same2 vStmt.Break (opt_is h0) h1.is ∙ sym (ap (stmt_to m) (sym (vStmt.rolls-Break label span)) ∙
          at_stmt m (Stmt-F.Break label span));
    }

pub stmt_Continue : (m : Move) {label label2 : Option Ident} {span span2 : Range}
    → Opt (By (ident_to m)) label label2 → By (range_to m) span span2
    → By (stmt_to m) (vStmt.Continue label span) (vStmt.Continue label2 span2)
stmt_Continue m {label = label} {span = span} h0 h1 =
    record {
      is = same2 vStmt.Continue (opt_is h0) h1.is ∙ sym
          (ap (stmt_to m) (sym (vStmt.rolls-Continue label span)) ∙ at_stmt m (Stmt-F.Continue label span));
    }

stmt_If_is : (m : Move) (test : Expr) (cons : Stmt) (alt : Option Stmt) (span : Range)
    → stmt_to m (vStmt.If test cons alt span) ≡ vStmt.If (expr_to m test) (stmt_to m cons)
    (option_map (stmt_to m) alt) (range_to m span)
stmt_If_is m test cons None span =
    ap (stmt_to m) (sym (vStmt.rolls-If test cons None span)) ∙ at_stmt m (Stmt-F.If test cons None span)
stmt_If_is m test cons (Some alt) span =
    ap (stmt_to m) (sym (vStmt.rolls-If test cons (Some alt) span)) ∙ at_stmt m
    (Stmt-F.If test cons (Some alt) span)

pub stmt_If : (m : Move) {test test2 : Expr} {cons cons2 : Stmt} {alt alt2 : Option Stmt} {span span2 : Range}
    → By (expr_to m) test test2 → By (stmt_to m) cons cons2 → Opt (By (stmt_to m)) alt alt2
    → By (range_to m) span span2 → By (stmt_to m) (vStmt.If test cons alt span) (vStmt.If test2 cons2 alt2 span2)
stmt_If m {test = test} {cons = cons} {alt = alt} {span = span} h0 h1 h2 h3 =
    record { is = same4 vStmt.If h0.is h1.is (opt_is h2) h3.is ∙ sym (stmt_If_is m test cons alt span) }

pub stmt_Switch : (m : Move) {discriminant discriminant2 : Expr} {cases cases2 : List SwitchCase}
    {span span2 : Range} → By (expr_to m) discriminant discriminant2 → Each (By (switch_case_to m)) cases cases2
    → By (range_to m) span span2 → By (stmt_to m) (vStmt.Switch discriminant cases span)
    (vStmt.Switch discriminant2 cases2 span2)
stmt_Switch m {discriminant = discriminant} {cases = cases} {span = span} h0 h1 h2 =
    record {
      is = same3 vStmt.Switch h0.is (each_is h1) h2.is ∙ sym
          (ap (stmt_to m) (sym (vStmt.rolls-Switch discriminant cases span)) ∙ at_stmt m
          (Stmt-F.Switch discriminant cases span));
    }

pub stmt_Throw : (m : Move) {arg arg2 : Expr} {span span2 : Range} → By (expr_to m) arg arg2
    → By (range_to m) span span2 → By (stmt_to m) (vStmt.Throw arg span) (vStmt.Throw arg2 span2)
stmt_Throw m {arg = arg} {span = span} h0 h1 =
    record {
      is = same2 vStmt.Throw h0.is h1.is ∙ sym (ap (stmt_to m) (sym (vStmt.rolls-Throw arg span)) ∙ at_stmt m
          (Stmt-F.Throw arg span));
    }

stmt_Try_is : (m : Move) (block : Stmt) (param : Option Pat) (handler : Option Stmt) (finalizer : Option Stmt)
    (span : Range) → stmt_to m (vStmt.Try block param handler finalizer span) ≡ vStmt.Try (stmt_to m block)
    (option_map (pat_to m) param) (option_map (stmt_to m) handler) (option_map (stmt_to m) finalizer)
    (range_to m span)
stmt_Try_is m block None None None span =
    ap (stmt_to m) (sym (vStmt.rolls-Try block None None None span)) ∙ at_stmt m
    (Stmt-F.Try block None None None span)
stmt_Try_is m block None None (Some finalizer) span =
    ap (stmt_to m) (sym (vStmt.rolls-Try block None None (Some finalizer) span)) ∙ at_stmt m
    (Stmt-F.Try block None None (Some finalizer) span)
stmt_Try_is m block None (Some handler) None span =
    ap (stmt_to m) (sym (vStmt.rolls-Try block None (Some handler) None span)) ∙ at_stmt m
    (Stmt-F.Try block None (Some handler) None span)
stmt_Try_is m block None (Some handler) (Some finalizer) span =
    ap (stmt_to m) (sym (vStmt.rolls-Try block None (Some handler) (Some finalizer) span)) ∙ at_stmt m
    (Stmt-F.Try block None (Some handler) (Some finalizer) span)
stmt_Try_is m block (Some param) None None span =
    ap (stmt_to m) (sym (vStmt.rolls-Try block (Some param) None None span)) ∙ at_stmt m
    (Stmt-F.Try block (Some param) None None span)
stmt_Try_is m block (Some param) None (Some finalizer) span =
    ap (stmt_to m) (sym (vStmt.rolls-Try block (Some param) None (Some finalizer) span)) ∙ at_stmt m
    (Stmt-F.Try block (Some param) None (Some finalizer) span)
stmt_Try_is m block (Some param) (Some handler) None span =
    ap (stmt_to m) (sym (vStmt.rolls-Try block (Some param) (Some handler) None span)) ∙ at_stmt m
    (Stmt-F.Try block (Some param) (Some handler) None span)
stmt_Try_is m block (Some param) (Some handler) (Some finalizer) span =
    ap (stmt_to m) (sym (vStmt.rolls-Try block (Some param) (Some handler) (Some finalizer) span)) ∙ at_stmt m
    (Stmt-F.Try block (Some param) (Some handler) (Some finalizer) span)

pub stmt_Try : (m : Move) {block block2 : Stmt} {param param2 : Option Pat} {handler handler2 : Option Stmt}
    {finalizer finalizer2 : Option Stmt} {span span2 : Range} → By (stmt_to m) block block2
    → Opt (By (pat_to m)) param param2 → Opt (By (stmt_to m)) handler handler2
    → Opt (By (stmt_to m)) finalizer finalizer2 → By (range_to m) span span2
    → By (stmt_to m) (vStmt.Try block param handler finalizer span)
    (vStmt.Try block2 param2 handler2 finalizer2 span2)
stmt_Try m {block = block} {param = param} {handler = handler} {finalizer = finalizer} {span = span} h0 h1 h2 h3
    h4 =
    record {
      is = same5 vStmt.Try h0.is (opt_is h1) (opt_is h2) (opt_is h3) h4.is ∙ sym
          (stmt_Try_is m block param handler finalizer span);
    }

pub stmt_While : (m : Move) {test test2 : Expr} {body body2 : Stmt} {span span2 : Range} → By (expr_to m) test test2
    → By (stmt_to m) body body2 → By (range_to m) span span2 → By (stmt_to m) (vStmt.While test body span)
    (vStmt.While test2 body2 span2)
stmt_While m {test = test} {body = body} {span = span} h0 h1 h2 =
    record {
      is = same3 vStmt.While h0.is h1.is h2.is ∙ sym (ap (stmt_to m) (sym (vStmt.rolls-While test body span))
          ∙ at_stmt m (Stmt-F.While test body span));
    }

pub stmt_DoWhile : (m : Move) {body body2 : Stmt} {test test2 : Expr} {span span2 : Range}
    → By (stmt_to m) body body2 → By (expr_to m) test test2 → By (range_to m) span span2
    → By (stmt_to m) (vStmt.DoWhile body test span) (vStmt.DoWhile body2 test2 span2)
stmt_DoWhile m {body = body} {test = test} {span = span} h0 h1 h2 =
    record {
      is = same3 vStmt.DoWhile h0.is h1.is h2.is ∙ sym
          (ap (stmt_to m) (sym (vStmt.rolls-DoWhile body test span)) ∙ at_stmt m (Stmt-F.DoWhile body test span));
    }

stmt_For_is : (m : Move) (init : Option Stmt) (test : Option Expr) (update : Option Expr) (body : Stmt)
    (span : Range) → stmt_to m (vStmt.For init test update body span) ≡ vStmt.For (option_map (stmt_to m) init)
    (option_map (expr_to m) test) (option_map (expr_to m) update) (stmt_to m body) (range_to m span)
stmt_For_is m None None None body span =
    ap (stmt_to m) (sym (vStmt.rolls-For None None None body span)) ∙ at_stmt m
    (Stmt-F.For None None None body span)
stmt_For_is m None None (Some update) body span =
    ap (stmt_to m) (sym (vStmt.rolls-For None None (Some update) body span)) ∙ at_stmt m
    (Stmt-F.For None None (Some update) body span)
stmt_For_is m None (Some test) None body span =
    ap (stmt_to m) (sym (vStmt.rolls-For None (Some test) None body span)) ∙ at_stmt m
    (Stmt-F.For None (Some test) None body span)
stmt_For_is m None (Some test) (Some update) body span =
    ap (stmt_to m) (sym (vStmt.rolls-For None (Some test) (Some update) body span)) ∙ at_stmt m
    (Stmt-F.For None (Some test) (Some update) body span)
stmt_For_is m (Some init) None None body span =
    ap (stmt_to m) (sym (vStmt.rolls-For (Some init) None None body span)) ∙ at_stmt m
    (Stmt-F.For (Some init) None None body span)
stmt_For_is m (Some init) None (Some update) body span =
    ap (stmt_to m) (sym (vStmt.rolls-For (Some init) None (Some update) body span)) ∙ at_stmt m
    (Stmt-F.For (Some init) None (Some update) body span)
stmt_For_is m (Some init) (Some test) None body span =
    ap (stmt_to m) (sym (vStmt.rolls-For (Some init) (Some test) None body span)) ∙ at_stmt m
    (Stmt-F.For (Some init) (Some test) None body span)
stmt_For_is m (Some init) (Some test) (Some update) body span =
    ap (stmt_to m) (sym (vStmt.rolls-For (Some init) (Some test) (Some update) body span)) ∙ at_stmt m
    (Stmt-F.For (Some init) (Some test) (Some update) body span)

pub stmt_For : (m : Move) {init init2 : Option Stmt} {test test2 : Option Expr} {update update2 : Option Expr}
    {body body2 : Stmt} {span span2 : Range} → Opt (By (stmt_to m)) init init2 → Opt (By (expr_to m)) test test2
    → Opt (By (expr_to m)) update update2 → By (stmt_to m) body body2 → By (range_to m) span span2
    → By (stmt_to m) (vStmt.For init test update body span) (vStmt.For init2 test2 update2 body2 span2)
stmt_For m {init = init} {test = test} {update = update} {body = body} {span = span} h0 h1 h2 h3 h4 =
    record {
      is = same5 vStmt.For (opt_is h0) (opt_is h1) (opt_is h2) h3.is h4.is ∙ sym
          (stmt_For_is m init test update body span);
    }

pub stmt_ForIn : (m : Move) {kind kind2 : Option VarDeclKind} {left left2 : Pat} {right right2 : Expr}
    {body body2 : Stmt} {span span2 : Range} → kind2 ≡ kind → By (pat_to m) left left2 → By (expr_to m) right right2
    → By (stmt_to m) body body2 → By (range_to m) span span2 → By (stmt_to m)
    (vStmt.ForIn kind left right body span) (vStmt.ForIn kind2 left2 right2 body2 span2)
stmt_ForIn m {kind = kind} {left = left} {right = right} {body = body} {span = span} h0 h1 h2 h3 h4 =
    record {
      is = same5 vStmt.ForIn h0 h1.is h2.is h3.is h4.is ∙ sym
          (ap (stmt_to m) (sym (vStmt.rolls-ForIn kind left right body span)) ∙ at_stmt m
          (Stmt-F.ForIn kind left right body span));
    }

pub stmt_ForOf : (m : Move) {is_await is_await2 : Bool} {kind kind2 : Option VarDeclKind} {left left2 : Pat}
    {right right2 : Expr} {body body2 : Stmt} {span span2 : Range} → is_await2 ≡ is_await → kind2 ≡ kind
    → By (pat_to m) left left2 → By (expr_to m) right right2 → By (stmt_to m) body body2
    → By (range_to m) span span2 → By (stmt_to m) (vStmt.ForOf is_await kind left right body span)
    (vStmt.ForOf is_await2 kind2 left2 right2 body2 span2)
stmt_ForOf m {is_await = is_await} {kind = kind} {left = left} {right = right} {body = body} {span = span} h0 h1 h2
    h3 h4 h5 =
    record {
      is = same6 vStmt.ForOf h0 h1 h2.is h3.is h4.is h5.is ∙ sym
          (ap (stmt_to m) (sym (vStmt.rolls-ForOf is_await kind left right body span)) ∙ at_stmt m
          (Stmt-F.ForOf is_await kind left right body span));
    }

pub stmt_Decl : (m : Move) {decl decl2 : Decl} → By (decl_to m) decl decl2
    → By (stmt_to m) (vStmt.Decl decl) (vStmt.Decl decl2)
stmt_Decl m {decl = decl} h0 =
    record {
      is = same1 vStmt.Decl h0.is ∙ sym (ap (stmt_to m) (sym (vStmt.rolls-Decl decl)) ∙ at_stmt m
          (Stmt-F.Decl decl));
    }

pub stmt_Expr : (m : Move) {expr expr2 : Expr} {span span2 : Range} → By (expr_to m) expr expr2
    → By (range_to m) span span2 → By (stmt_to m) (vStmt.Expr expr span) (vStmt.Expr expr2 span2)
stmt_Expr m {expr = expr} {span = span} h0 h1 =
    record {
      is = same2 vStmt.Expr h0.is h1.is ∙ sym (ap (stmt_to m) (sym (vStmt.rolls-Expr expr span)) ∙ at_stmt m
          (Stmt-F.Stmt::Expr expr span));
    }

at_switch_case : (m : Move) (it : Moved SwitchCase-F) → switch_case_to m (roll-SwitchCase it) ≡ in_switch_case m
    (map-SwitchCase ClassMember Decl Expr ModuleDecl ModuleItem ObjectPatProp Pat Prop Stmt Class Function Param
    SwitchCase TsEnumMember VarDeclarator ClassMember Decl Expr ModuleDecl ModuleItem ObjectPatProp Pat Prop Stmt
    Class Function Param SwitchCase TsEnumMember VarDeclarator (class_member_to m) (decl_to m) (expr_to m)
    (module_decl_to m) (module_item_to m) (object_pat_prop_to m) (pat_to m) (prop_to m) (stmt_to m) (class_to m)
    (function_to m) (param_to m) (switch_case_to m) (ts_enum_member_to m) (var_declarator_to m) it)
unfolding class_member_to decl_to expr_to module_decl_to module_item_to object_pat_prop_to pat_to prop_to stmt_to
    class_to function_to param_to switch_case_to ts_enum_member_to var_declarator_to
at_switch_case m it = fold-roll-SwitchCase ClassMember Decl Expr ModuleDecl ModuleItem ObjectPatProp Pat Prop Stmt
    Class Function Param SwitchCase TsEnumMember VarDeclarator (in_class_member m) (in_decl m) (in_expr m)
    (in_module_decl m) (in_module_item m) (in_object_pat_prop m) (in_pat m) (in_prop m) (in_stmt m) (in_class m)
    (in_function m) (in_param m) (in_switch_case m) (in_ts_enum_member m) (in_var_declarator m) it

switch_case_made_is : (m : Move) (test : Option Expr) (cons : List Stmt) (span : Range)
    → switch_case_to m (roll-SwitchCase (record { test = test; cons = cons; span = span })) ≡ roll-SwitchCase
    (record { test = (option_map (expr_to m) test); cons = (map (stmt_to m) cons); span = (range_to m span) })
switch_case_made_is m None cons span =
    at_switch_case m (record { test = None; cons = cons; span = span })
switch_case_made_is m (Some test) cons span =
    at_switch_case m (record { test = (Some test); cons = cons; span = span })

pub switch_case_made : (m : Move) {test test2 : Option Expr} {cons cons2 : List Stmt} {span span2 : Range}
    → Opt (By (expr_to m)) test test2 → Each (By (stmt_to m)) cons cons2 → By (range_to m) span span2
    → By (switch_case_to m) (roll-SwitchCase (record { test = test; cons = cons; span = span }))
    (roll-SwitchCase (record { test = test2; cons = cons2; span = span2 }))
switch_case_made m {test = test} {cons = cons} {span = span} h0 h1 h2 =
    let make : Option Expr → List Stmt → Range → SwitchCase = λ test cons span. roll-SwitchCase
    (record { test = test; cons = cons; span = span }) in
    record { is = same3 make (opt_is h0) (each_is h1) h2.is ∙ sym (switch_case_made_is m test cons span) }

at_decl : (m : Move) (it : Moved Decl-F) → decl_to m (roll-Decl it) ≡ in_decl m
    (map-Decl ClassMember Decl Expr ModuleDecl ModuleItem ObjectPatProp Pat Prop Stmt Class Function Param
    SwitchCase TsEnumMember VarDeclarator ClassMember Decl Expr ModuleDecl ModuleItem ObjectPatProp Pat Prop Stmt
    Class Function Param SwitchCase TsEnumMember VarDeclarator (class_member_to m) (decl_to m) (expr_to m)
    (module_decl_to m) (module_item_to m) (object_pat_prop_to m) (pat_to m) (prop_to m) (stmt_to m) (class_to m)
    (function_to m) (param_to m) (switch_case_to m) (ts_enum_member_to m) (var_declarator_to m) it)
unfolding class_member_to decl_to expr_to module_decl_to module_item_to object_pat_prop_to pat_to prop_to stmt_to
    class_to function_to param_to switch_case_to ts_enum_member_to var_declarator_to
at_decl m it = fold-roll-Decl ClassMember Decl Expr ModuleDecl ModuleItem ObjectPatProp Pat Prop Stmt Class Function
    Param SwitchCase TsEnumMember VarDeclarator (in_class_member m) (in_decl m) (in_expr m) (in_module_decl m)
    (in_module_item m) (in_object_pat_prop m) (in_pat m) (in_prop m) (in_stmt m) (in_class m) (in_function m)
    (in_param m) (in_switch_case m) (in_ts_enum_member m) (in_var_declarator m) it

pub decl_Class : (m : Move) {declare declare2 : Bool} {class class2 : Class} {span span2 : Range}
    → declare2 ≡ declare → By (class_to m) class class2 → By (range_to m) span span2
    → By (decl_to m) (vDecl.Class declare class span) (vDecl.Class declare2 class2 span2)
decl_Class m {declare = declare} {class = class} {span = span} h0 h1 h2 =
    record {
      is = same3 vDecl.Class h0 h1.is h2.is ∙ sym (ap (decl_to m)
          (sym (vDecl.rolls-Class declare class span)) ∙ at_decl m (Decl-F.Decl::Class declare class span));
    }

pub decl_Fn : (m : Move) {declare declare2 : Bool} {function function2 : Function} {span span2 : Range}
    → declare2 ≡ declare → By (function_to m) function function2 → By (range_to m) span span2
    → By (decl_to m) (vDecl.Fn declare function span) (vDecl.Fn declare2 function2 span2)
decl_Fn m {declare = declare} {function = function} {span = span} h0 h1 h2 =
    record {
      is = same3 vDecl.Fn h0 h1.is h2.is ∙ sym (ap (decl_to m) (sym (vDecl.rolls-Fn declare function span)) ∙
          at_decl m (Decl-F.Decl::Fn declare function span));
    }

pub decl_Var : (m : Move) {declare declare2 : Bool} {kind kind2 : VarDeclKind} {decls decls2 : List VarDeclarator}
    {span span2 : Range} → declare2 ≡ declare → kind2 ≡ kind → Each (By (var_declarator_to m)) decls decls2
    → By (range_to m) span span2 → By (decl_to m) (vDecl.Var declare kind decls span)
    (vDecl.Var declare2 kind2 decls2 span2)
decl_Var m {declare = declare} {kind = kind} {decls = decls} {span = span} h0 h1 h2 h3 =
    record {
      is = same4 vDecl.Var h0 h1 (each_is h2) h3.is ∙ sym
          (ap (decl_to m) (sym (vDecl.rolls-Var declare kind decls span)) ∙ at_decl m
          (Decl-F.Var declare kind decls span));
    }

pub decl_TsInterface : (m : Move) {declare declare2 : Bool} {id id2 : Ident}
    {type_params type_params2 : Option TsPart} {extends extends2 : Option TsPart} {body body2 : Option TsPart}
    {span span2 : Range} → declare2 ≡ declare → By (ident_to m) id id2
    → Opt (By (ts_part_to m)) type_params type_params2 → Opt (By (ts_part_to m)) extends extends2
    → Opt (By (ts_part_to m)) body body2 → By (range_to m) span span2
    → By (decl_to m) (vDecl.TsInterface declare id type_params extends body span)
    (vDecl.TsInterface declare2 id2 type_params2 extends2 body2 span2)
decl_TsInterface m {declare = declare} {id = id} {type_params = type_params} {extends = extends} {body = body}
    {span = span} h0 h1 h2 h3 h4 h5 =
    record {
      is = same6 vDecl.TsInterface h0 h1.is (opt_is h2) (opt_is h3) (opt_is h4) h5.is ∙ sym
          (ap (decl_to m) (sym (vDecl.rolls-TsInterface declare id type_params extends body span)) ∙ at_decl m
          (Decl-F.TsInterface declare id type_params extends body span));
    }

pub decl_TsTypeAlias : (m : Move) {declare declare2 : Bool} {id id2 : Ident}
    {type_params type_params2 : Option TsPart} {type_ann type_ann2 : Option TsPart} {span span2 : Range}
    → declare2 ≡ declare → By (ident_to m) id id2 → Opt (By (ts_part_to m)) type_params type_params2
    → Opt (By (ts_part_to m)) type_ann type_ann2 → By (range_to m) span span2
    → By (decl_to m) (vDecl.TsTypeAlias declare id type_params type_ann span)
    (vDecl.TsTypeAlias declare2 id2 type_params2 type_ann2 span2)
decl_TsTypeAlias m {declare = declare} {id = id} {type_params = type_params} {type_ann = type_ann} {span = span} h0
    h1 h2 h3 h4 =
    record {
      is = same5 vDecl.TsTypeAlias h0 h1.is (opt_is h2) (opt_is h3) h4.is ∙ sym
          (ap (decl_to m) (sym (vDecl.rolls-TsTypeAlias declare id type_params type_ann span)) ∙ at_decl m
          (Decl-F.TsTypeAlias declare id type_params type_ann span));
    }

pub decl_TsEnum : (m : Move) {declare declare2 : Bool} {is_const is_const2 : Bool} {id id2 : Ident}
    {members members2 : List TsEnumMember} {span span2 : Range} → declare2 ≡ declare → is_const2 ≡ is_const
    → By (ident_to m) id id2 → Each (By (ts_enum_member_to m)) members members2 → By (range_to m) span span2
    → By (decl_to m) (vDecl.TsEnum declare is_const id members span)
    (vDecl.TsEnum declare2 is_const2 id2 members2 span2)
decl_TsEnum m {declare = declare} {is_const = is_const} {id = id} {members = members} {span = span} h0 h1 h2 h3 h4 =
    record {
      is = same5 vDecl.TsEnum h0 h1 h2.is (each_is h3) h4.is ∙ sym
          (ap (decl_to m) (sym (vDecl.rolls-TsEnum declare is_const id members span)) ∙ at_decl m
          (Decl-F.TsEnum declare is_const id members span));
    }

pub decl_TsNamespace : (m : Move) {declare declare2 : Bool} {is_module is_module2 : Bool} {id id2 : TsEntityName}
    {body body2 : List ModuleItem} {span span2 : Range} → declare2 ≡ declare → is_module2 ≡ is_module
    → By (ts_entity_name_to m) id id2 → Each (By (module_item_to m)) body body2 → By (range_to m) span span2
    → By (decl_to m) (vDecl.TsNamespace declare is_module id body span)
    (vDecl.TsNamespace declare2 is_module2 id2 body2 span2)
decl_TsNamespace m {declare = declare} {is_module = is_module} {id = id} {body = body} {span = span} h0 h1 h2 h3
    h4 =
    record {
      is = same5 vDecl.TsNamespace h0 h1 h2.is (each_is h3) h4.is ∙ sym
          (ap (decl_to m) (sym (vDecl.rolls-TsNamespace declare is_module id body span)) ∙ at_decl m
          (Decl-F.TsNamespace declare is_module id body span));
    }

pub decl_TsModule : (m : Move) {declare declare2 : Bool} {id id2 : Str} {has_body has_body2 : Bool}
    {body body2 : List ModuleItem} {span span2 : Range} → declare2 ≡ declare → By (str_to m) id id2
    → has_body2 ≡ has_body → Each (By (module_item_to m)) body body2 → By (range_to m) span span2
    → By (decl_to m) (vDecl.TsModule declare id has_body body span)
    (vDecl.TsModule declare2 id2 has_body2 body2 span2)
decl_TsModule m {declare = declare} {id = id} {has_body = has_body} {body = body} {span = span} h0 h1 h2 h3 h4 =
    record {
      is = same5 vDecl.TsModule h0 h1.is h2 (each_is h3) h4.is ∙ sym
          (ap (decl_to m) (sym (vDecl.rolls-TsModule declare id has_body body span)) ∙ at_decl m
          (Decl-F.TsModule declare id has_body body span));
    }

pub decl_TsGlobal : (m : Move) {declare declare2 : Bool} {body body2 : List ModuleItem} {span span2 : Range}
    → declare2 ≡ declare → Each (By (module_item_to m)) body body2 → By (range_to m) span span2
    → By (decl_to m) (vDecl.TsGlobal declare body span) (vDecl.TsGlobal declare2 body2 span2)
decl_TsGlobal m {declare = declare} {body = body} {span = span} h0 h1 h2 =
    record {
      is = same3 vDecl.TsGlobal h0 (each_is h1) h2.is ∙ sym
          (ap (decl_to m) (sym (vDecl.rolls-TsGlobal declare body span))
          ∙ at_decl m (Decl-F.TsGlobal declare body span));
    }
