-- The sites of a node cut their literals where those of its parts do, form by form.
use Rattle.std.specs.Prelude.{Bool, List, [], ◌++◌, Option}
use Rattle.std.specs.List.{flat_map}
use Rattle.std.proofs.Common.{ℕ}
use Rattle.base.specs.declared.range.Range.{Range}
use Rattle.es_ast.specs.declared.ts.leaf.Ident.{Ident}
use Rattle.es_ast.specs.declared.ts.leaf.Str.{Str}
use Rattle.es_ast.specs.declared.ts.leaf.TsEntityName.{TsEntityName}
use Rattle.es_ast.specs.declared.ts.leaf.MethodKind.{MethodKind}
use Rattle.es_ast.specs.declared.ts.leaf.TplElement.{TplElement}
use Rattle.es_ast.specs.declared.ts.ts.TsPart.{TsPart}
use Rattle.es_ast.specs.declared.leaf.Modifiers.{Modifiers}
use Rattle.es_ast.specs.declared.leaf.TsNamespaceExportDecl.{TsNamespaceExportDecl}
use Rattle.es_ast.specs.declared.leaf.UnaryOp.{UnaryOp}
use Rattle.es_ast.specs.declared.leaf.UpdateOp.{UpdateOp}
use Rattle.es_ast.specs.declared.leaf.BinaryOp.{BinaryOp}
use Rattle.es_ast.specs.declared.leaf.AssignOp.{AssignOp}
use Rattle.es_ast.specs.declared.leaf.VarDeclKind.{VarDeclKind}
use Rattle.es_ast.specs.declared.ast.ClassMember.TheVariants as vClassMember
use Rattle.es_ast.specs.declared.ast.Decl.{Decl}
use Rattle.es_ast.specs.declared.ast.Decl.TheVariants as vDecl
use Rattle.es_ast.specs.declared.ast.Expr.{Expr}
use Rattle.es_ast.specs.declared.ast.Expr.TheVariants as vExpr
use Rattle.es_ast.specs.declared.ast.ModuleDecl.{ModuleDecl}
use Rattle.es_ast.specs.declared.ast.ModuleDecl.TheVariants as vModuleDecl
use Rattle.es_ast.specs.declared.ast.ModuleItem.{ModuleItem}
use Rattle.es_ast.specs.declared.ast.ModuleItem.TheVariants as vModuleItem
use Rattle.es_ast.specs.declared.ast.ObjectPatProp.{ObjectPatProp}
use Rattle.es_ast.specs.declared.ast.ObjectPatProp.TheVariants as vObjectPatProp
use Rattle.es_ast.specs.declared.ast.Pat.{Pat}
use Rattle.es_ast.specs.declared.ast.Pat.TheVariants as vPat
use Rattle.es_ast.specs.declared.ast.Prop.{Prop}
use Rattle.es_ast.specs.declared.ast.Prop.TheVariants as vProp
use Rattle.es_ast.specs.declared.ast.Stmt.{Stmt}
use Rattle.es_ast.specs.declared.ast.Stmt.TheVariants as vStmt
use Rattle.es_ast.specs.declared.ast.Class.{Class}
use Rattle.es_ast.specs.declared.ast.Function.{Function}
use Rattle.es_ast.specs.declared.ast.SwitchCase.{SwitchCase}
use Rattle.es_ast.specs.declared.ast.TsEnumMember.{TsEnumMember}
use Rattle.es_ast.specs.declared.ast.VarDeclarator.{VarDeclarator}
use Rattle.es_ast.specs.declared.ast.ClassMember.TheOpen.{Expr-F}
use Rattle.es_site.specs.Sites.{if_some}
use Rattle.es_site.specs.Sites.{sites_of_class_member, sites_of_decl, sites_of_expr, sites_of_module_decl, sites_of_module_item, sites_of_object_pat_prop, sites_of_pat, sites_of_prop, sites_of_stmt, sites_of_function, sites_of_switch_case, sites_of_ts_enum_member, sites_of_var_declarator}
use Rattle.es_site.proofs.Equations.{class_member_Empty, class_member_StaticBlock, class_member_Method, class_member_Prop, class_member_TsIndexSignature, decl_Class, decl_Fn, decl_Var, decl_TsInterface, decl_TsTypeAlias, decl_TsEnum, decl_TsNamespace, decl_TsModule, decl_TsGlobal, expr_This, expr_Super, expr_Ident, expr_PrivateName, expr_Hole, expr_Array, expr_Spread, expr_Object, expr_Fn, expr_Class, expr_Arrow, expr_Paren, expr_Unary, expr_Update, expr_Await, expr_Yield, expr_Bin, expr_Assign, expr_Cond, expr_Seq, expr_Member, expr_Index, expr_Call, expr_New, expr_ImportMeta, expr_NewTarget, expr_Tpl, expr_TaggedTpl, expr_TsNonNull, expr_TsAs, expr_TsConstAssertion, expr_TsSatisfies, module_decl_ExportDecl, module_decl_ExportDefaultDecl, module_decl_ExportDefaultExpr, module_decl_TsExportAssignment, module_decl_TsNamespaceExport, module_item_ModuleDecl, module_item_Stmt, object_pat_prop_KeyValue, object_pat_prop_Assign, object_pat_prop_Rest, pat_Ident, pat_This, pat_Hole, pat_Array, pat_Object, pat_Rest, pat_Assign, pat_Expr, prop_Spread, prop_Shorthand, prop_KeyValue, prop_Method, stmt_Block, stmt_Empty, stmt_Debugger, stmt_With, stmt_Return, stmt_Labeled, stmt_Break, stmt_Continue, stmt_If, stmt_Switch, stmt_Throw, stmt_Try, stmt_While, stmt_DoWhile, stmt_For, stmt_ForIn, stmt_ForOf, stmt_Decl, stmt_Expr}
use Rattle.es_law_sites.proofs.ranges.Cuts.{Each, Opt, ExprCuts, MemberCuts, DeclCuts, ModuleDeclCuts, ItemCuts, PatPropCuts, PatCuts, PropCuts, StmtCuts, ClassCuts, FunctionCuts, CaseCuts, EnumMemberCuts, DeclaratorCuts, cut_both, cut_at, expr_by, exprs_cut, all_cut, expr_if_cut, if_cut}

pub class_member_Empty_cuts : (x : List ℕ) (it : Range) → MemberCuts x (vClassMember.Empty it)
class_member_Empty_cuts x it =
    cut_at x (sites_of_class_member (vClassMember.Empty it)) _ (class_member_Empty [] it) tt

pub class_member_StaticBlock_cuts : (x : List ℕ) (stmts : List Stmt) (span : Range) → Each (StmtCuts x) stmts
    → MemberCuts x (vClassMember.StaticBlock stmts span)
class_member_StaticBlock_cuts x stmts span f0 =
    cut_at x (sites_of_class_member (vClassMember.StaticBlock stmts span)) _ (class_member_StaticBlock [] stmts span)
    (all_cut x sites_of_stmt stmts f0)

pub class_member_Method_cuts : (x : List ℕ) (modifiers : Modifiers) (kind : MethodKind) (computed : Bool) (key : Expr)
    (optional : Bool) (function : Function) (span : Range) → ExprCuts x key → FunctionCuts x function
    → MemberCuts x (vClassMember.Method modifiers kind computed key optional function span)
class_member_Method_cuts x modifiers kind computed key optional function span f0 f1 =
    cut_at x (sites_of_class_member (vClassMember.Method modifiers kind computed key optional function span)) _
    (class_member_Method [] modifiers kind computed key optional function span)
    (cut_both x (sites_of_expr key) (sites_of_function function) f0.0 f1)

pub class_member_Prop_cuts : (x : List ℕ) (modifiers : Modifiers) (computed : Bool) (key : Expr) (optional : Bool)
    (definite : Bool) (type_ann : Option TsPart) (value : Option Expr) (span : Range) → ExprCuts x key
    → Opt (ExprCuts x) value
    → MemberCuts x (vClassMember.Prop modifiers computed key optional definite type_ann value span)
class_member_Prop_cuts x modifiers computed key optional definite type_ann value span f0 f1 =
    cut_at x (sites_of_class_member (vClassMember.Prop modifiers computed key optional definite type_ann value span)) _
    (class_member_Prop [] modifiers computed key optional definite type_ann value span)
    (cut_both x (sites_of_expr key) (if_some sites_of_expr value) f0.0 (expr_if_cut x value f1))

pub class_member_TsIndexSignature_cuts : (x : List ℕ) (modifiers : Modifiers) (name : Ident) (of : Option TsPart)
    (type_ann : Option TsPart) (span : Range)
    → MemberCuts x (vClassMember.TsIndexSignature modifiers name of type_ann span)
class_member_TsIndexSignature_cuts x modifiers name of type_ann span =
    cut_at x (sites_of_class_member (vClassMember.TsIndexSignature modifiers name of type_ann span)) _
    (class_member_TsIndexSignature [] modifiers name of type_ann span) tt

pub decl_Class_cuts : (x : List ℕ) (declare : Bool) (class : Class) (span : Range) → ClassCuts x class
    → DeclCuts x (vDecl.Class declare class span)
decl_Class_cuts x declare class span f0 =
    cut_at x (sites_of_decl (vDecl.Class declare class span)) _ (decl_Class [] declare class span) f0

pub decl_Fn_cuts : (x : List ℕ) (declare : Bool) (function : Function) (span : Range) → FunctionCuts x function
    → DeclCuts x (vDecl.Fn declare function span)
decl_Fn_cuts x declare function span f0 =
    cut_at x (sites_of_decl (vDecl.Fn declare function span)) _ (decl_Fn [] declare function span) f0

pub decl_Var_cuts : (x : List ℕ) (declare : Bool) (kind : VarDeclKind) (decls : List VarDeclarator) (span : Range)
    → Each (DeclaratorCuts x) decls → DeclCuts x (vDecl.Var declare kind decls span)
decl_Var_cuts x declare kind decls span f0 =
    cut_at x (sites_of_decl (vDecl.Var declare kind decls span)) _ (decl_Var [] declare kind decls span)
    (all_cut x sites_of_var_declarator decls f0)

pub decl_TsInterface_cuts : (x : List ℕ) (declare : Bool) (id : Ident) (type_params : Option TsPart)
    (extends : Option TsPart) (body : Option TsPart) (span : Range)
    → DeclCuts x (vDecl.TsInterface declare id type_params extends body span)
decl_TsInterface_cuts x declare id type_params extends body span =
    cut_at x (sites_of_decl (vDecl.TsInterface declare id type_params extends body span)) _
    (decl_TsInterface [] declare id type_params extends body span) tt

pub decl_TsTypeAlias_cuts : (x : List ℕ) (declare : Bool) (id : Ident) (type_params : Option TsPart)
    (type_ann : Option TsPart) (span : Range) → DeclCuts x (vDecl.TsTypeAlias declare id type_params type_ann span)
decl_TsTypeAlias_cuts x declare id type_params type_ann span =
    cut_at x (sites_of_decl (vDecl.TsTypeAlias declare id type_params type_ann span)) _
    (decl_TsTypeAlias [] declare id type_params type_ann span) tt

pub decl_TsEnum_cuts : (x : List ℕ) (declare : Bool) (is_const : Bool) (id : Ident) (members : List TsEnumMember)
    (span : Range) → Each (EnumMemberCuts x) members → DeclCuts x (vDecl.TsEnum declare is_const id members span)
decl_TsEnum_cuts x declare is_const id members span f0 =
    cut_at x (sites_of_decl (vDecl.TsEnum declare is_const id members span)) _
    (decl_TsEnum [] declare is_const id members span) (all_cut x sites_of_ts_enum_member members f0)

pub decl_TsNamespace_cuts : (x : List ℕ) (declare : Bool) (is_module : Bool) (id : TsEntityName)
    (body : List ModuleItem) (span : Range) → Each (ItemCuts x) body
    → DeclCuts x (vDecl.TsNamespace declare is_module id body span)
decl_TsNamespace_cuts x declare is_module id body span f0 =
    cut_at x (sites_of_decl (vDecl.TsNamespace declare is_module id body span)) _
    (decl_TsNamespace [] declare is_module id body span) (all_cut x sites_of_module_item body f0)

pub decl_TsModule_cuts : (x : List ℕ) (declare : Bool) (id : Str) (has_body : Bool) (body : List ModuleItem)
    (span : Range) → Each (ItemCuts x) body → DeclCuts x (vDecl.TsModule declare id has_body body span)
decl_TsModule_cuts x declare id has_body body span f0 =
    cut_at x (sites_of_decl (vDecl.TsModule declare id has_body body span)) _
    (decl_TsModule [] declare id has_body body span) (all_cut x sites_of_module_item body f0)

pub decl_TsGlobal_cuts : (x : List ℕ) (declare : Bool) (body : List ModuleItem) (span : Range)
    → Each (ItemCuts x) body → DeclCuts x (vDecl.TsGlobal declare body span)
decl_TsGlobal_cuts x declare body span f0 =
    cut_at x (sites_of_decl (vDecl.TsGlobal declare body span)) _ (decl_TsGlobal [] declare body span)
    (all_cut x sites_of_module_item body f0)

pub expr_This_cuts : (x : List ℕ) (it : Range) → ExprCuts x (vExpr.This it)
expr_This_cuts x it =
    expr_by x (vExpr.This it) (Expr-F.Expr::This it) _ (vExpr.rolls-This it) (expr_This [] it) tt tt

pub expr_Super_cuts : (x : List ℕ) (it : Range) → ExprCuts x (vExpr.Super it)
expr_Super_cuts x it =
    expr_by x (vExpr.Super it) (Expr-F.Super it) _ (vExpr.rolls-Super it) (expr_Super [] it) tt tt

pub expr_Ident_cuts : (x : List ℕ) (it : Ident) → ExprCuts x (vExpr.Ident it)
expr_Ident_cuts x it =
    expr_by x (vExpr.Ident it) (Expr-F.Expr::Ident it) _ (vExpr.rolls-Ident it) (expr_Ident [] it) tt tt

pub expr_PrivateName_cuts : (x : List ℕ) (it : Ident) → ExprCuts x (vExpr.PrivateName it)
expr_PrivateName_cuts x it =
    expr_by x (vExpr.PrivateName it) (Expr-F.PrivateName it) _ (vExpr.rolls-PrivateName it) (expr_PrivateName [] it) tt
    tt

pub expr_Hole_cuts : (x : List ℕ) (it : Range) → ExprCuts x (vExpr.Hole it)
expr_Hole_cuts x it =
    expr_by x (vExpr.Hole it) (Expr-F.Expr::Hole it) _ (vExpr.rolls-Hole it) (expr_Hole [] it) tt tt

pub expr_Array_cuts : (x : List ℕ) (elems : List Expr) (span : Range) → Each (ExprCuts x) elems
    → ExprCuts x (vExpr.Array elems span)
expr_Array_cuts x elems span f0 =
    expr_by x (vExpr.Array elems span) (Expr-F.Expr::Array elems span) _ (vExpr.rolls-Array elems span)
    (expr_Array [] elems span) (exprs_cut x elems f0) tt

pub expr_Spread_cuts : (x : List ℕ) (expr : Expr) (span : Range) → ExprCuts x expr → ExprCuts x (vExpr.Spread expr span)
expr_Spread_cuts x expr span f0 =
    expr_by x (vExpr.Spread expr span) (Expr-F.Expr::Spread expr span) _ (vExpr.rolls-Spread expr span)
    (expr_Spread [] expr span) f0.0 tt

pub expr_Object_cuts : (x : List ℕ) (props : List Prop) (span : Range) → Each (PropCuts x) props
    → ExprCuts x (vExpr.Object props span)
expr_Object_cuts x props span f0 =
    expr_by x (vExpr.Object props span) (Expr-F.Expr::Object props span) _ (vExpr.rolls-Object props span)
    (expr_Object [] props span) (all_cut x sites_of_prop props f0) tt

pub expr_Fn_cuts : (x : List ℕ) (it : Function) → FunctionCuts x it → ExprCuts x (vExpr.Fn it)
expr_Fn_cuts x it f0 =
    expr_by x (vExpr.Fn it) (Expr-F.Expr::Fn it) _ (vExpr.rolls-Fn it) (expr_Fn [] it) f0 tt

pub expr_Class_cuts : (x : List ℕ) (it : Class) → ClassCuts x it → ExprCuts x (vExpr.Class it)
expr_Class_cuts x it f0 =
    expr_by x (vExpr.Class it) (Expr-F.Expr::Class it) _ (vExpr.rolls-Class it) (expr_Class [] it) f0 tt

pub expr_Arrow_cuts : (x : List ℕ) (it : Function) → FunctionCuts x it → ExprCuts x (vExpr.Arrow it)
expr_Arrow_cuts x it f0 =
    expr_by x (vExpr.Arrow it) (Expr-F.Arrow it) _ (vExpr.rolls-Arrow it) (expr_Arrow [] it) f0 tt

pub expr_Paren_cuts : (x : List ℕ) (expr : Expr) (span : Range) → ExprCuts x expr → ExprCuts x (vExpr.Paren expr span)
expr_Paren_cuts x expr span f0 =
    expr_by x (vExpr.Paren expr span) (Expr-F.Paren expr span) _ (vExpr.rolls-Paren expr span)
    (expr_Paren [] expr span) f0.0 tt

pub expr_Unary_cuts : (x : List ℕ) (op : UnaryOp) (arg : Expr) (span : Range) → ExprCuts x arg
    → ExprCuts x (vExpr.Unary op arg span)
expr_Unary_cuts x op arg span f0 =
    expr_by x (vExpr.Unary op arg span) (Expr-F.Unary op arg span) _ (vExpr.rolls-Unary op arg span)
    (expr_Unary [] op arg span) f0.0 tt

pub expr_Update_cuts : (x : List ℕ) (op : UpdateOp) (prefix : Bool) (arg : Expr) (span : Range) → ExprCuts x arg
    → ExprCuts x (vExpr.Update op prefix arg span)
expr_Update_cuts x op prefix arg span f0 =
    expr_by x (vExpr.Update op prefix arg span) (Expr-F.Update op prefix arg span) _
    (vExpr.rolls-Update op prefix arg span) (expr_Update [] op prefix arg span) f0.0 tt

pub expr_Await_cuts : (x : List ℕ) (arg : Expr) (span : Range) → ExprCuts x arg → ExprCuts x (vExpr.Await arg span)
expr_Await_cuts x arg span f0 =
    expr_by x (vExpr.Await arg span) (Expr-F.Await arg span) _ (vExpr.rolls-Await arg span) (expr_Await [] arg span)
    f0.0 tt

pub expr_Yield_cuts : (x : List ℕ) (delegate : Bool) (arg : Option Expr) (span : Range) → Opt (ExprCuts x) arg
    → ExprCuts x (vExpr.Yield delegate arg span)
expr_Yield_cuts x delegate arg span f0 =
    expr_by x (vExpr.Yield delegate arg span) (Expr-F.Yield delegate arg span) _ (vExpr.rolls-Yield delegate arg span)
    (expr_Yield [] delegate arg span) (expr_if_cut x arg f0) tt

pub expr_Bin_cuts : (x : List ℕ) (op : BinaryOp) (left : Expr) (right : Expr) (span : Range) → ExprCuts x left
    → ExprCuts x right → ExprCuts x (vExpr.Bin op left right span)
expr_Bin_cuts x op left right span f0 f1 =
    expr_by x (vExpr.Bin op left right span) (Expr-F.Bin op left right span) _ (vExpr.rolls-Bin op left right span)
    (expr_Bin [] op left right span) (cut_both x (sites_of_expr left) (sites_of_expr right) f0.0 f1.0) tt

pub expr_Assign_cuts : (x : List ℕ) (op : AssignOp) (left : Pat) (right : Expr) (span : Range) → PatCuts x left
    → ExprCuts x right → ExprCuts x (vExpr.Assign op left right span)
expr_Assign_cuts x op left right span f0 f1 =
    expr_by x (vExpr.Assign op left right span) (Expr-F.Expr::Assign op left right span) _
    (vExpr.rolls-Assign op left right span) (expr_Assign [] op left right span)
    (cut_both x (sites_of_pat left) (sites_of_expr right) f0 f1.0) tt

pub expr_Cond_cuts : (x : List ℕ) (test : Expr) (cons : Expr) (alt : Expr) (span : Range) → ExprCuts x test
    → ExprCuts x cons → ExprCuts x alt → ExprCuts x (vExpr.Cond test cons alt span)
expr_Cond_cuts x test cons alt span f0 f1 f2 =
    expr_by x (vExpr.Cond test cons alt span) (Expr-F.Cond test cons alt span) _ (vExpr.rolls-Cond test cons alt span)
    (expr_Cond [] test cons alt span)
    (cut_both x (sites_of_expr test ++ sites_of_expr cons) (sites_of_expr alt)
    (cut_both x (sites_of_expr test) (sites_of_expr cons) f0.0 f1.0) f2.0) tt

pub expr_Seq_cuts : (x : List ℕ) (exprs : List Expr) (span : Range) → Each (ExprCuts x) exprs
    → ExprCuts x (vExpr.Seq exprs span)
expr_Seq_cuts x exprs span f0 =
    expr_by x (vExpr.Seq exprs span) (Expr-F.Seq exprs span) _ (vExpr.rolls-Seq exprs span) (expr_Seq [] exprs span)
    (exprs_cut x exprs f0) tt

pub expr_Member_cuts : (x : List ℕ) (obj : Expr) (optional : Bool) (is_private : Bool) (prop : Ident) (span : Range)
    → ExprCuts x obj → ExprCuts x (vExpr.Member obj optional is_private prop span)
expr_Member_cuts x obj optional is_private prop span f0 =
    expr_by x (vExpr.Member obj optional is_private prop span) (Expr-F.Member obj optional is_private prop span) _
    (vExpr.rolls-Member obj optional is_private prop span) (expr_Member [] obj optional is_private prop span) f0.0
    tt

pub expr_Index_cuts : (x : List ℕ) (obj : Expr) (optional : Bool) (prop : Expr) (span : Range) → ExprCuts x obj
    → ExprCuts x prop → ExprCuts x (vExpr.Index obj optional prop span)
expr_Index_cuts x obj optional prop span f0 f1 =
    expr_by x (vExpr.Index obj optional prop span) (Expr-F.Index obj optional prop span) _
    (vExpr.rolls-Index obj optional prop span) (expr_Index [] obj optional prop span)
    (cut_both x (sites_of_expr obj) (sites_of_expr prop) f0.0 f1.0) tt

pub expr_Call_cuts : (x : List ℕ) (callee : Expr) (optional : Bool) (type_args : Option TsPart) (args : List Expr)
    (span : Range) → ExprCuts x callee → Each (ExprCuts x) args
    → ExprCuts x (vExpr.Call callee optional type_args args span)
expr_Call_cuts x callee optional type_args args span f0 f1 =
    expr_by x (vExpr.Call callee optional type_args args span) (Expr-F.Call callee optional type_args args span) _
    (vExpr.rolls-Call callee optional type_args args span) (expr_Call [] callee optional type_args args span)
    (cut_both x (sites_of_expr callee) (flat_map sites_of_expr args) f0.0 (exprs_cut x args f1)) tt

pub expr_New_cuts : (x : List ℕ) (callee : Expr) (type_args : Option TsPart) (has_args : Bool) (args : List Expr)
    (span : Range) → ExprCuts x callee → Each (ExprCuts x) args
    → ExprCuts x (vExpr.New callee type_args has_args args span)
expr_New_cuts x callee type_args has_args args span f0 f1 =
    expr_by x (vExpr.New callee type_args has_args args span) (Expr-F.New callee type_args has_args args span) _
    (vExpr.rolls-New callee type_args has_args args span) (expr_New [] callee type_args has_args args span)
    (cut_both x (sites_of_expr callee) (flat_map sites_of_expr args) f0.0 (exprs_cut x args f1)) tt

pub expr_ImportMeta_cuts : (x : List ℕ) (it : Range) → ExprCuts x (vExpr.ImportMeta it)
expr_ImportMeta_cuts x it =
    expr_by x (vExpr.ImportMeta it) (Expr-F.ImportMeta it) _ (vExpr.rolls-ImportMeta it) (expr_ImportMeta [] it) tt tt

pub expr_NewTarget_cuts : (x : List ℕ) (it : Range) → ExprCuts x (vExpr.NewTarget it)
expr_NewTarget_cuts x it =
    expr_by x (vExpr.NewTarget it) (Expr-F.NewTarget it) _ (vExpr.rolls-NewTarget it) (expr_NewTarget [] it) tt tt

pub expr_Tpl_cuts : (x : List ℕ) (quasis : List TplElement) (exprs : List Expr) (span : Range)
    → Each (ExprCuts x) exprs → ExprCuts x (vExpr.Tpl quasis exprs span)
expr_Tpl_cuts x quasis exprs span f0 =
    expr_by x (vExpr.Tpl quasis exprs span) (Expr-F.Tpl quasis exprs span) _ (vExpr.rolls-Tpl quasis exprs span)
    (expr_Tpl [] quasis exprs span) (exprs_cut x exprs f0) tt

pub expr_TaggedTpl_cuts : (x : List ℕ) (tag : Expr) (type_args : Option TsPart) (tpl : Expr) (span : Range)
    → ExprCuts x tag → ExprCuts x tpl → ExprCuts x (vExpr.TaggedTpl tag type_args tpl span)
expr_TaggedTpl_cuts x tag type_args tpl span f0 f1 =
    expr_by x (vExpr.TaggedTpl tag type_args tpl span) (Expr-F.TaggedTpl tag type_args tpl span) _
    (vExpr.rolls-TaggedTpl tag type_args tpl span) (expr_TaggedTpl [] tag type_args tpl span)
    (cut_both x (sites_of_expr tag) (sites_of_expr tpl) f0.0 f1.0) tt

pub expr_TsNonNull_cuts : (x : List ℕ) (expr : Expr) (span : Range) → ExprCuts x expr
    → ExprCuts x (vExpr.TsNonNull expr span)
expr_TsNonNull_cuts x expr span f0 =
    expr_by x (vExpr.TsNonNull expr span) (Expr-F.TsNonNull expr span) _ (vExpr.rolls-TsNonNull expr span)
    (expr_TsNonNull [] expr span) f0.0 tt

pub expr_TsAs_cuts : (x : List ℕ) (expr : Expr) (type_ann : Option TsPart) (span : Range) → ExprCuts x expr
    → ExprCuts x (vExpr.TsAs expr type_ann span)
expr_TsAs_cuts x expr type_ann span f0 =
    expr_by x (vExpr.TsAs expr type_ann span) (Expr-F.TsAs expr type_ann span) _ (vExpr.rolls-TsAs expr type_ann span)
    (expr_TsAs [] expr type_ann span) f0.0 tt

pub expr_TsConstAssertion_cuts : (x : List ℕ) (expr : Expr) (span : Range) → ExprCuts x expr
    → ExprCuts x (vExpr.TsConstAssertion expr span)
expr_TsConstAssertion_cuts x expr span f0 =
    expr_by x (vExpr.TsConstAssertion expr span) (Expr-F.TsConstAssertion expr span) _
    (vExpr.rolls-TsConstAssertion expr span) (expr_TsConstAssertion [] expr span) f0.0 tt

pub expr_TsSatisfies_cuts : (x : List ℕ) (expr : Expr) (type_ann : Option TsPart) (span : Range) → ExprCuts x expr
    → ExprCuts x (vExpr.TsSatisfies expr type_ann span)
expr_TsSatisfies_cuts x expr type_ann span f0 =
    expr_by x (vExpr.TsSatisfies expr type_ann span) (Expr-F.TsSatisfies expr type_ann span) _
    (vExpr.rolls-TsSatisfies expr type_ann span) (expr_TsSatisfies [] expr type_ann span) f0.0 tt

pub module_decl_ExportDecl_cuts : (x : List ℕ) (decl : Decl) (span : Range) → DeclCuts x decl
    → ModuleDeclCuts x (vModuleDecl.ExportDecl decl span)
module_decl_ExportDecl_cuts x decl span f0 =
    cut_at x (sites_of_module_decl (vModuleDecl.ExportDecl decl span)) _ (module_decl_ExportDecl [] decl span) f0

pub module_decl_ExportDefaultDecl_cuts : (x : List ℕ) (decl : Decl) (span : Range) → DeclCuts x decl
    → ModuleDeclCuts x (vModuleDecl.ExportDefaultDecl decl span)
module_decl_ExportDefaultDecl_cuts x decl span f0 =
    cut_at x (sites_of_module_decl (vModuleDecl.ExportDefaultDecl decl span)) _
    (module_decl_ExportDefaultDecl [] decl span) f0

pub module_decl_ExportDefaultExpr_cuts : (x : List ℕ) (expr : Expr) (span : Range) → ExprCuts x expr
    → ModuleDeclCuts x (vModuleDecl.ExportDefaultExpr expr span)
module_decl_ExportDefaultExpr_cuts x expr span f0 =
    cut_at x (sites_of_module_decl (vModuleDecl.ExportDefaultExpr expr span)) _
    (module_decl_ExportDefaultExpr [] expr span) f0.0

pub module_decl_TsExportAssignment_cuts : (x : List ℕ) (expr : Expr) (span : Range) → ExprCuts x expr
    → ModuleDeclCuts x (vModuleDecl.TsExportAssignment expr span)
module_decl_TsExportAssignment_cuts x expr span f0 =
    cut_at x (sites_of_module_decl (vModuleDecl.TsExportAssignment expr span)) _
    (module_decl_TsExportAssignment [] expr span) f0.0

pub module_decl_TsNamespaceExport_cuts : (x : List ℕ) (it : TsNamespaceExportDecl)
    → ModuleDeclCuts x (vModuleDecl.TsNamespaceExport it)
module_decl_TsNamespaceExport_cuts x it =
    cut_at x (sites_of_module_decl (vModuleDecl.TsNamespaceExport it)) _ (module_decl_TsNamespaceExport [] it) tt

pub module_item_ModuleDecl_cuts : (x : List ℕ) (it : ModuleDecl) → ModuleDeclCuts x it
    → ItemCuts x (vModuleItem.ModuleDecl it)
module_item_ModuleDecl_cuts x it f0 =
    cut_at x (sites_of_module_item (vModuleItem.ModuleDecl it)) _ (module_item_ModuleDecl [] it) f0

pub module_item_Stmt_cuts : (x : List ℕ) (it : Stmt) → StmtCuts x it → ItemCuts x (vModuleItem.Stmt it)
module_item_Stmt_cuts x it f0 =
    cut_at x (sites_of_module_item (vModuleItem.Stmt it)) _ (module_item_Stmt [] it) f0

pub object_pat_prop_KeyValue_cuts : (x : List ℕ) (computed : Bool) (key : Expr) (value : Pat) (span : Range)
    → ExprCuts x key → PatCuts x value → PatPropCuts x (vObjectPatProp.KeyValue computed key value span)
object_pat_prop_KeyValue_cuts x computed key value span f0 f1 =
    cut_at x (sites_of_object_pat_prop (vObjectPatProp.KeyValue computed key value span)) _
    (object_pat_prop_KeyValue [] computed key value span)
    (cut_both x (sites_of_expr key) (sites_of_pat value) f0.0 f1)

pub object_pat_prop_Assign_cuts : (x : List ℕ) (key : Ident) (value : Option Expr) (span : Range)
    → Opt (ExprCuts x) value → PatPropCuts x (vObjectPatProp.Assign key value span)
object_pat_prop_Assign_cuts x key value span f0 =
    cut_at x (sites_of_object_pat_prop (vObjectPatProp.Assign key value span)) _
    (object_pat_prop_Assign [] key value span) (expr_if_cut x value f0)

pub object_pat_prop_Rest_cuts : (x : List ℕ) (arg : Pat) (span : Range) → PatCuts x arg
    → PatPropCuts x (vObjectPatProp.Rest arg span)
object_pat_prop_Rest_cuts x arg span f0 =
    cut_at x (sites_of_object_pat_prop (vObjectPatProp.Rest arg span)) _ (object_pat_prop_Rest [] arg span) f0

pub pat_Ident_cuts : (x : List ℕ) (id : Ident) (type_ann : Option TsPart) (span : Range)
    → PatCuts x (vPat.Ident id type_ann span)
pat_Ident_cuts x id type_ann span =
    cut_at x (sites_of_pat (vPat.Ident id type_ann span)) _ (pat_Ident [] id type_ann span) tt

pub pat_This_cuts : (x : List ℕ) (type_ann : Option TsPart) (span : Range) → PatCuts x (vPat.This type_ann span)
pat_This_cuts x type_ann span =
    cut_at x (sites_of_pat (vPat.This type_ann span)) _ (pat_This [] type_ann span) tt

pub pat_Hole_cuts : (x : List ℕ) (it : Range) → PatCuts x (vPat.Hole it)
pat_Hole_cuts x it =
    cut_at x (sites_of_pat (vPat.Hole it)) _ (pat_Hole [] it) tt

pub pat_Array_cuts : (x : List ℕ) (elems : List Pat) (optional : Bool) (type_ann : Option TsPart) (span : Range)
    → Each (PatCuts x) elems → PatCuts x (vPat.Array elems optional type_ann span)
pat_Array_cuts x elems optional type_ann span f0 =
    cut_at x (sites_of_pat (vPat.Array elems optional type_ann span)) _ (pat_Array [] elems optional type_ann span)
    (all_cut x sites_of_pat elems f0)

pub pat_Object_cuts : (x : List ℕ) (props : List ObjectPatProp) (optional : Bool) (type_ann : Option TsPart)
    (span : Range) → Each (PatPropCuts x) props → PatCuts x (vPat.Object props optional type_ann span)
pat_Object_cuts x props optional type_ann span f0 =
    cut_at x (sites_of_pat (vPat.Object props optional type_ann span)) _ (pat_Object [] props optional type_ann span)
    (all_cut x sites_of_object_pat_prop props f0)

pub pat_Rest_cuts : (x : List ℕ) (arg : Pat) (type_ann : Option TsPart) (span : Range) → PatCuts x arg
    → PatCuts x (vPat.Rest arg type_ann span)
pat_Rest_cuts x arg type_ann span f0 =
    cut_at x (sites_of_pat (vPat.Rest arg type_ann span)) _ (pat_Rest [] arg type_ann span) f0

pub pat_Assign_cuts : (x : List ℕ) (left : Pat) (right : Expr) (span : Range) → PatCuts x left → ExprCuts x right
    → PatCuts x (vPat.Assign left right span)
pat_Assign_cuts x left right span f0 f1 =
    cut_at x (sites_of_pat (vPat.Assign left right span)) _ (pat_Assign [] left right span)
    (cut_both x (sites_of_pat left) (sites_of_expr right) f0 f1.0)

pub pat_Expr_cuts : (x : List ℕ) (it : Expr) → ExprCuts x it → PatCuts x (vPat.Expr it)
pat_Expr_cuts x it f0 =
    cut_at x (sites_of_pat (vPat.Expr it)) _ (pat_Expr [] it) f0.0

pub prop_Spread_cuts : (x : List ℕ) (expr : Expr) (span : Range) → ExprCuts x expr → PropCuts x (vProp.Spread expr span)
prop_Spread_cuts x expr span f0 =
    cut_at x (sites_of_prop (vProp.Spread expr span)) _ (prop_Spread [] expr span) f0.0

pub prop_Shorthand_cuts : (x : List ℕ) (it : Ident) → PropCuts x (vProp.Shorthand it)
prop_Shorthand_cuts x it =
    cut_at x (sites_of_prop (vProp.Shorthand it)) _ (prop_Shorthand [] it) tt

pub prop_KeyValue_cuts : (x : List ℕ) (computed : Bool) (key : Expr) (value : Expr) (span : Range) → ExprCuts x key
    → ExprCuts x value → PropCuts x (vProp.KeyValue computed key value span)
prop_KeyValue_cuts x computed key value span f0 f1 =
    cut_at x (sites_of_prop (vProp.KeyValue computed key value span)) _ (prop_KeyValue [] computed key value span)
    (cut_both x (sites_of_expr key) (sites_of_expr value) f0.0 f1.0)

pub prop_Method_cuts : (x : List ℕ) (kind : MethodKind) (computed : Bool) (key : Expr) (function : Function)
    (span : Range) → ExprCuts x key → FunctionCuts x function
    → PropCuts x (vProp.Method kind computed key function span)
prop_Method_cuts x kind computed key function span f0 f1 =
    cut_at x (sites_of_prop (vProp.Method kind computed key function span)) _
    (prop_Method [] kind computed key function span)
    (cut_both x (sites_of_expr key) (sites_of_function function) f0.0 f1)

pub stmt_Block_cuts : (x : List ℕ) (stmts : List Stmt) (span : Range) → Each (StmtCuts x) stmts
    → StmtCuts x (vStmt.Block stmts span)
stmt_Block_cuts x stmts span f0 =
    cut_at x (sites_of_stmt (vStmt.Block stmts span)) _ (stmt_Block [] stmts span) (all_cut x sites_of_stmt stmts f0)

pub stmt_Empty_cuts : (x : List ℕ) (it : Range) → StmtCuts x (vStmt.Empty it)
stmt_Empty_cuts x it =
    cut_at x (sites_of_stmt (vStmt.Empty it)) _ (stmt_Empty [] it) tt

pub stmt_Debugger_cuts : (x : List ℕ) (it : Range) → StmtCuts x (vStmt.Debugger it)
stmt_Debugger_cuts x it =
    cut_at x (sites_of_stmt (vStmt.Debugger it)) _ (stmt_Debugger [] it) tt

pub stmt_With_cuts : (x : List ℕ) (obj : Expr) (body : Stmt) (span : Range) → ExprCuts x obj → StmtCuts x body
    → StmtCuts x (vStmt.With obj body span)
stmt_With_cuts x obj body span f0 f1 =
    cut_at x (sites_of_stmt (vStmt.With obj body span)) _ (stmt_With [] obj body span)
    (cut_both x (sites_of_expr obj) (sites_of_stmt body) f0.0 f1)

pub stmt_Return_cuts : (x : List ℕ) (arg : Option Expr) (span : Range) → Opt (ExprCuts x) arg
    → StmtCuts x (vStmt.Return arg span)
stmt_Return_cuts x arg span f0 =
    cut_at x (sites_of_stmt (vStmt.Return arg span)) _ (stmt_Return [] arg span) (expr_if_cut x arg f0)

pub stmt_Labeled_cuts : (x : List ℕ) (label : Ident) (body : Stmt) (span : Range) → StmtCuts x body
    → StmtCuts x (vStmt.Labeled label body span)
stmt_Labeled_cuts x label body span f0 =
    cut_at x (sites_of_stmt (vStmt.Labeled label body span)) _ (stmt_Labeled [] label body span) f0

pub stmt_Break_cuts : (x : List ℕ) (label : Option Ident) (span : Range) → StmtCuts x (vStmt.Break label span)
stmt_Break_cuts x label span =
    cut_at x (sites_of_stmt (vStmt.Break label span)) _ (stmt_Break [] label span) tt

pub stmt_Continue_cuts : (x : List ℕ) (label : Option Ident) (span : Range) → StmtCuts x (vStmt.Continue label span)
stmt_Continue_cuts x label span =
    cut_at x (sites_of_stmt (vStmt.Continue label span)) _ (stmt_Continue [] label span) tt

pub stmt_If_cuts : (x : List ℕ) (test : Expr) (cons : Stmt) (alt : Option Stmt) (span : Range) → ExprCuts x test
    → StmtCuts x cons → Opt (StmtCuts x) alt → StmtCuts x (vStmt.If test cons alt span)
stmt_If_cuts x test cons alt span f0 f1 f2 =
    cut_at x (sites_of_stmt (vStmt.If test cons alt span)) _ (stmt_If [] test cons alt span)
    (cut_both x (sites_of_expr test ++ sites_of_stmt cons) (if_some sites_of_stmt alt)
    (cut_both x (sites_of_expr test) (sites_of_stmt cons) f0.0 f1) (if_cut x sites_of_stmt alt f2))

pub stmt_Switch_cuts : (x : List ℕ) (discriminant : Expr) (cases : List SwitchCase) (span : Range)
    → ExprCuts x discriminant → Each (CaseCuts x) cases → StmtCuts x (vStmt.Switch discriminant cases span)
stmt_Switch_cuts x discriminant cases span f0 f1 =
    cut_at x (sites_of_stmt (vStmt.Switch discriminant cases span)) _ (stmt_Switch [] discriminant cases span)
    (cut_both x (sites_of_expr discriminant) (flat_map sites_of_switch_case cases) f0.0
    (all_cut x sites_of_switch_case cases f1))

pub stmt_Throw_cuts : (x : List ℕ) (arg : Expr) (span : Range) → ExprCuts x arg → StmtCuts x (vStmt.Throw arg span)
stmt_Throw_cuts x arg span f0 =
    cut_at x (sites_of_stmt (vStmt.Throw arg span)) _ (stmt_Throw [] arg span) f0.0

pub stmt_Try_cuts : (x : List ℕ) (block : Stmt) (param : Option Pat) (handler : Option Stmt) (finalizer : Option Stmt)
    (span : Range) → StmtCuts x block → Opt (PatCuts x) param → Opt (StmtCuts x) handler → Opt (StmtCuts x) finalizer
    → StmtCuts x (vStmt.Try block param handler finalizer span)
stmt_Try_cuts x block param handler finalizer span f0 f1 f2 f3 =
    cut_at x (sites_of_stmt (vStmt.Try block param handler finalizer span)) _
    (stmt_Try [] block param handler finalizer span)
    (cut_both x (sites_of_stmt block ++ if_some sites_of_pat param ++ if_some sites_of_stmt handler)
    (if_some sites_of_stmt finalizer)
    (cut_both x (sites_of_stmt block ++ if_some sites_of_pat param) (if_some sites_of_stmt handler)
    (cut_both x (sites_of_stmt block) (if_some sites_of_pat param) f0
    (if_cut x sites_of_pat param f1)) (if_cut x sites_of_stmt handler f2))
    (if_cut x sites_of_stmt finalizer f3))

pub stmt_While_cuts : (x : List ℕ) (test : Expr) (body : Stmt) (span : Range) → ExprCuts x test → StmtCuts x body
    → StmtCuts x (vStmt.While test body span)
stmt_While_cuts x test body span f0 f1 =
    cut_at x (sites_of_stmt (vStmt.While test body span)) _ (stmt_While [] test body span)
    (cut_both x (sites_of_expr test) (sites_of_stmt body) f0.0 f1)

pub stmt_DoWhile_cuts : (x : List ℕ) (body : Stmt) (test : Expr) (span : Range) → StmtCuts x body → ExprCuts x test
    → StmtCuts x (vStmt.DoWhile body test span)
stmt_DoWhile_cuts x body test span f0 f1 =
    cut_at x (sites_of_stmt (vStmt.DoWhile body test span)) _ (stmt_DoWhile [] body test span)
    (cut_both x (sites_of_stmt body) (sites_of_expr test) f0 f1.0)

pub stmt_For_cuts : (x : List ℕ) (init : Option Stmt) (test : Option Expr) (update : Option Expr) (body : Stmt)
    (span : Range) → Opt (StmtCuts x) init → Opt (ExprCuts x) test → Opt (ExprCuts x) update → StmtCuts x body
    → StmtCuts x (vStmt.For init test update body span)
stmt_For_cuts x init test update body span f0 f1 f2 f3 =
    cut_at x (sites_of_stmt (vStmt.For init test update body span)) _ (stmt_For [] init test update body span)
    (cut_both x (if_some sites_of_stmt init ++ if_some sites_of_expr test ++ if_some sites_of_expr update)
    (sites_of_stmt body)
    (cut_both x (if_some sites_of_stmt init ++ if_some sites_of_expr test) (if_some sites_of_expr update)
    (cut_both x (if_some sites_of_stmt init) (if_some sites_of_expr test)
    (if_cut x sites_of_stmt init f0) (expr_if_cut x test f1)) (expr_if_cut x update f2)) f3)

pub stmt_ForIn_cuts : (x : List ℕ) (kind : Option VarDeclKind) (left : Pat) (right : Expr) (body : Stmt) (span : Range)
    → PatCuts x left → ExprCuts x right → StmtCuts x body → StmtCuts x (vStmt.ForIn kind left right body span)
stmt_ForIn_cuts x kind left right body span f0 f1 f2 =
    cut_at x (sites_of_stmt (vStmt.ForIn kind left right body span)) _ (stmt_ForIn [] kind left right body span)
    (cut_both x (sites_of_pat left ++ sites_of_expr right) (sites_of_stmt body)
    (cut_both x (sites_of_pat left) (sites_of_expr right) f0 f1.0) f2)

pub stmt_ForOf_cuts : (x : List ℕ) (is_await : Bool) (kind : Option VarDeclKind) (left : Pat) (right : Expr)
    (body : Stmt) (span : Range) → PatCuts x left → ExprCuts x right → StmtCuts x body
    → StmtCuts x (vStmt.ForOf is_await kind left right body span)
stmt_ForOf_cuts x is_await kind left right body span f0 f1 f2 =
    cut_at x (sites_of_stmt (vStmt.ForOf is_await kind left right body span)) _
    (stmt_ForOf [] is_await kind left right body span)
    (cut_both x (sites_of_pat left ++ sites_of_expr right) (sites_of_stmt body)
    (cut_both x (sites_of_pat left) (sites_of_expr right) f0 f1.0) f2)

pub stmt_Decl_cuts : (x : List ℕ) (it : Decl) → DeclCuts x it → StmtCuts x (vStmt.Decl it)
stmt_Decl_cuts x it f0 =
    cut_at x (sites_of_stmt (vStmt.Decl it)) _ (stmt_Decl [] it) f0

pub stmt_Expr_cuts : (x : List ℕ) (expr : Expr) (span : Range) → ExprCuts x expr → StmtCuts x (vStmt.Expr expr span)
stmt_Expr_cuts x expr span f0 =
    cut_at x (sites_of_stmt (vStmt.Expr expr span)) _ (stmt_Expr [] expr span) f0.0
