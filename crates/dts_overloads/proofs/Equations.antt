-- The ranges among those of each form, from those of its parts.
use Rattle.std.specs.Prelude.{Bool, true, false, ◌||◌, List, [], ◌∷◌, ◌++◌, Option, Some, None, map}
use Rattle.std.specs.Option.{option_map}
use Rattle.std.specs.List.{flat_map}
use Rattle.std.proofs.Common.{◌≡◌, refl, sym, ap, ◌∙◌}
use Rattle.std.proofs.Math.Path.{fun_ext}
use Rattle.base.specs.declared.range.Range.{Range}
use Rattle.es_ast.specs.declared.ts.leaf.Ident.{Ident}
use Rattle.es_ast.specs.declared.ts.leaf.MethodKind.{MethodKind}
use Rattle.es_ast.specs.declared.ts.leaf.Str.{Str}
use Rattle.es_ast.specs.declared.ts.leaf.TplElement.{TplElement}
use Rattle.es_ast.specs.declared.ts.leaf.TsEntityName.{TsEntityName}
use Rattle.es_ast.specs.declared.ts.ts.TsPart.{TsPart}
use Rattle.es_ast.specs.declared.leaf.ExportAll.{ExportAll}
use Rattle.es_ast.specs.declared.leaf.ImportDecl.{ImportDecl}
use Rattle.es_ast.specs.declared.leaf.ImportPhase.{ImportPhase}
use Rattle.es_ast.specs.declared.leaf.Lit.{Lit}
use Rattle.es_ast.specs.declared.leaf.Modifiers.{Modifiers}
use Rattle.es_ast.specs.declared.leaf.NamedExport.{NamedExport}
use Rattle.es_ast.specs.declared.leaf.TsImportEqualsDecl.{TsImportEqualsDecl}
use Rattle.es_ast.specs.declared.leaf.TsNamespaceExportDecl.{TsNamespaceExportDecl}
use Rattle.es_ast.specs.declared.leaf.UnaryOp.{UnaryOp}
use Rattle.es_ast.specs.declared.leaf.UpdateOp.{UpdateOp}
use Rattle.es_ast.specs.declared.leaf.BinaryOp.{BinaryOp}
use Rattle.es_ast.specs.declared.leaf.AssignOp.{AssignOp}
use Rattle.es_ast.specs.declared.leaf.VarDeclKind.{VarDeclKind}
use Rattle.es_ast.specs.declared.ast.ClassMember.{ClassMember}
use Rattle.es_ast.specs.declared.ast.ClassMember.TheVariants as vMember
use Rattle.es_ast.specs.declared.ast.Decl.{Decl}
use Rattle.es_ast.specs.declared.ast.Decl.TheVariants as vDecl
use Rattle.es_ast.specs.declared.ast.Expr.{Expr}
use Rattle.es_ast.specs.declared.ast.Expr.TheVariants as vExpr
use Rattle.es_ast.specs.declared.ast.ModuleDecl.{ModuleDecl}
use Rattle.es_ast.specs.declared.ast.ModuleDecl.TheVariants as vModuleDecl
use Rattle.es_ast.specs.declared.ast.ModuleItem.{ModuleItem}
use Rattle.es_ast.specs.declared.ast.ModuleItem.TheVariants as vItem
use Rattle.es_ast.specs.declared.ast.ObjectPatProp.{ObjectPatProp}
use Rattle.es_ast.specs.declared.ast.ObjectPatProp.TheVariants as vPatProp
use Rattle.es_ast.specs.declared.ast.Pat.{Pat}
use Rattle.es_ast.specs.declared.ast.Pat.TheVariants as vPat
use Rattle.es_ast.specs.declared.ast.Prop.{Prop}
use Rattle.es_ast.specs.declared.ast.Prop.TheVariants as vProp
use Rattle.es_ast.specs.declared.ast.Stmt.{Stmt}
use Rattle.es_ast.specs.declared.ast.Stmt.TheVariants as vStmt
use Rattle.es_ast.specs.declared.ast.Class.{Class, roll-Class}
use Rattle.es_ast.specs.declared.ast.Function.{Function, roll-Function}
use Rattle.es_ast.specs.declared.ast.Param.{Param, roll-Param}
use Rattle.es_ast.specs.declared.ast.SwitchCase.{SwitchCase, roll-SwitchCase}
use Rattle.es_ast.specs.declared.ast.TsEnumMember.{TsEnumMember, roll-TsEnumMember}
use Rattle.es_ast.specs.declared.ast.VarDeclarator.{VarDeclarator, roll-VarDeclarator}
use Rattle.es_ast.specs.declared.ast.ClassMember.TheOpen.{ClassMember-F, Decl-F, Expr-F, ModuleDecl-F, ModuleItem-F, ObjectPatProp-F, Pat-F, Prop-F, Stmt-F, Class-F, Function-F, Param-F, SwitchCase-F, TsEnumMember-F, VarDeclarator-F}
use Rattle.es_site.specs.Parts.{Whole}
use Rattle.dts_rules.specs.Ranges.{Ranges, Head, Listed, Seen, SeenDecl, SeenFunction, implements, in_list, all, each, if_there, if_expr, if_stmt, same_range, has_range, listed_member, seen_decl, seen_expr, listed_module_decl, listed_item, pat_prop_ranges, pat_ranges, prop_ranges, listed_stmt, class_ranges, seen_function, param_ranges, case_ranges, enum_member_ranges, declarator_ranges}
use Rattle.dts_rules.proofs.Listed.{at_listed_member, at_seen_decl, at_seen_expr, at_listed_module_decl, at_listed_item, at_pat_prop_ranges, at_pat_ranges, at_prop_ranges, at_listed_stmt, at_class_ranges, at_seen_function, at_param_ranges, at_case_ranges, at_enum_member_ranges, at_declarator_ranges}
use Rattle.dts_overloads.specs.Among.{Among, none, ◌∪◌, all_of, if_some, bodies, of_class_member, of_decl, of_expr, of_module_decl, of_module_item, of_object_pat_prop, of_pat, of_prop, of_stmt, of_class, of_function, of_param, of_switch_case, of_ts_enum_member, of_var_declarator, of_stmts, of_items, of_members}
use Rattle.dts_overloads.proofs.Laws.{two, has_each, has_all}

pub class_member_Empty : (it : Range) → of_class_member (vMember.Empty it) ≡ none
unfolding of_class_member of_decl of_expr of_module_decl of_module_item of_object_pat_prop of_pat of_prop of_stmt of_class of_function of_param of_switch_case of_ts_enum_member of_var_declarator of_stmts of_items of_members
class_member_Empty it = ap (λ (s : Listed). has_range s.within) (ap listed_member (sym (vMember.rolls-Empty it)) ∙ at_listed_member (ClassMember-F.ClassMember::Empty it))

pub class_member_StaticBlock : (stmts : List Stmt) (span : Range) → of_class_member (vMember.StaticBlock stmts span) ≡ of_stmts stmts
unfolding of_class_member of_decl of_expr of_module_decl of_module_item of_object_pat_prop of_pat of_prop of_stmt of_class of_function of_param of_switch_case of_ts_enum_member of_var_declarator of_stmts of_items of_members
class_member_StaticBlock stmts span = ap (λ (s : Listed). has_range s.within) (ap listed_member (sym (vMember.rolls-StaticBlock stmts span)) ∙ at_listed_member (ClassMember-F.StaticBlock stmts span))

pub class_member_TsIndexSignature : (modifiers : Modifiers) (name : Ident) (of : Option TsPart) (type_ann : Option TsPart) (span : Range) → of_class_member (vMember.TsIndexSignature modifiers name of type_ann span) ≡ none
unfolding of_class_member of_decl of_expr of_module_decl of_module_item of_object_pat_prop of_pat of_prop of_stmt of_class of_function of_param of_switch_case of_ts_enum_member of_var_declarator of_stmts of_items of_members
class_member_TsIndexSignature modifiers name of type_ann span = ap (λ (s : Listed). has_range s.within) (ap listed_member (sym (vMember.rolls-TsIndexSignature modifiers name of type_ann span)) ∙ at_listed_member (ClassMember-F.TsIndexSignature modifiers name of type_ann span))

pub class_member_Method : (modifiers : Modifiers) (kind : MethodKind) (computed : Bool) (key : Expr) (optional : Bool) (function : Function) (span : Range) → of_class_member (vMember.Method modifiers kind computed key optional function span) ≡ of_expr key ∪ of_function function
unfolding of_class_member of_decl of_expr of_module_decl of_module_item of_object_pat_prop of_pat of_prop of_stmt of_class of_function of_param of_switch_case of_ts_enum_member of_var_declarator of_stmts of_items of_members
class_member_Method modifiers kind computed key optional function span = ap (λ (s : Listed). has_range s.within) (ap listed_member (sym (vMember.rolls-Method modifiers kind computed key optional function span)) ∙ at_listed_member (ClassMember-F.ClassMember::Method modifiers kind computed key optional function span)) ∙ two ((seen_expr key).within) ((seen_function function).within) refl refl

pub class_member_Prop : (modifiers : Modifiers) (computed : Bool) (key : Expr) (optional : Bool) (definite : Bool) (type_ann : Option TsPart) (value : Option Expr) (span : Range) → of_class_member (vMember.Prop modifiers computed key optional definite type_ann value span) ≡ of_expr key ∪ if_some of_expr value
unfolding of_class_member of_decl of_expr of_module_decl of_module_item of_object_pat_prop of_pat of_prop of_stmt of_class of_function of_param of_switch_case of_ts_enum_member of_var_declarator of_stmts of_items of_members
class_member_Prop modifiers computed key optional definite type_ann None span = ap (λ (s : Listed). has_range s.within) (ap listed_member (sym (vMember.rolls-Prop modifiers computed key optional definite type_ann None span)) ∙ at_listed_member (ClassMember-F.Prop modifiers computed key optional definite type_ann None span)) ∙ two ((seen_expr key).within) [] refl refl
class_member_Prop modifiers computed key optional definite type_ann (Some value) span = ap (λ (s : Listed). has_range s.within) (ap listed_member (sym (vMember.rolls-Prop modifiers computed key optional definite type_ann (Some value) span)) ∙ at_listed_member (ClassMember-F.Prop modifiers computed key optional definite type_ann (Some value) span)) ∙ two ((seen_expr key).within) ((seen_expr value).within) refl refl

pub decl_Class : (declare : Bool) (class : Class) (span : Range) → of_decl (vDecl.Class declare class span) ≡ of_class class
unfolding of_class_member of_decl of_expr of_module_decl of_module_item of_object_pat_prop of_pat of_prop of_stmt of_class of_function of_param of_switch_case of_ts_enum_member of_var_declarator of_stmts of_items of_members
decl_Class declare class span = ap (λ (s : SeenDecl). has_range s.within) (ap seen_decl (sym (vDecl.rolls-Class declare class span)) ∙ at_seen_decl (Decl-F.Decl::Class declare class span))

pub decl_Fn : (declare : Bool) (function : Function) (span : Range) → of_decl (vDecl.Fn declare function span) ≡ of_function function
unfolding of_class_member of_decl of_expr of_module_decl of_module_item of_object_pat_prop of_pat of_prop of_stmt of_class of_function of_param of_switch_case of_ts_enum_member of_var_declarator of_stmts of_items of_members
decl_Fn declare function span = ap (λ (s : SeenDecl). has_range s.within) (ap seen_decl (sym (vDecl.rolls-Fn declare function span)) ∙ at_seen_decl (Decl-F.Decl::Fn declare function span))

pub decl_Var : (declare : Bool) (kind : VarDeclKind) (decls : List VarDeclarator) (span : Range) → of_decl (vDecl.Var declare kind decls span) ≡ all_of of_var_declarator decls
unfolding of_class_member of_decl of_expr of_module_decl of_module_item of_object_pat_prop of_pat of_prop of_stmt of_class of_function of_param of_switch_case of_ts_enum_member of_var_declarator of_stmts of_items of_members
decl_Var declare kind decls span = ap (λ (s : SeenDecl). has_range s.within) (ap seen_decl (sym (vDecl.rolls-Var declare kind decls span)) ∙ at_seen_decl (Decl-F.Var declare kind decls span)) ∙ (has_all declarator_ranges decls)

pub decl_TsInterface : (declare : Bool) (id : Ident) (type_params : Option TsPart) (extends : Option TsPart) (body : Option TsPart) (span : Range) → of_decl (vDecl.TsInterface declare id type_params extends body span) ≡ none
unfolding of_class_member of_decl of_expr of_module_decl of_module_item of_object_pat_prop of_pat of_prop of_stmt of_class of_function of_param of_switch_case of_ts_enum_member of_var_declarator of_stmts of_items of_members
decl_TsInterface declare id type_params extends body span = ap (λ (s : SeenDecl). has_range s.within) (ap seen_decl (sym (vDecl.rolls-TsInterface declare id type_params extends body span)) ∙ at_seen_decl (Decl-F.TsInterface declare id type_params extends body span))

pub decl_TsTypeAlias : (declare : Bool) (id : Ident) (type_params : Option TsPart) (type_ann : Option TsPart) (span : Range) → of_decl (vDecl.TsTypeAlias declare id type_params type_ann span) ≡ none
unfolding of_class_member of_decl of_expr of_module_decl of_module_item of_object_pat_prop of_pat of_prop of_stmt of_class of_function of_param of_switch_case of_ts_enum_member of_var_declarator of_stmts of_items of_members
decl_TsTypeAlias declare id type_params type_ann span = ap (λ (s : SeenDecl). has_range s.within) (ap seen_decl (sym (vDecl.rolls-TsTypeAlias declare id type_params type_ann span)) ∙ at_seen_decl (Decl-F.TsTypeAlias declare id type_params type_ann span))

pub decl_TsEnum : (declare : Bool) (is_const : Bool) (id : Ident) (members : List TsEnumMember) (span : Range) → of_decl (vDecl.TsEnum declare is_const id members span) ≡ all_of of_ts_enum_member members
unfolding of_class_member of_decl of_expr of_module_decl of_module_item of_object_pat_prop of_pat of_prop of_stmt of_class of_function of_param of_switch_case of_ts_enum_member of_var_declarator of_stmts of_items of_members
decl_TsEnum declare is_const id members span = ap (λ (s : SeenDecl). has_range s.within) (ap seen_decl (sym (vDecl.rolls-TsEnum declare is_const id members span)) ∙ at_seen_decl (Decl-F.TsEnum declare is_const id members span)) ∙ (has_all enum_member_ranges members)

pub decl_TsNamespace : (declare : Bool) (is_module : Bool) (id : TsEntityName) (body : List ModuleItem) (span : Range) → of_decl (vDecl.TsNamespace declare is_module id body span) ≡ of_items body
unfolding of_class_member of_decl of_expr of_module_decl of_module_item of_object_pat_prop of_pat of_prop of_stmt of_class of_function of_param of_switch_case of_ts_enum_member of_var_declarator of_stmts of_items of_members
decl_TsNamespace declare is_module id body span = ap (λ (s : SeenDecl). has_range s.within) (ap seen_decl (sym (vDecl.rolls-TsNamespace declare is_module id body span)) ∙ at_seen_decl (Decl-F.TsNamespace declare is_module id body span))

pub decl_TsModule : (declare : Bool) (id : Str) (has_body : Bool) (body : List ModuleItem) (span : Range) → of_decl (vDecl.TsModule declare id has_body body span) ≡ of_items body
unfolding of_class_member of_decl of_expr of_module_decl of_module_item of_object_pat_prop of_pat of_prop of_stmt of_class of_function of_param of_switch_case of_ts_enum_member of_var_declarator of_stmts of_items of_members
decl_TsModule declare id has_body body span = ap (λ (s : SeenDecl). has_range s.within) (ap seen_decl (sym (vDecl.rolls-TsModule declare id has_body body span)) ∙ at_seen_decl (Decl-F.TsModule declare id has_body body span))

pub decl_TsGlobal : (declare : Bool) (body : List ModuleItem) (span : Range) → of_decl (vDecl.TsGlobal declare body span) ≡ of_items body
unfolding of_class_member of_decl of_expr of_module_decl of_module_item of_object_pat_prop of_pat of_prop of_stmt of_class of_function of_param of_switch_case of_ts_enum_member of_var_declarator of_stmts of_items of_members
decl_TsGlobal declare body span = ap (λ (s : SeenDecl). has_range s.within) (ap seen_decl (sym (vDecl.rolls-TsGlobal declare body span)) ∙ at_seen_decl (Decl-F.TsGlobal declare body span))

pub expr_This : (it : Range) → of_expr (vExpr.This it) ≡ none
unfolding of_class_member of_decl of_expr of_module_decl of_module_item of_object_pat_prop of_pat of_prop of_stmt of_class of_function of_param of_switch_case of_ts_enum_member of_var_declarator of_stmts of_items of_members
expr_This it = ap (λ (s : Seen). has_range s.within) (ap seen_expr (sym (vExpr.rolls-This it)) ∙ at_seen_expr (Expr-F.Expr::This it))

pub expr_Super : (it : Range) → of_expr (vExpr.Super it) ≡ none
unfolding of_class_member of_decl of_expr of_module_decl of_module_item of_object_pat_prop of_pat of_prop of_stmt of_class of_function of_param of_switch_case of_ts_enum_member of_var_declarator of_stmts of_items of_members
expr_Super it = ap (λ (s : Seen). has_range s.within) (ap seen_expr (sym (vExpr.rolls-Super it)) ∙ at_seen_expr (Expr-F.Super it))

pub expr_Ident : (it : Ident) → of_expr (vExpr.Ident it) ≡ none
unfolding of_class_member of_decl of_expr of_module_decl of_module_item of_object_pat_prop of_pat of_prop of_stmt of_class of_function of_param of_switch_case of_ts_enum_member of_var_declarator of_stmts of_items of_members
expr_Ident it = ap (λ (s : Seen). has_range s.within) (ap seen_expr (sym (vExpr.rolls-Ident it)) ∙ at_seen_expr (Expr-F.Expr::Ident it))

pub expr_PrivateName : (it : Ident) → of_expr (vExpr.PrivateName it) ≡ none
unfolding of_class_member of_decl of_expr of_module_decl of_module_item of_object_pat_prop of_pat of_prop of_stmt of_class of_function of_param of_switch_case of_ts_enum_member of_var_declarator of_stmts of_items of_members
expr_PrivateName it = ap (λ (s : Seen). has_range s.within) (ap seen_expr (sym (vExpr.rolls-PrivateName it)) ∙ at_seen_expr (Expr-F.PrivateName it))

pub expr_Lit : (it : Lit) → of_expr (vExpr.Lit it) ≡ none
unfolding of_class_member of_decl of_expr of_module_decl of_module_item of_object_pat_prop of_pat of_prop of_stmt of_class of_function of_param of_switch_case of_ts_enum_member of_var_declarator of_stmts of_items of_members
expr_Lit it = ap (λ (s : Seen). has_range s.within) (ap seen_expr (sym (vExpr.rolls-Lit it)) ∙ at_seen_expr (Expr-F.Lit it))

pub expr_Hole : (it : Range) → of_expr (vExpr.Hole it) ≡ none
unfolding of_class_member of_decl of_expr of_module_decl of_module_item of_object_pat_prop of_pat of_prop of_stmt of_class of_function of_param of_switch_case of_ts_enum_member of_var_declarator of_stmts of_items of_members
expr_Hole it = ap (λ (s : Seen). has_range s.within) (ap seen_expr (sym (vExpr.rolls-Hole it)) ∙ at_seen_expr (Expr-F.Expr::Hole it))

pub expr_Array : (elems : List Expr) (span : Range) → of_expr (vExpr.Array elems span) ≡ all_of of_expr elems
unfolding of_class_member of_decl of_expr of_module_decl of_module_item of_object_pat_prop of_pat of_prop of_stmt of_class of_function of_param of_switch_case of_ts_enum_member of_var_declarator of_stmts of_items of_members
expr_Array elems span = ap (λ (s : Seen). has_range s.within) (ap seen_expr (sym (vExpr.rolls-Array elems span)) ∙ at_seen_expr (Expr-F.Expr::Array elems span)) ∙ (has_each seen_expr elems)

pub expr_Spread : (expr : Expr) (span : Range) → of_expr (vExpr.Spread expr span) ≡ of_expr expr
unfolding of_class_member of_decl of_expr of_module_decl of_module_item of_object_pat_prop of_pat of_prop of_stmt of_class of_function of_param of_switch_case of_ts_enum_member of_var_declarator of_stmts of_items of_members
expr_Spread expr span = ap (λ (s : Seen). has_range s.within) (ap seen_expr (sym (vExpr.rolls-Spread expr span)) ∙ at_seen_expr (Expr-F.Expr::Spread expr span))

pub expr_Object : (props : List Prop) (span : Range) → of_expr (vExpr.Object props span) ≡ all_of of_prop props
unfolding of_class_member of_decl of_expr of_module_decl of_module_item of_object_pat_prop of_pat of_prop of_stmt of_class of_function of_param of_switch_case of_ts_enum_member of_var_declarator of_stmts of_items of_members
expr_Object props span = ap (λ (s : Seen). has_range s.within) (ap seen_expr (sym (vExpr.rolls-Object props span)) ∙ at_seen_expr (Expr-F.Expr::Object props span)) ∙ (has_all prop_ranges props)

pub expr_Fn : (it : Function) → of_expr (vExpr.Fn it) ≡ of_function it
unfolding of_class_member of_decl of_expr of_module_decl of_module_item of_object_pat_prop of_pat of_prop of_stmt of_class of_function of_param of_switch_case of_ts_enum_member of_var_declarator of_stmts of_items of_members
expr_Fn it = ap (λ (s : Seen). has_range s.within) (ap seen_expr (sym (vExpr.rolls-Fn it)) ∙ at_seen_expr (Expr-F.Expr::Fn it))

pub expr_Class : (it : Class) → of_expr (vExpr.Class it) ≡ of_class it
unfolding of_class_member of_decl of_expr of_module_decl of_module_item of_object_pat_prop of_pat of_prop of_stmt of_class of_function of_param of_switch_case of_ts_enum_member of_var_declarator of_stmts of_items of_members
expr_Class it = ap (λ (s : Seen). has_range s.within) (ap seen_expr (sym (vExpr.rolls-Class it)) ∙ at_seen_expr (Expr-F.Expr::Class it))

pub expr_Arrow : (it : Function) → of_expr (vExpr.Arrow it) ≡ of_function it
unfolding of_class_member of_decl of_expr of_module_decl of_module_item of_object_pat_prop of_pat of_prop of_stmt of_class of_function of_param of_switch_case of_ts_enum_member of_var_declarator of_stmts of_items of_members
expr_Arrow it = ap (λ (s : Seen). has_range s.within) (ap seen_expr (sym (vExpr.rolls-Arrow it)) ∙ at_seen_expr (Expr-F.Arrow it))

pub expr_Paren : (expr : Expr) (span : Range) → of_expr (vExpr.Paren expr span) ≡ of_expr expr
unfolding of_class_member of_decl of_expr of_module_decl of_module_item of_object_pat_prop of_pat of_prop of_stmt of_class of_function of_param of_switch_case of_ts_enum_member of_var_declarator of_stmts of_items of_members
expr_Paren expr span = ap (λ (s : Seen). has_range s.within) (ap seen_expr (sym (vExpr.rolls-Paren expr span)) ∙ at_seen_expr (Expr-F.Paren expr span))

pub expr_Unary : (op : UnaryOp) (arg : Expr) (span : Range) → of_expr (vExpr.Unary op arg span) ≡ of_expr arg
unfolding of_class_member of_decl of_expr of_module_decl of_module_item of_object_pat_prop of_pat of_prop of_stmt of_class of_function of_param of_switch_case of_ts_enum_member of_var_declarator of_stmts of_items of_members
expr_Unary op arg span = ap (λ (s : Seen). has_range s.within) (ap seen_expr (sym (vExpr.rolls-Unary op arg span)) ∙ at_seen_expr (Expr-F.Unary op arg span))

pub expr_Update : (op : UpdateOp) (prefix : Bool) (arg : Expr) (span : Range) → of_expr (vExpr.Update op prefix arg span) ≡ of_expr arg
unfolding of_class_member of_decl of_expr of_module_decl of_module_item of_object_pat_prop of_pat of_prop of_stmt of_class of_function of_param of_switch_case of_ts_enum_member of_var_declarator of_stmts of_items of_members
expr_Update op prefix arg span = ap (λ (s : Seen). has_range s.within) (ap seen_expr (sym (vExpr.rolls-Update op prefix arg span)) ∙ at_seen_expr (Expr-F.Update op prefix arg span))

pub expr_Await : (arg : Expr) (span : Range) → of_expr (vExpr.Await arg span) ≡ of_expr arg
unfolding of_class_member of_decl of_expr of_module_decl of_module_item of_object_pat_prop of_pat of_prop of_stmt of_class of_function of_param of_switch_case of_ts_enum_member of_var_declarator of_stmts of_items of_members
expr_Await arg span = ap (λ (s : Seen). has_range s.within) (ap seen_expr (sym (vExpr.rolls-Await arg span)) ∙ at_seen_expr (Expr-F.Await arg span))

pub expr_Yield : (delegate : Bool) (arg : Option Expr) (span : Range) → of_expr (vExpr.Yield delegate arg span) ≡ if_some of_expr arg
unfolding of_class_member of_decl of_expr of_module_decl of_module_item of_object_pat_prop of_pat of_prop of_stmt of_class of_function of_param of_switch_case of_ts_enum_member of_var_declarator of_stmts of_items of_members
expr_Yield delegate None span = ap (λ (s : Seen). has_range s.within) (ap seen_expr (sym (vExpr.rolls-Yield delegate None span)) ∙ at_seen_expr (Expr-F.Yield delegate None span))
expr_Yield delegate (Some arg) span = ap (λ (s : Seen). has_range s.within) (ap seen_expr (sym (vExpr.rolls-Yield delegate (Some arg) span)) ∙ at_seen_expr (Expr-F.Yield delegate (Some arg) span))

pub expr_Bin : (op : BinaryOp) (left : Expr) (right : Expr) (span : Range) → of_expr (vExpr.Bin op left right span) ≡ of_expr left ∪ of_expr right
unfolding of_class_member of_decl of_expr of_module_decl of_module_item of_object_pat_prop of_pat of_prop of_stmt of_class of_function of_param of_switch_case of_ts_enum_member of_var_declarator of_stmts of_items of_members
expr_Bin op left right span = ap (λ (s : Seen). has_range s.within) (ap seen_expr (sym (vExpr.rolls-Bin op left right span)) ∙ at_seen_expr (Expr-F.Bin op left right span)) ∙ two ((seen_expr left).within) ((seen_expr right).within) refl refl

pub expr_Assign : (op : AssignOp) (left : Pat) (right : Expr) (span : Range) → of_expr (vExpr.Assign op left right span) ≡ of_pat left ∪ of_expr right
unfolding of_class_member of_decl of_expr of_module_decl of_module_item of_object_pat_prop of_pat of_prop of_stmt of_class of_function of_param of_switch_case of_ts_enum_member of_var_declarator of_stmts of_items of_members
expr_Assign op left right span = ap (λ (s : Seen). has_range s.within) (ap seen_expr (sym (vExpr.rolls-Assign op left right span)) ∙ at_seen_expr (Expr-F.Expr::Assign op left right span)) ∙ two (pat_ranges left) ((seen_expr right).within) refl refl

pub expr_Cond : (test : Expr) (cons : Expr) (alt : Expr) (span : Range) → of_expr (vExpr.Cond test cons alt span) ≡ of_expr test ∪ of_expr cons ∪ of_expr alt
unfolding of_class_member of_decl of_expr of_module_decl of_module_item of_object_pat_prop of_pat of_prop of_stmt of_class of_function of_param of_switch_case of_ts_enum_member of_var_declarator of_stmts of_items of_members
expr_Cond test cons alt span = ap (λ (s : Seen). has_range s.within) (ap seen_expr (sym (vExpr.rolls-Cond test cons alt span)) ∙ at_seen_expr (Expr-F.Cond test cons alt span)) ∙ two ((seen_expr test).within ++ (seen_expr cons).within) ((seen_expr alt).within) (two ((seen_expr test).within) ((seen_expr cons).within) refl refl) refl

pub expr_Seq : (exprs : List Expr) (span : Range) → of_expr (vExpr.Seq exprs span) ≡ all_of of_expr exprs
unfolding of_class_member of_decl of_expr of_module_decl of_module_item of_object_pat_prop of_pat of_prop of_stmt of_class of_function of_param of_switch_case of_ts_enum_member of_var_declarator of_stmts of_items of_members
expr_Seq exprs span = ap (λ (s : Seen). has_range s.within) (ap seen_expr (sym (vExpr.rolls-Seq exprs span)) ∙ at_seen_expr (Expr-F.Seq exprs span)) ∙ (has_each seen_expr exprs)

pub expr_Member : (obj : Expr) (optional : Bool) (is_private : Bool) (prop : Ident) (span : Range) → of_expr (vExpr.Member obj optional is_private prop span) ≡ of_expr obj
unfolding of_class_member of_decl of_expr of_module_decl of_module_item of_object_pat_prop of_pat of_prop of_stmt of_class of_function of_param of_switch_case of_ts_enum_member of_var_declarator of_stmts of_items of_members
expr_Member obj optional is_private prop span = ap (λ (s : Seen). has_range s.within) (ap seen_expr (sym (vExpr.rolls-Member obj optional is_private prop span)) ∙ at_seen_expr (Expr-F.Member obj optional is_private prop span))

pub expr_Index : (obj : Expr) (optional : Bool) (prop : Expr) (span : Range) → of_expr (vExpr.Index obj optional prop span) ≡ of_expr obj ∪ of_expr prop
unfolding of_class_member of_decl of_expr of_module_decl of_module_item of_object_pat_prop of_pat of_prop of_stmt of_class of_function of_param of_switch_case of_ts_enum_member of_var_declarator of_stmts of_items of_members
expr_Index obj optional prop span = ap (λ (s : Seen). has_range s.within) (ap seen_expr (sym (vExpr.rolls-Index obj optional prop span)) ∙ at_seen_expr (Expr-F.Index obj optional prop span)) ∙ two ((seen_expr obj).within) ((seen_expr prop).within) refl refl

pub expr_Call : (callee : Expr) (optional : Bool) (type_args : Option TsPart) (args : List Expr) (span : Range) → of_expr (vExpr.Call callee optional type_args args span) ≡ of_expr callee ∪ all_of of_expr args
unfolding of_class_member of_decl of_expr of_module_decl of_module_item of_object_pat_prop of_pat of_prop of_stmt of_class of_function of_param of_switch_case of_ts_enum_member of_var_declarator of_stmts of_items of_members
expr_Call callee optional type_args args span = ap (λ (s : Seen). has_range s.within) (ap seen_expr (sym (vExpr.rolls-Call callee optional type_args args span)) ∙ at_seen_expr (Expr-F.Call callee optional type_args args span)) ∙ two ((seen_expr callee).within) (each (map seen_expr args)) refl (has_each seen_expr args)

pub expr_New : (callee : Expr) (type_args : Option TsPart) (has_args : Bool) (args : List Expr) (span : Range) → of_expr (vExpr.New callee type_args has_args args span) ≡ of_expr callee ∪ all_of of_expr args
unfolding of_class_member of_decl of_expr of_module_decl of_module_item of_object_pat_prop of_pat of_prop of_stmt of_class of_function of_param of_switch_case of_ts_enum_member of_var_declarator of_stmts of_items of_members
expr_New callee type_args has_args args span = ap (λ (s : Seen). has_range s.within) (ap seen_expr (sym (vExpr.rolls-New callee type_args has_args args span)) ∙ at_seen_expr (Expr-F.New callee type_args has_args args span)) ∙ two ((seen_expr callee).within) (each (map seen_expr args)) refl (has_each seen_expr args)

pub expr_ImportCall : (phase : ImportPhase) (args : List Expr) (span : Range) → of_expr (vExpr.ImportCall phase args span) ≡ all_of of_expr args
unfolding of_class_member of_decl of_expr of_module_decl of_module_item of_object_pat_prop of_pat of_prop of_stmt of_class of_function of_param of_switch_case of_ts_enum_member of_var_declarator of_stmts of_items of_members
expr_ImportCall phase args span = ap (λ (s : Seen). has_range s.within) (ap seen_expr (sym (vExpr.rolls-ImportCall phase args span)) ∙ at_seen_expr (Expr-F.ImportCall phase args span)) ∙ (has_each seen_expr args)

pub expr_ImportMeta : (it : Range) → of_expr (vExpr.ImportMeta it) ≡ none
unfolding of_class_member of_decl of_expr of_module_decl of_module_item of_object_pat_prop of_pat of_prop of_stmt of_class of_function of_param of_switch_case of_ts_enum_member of_var_declarator of_stmts of_items of_members
expr_ImportMeta it = ap (λ (s : Seen). has_range s.within) (ap seen_expr (sym (vExpr.rolls-ImportMeta it)) ∙ at_seen_expr (Expr-F.ImportMeta it))

pub expr_NewTarget : (it : Range) → of_expr (vExpr.NewTarget it) ≡ none
unfolding of_class_member of_decl of_expr of_module_decl of_module_item of_object_pat_prop of_pat of_prop of_stmt of_class of_function of_param of_switch_case of_ts_enum_member of_var_declarator of_stmts of_items of_members
expr_NewTarget it = ap (λ (s : Seen). has_range s.within) (ap seen_expr (sym (vExpr.rolls-NewTarget it)) ∙ at_seen_expr (Expr-F.NewTarget it))

pub expr_Tpl : (quasis : List TplElement) (exprs : List Expr) (span : Range) → of_expr (vExpr.Tpl quasis exprs span) ≡ all_of of_expr exprs
unfolding of_class_member of_decl of_expr of_module_decl of_module_item of_object_pat_prop of_pat of_prop of_stmt of_class of_function of_param of_switch_case of_ts_enum_member of_var_declarator of_stmts of_items of_members
expr_Tpl quasis exprs span = ap (λ (s : Seen). has_range s.within) (ap seen_expr (sym (vExpr.rolls-Tpl quasis exprs span)) ∙ at_seen_expr (Expr-F.Tpl quasis exprs span)) ∙ (has_each seen_expr exprs)

pub expr_TaggedTpl : (tag : Expr) (type_args : Option TsPart) (tpl : Expr) (span : Range) → of_expr (vExpr.TaggedTpl tag type_args tpl span) ≡ of_expr tag ∪ of_expr tpl
unfolding of_class_member of_decl of_expr of_module_decl of_module_item of_object_pat_prop of_pat of_prop of_stmt of_class of_function of_param of_switch_case of_ts_enum_member of_var_declarator of_stmts of_items of_members
expr_TaggedTpl tag type_args tpl span = ap (λ (s : Seen). has_range s.within) (ap seen_expr (sym (vExpr.rolls-TaggedTpl tag type_args tpl span)) ∙ at_seen_expr (Expr-F.TaggedTpl tag type_args tpl span)) ∙ two ((seen_expr tag).within) ((seen_expr tpl).within) refl refl

pub expr_TsNonNull : (expr : Expr) (span : Range) → of_expr (vExpr.TsNonNull expr span) ≡ of_expr expr
unfolding of_class_member of_decl of_expr of_module_decl of_module_item of_object_pat_prop of_pat of_prop of_stmt of_class of_function of_param of_switch_case of_ts_enum_member of_var_declarator of_stmts of_items of_members
expr_TsNonNull expr span = ap (λ (s : Seen). has_range s.within) (ap seen_expr (sym (vExpr.rolls-TsNonNull expr span)) ∙ at_seen_expr (Expr-F.TsNonNull expr span))

pub expr_TsAs : (expr : Expr) (type_ann : Option TsPart) (span : Range) → of_expr (vExpr.TsAs expr type_ann span) ≡ of_expr expr
unfolding of_class_member of_decl of_expr of_module_decl of_module_item of_object_pat_prop of_pat of_prop of_stmt of_class of_function of_param of_switch_case of_ts_enum_member of_var_declarator of_stmts of_items of_members
expr_TsAs expr type_ann span = ap (λ (s : Seen). has_range s.within) (ap seen_expr (sym (vExpr.rolls-TsAs expr type_ann span)) ∙ at_seen_expr (Expr-F.TsAs expr type_ann span))

pub expr_TsConstAssertion : (expr : Expr) (span : Range) → of_expr (vExpr.TsConstAssertion expr span) ≡ of_expr expr
unfolding of_class_member of_decl of_expr of_module_decl of_module_item of_object_pat_prop of_pat of_prop of_stmt of_class of_function of_param of_switch_case of_ts_enum_member of_var_declarator of_stmts of_items of_members
expr_TsConstAssertion expr span = ap (λ (s : Seen). has_range s.within) (ap seen_expr (sym (vExpr.rolls-TsConstAssertion expr span)) ∙ at_seen_expr (Expr-F.TsConstAssertion expr span))

pub expr_TsSatisfies : (expr : Expr) (type_ann : Option TsPart) (span : Range) → of_expr (vExpr.TsSatisfies expr type_ann span) ≡ of_expr expr
unfolding of_class_member of_decl of_expr of_module_decl of_module_item of_object_pat_prop of_pat of_prop of_stmt of_class of_function of_param of_switch_case of_ts_enum_member of_var_declarator of_stmts of_items of_members
expr_TsSatisfies expr type_ann span = ap (λ (s : Seen). has_range s.within) (ap seen_expr (sym (vExpr.rolls-TsSatisfies expr type_ann span)) ∙ at_seen_expr (Expr-F.TsSatisfies expr type_ann span))

pub module_decl_Import : (it : ImportDecl) → of_module_decl (vModuleDecl.Import it) ≡ none
unfolding of_class_member of_decl of_expr of_module_decl of_module_item of_object_pat_prop of_pat of_prop of_stmt of_class of_function of_param of_switch_case of_ts_enum_member of_var_declarator of_stmts of_items of_members
module_decl_Import it = ap (λ (s : Listed). has_range s.within) (ap listed_module_decl (sym (vModuleDecl.rolls-Import it)) ∙ at_listed_module_decl (ModuleDecl-F.Import it))

pub module_decl_ExportDecl : (decl : Decl) (span : Range) → of_module_decl (vModuleDecl.ExportDecl decl span) ≡ of_decl decl
unfolding of_class_member of_decl of_expr of_module_decl of_module_item of_object_pat_prop of_pat of_prop of_stmt of_class of_function of_param of_switch_case of_ts_enum_member of_var_declarator of_stmts of_items of_members
module_decl_ExportDecl decl span = ap (λ (s : Listed). has_range s.within) (ap listed_module_decl (sym (vModuleDecl.rolls-ExportDecl decl span)) ∙ at_listed_module_decl (ModuleDecl-F.ExportDecl decl span))

pub module_decl_ExportNamed : (it : NamedExport) → of_module_decl (vModuleDecl.ExportNamed it) ≡ none
unfolding of_class_member of_decl of_expr of_module_decl of_module_item of_object_pat_prop of_pat of_prop of_stmt of_class of_function of_param of_switch_case of_ts_enum_member of_var_declarator of_stmts of_items of_members
module_decl_ExportNamed it = ap (λ (s : Listed). has_range s.within) (ap listed_module_decl (sym (vModuleDecl.rolls-ExportNamed it)) ∙ at_listed_module_decl (ModuleDecl-F.ExportNamed it))

pub module_decl_ExportDefaultDecl : (decl : Decl) (span : Range) → of_module_decl (vModuleDecl.ExportDefaultDecl decl span) ≡ of_decl decl
unfolding of_class_member of_decl of_expr of_module_decl of_module_item of_object_pat_prop of_pat of_prop of_stmt of_class of_function of_param of_switch_case of_ts_enum_member of_var_declarator of_stmts of_items of_members
module_decl_ExportDefaultDecl decl span = ap (λ (s : Listed). has_range s.within) (ap listed_module_decl (sym (vModuleDecl.rolls-ExportDefaultDecl decl span)) ∙ at_listed_module_decl (ModuleDecl-F.ExportDefaultDecl decl span))

pub module_decl_ExportDefaultExpr : (expr : Expr) (span : Range) → of_module_decl (vModuleDecl.ExportDefaultExpr expr span) ≡ of_expr expr
unfolding of_class_member of_decl of_expr of_module_decl of_module_item of_object_pat_prop of_pat of_prop of_stmt of_class of_function of_param of_switch_case of_ts_enum_member of_var_declarator of_stmts of_items of_members
module_decl_ExportDefaultExpr expr span = ap (λ (s : Listed). has_range s.within) (ap listed_module_decl (sym (vModuleDecl.rolls-ExportDefaultExpr expr span)) ∙ at_listed_module_decl (ModuleDecl-F.ExportDefaultExpr expr span))

pub module_decl_ExportAll : (it : ExportAll) → of_module_decl (vModuleDecl.ExportAll it) ≡ none
unfolding of_class_member of_decl of_expr of_module_decl of_module_item of_object_pat_prop of_pat of_prop of_stmt of_class of_function of_param of_switch_case of_ts_enum_member of_var_declarator of_stmts of_items of_members
module_decl_ExportAll it = ap (λ (s : Listed). has_range s.within) (ap listed_module_decl (sym (vModuleDecl.rolls-ExportAll it)) ∙ at_listed_module_decl (ModuleDecl-F.ExportAll it))

pub module_decl_TsImportEquals : (it : TsImportEqualsDecl) → of_module_decl (vModuleDecl.TsImportEquals it) ≡ none
unfolding of_class_member of_decl of_expr of_module_decl of_module_item of_object_pat_prop of_pat of_prop of_stmt of_class of_function of_param of_switch_case of_ts_enum_member of_var_declarator of_stmts of_items of_members
module_decl_TsImportEquals it = ap (λ (s : Listed). has_range s.within) (ap listed_module_decl (sym (vModuleDecl.rolls-TsImportEquals it)) ∙ at_listed_module_decl (ModuleDecl-F.TsImportEquals it))

pub module_decl_TsExportAssignment : (expr : Expr) (span : Range) → of_module_decl (vModuleDecl.TsExportAssignment expr span) ≡ of_expr expr
unfolding of_class_member of_decl of_expr of_module_decl of_module_item of_object_pat_prop of_pat of_prop of_stmt of_class of_function of_param of_switch_case of_ts_enum_member of_var_declarator of_stmts of_items of_members
module_decl_TsExportAssignment expr span = ap (λ (s : Listed). has_range s.within) (ap listed_module_decl (sym (vModuleDecl.rolls-TsExportAssignment expr span)) ∙ at_listed_module_decl (ModuleDecl-F.TsExportAssignment expr span))

pub module_decl_TsNamespaceExport : (it : TsNamespaceExportDecl) → of_module_decl (vModuleDecl.TsNamespaceExport it) ≡ none
unfolding of_class_member of_decl of_expr of_module_decl of_module_item of_object_pat_prop of_pat of_prop of_stmt of_class of_function of_param of_switch_case of_ts_enum_member of_var_declarator of_stmts of_items of_members
module_decl_TsNamespaceExport it = ap (λ (s : Listed). has_range s.within) (ap listed_module_decl (sym (vModuleDecl.rolls-TsNamespaceExport it)) ∙ at_listed_module_decl (ModuleDecl-F.TsNamespaceExport it))

pub module_item_ModuleDecl : (it : ModuleDecl) → of_module_item (vItem.ModuleDecl it) ≡ of_module_decl it
unfolding of_class_member of_decl of_expr of_module_decl of_module_item of_object_pat_prop of_pat of_prop of_stmt of_class of_function of_param of_switch_case of_ts_enum_member of_var_declarator of_stmts of_items of_members
module_item_ModuleDecl it = ap (λ (s : Listed). has_range s.within) (ap listed_item (sym (vItem.rolls-ModuleDecl it)) ∙ at_listed_item (ModuleItem-F.ModuleDecl it))

pub module_item_Stmt : (it : Stmt) → of_module_item (vItem.Stmt it) ≡ of_stmt it
unfolding of_class_member of_decl of_expr of_module_decl of_module_item of_object_pat_prop of_pat of_prop of_stmt of_class of_function of_param of_switch_case of_ts_enum_member of_var_declarator of_stmts of_items of_members
module_item_Stmt it = ap (λ (s : Listed). has_range s.within) (ap listed_item (sym (vItem.rolls-Stmt it)) ∙ at_listed_item (ModuleItem-F.Stmt it))

pub object_pat_prop_KeyValue : (computed : Bool) (key : Expr) (value : Pat) (span : Range) → of_object_pat_prop (vPatProp.KeyValue computed key value span) ≡ of_expr key ∪ of_pat value
unfolding of_class_member of_decl of_expr of_module_decl of_module_item of_object_pat_prop of_pat of_prop of_stmt of_class of_function of_param of_switch_case of_ts_enum_member of_var_declarator of_stmts of_items of_members
object_pat_prop_KeyValue computed key value span = ap has_range (ap pat_prop_ranges (sym (vPatProp.rolls-KeyValue computed key value span)) ∙ at_pat_prop_ranges (ObjectPatProp-F.ObjectPatProp::KeyValue computed key value span)) ∙ two ((seen_expr key).within) (pat_ranges value) refl refl

pub object_pat_prop_Assign : (key : Ident) (value : Option Expr) (span : Range) → of_object_pat_prop (vPatProp.Assign key value span) ≡ if_some of_expr value
unfolding of_class_member of_decl of_expr of_module_decl of_module_item of_object_pat_prop of_pat of_prop of_stmt of_class of_function of_param of_switch_case of_ts_enum_member of_var_declarator of_stmts of_items of_members
object_pat_prop_Assign key None span = ap has_range (ap pat_prop_ranges (sym (vPatProp.rolls-Assign key None span)) ∙ at_pat_prop_ranges (ObjectPatProp-F.ObjectPatProp::Assign key None span))
object_pat_prop_Assign key (Some value) span = ap has_range (ap pat_prop_ranges (sym (vPatProp.rolls-Assign key (Some value) span)) ∙ at_pat_prop_ranges (ObjectPatProp-F.ObjectPatProp::Assign key (Some value) span))

pub object_pat_prop_Rest : (arg : Pat) (span : Range) → of_object_pat_prop (vPatProp.Rest arg span) ≡ of_pat arg
unfolding of_class_member of_decl of_expr of_module_decl of_module_item of_object_pat_prop of_pat of_prop of_stmt of_class of_function of_param of_switch_case of_ts_enum_member of_var_declarator of_stmts of_items of_members
object_pat_prop_Rest arg span = ap has_range (ap pat_prop_ranges (sym (vPatProp.rolls-Rest arg span)) ∙ at_pat_prop_ranges (ObjectPatProp-F.ObjectPatProp::Rest arg span))

pub pat_Ident : (id : Ident) (type_ann : Option TsPart) (span : Range) → of_pat (vPat.Ident id type_ann span) ≡ none
unfolding of_class_member of_decl of_expr of_module_decl of_module_item of_object_pat_prop of_pat of_prop of_stmt of_class of_function of_param of_switch_case of_ts_enum_member of_var_declarator of_stmts of_items of_members
pat_Ident id type_ann span = ap has_range (ap pat_ranges (sym (vPat.rolls-Ident id type_ann span)) ∙ at_pat_ranges (Pat-F.Pat::Ident id type_ann span))

pub pat_This : (type_ann : Option TsPart) (span : Range) → of_pat (vPat.This type_ann span) ≡ none
unfolding of_class_member of_decl of_expr of_module_decl of_module_item of_object_pat_prop of_pat of_prop of_stmt of_class of_function of_param of_switch_case of_ts_enum_member of_var_declarator of_stmts of_items of_members
pat_This type_ann span = ap has_range (ap pat_ranges (sym (vPat.rolls-This type_ann span)) ∙ at_pat_ranges (Pat-F.Pat::This type_ann span))

pub pat_Hole : (it : Range) → of_pat (vPat.Hole it) ≡ none
unfolding of_class_member of_decl of_expr of_module_decl of_module_item of_object_pat_prop of_pat of_prop of_stmt of_class of_function of_param of_switch_case of_ts_enum_member of_var_declarator of_stmts of_items of_members
pat_Hole it = ap has_range (ap pat_ranges (sym (vPat.rolls-Hole it)) ∙ at_pat_ranges (Pat-F.Pat::Hole it))

pub pat_Array : (elems : List Pat) (optional : Bool) (type_ann : Option TsPart) (span : Range) → of_pat (vPat.Array elems optional type_ann span) ≡ all_of of_pat elems
unfolding of_class_member of_decl of_expr of_module_decl of_module_item of_object_pat_prop of_pat of_prop of_stmt of_class of_function of_param of_switch_case of_ts_enum_member of_var_declarator of_stmts of_items of_members
pat_Array elems optional type_ann span = ap has_range (ap pat_ranges (sym (vPat.rolls-Array elems optional type_ann span)) ∙ at_pat_ranges (Pat-F.Pat::Array elems optional type_ann span)) ∙ (has_all pat_ranges elems)

pub pat_Object : (props : List ObjectPatProp) (optional : Bool) (type_ann : Option TsPart) (span : Range) → of_pat (vPat.Object props optional type_ann span) ≡ all_of of_object_pat_prop props
unfolding of_class_member of_decl of_expr of_module_decl of_module_item of_object_pat_prop of_pat of_prop of_stmt of_class of_function of_param of_switch_case of_ts_enum_member of_var_declarator of_stmts of_items of_members
pat_Object props optional type_ann span = ap has_range (ap pat_ranges (sym (vPat.rolls-Object props optional type_ann span)) ∙ at_pat_ranges (Pat-F.Pat::Object props optional type_ann span)) ∙ (has_all pat_prop_ranges props)

pub pat_Rest : (arg : Pat) (type_ann : Option TsPart) (span : Range) → of_pat (vPat.Rest arg type_ann span) ≡ of_pat arg
unfolding of_class_member of_decl of_expr of_module_decl of_module_item of_object_pat_prop of_pat of_prop of_stmt of_class of_function of_param of_switch_case of_ts_enum_member of_var_declarator of_stmts of_items of_members
pat_Rest arg type_ann span = ap has_range (ap pat_ranges (sym (vPat.rolls-Rest arg type_ann span)) ∙ at_pat_ranges (Pat-F.Pat::Rest arg type_ann span))

pub pat_Assign : (left : Pat) (right : Expr) (span : Range) → of_pat (vPat.Assign left right span) ≡ of_pat left ∪ of_expr right
unfolding of_class_member of_decl of_expr of_module_decl of_module_item of_object_pat_prop of_pat of_prop of_stmt of_class of_function of_param of_switch_case of_ts_enum_member of_var_declarator of_stmts of_items of_members
pat_Assign left right span = ap has_range (ap pat_ranges (sym (vPat.rolls-Assign left right span)) ∙ at_pat_ranges (Pat-F.Pat::Assign left right span)) ∙ two (pat_ranges left) ((seen_expr right).within) refl refl

pub pat_Expr : (it : Expr) → of_pat (vPat.Expr it) ≡ of_expr it
unfolding of_class_member of_decl of_expr of_module_decl of_module_item of_object_pat_prop of_pat of_prop of_stmt of_class of_function of_param of_switch_case of_ts_enum_member of_var_declarator of_stmts of_items of_members
pat_Expr it = ap has_range (ap pat_ranges (sym (vPat.rolls-Expr it)) ∙ at_pat_ranges (Pat-F.Pat::Expr it))

pub prop_Spread : (expr : Expr) (span : Range) → of_prop (vProp.Spread expr span) ≡ of_expr expr
unfolding of_class_member of_decl of_expr of_module_decl of_module_item of_object_pat_prop of_pat of_prop of_stmt of_class of_function of_param of_switch_case of_ts_enum_member of_var_declarator of_stmts of_items of_members
prop_Spread expr span = ap has_range (ap prop_ranges (sym (vProp.rolls-Spread expr span)) ∙ at_prop_ranges (Prop-F.Prop::Spread expr span))

pub prop_Shorthand : (it : Ident) → of_prop (vProp.Shorthand it) ≡ none
unfolding of_class_member of_decl of_expr of_module_decl of_module_item of_object_pat_prop of_pat of_prop of_stmt of_class of_function of_param of_switch_case of_ts_enum_member of_var_declarator of_stmts of_items of_members
prop_Shorthand it = ap has_range (ap prop_ranges (sym (vProp.rolls-Shorthand it)) ∙ at_prop_ranges (Prop-F.Shorthand it))

pub prop_KeyValue : (computed : Bool) (key : Expr) (value : Expr) (span : Range) → of_prop (vProp.KeyValue computed key value span) ≡ of_expr key ∪ of_expr value
unfolding of_class_member of_decl of_expr of_module_decl of_module_item of_object_pat_prop of_pat of_prop of_stmt of_class of_function of_param of_switch_case of_ts_enum_member of_var_declarator of_stmts of_items of_members
prop_KeyValue computed key value span = ap has_range (ap prop_ranges (sym (vProp.rolls-KeyValue computed key value span)) ∙ at_prop_ranges (Prop-F.Prop::KeyValue computed key value span)) ∙ two ((seen_expr key).within) ((seen_expr value).within) refl refl

pub prop_Method : (kind : MethodKind) (computed : Bool) (key : Expr) (function : Function) (span : Range) → of_prop (vProp.Method kind computed key function span) ≡ of_expr key ∪ of_function function
unfolding of_class_member of_decl of_expr of_module_decl of_module_item of_object_pat_prop of_pat of_prop of_stmt of_class of_function of_param of_switch_case of_ts_enum_member of_var_declarator of_stmts of_items of_members
prop_Method kind computed key function span = ap has_range (ap prop_ranges (sym (vProp.rolls-Method kind computed key function span)) ∙ at_prop_ranges (Prop-F.Prop::Method kind computed key function span)) ∙ two ((seen_expr key).within) ((seen_function function).within) refl refl

pub stmt_Block : (stmts : List Stmt) (span : Range) → of_stmt (vStmt.Block stmts span) ≡ of_stmts stmts
unfolding of_class_member of_decl of_expr of_module_decl of_module_item of_object_pat_prop of_pat of_prop of_stmt of_class of_function of_param of_switch_case of_ts_enum_member of_var_declarator of_stmts of_items of_members
stmt_Block stmts span = ap (λ (s : Listed). has_range s.within) (ap listed_stmt (sym (vStmt.rolls-Block stmts span)) ∙ at_listed_stmt (Stmt-F.Block stmts span))

pub stmt_Empty : (it : Range) → of_stmt (vStmt.Empty it) ≡ none
unfolding of_class_member of_decl of_expr of_module_decl of_module_item of_object_pat_prop of_pat of_prop of_stmt of_class of_function of_param of_switch_case of_ts_enum_member of_var_declarator of_stmts of_items of_members
stmt_Empty it = ap (λ (s : Listed). has_range s.within) (ap listed_stmt (sym (vStmt.rolls-Empty it)) ∙ at_listed_stmt (Stmt-F.Stmt::Empty it))

pub stmt_Debugger : (it : Range) → of_stmt (vStmt.Debugger it) ≡ none
unfolding of_class_member of_decl of_expr of_module_decl of_module_item of_object_pat_prop of_pat of_prop of_stmt of_class of_function of_param of_switch_case of_ts_enum_member of_var_declarator of_stmts of_items of_members
stmt_Debugger it = ap (λ (s : Listed). has_range s.within) (ap listed_stmt (sym (vStmt.rolls-Debugger it)) ∙ at_listed_stmt (Stmt-F.Debugger it))

pub stmt_With : (obj : Expr) (body : Stmt) (span : Range) → of_stmt (vStmt.With obj body span) ≡ of_expr obj ∪ of_stmt body
unfolding of_class_member of_decl of_expr of_module_decl of_module_item of_object_pat_prop of_pat of_prop of_stmt of_class of_function of_param of_switch_case of_ts_enum_member of_var_declarator of_stmts of_items of_members
stmt_With obj body span = ap (λ (s : Listed). has_range s.within) (ap listed_stmt (sym (vStmt.rolls-With obj body span)) ∙ at_listed_stmt (Stmt-F.With obj body span)) ∙ two ((seen_expr obj).within) ((listed_stmt body).within) refl refl

pub stmt_Return : (arg : Option Expr) (span : Range) → of_stmt (vStmt.Return arg span) ≡ if_some of_expr arg
unfolding of_class_member of_decl of_expr of_module_decl of_module_item of_object_pat_prop of_pat of_prop of_stmt of_class of_function of_param of_switch_case of_ts_enum_member of_var_declarator of_stmts of_items of_members
stmt_Return None span = ap (λ (s : Listed). has_range s.within) (ap listed_stmt (sym (vStmt.rolls-Return None span)) ∙ at_listed_stmt (Stmt-F.Return None span))
stmt_Return (Some arg) span = ap (λ (s : Listed). has_range s.within) (ap listed_stmt (sym (vStmt.rolls-Return (Some arg) span)) ∙ at_listed_stmt (Stmt-F.Return (Some arg) span))

pub stmt_Labeled : (label : Ident) (body : Stmt) (span : Range) → of_stmt (vStmt.Labeled label body span) ≡ of_stmt body
unfolding of_class_member of_decl of_expr of_module_decl of_module_item of_object_pat_prop of_pat of_prop of_stmt of_class of_function of_param of_switch_case of_ts_enum_member of_var_declarator of_stmts of_items of_members
stmt_Labeled label body span = ap (λ (s : Listed). has_range s.within) (ap listed_stmt (sym (vStmt.rolls-Labeled label body span)) ∙ at_listed_stmt (Stmt-F.Labeled label body span))

pub stmt_Break : (label : Option Ident) (span : Range) → of_stmt (vStmt.Break label span) ≡ none
unfolding of_class_member of_decl of_expr of_module_decl of_module_item of_object_pat_prop of_pat of_prop of_stmt of_class of_function of_param of_switch_case of_ts_enum_member of_var_declarator of_stmts of_items of_members
stmt_Break label span = ap (λ (s : Listed). has_range s.within) (ap listed_stmt (sym (vStmt.rolls-Break label span)) ∙ at_listed_stmt (Stmt-F.Break label span))

pub stmt_Continue : (label : Option Ident) (span : Range) → of_stmt (vStmt.Continue label span) ≡ none
unfolding of_class_member of_decl of_expr of_module_decl of_module_item of_object_pat_prop of_pat of_prop of_stmt of_class of_function of_param of_switch_case of_ts_enum_member of_var_declarator of_stmts of_items of_members
stmt_Continue label span = ap (λ (s : Listed). has_range s.within) (ap listed_stmt (sym (vStmt.rolls-Continue label span)) ∙ at_listed_stmt (Stmt-F.Continue label span))

pub stmt_If : (test : Expr) (cons : Stmt) (alt : Option Stmt) (span : Range) → of_stmt (vStmt.If test cons alt span) ≡ of_expr test ∪ of_stmt cons ∪ if_some of_stmt alt
unfolding of_class_member of_decl of_expr of_module_decl of_module_item of_object_pat_prop of_pat of_prop of_stmt of_class of_function of_param of_switch_case of_ts_enum_member of_var_declarator of_stmts of_items of_members
stmt_If test cons None span = ap (λ (s : Listed). has_range s.within) (ap listed_stmt (sym (vStmt.rolls-If test cons None span)) ∙ at_listed_stmt (Stmt-F.If test cons None span)) ∙ two ((seen_expr test).within ++ (listed_stmt cons).within) [] (two ((seen_expr test).within) ((listed_stmt cons).within) refl refl) refl
stmt_If test cons (Some alt) span = ap (λ (s : Listed). has_range s.within) (ap listed_stmt (sym (vStmt.rolls-If test cons (Some alt) span)) ∙ at_listed_stmt (Stmt-F.If test cons (Some alt) span)) ∙ two ((seen_expr test).within ++ (listed_stmt cons).within) ((listed_stmt alt).within) (two ((seen_expr test).within) ((listed_stmt cons).within) refl refl) refl

pub stmt_Switch : (discriminant : Expr) (cases : List SwitchCase) (span : Range) → of_stmt (vStmt.Switch discriminant cases span) ≡ of_expr discriminant ∪ all_of of_switch_case cases
unfolding of_class_member of_decl of_expr of_module_decl of_module_item of_object_pat_prop of_pat of_prop of_stmt of_class of_function of_param of_switch_case of_ts_enum_member of_var_declarator of_stmts of_items of_members
stmt_Switch discriminant cases span = ap (λ (s : Listed). has_range s.within) (ap listed_stmt (sym (vStmt.rolls-Switch discriminant cases span)) ∙ at_listed_stmt (Stmt-F.Switch discriminant cases span)) ∙ two ((seen_expr discriminant).within) (all (map case_ranges cases)) refl (has_all case_ranges cases)

pub stmt_Throw : (arg : Expr) (span : Range) → of_stmt (vStmt.Throw arg span) ≡ of_expr arg
unfolding of_class_member of_decl of_expr of_module_decl of_module_item of_object_pat_prop of_pat of_prop of_stmt of_class of_function of_param of_switch_case of_ts_enum_member of_var_declarator of_stmts of_items of_members
stmt_Throw arg span = ap (λ (s : Listed). has_range s.within) (ap listed_stmt (sym (vStmt.rolls-Throw arg span)) ∙ at_listed_stmt (Stmt-F.Throw arg span))

pub stmt_Try : (block : Stmt) (param : Option Pat) (handler : Option Stmt) (finalizer : Option Stmt) (span : Range) → of_stmt (vStmt.Try block param handler finalizer span) ≡ of_stmt block ∪ if_some of_pat param ∪ if_some of_stmt handler ∪ if_some of_stmt finalizer
unfolding of_class_member of_decl of_expr of_module_decl of_module_item of_object_pat_prop of_pat of_prop of_stmt of_class of_function of_param of_switch_case of_ts_enum_member of_var_declarator of_stmts of_items of_members
stmt_Try block None None None span = ap (λ (s : Listed). has_range s.within) (ap listed_stmt (sym (vStmt.rolls-Try block None None None span)) ∙ at_listed_stmt (Stmt-F.Try block None None None span)) ∙ two ((listed_stmt block).within ++ [] ++ []) [] (two ((listed_stmt block).within ++ []) [] (two ((listed_stmt block).within) [] refl refl) refl) refl
stmt_Try block None None (Some finalizer) span = ap (λ (s : Listed). has_range s.within) (ap listed_stmt (sym (vStmt.rolls-Try block None None (Some finalizer) span)) ∙ at_listed_stmt (Stmt-F.Try block None None (Some finalizer) span)) ∙ two ((listed_stmt block).within ++ [] ++ []) ((listed_stmt finalizer).within) (two ((listed_stmt block).within ++ []) [] (two ((listed_stmt block).within) [] refl refl) refl) refl
stmt_Try block None (Some handler) None span = ap (λ (s : Listed). has_range s.within) (ap listed_stmt (sym (vStmt.rolls-Try block None (Some handler) None span)) ∙ at_listed_stmt (Stmt-F.Try block None (Some handler) None span)) ∙ two ((listed_stmt block).within ++ [] ++ (listed_stmt handler).within) [] (two ((listed_stmt block).within ++ []) ((listed_stmt handler).within) (two ((listed_stmt block).within) [] refl refl) refl) refl
stmt_Try block None (Some handler) (Some finalizer) span = ap (λ (s : Listed). has_range s.within) (ap listed_stmt (sym (vStmt.rolls-Try block None (Some handler) (Some finalizer) span)) ∙ at_listed_stmt (Stmt-F.Try block None (Some handler) (Some finalizer) span)) ∙ two ((listed_stmt block).within ++ [] ++ (listed_stmt handler).within) ((listed_stmt finalizer).within) (two ((listed_stmt block).within ++ []) ((listed_stmt handler).within) (two ((listed_stmt block).within) [] refl refl) refl) refl
stmt_Try block (Some param) None None span = ap (λ (s : Listed). has_range s.within) (ap listed_stmt (sym (vStmt.rolls-Try block (Some param) None None span)) ∙ at_listed_stmt (Stmt-F.Try block (Some param) None None span)) ∙ two ((listed_stmt block).within ++ pat_ranges param ++ []) [] (two ((listed_stmt block).within ++ pat_ranges param) [] (two ((listed_stmt block).within) (pat_ranges param) refl refl) refl) refl
stmt_Try block (Some param) None (Some finalizer) span = ap (λ (s : Listed). has_range s.within) (ap listed_stmt (sym (vStmt.rolls-Try block (Some param) None (Some finalizer) span)) ∙ at_listed_stmt (Stmt-F.Try block (Some param) None (Some finalizer) span)) ∙ two ((listed_stmt block).within ++ pat_ranges param ++ []) ((listed_stmt finalizer).within) (two ((listed_stmt block).within ++ pat_ranges param) [] (two ((listed_stmt block).within) (pat_ranges param) refl refl) refl) refl
stmt_Try block (Some param) (Some handler) None span = ap (λ (s : Listed). has_range s.within) (ap listed_stmt (sym (vStmt.rolls-Try block (Some param) (Some handler) None span)) ∙ at_listed_stmt (Stmt-F.Try block (Some param) (Some handler) None span)) ∙ two ((listed_stmt block).within ++ pat_ranges param ++ (listed_stmt handler).within) [] (two ((listed_stmt block).within ++ pat_ranges param) ((listed_stmt handler).within) (two ((listed_stmt block).within) (pat_ranges param) refl refl) refl) refl
stmt_Try block (Some param) (Some handler) (Some finalizer) span = ap (λ (s : Listed). has_range s.within) (ap listed_stmt (sym (vStmt.rolls-Try block (Some param) (Some handler) (Some finalizer) span)) ∙ at_listed_stmt (Stmt-F.Try block (Some param) (Some handler) (Some finalizer) span)) ∙ two ((listed_stmt block).within ++ pat_ranges param ++ (listed_stmt handler).within) ((listed_stmt finalizer).within) (two ((listed_stmt block).within ++ pat_ranges param) ((listed_stmt handler).within) (two ((listed_stmt block).within) (pat_ranges param) refl refl) refl) refl

pub stmt_While : (test : Expr) (body : Stmt) (span : Range) → of_stmt (vStmt.While test body span) ≡ of_expr test ∪ of_stmt body
unfolding of_class_member of_decl of_expr of_module_decl of_module_item of_object_pat_prop of_pat of_prop of_stmt of_class of_function of_param of_switch_case of_ts_enum_member of_var_declarator of_stmts of_items of_members
stmt_While test body span = ap (λ (s : Listed). has_range s.within) (ap listed_stmt (sym (vStmt.rolls-While test body span)) ∙ at_listed_stmt (Stmt-F.While test body span)) ∙ two ((seen_expr test).within) ((listed_stmt body).within) refl refl

pub stmt_DoWhile : (body : Stmt) (test : Expr) (span : Range) → of_stmt (vStmt.DoWhile body test span) ≡ of_stmt body ∪ of_expr test
unfolding of_class_member of_decl of_expr of_module_decl of_module_item of_object_pat_prop of_pat of_prop of_stmt of_class of_function of_param of_switch_case of_ts_enum_member of_var_declarator of_stmts of_items of_members
stmt_DoWhile body test span = ap (λ (s : Listed). has_range s.within) (ap listed_stmt (sym (vStmt.rolls-DoWhile body test span)) ∙ at_listed_stmt (Stmt-F.DoWhile body test span)) ∙ two ((listed_stmt body).within) ((seen_expr test).within) refl refl

pub stmt_For : (init : Option Stmt) (test : Option Expr) (update : Option Expr) (body : Stmt) (span : Range) → of_stmt (vStmt.For init test update body span) ≡ if_some of_stmt init ∪ if_some of_expr test ∪ if_some of_expr update ∪ of_stmt body
unfolding of_class_member of_decl of_expr of_module_decl of_module_item of_object_pat_prop of_pat of_prop of_stmt of_class of_function of_param of_switch_case of_ts_enum_member of_var_declarator of_stmts of_items of_members
stmt_For None None None body span = ap (λ (s : Listed). has_range s.within) (ap listed_stmt (sym (vStmt.rolls-For None None None body span)) ∙ at_listed_stmt (Stmt-F.For None None None body span)) ∙ two ([] ++ [] ++ []) ((listed_stmt body).within) (two ([] ++ []) [] (two [] [] refl refl) refl) refl
stmt_For None None (Some update) body span = ap (λ (s : Listed). has_range s.within) (ap listed_stmt (sym (vStmt.rolls-For None None (Some update) body span)) ∙ at_listed_stmt (Stmt-F.For None None (Some update) body span)) ∙ two ([] ++ [] ++ (seen_expr update).within) ((listed_stmt body).within) (two ([] ++ []) ((seen_expr update).within) (two [] [] refl refl) refl) refl
stmt_For None (Some test) None body span = ap (λ (s : Listed). has_range s.within) (ap listed_stmt (sym (vStmt.rolls-For None (Some test) None body span)) ∙ at_listed_stmt (Stmt-F.For None (Some test) None body span)) ∙ two ([] ++ (seen_expr test).within ++ []) ((listed_stmt body).within) (two ([] ++ (seen_expr test).within) [] (two [] ((seen_expr test).within) refl refl) refl) refl
stmt_For None (Some test) (Some update) body span = ap (λ (s : Listed). has_range s.within) (ap listed_stmt (sym (vStmt.rolls-For None (Some test) (Some update) body span)) ∙ at_listed_stmt (Stmt-F.For None (Some test) (Some update) body span)) ∙ two ([] ++ (seen_expr test).within ++ (seen_expr update).within) ((listed_stmt body).within) (two ([] ++ (seen_expr test).within) ((seen_expr update).within) (two [] ((seen_expr test).within) refl refl) refl) refl
stmt_For (Some init) None None body span = ap (λ (s : Listed). has_range s.within) (ap listed_stmt (sym (vStmt.rolls-For (Some init) None None body span)) ∙ at_listed_stmt (Stmt-F.For (Some init) None None body span)) ∙ two ((listed_stmt init).within ++ [] ++ []) ((listed_stmt body).within) (two ((listed_stmt init).within ++ []) [] (two ((listed_stmt init).within) [] refl refl) refl) refl
stmt_For (Some init) None (Some update) body span = ap (λ (s : Listed). has_range s.within) (ap listed_stmt (sym (vStmt.rolls-For (Some init) None (Some update) body span)) ∙ at_listed_stmt (Stmt-F.For (Some init) None (Some update) body span)) ∙ two ((listed_stmt init).within ++ [] ++ (seen_expr update).within) ((listed_stmt body).within) (two ((listed_stmt init).within ++ []) ((seen_expr update).within) (two ((listed_stmt init).within) [] refl refl) refl) refl
stmt_For (Some init) (Some test) None body span = ap (λ (s : Listed). has_range s.within) (ap listed_stmt (sym (vStmt.rolls-For (Some init) (Some test) None body span)) ∙ at_listed_stmt (Stmt-F.For (Some init) (Some test) None body span)) ∙ two ((listed_stmt init).within ++ (seen_expr test).within ++ []) ((listed_stmt body).within) (two ((listed_stmt init).within ++ (seen_expr test).within) [] (two ((listed_stmt init).within) ((seen_expr test).within) refl refl) refl) refl
stmt_For (Some init) (Some test) (Some update) body span = ap (λ (s : Listed). has_range s.within) (ap listed_stmt (sym (vStmt.rolls-For (Some init) (Some test) (Some update) body span)) ∙ at_listed_stmt (Stmt-F.For (Some init) (Some test) (Some update) body span)) ∙ two ((listed_stmt init).within ++ (seen_expr test).within ++ (seen_expr update).within) ((listed_stmt body).within) (two ((listed_stmt init).within ++ (seen_expr test).within) ((seen_expr update).within) (two ((listed_stmt init).within) ((seen_expr test).within) refl refl) refl) refl

pub stmt_ForIn : (kind : Option VarDeclKind) (left : Pat) (right : Expr) (body : Stmt) (span : Range) → of_stmt (vStmt.ForIn kind left right body span) ≡ of_pat left ∪ of_expr right ∪ of_stmt body
unfolding of_class_member of_decl of_expr of_module_decl of_module_item of_object_pat_prop of_pat of_prop of_stmt of_class of_function of_param of_switch_case of_ts_enum_member of_var_declarator of_stmts of_items of_members
stmt_ForIn kind left right body span = ap (λ (s : Listed). has_range s.within) (ap listed_stmt (sym (vStmt.rolls-ForIn kind left right body span)) ∙ at_listed_stmt (Stmt-F.ForIn kind left right body span)) ∙ two (pat_ranges left ++ (seen_expr right).within) ((listed_stmt body).within) (two (pat_ranges left) ((seen_expr right).within) refl refl) refl

pub stmt_ForOf : (is_await : Bool) (kind : Option VarDeclKind) (left : Pat) (right : Expr) (body : Stmt) (span : Range) → of_stmt (vStmt.ForOf is_await kind left right body span) ≡ of_pat left ∪ of_expr right ∪ of_stmt body
unfolding of_class_member of_decl of_expr of_module_decl of_module_item of_object_pat_prop of_pat of_prop of_stmt of_class of_function of_param of_switch_case of_ts_enum_member of_var_declarator of_stmts of_items of_members
stmt_ForOf is_await kind left right body span = ap (λ (s : Listed). has_range s.within) (ap listed_stmt (sym (vStmt.rolls-ForOf is_await kind left right body span)) ∙ at_listed_stmt (Stmt-F.ForOf is_await kind left right body span)) ∙ two (pat_ranges left ++ (seen_expr right).within) ((listed_stmt body).within) (two (pat_ranges left) ((seen_expr right).within) refl refl) refl

pub stmt_Decl : (it : Decl) → of_stmt (vStmt.Decl it) ≡ of_decl it
unfolding of_class_member of_decl of_expr of_module_decl of_module_item of_object_pat_prop of_pat of_prop of_stmt of_class of_function of_param of_switch_case of_ts_enum_member of_var_declarator of_stmts of_items of_members
stmt_Decl it = ap (λ (s : Listed). has_range s.within) (ap listed_stmt (sym (vStmt.rolls-Decl it)) ∙ at_listed_stmt (Stmt-F.Decl it))

pub stmt_Expr : (expr : Expr) (span : Range) → of_stmt (vStmt.Expr expr span) ≡ of_expr expr
unfolding of_class_member of_decl of_expr of_module_decl of_module_item of_object_pat_prop of_pat of_prop of_stmt of_class of_function of_param of_switch_case of_ts_enum_member of_var_declarator of_stmts of_items of_members
stmt_Expr expr span = ap (λ (s : Listed). has_range s.within) (ap listed_stmt (sym (vStmt.rolls-Expr expr span)) ∙ at_listed_stmt (Stmt-F.Stmt::Expr expr span))

class_roll_of : (ident : Option Ident) (is_abstract : Bool) (type_params : Option TsPart) (super_class : Option Expr) (super_type_args : Option TsPart) (implements : Option TsPart) (body : List ClassMember) (span : Range) → of_class (roll-Class (record { ident = ident; is_abstract = is_abstract; type_params = type_params; super_class = super_class; super_type_args = super_type_args; implements = implements; body = body; span = span })) ≡ if_some of_expr super_class ∪ of_members body
unfolding of_class_member of_decl of_expr of_module_decl of_module_item of_object_pat_prop of_pat of_prop of_stmt of_class of_function of_param of_switch_case of_ts_enum_member of_var_declarator of_stmts of_items of_members
class_roll_of ident is_abstract type_params None super_type_args implements body span = ap has_range (at_class_ranges (record { ident = ident; is_abstract = is_abstract; type_params = type_params; super_class = None; super_type_args = super_type_args; implements = implements; body = body; span = span })) ∙ two [] (in_list None (map listed_member body)) refl refl
class_roll_of ident is_abstract type_params (Some super_class) super_type_args implements body span = ap has_range (at_class_ranges (record { ident = ident; is_abstract = is_abstract; type_params = type_params; super_class = (Some super_class); super_type_args = super_type_args; implements = implements; body = body; span = span })) ∙ two (seen_expr super_class).within (in_list None (map listed_member body)) refl refl

pub class_roll : (w : Whole Class-F) → of_class (roll-Class w) ≡ if_some of_expr w.super_class ∪ of_members w.body
class_roll w = class_roll_of w.ident w.is_abstract w.type_params w.super_class w.super_type_args w.implements w.body w.span

function_roll_of : (ident : Option Ident) (is_async : Bool) (is_generator : Bool) (type_params : Option TsPart) (params : List Param) (return_type : Option TsPart) (body : Option Stmt) (span : Range) → of_function (roll-Function (record { ident = ident; is_async = is_async; is_generator = is_generator; type_params = type_params; params = params; return_type = return_type; body = body; span = span })) ≡ all_of of_param params ∪ if_some of_stmt body
unfolding of_class_member of_decl of_expr of_module_decl of_module_item of_object_pat_prop of_pat of_prop of_stmt of_class of_function of_param of_switch_case of_ts_enum_member of_var_declarator of_stmts of_items of_members
function_roll_of ident is_async is_generator type_params params return_type None span = ap (λ (s : SeenFunction). has_range s.within) (at_seen_function (record { ident = ident; is_async = is_async; is_generator = is_generator; type_params = type_params; params = params; return_type = return_type; body = None; span = span })) ∙ two (all (map param_ranges params)) [] (has_all param_ranges params) refl
function_roll_of ident is_async is_generator type_params params return_type (Some body) span = ap (λ (s : SeenFunction). has_range s.within) (at_seen_function (record { ident = ident; is_async = is_async; is_generator = is_generator; type_params = type_params; params = params; return_type = return_type; body = (Some body); span = span })) ∙ two (all (map param_ranges params)) (listed_stmt body).within (has_all param_ranges params) refl

pub function_roll : (w : Whole Function-F) → of_function (roll-Function w) ≡ all_of of_param w.params ∪ if_some of_stmt w.body
function_roll w = function_roll_of w.ident w.is_async w.is_generator w.type_params w.params w.return_type w.body w.span

param_roll_of : (modifiers : Modifiers) (pat : Pat) (span : Range) → of_param (roll-Param (record { modifiers = modifiers; pat = pat; span = span })) ≡ of_pat pat
unfolding of_class_member of_decl of_expr of_module_decl of_module_item of_object_pat_prop of_pat of_prop of_stmt of_class of_function of_param of_switch_case of_ts_enum_member of_var_declarator of_stmts of_items of_members
param_roll_of modifiers pat span = ap has_range (at_param_ranges (record { modifiers = modifiers; pat = pat; span = span }))

pub param_roll : (w : Whole Param-F) → of_param (roll-Param w) ≡ of_pat w.pat
param_roll w = param_roll_of w.modifiers w.pat w.span

switch_case_roll_of : (test : Option Expr) (cons : List Stmt) (span : Range) → of_switch_case (roll-SwitchCase (record { test = test; cons = cons; span = span })) ≡ if_some of_expr test ∪ of_stmts cons
unfolding of_class_member of_decl of_expr of_module_decl of_module_item of_object_pat_prop of_pat of_prop of_stmt of_class of_function of_param of_switch_case of_ts_enum_member of_var_declarator of_stmts of_items of_members
switch_case_roll_of None cons span = ap has_range (at_case_ranges (record { test = None; cons = cons; span = span })) ∙ two [] (in_list None (map listed_stmt cons)) refl refl
switch_case_roll_of (Some test) cons span = ap has_range (at_case_ranges (record { test = (Some test); cons = cons; span = span })) ∙ two (seen_expr test).within (in_list None (map listed_stmt cons)) refl refl

pub switch_case_roll : (w : Whole SwitchCase-F) → of_switch_case (roll-SwitchCase w) ≡ if_some of_expr w.test ∪ of_stmts w.cons
switch_case_roll w = switch_case_roll_of w.test w.cons w.span

ts_enum_member_roll_of : (computed : Bool) (id : Expr) (init : Option Expr) (span : Range) → of_ts_enum_member (roll-TsEnumMember (record { computed = computed; id = id; init = init; span = span })) ≡ of_expr id ∪ if_some of_expr init
unfolding of_class_member of_decl of_expr of_module_decl of_module_item of_object_pat_prop of_pat of_prop of_stmt of_class of_function of_param of_switch_case of_ts_enum_member of_var_declarator of_stmts of_items of_members
ts_enum_member_roll_of computed id None span = ap has_range (at_enum_member_ranges (record { computed = computed; id = id; init = None; span = span })) ∙ two (seen_expr id).within [] refl refl
ts_enum_member_roll_of computed id (Some init) span = ap has_range (at_enum_member_ranges (record { computed = computed; id = id; init = (Some init); span = span })) ∙ two (seen_expr id).within (seen_expr init).within refl refl

pub ts_enum_member_roll : (w : Whole TsEnumMember-F) → of_ts_enum_member (roll-TsEnumMember w) ≡ of_expr w.id ∪ if_some of_expr w.init
ts_enum_member_roll w = ts_enum_member_roll_of w.computed w.id w.init w.span

var_declarator_roll_of : (name : Pat) (definite : Bool) (init : Option Expr) (span : Range) → of_var_declarator (roll-VarDeclarator (record { name = name; definite = definite; init = init; span = span })) ≡ of_pat name ∪ if_some of_expr init
unfolding of_class_member of_decl of_expr of_module_decl of_module_item of_object_pat_prop of_pat of_prop of_stmt of_class of_function of_param of_switch_case of_ts_enum_member of_var_declarator of_stmts of_items of_members
var_declarator_roll_of name definite None span = ap has_range (at_declarator_ranges (record { name = name; definite = definite; init = None; span = span })) ∙ two (pat_ranges name) [] refl refl
var_declarator_roll_of name definite (Some init) span = ap has_range (at_declarator_ranges (record { name = name; definite = definite; init = (Some init); span = span })) ∙ two (pat_ranges name) (seen_expr init).within refl refl

pub var_declarator_roll : (w : Whole VarDeclarator-F) → of_var_declarator (roll-VarDeclarator w) ≡ of_pat w.name ∪ if_some of_expr w.init
var_declarator_roll w = var_declarator_roll_of w.name w.definite w.init w.span
