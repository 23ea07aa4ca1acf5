-- The sites of each form, from those of its parts, as they are added to the sites found before.
use Rattle.std.specs.Prelude.{Bool, List, ◌++◌, Option, Some, None, map}
use Rattle.std.specs.List.{flat_map}
use Rattle.std.proofs.Common.{◌≡◌, sym, ap, ◌∙◌}
use Rattle.base.specs.declared.range.Range.{Range}
use Rattle.es_ast.specs.declared.ts.leaf.Ident.{Ident}
use Rattle.es_ast.specs.declared.ts.leaf.MethodKind.{MethodKind}
use Rattle.es_ast.specs.declared.ts.leaf.Str.{Str}
use Rattle.es_ast.specs.declared.ts.leaf.TplElement.{TplElement}
use Rattle.es_ast.specs.declared.ts.leaf.TsEntityName.{TsEntityName}
use Rattle.es_ast.specs.declared.ts.ts.TsPart.{TsPart}
use Rattle.es_ast.specs.declared.leaf.ExportAll.{ExportAll}
use Rattle.es_ast.specs.declared.leaf.ImportDecl.{ImportDecl}
use Rattle.es_ast.specs.declared.leaf.ImportPhase.{ImportPhase}
use Rattle.es_ast.specs.declared.leaf.Lit.{Lit}
use Rattle.es_ast.specs.declared.leaf.Modifiers.{Modifiers}
use Rattle.es_ast.specs.declared.leaf.NamedExport.{NamedExport}
use Rattle.es_ast.specs.declared.leaf.TsImportEqualsDecl.{TsImportEqualsDecl}
use Rattle.es_ast.specs.declared.leaf.TsNamespaceExportDecl.{TsNamespaceExportDecl}
use Rattle.es_ast.specs.declared.leaf.UnaryOp.{UnaryOp}
use Rattle.es_ast.specs.declared.leaf.UpdateOp.{UpdateOp}
use Rattle.es_ast.specs.declared.leaf.BinaryOp.{BinaryOp}
use Rattle.es_ast.specs.declared.leaf.AssignOp.{AssignOp}
use Rattle.es_ast.specs.declared.leaf.VarDeclKind.{VarDeclKind}
use Rattle.es_ast.specs.declared.ast.ClassMember.{ClassMember, roll-ClassMember, map-ClassMember}
use Rattle.es_ast.specs.declared.ast.ClassMember.TheVariants as vClassMember
use Rattle.es_ast.specs.declared.ast.Decl.{Decl, roll-Decl, map-Decl}
use Rattle.es_ast.specs.declared.ast.Decl.TheVariants as vDecl
use Rattle.es_ast.specs.declared.ast.Expr.{Expr, roll-Expr, map-Expr}
use Rattle.es_ast.specs.declared.ast.Expr.TheVariants as vExpr
use Rattle.es_ast.specs.declared.ast.ModuleDecl.{ModuleDecl, roll-ModuleDecl, map-ModuleDecl}
use Rattle.es_ast.specs.declared.ast.ModuleDecl.TheVariants as vModuleDecl
use Rattle.es_ast.specs.declared.ast.ModuleItem.{ModuleItem, roll-ModuleItem, map-ModuleItem}
use Rattle.es_ast.specs.declared.ast.ModuleItem.TheVariants as vModuleItem
use Rattle.es_ast.specs.declared.ast.ObjectPatProp.{ObjectPatProp, roll-ObjectPatProp, map-ObjectPatProp}
use Rattle.es_ast.specs.declared.ast.ObjectPatProp.TheVariants as vObjectPatProp
use Rattle.es_ast.specs.declared.ast.Pat.{Pat, roll-Pat, map-Pat}
use Rattle.es_ast.specs.declared.ast.Pat.TheVariants as vPat
use Rattle.es_ast.specs.declared.ast.Prop.{Prop, roll-Prop, map-Prop}
use Rattle.es_ast.specs.declared.ast.Prop.TheVariants as vProp
use Rattle.es_ast.specs.declared.ast.Stmt.{Stmt, roll-Stmt, map-Stmt}
use Rattle.es_ast.specs.declared.ast.Stmt.TheVariants as vStmt
use Rattle.es_ast.specs.declared.ast.Class.{Class, roll-Class, out-Class, roll-out-Class, map-Class}
use Rattle.es_ast.specs.declared.ast.Function.{Function, roll-Function, out-Function, roll-out-Function, map-Function}
use Rattle.es_ast.specs.declared.ast.Param.{Param, roll-Param, out-Param, roll-out-Param, map-Param}
use Rattle.es_ast.specs.declared.ast.SwitchCase.{SwitchCase, roll-SwitchCase, out-SwitchCase, roll-out-SwitchCase, map-SwitchCase}
use Rattle.es_ast.specs.declared.ast.TsEnumMember.{TsEnumMember, roll-TsEnumMember, out-TsEnumMember, roll-out-TsEnumMember, map-TsEnumMember}
use Rattle.es_ast.specs.declared.ast.VarDeclarator.{VarDeclarator, roll-VarDeclarator, out-VarDeclarator, roll-out-VarDeclarator, map-VarDeclarator}
use Rattle.es_ast.specs.declared.ast.ClassMember.TheOpen.{ClassMember-F, Decl-F, Expr-F, ModuleDecl-F, ModuleItem-F, ObjectPatProp-F, Pat-F, Prop-F, Stmt-F, Class-F, Function-F, Param-F, SwitchCase-F, TsEnumMember-F, VarDeclarator-F}
use Rattle.es_ast.specs.declared.ast.ClassMember.TheFolds.{para-roll-ClassMember, para-roll-Decl, para-roll-Expr, para-roll-ModuleDecl, para-roll-ModuleItem, para-roll-ObjectPatProp, para-roll-Pat, para-roll-Prop, para-roll-Stmt, para-roll-Class, para-roll-Function, para-roll-Param, para-roll-SwitchCase, para-roll-TsEnumMember, para-roll-VarDeclarator}
use Rattle.es_site.specs.Parts.{Whole}
use Rattle.es_site.specs.Sites.{Found, each, if_some, import_site, named_export_sites, export_all_site, import_equals_sites, call_sites}
use Rattle.es_site.specs.Sites.{in_class_member, in_decl, in_expr, in_module_decl, in_module_item, in_object_pat_prop, in_pat, in_prop, in_stmt, in_class, in_function, in_param, in_switch_case, in_ts_enum_member, in_var_declarator}
use Rattle.es_site.specs.Sites.{sites_of_class_member, sites_of_decl, sites_of_expr, sites_of_module_decl, sites_of_module_item, sites_of_object_pat_prop, sites_of_pat, sites_of_prop, sites_of_stmt, sites_of_class, sites_of_function, sites_of_param, sites_of_switch_case, sites_of_ts_enum_member, sites_of_var_declarator}
use Rattle.es_site.proofs.ListLemmas.{each_of, firsts_of, adds_none, adds_one, adds_two, adds_three, adds_four}

abbrev with_class_member : ClassMember → ClassMember × Found
with_class_member it = (it, sites_of_class_member it)

abbrev with_decl : Decl → Decl × Found
with_decl it = (it, sites_of_decl it)

abbrev with_expr : Expr → Expr × Found
with_expr it = (it, sites_of_expr it)

abbrev with_module_decl : ModuleDecl → ModuleDecl × Found
with_module_decl it = (it, sites_of_module_decl it)

abbrev with_module_item : ModuleItem → ModuleItem × Found
with_module_item it = (it, sites_of_module_item it)

abbrev with_object_pat_prop : ObjectPatProp → ObjectPatProp × Found
with_object_pat_prop it = (it, sites_of_object_pat_prop it)

abbrev with_pat : Pat → Pat × Found
with_pat it = (it, sites_of_pat it)

abbrev with_prop : Prop → Prop × Found
with_prop it = (it, sites_of_prop it)

abbrev with_stmt : Stmt → Stmt × Found
with_stmt it = (it, sites_of_stmt it)

abbrev with_class : Class → Class × Found
with_class it = (it, sites_of_class it)

abbrev with_function : Function → Function × Found
with_function it = (it, sites_of_function it)

abbrev with_param : Param → Param × Found
with_param it = (it, sites_of_param it)

abbrev with_switch_case : SwitchCase → SwitchCase × Found
with_switch_case it = (it, sites_of_switch_case it)

abbrev with_ts_enum_member : TsEnumMember → TsEnumMember × Found
with_ts_enum_member it = (it, sites_of_ts_enum_member it)

abbrev with_var_declarator : VarDeclarator → VarDeclarator × Found
with_var_declarator it = (it, sites_of_var_declarator it)

at_class_member : (it : Whole ClassMember-F)
    → sites_of_class_member (roll-ClassMember it) ≡ in_class_member (map-ClassMember
    ClassMember Decl Expr ModuleDecl ModuleItem ObjectPatProp Pat Prop Stmt Class Function Param SwitchCase TsEnumMember
    VarDeclarator (ClassMember × Found) (Decl × Found) (Expr × Found) (ModuleDecl × Found) (ModuleItem × Found)
    (ObjectPatProp ×
    Found) (Pat × Found) (Prop × Found) (Stmt × Found) (Class × Found) (Function × Found) (Param × Found)
    (SwitchCase × Found)
    (TsEnumMember × Found) (VarDeclarator × Found) with_class_member with_decl with_expr with_module_decl
    with_module_item
    with_object_pat_prop with_pat with_prop with_stmt with_class with_function with_param with_switch_case
    with_ts_enum_member
    with_var_declarator it)
unfolding sites_of_class_member sites_of_decl sites_of_expr sites_of_module_decl sites_of_module_item
    sites_of_object_pat_prop
    sites_of_pat sites_of_prop sites_of_stmt sites_of_class sites_of_function sites_of_param sites_of_switch_case
    sites_of_ts_enum_member sites_of_var_declarator
at_class_member it =
    para-roll-ClassMember Found Found Found Found Found Found Found Found Found Found Found Found Found Found
    Found in_class_member in_decl in_expr in_module_decl in_module_item in_object_pat_prop in_pat in_prop in_stmt
    in_class
    in_function in_param in_switch_case in_ts_enum_member in_var_declarator it

at_decl : (it : Whole Decl-F)
    → sites_of_decl (roll-Decl it) ≡ in_decl (map-Decl ClassMember Decl Expr ModuleDecl ModuleItem
    ObjectPatProp Pat Prop Stmt Class Function Param SwitchCase TsEnumMember VarDeclarator (ClassMember × Found)
    (Decl × Found)
    (Expr × Found) (ModuleDecl × Found) (ModuleItem × Found) (ObjectPatProp × Found) (Pat × Found) (Prop × Found)
    (Stmt × Found)
    (Class × Found) (Function × Found) (Param × Found) (SwitchCase × Found) (TsEnumMember × Found)
    (VarDeclarator × Found)
    with_class_member with_decl with_expr with_module_decl with_module_item with_object_pat_prop with_pat with_prop
    with_stmt
    with_class with_function with_param with_switch_case with_ts_enum_member with_var_declarator it)
unfolding sites_of_class_member sites_of_decl sites_of_expr sites_of_module_decl sites_of_module_item
    sites_of_object_pat_prop
    sites_of_pat sites_of_prop sites_of_stmt sites_of_class sites_of_function sites_of_param sites_of_switch_case
    sites_of_ts_enum_member sites_of_var_declarator
at_decl it = para-roll-Decl Found Found Found Found Found Found Found Found Found Found Found Found Found Found Found
    in_class_member in_decl in_expr in_module_decl in_module_item in_object_pat_prop in_pat in_prop in_stmt in_class
    in_function
    in_param in_switch_case in_ts_enum_member in_var_declarator it

at_expr : (it : Whole Expr-F)
    → sites_of_expr (roll-Expr it) ≡ in_expr (map-Expr ClassMember Decl Expr ModuleDecl ModuleItem
    ObjectPatProp Pat Prop Stmt Class Function Param SwitchCase TsEnumMember VarDeclarator (ClassMember × Found)
    (Decl × Found)
    (Expr × Found) (ModuleDecl × Found) (ModuleItem × Found) (ObjectPatProp × Found) (Pat × Found) (Prop × Found)
    (Stmt × Found)
    (Class × Found) (Function × Found) (Param × Found) (SwitchCase × Found) (TsEnumMember × Found)
    (VarDeclarator × Found)
    with_class_member with_decl with_expr with_module_decl with_module_item with_object_pat_prop with_pat with_prop
    with_stmt
    with_class with_function with_param with_switch_case with_ts_enum_member with_var_declarator it)
unfolding sites_of_class_member sites_of_decl sites_of_expr sites_of_module_decl sites_of_module_item
    sites_of_object_pat_prop
    sites_of_pat sites_of_prop sites_of_stmt sites_of_class sites_of_function sites_of_param sites_of_switch_case
    sites_of_ts_enum_member sites_of_var_declarator
at_expr it = para-roll-Expr Found Found Found Found Found Found Found Found Found Found Found Found Found Found Found
    in_class_member in_decl in_expr in_module_decl in_module_item in_object_pat_prop in_pat in_prop in_stmt in_class
    in_function
    in_param in_switch_case in_ts_enum_member in_var_declarator it

at_module_decl : (it : Whole ModuleDecl-F)
    → sites_of_module_decl (roll-ModuleDecl it) ≡ in_module_decl (map-ModuleDecl ClassMember
    Decl Expr ModuleDecl ModuleItem ObjectPatProp Pat Prop Stmt Class Function Param SwitchCase TsEnumMember
    VarDeclarator
    (ClassMember × Found) (Decl × Found) (Expr × Found) (ModuleDecl × Found) (ModuleItem × Found)
    (ObjectPatProp × Found) (Pat ×
    Found) (Prop × Found) (Stmt × Found) (Class × Found) (Function × Found) (Param × Found) (SwitchCase × Found)
    (TsEnumMember ×
    Found) (VarDeclarator × Found) with_class_member with_decl with_expr with_module_decl with_module_item
    with_object_pat_prop
    with_pat with_prop with_stmt with_class with_function with_param with_switch_case with_ts_enum_member
    with_var_declarator it)
unfolding sites_of_class_member sites_of_decl sites_of_expr sites_of_module_decl sites_of_module_item
    sites_of_object_pat_prop
    sites_of_pat sites_of_prop sites_of_stmt sites_of_class sites_of_function sites_of_param sites_of_switch_case
    sites_of_ts_enum_member sites_of_var_declarator
at_module_decl it = para-roll-ModuleDecl Found Found Found Found Found Found Found Found Found Found Found Found Found
    Found Found
    in_class_member in_decl in_expr in_module_decl in_module_item in_object_pat_prop in_pat in_prop in_stmt in_class
    in_function
    in_param in_switch_case in_ts_enum_member in_var_declarator it

at_module_item : (it : Whole ModuleItem-F)
    → sites_of_module_item (roll-ModuleItem it) ≡ in_module_item (map-ModuleItem ClassMember
    Decl Expr ModuleDecl ModuleItem ObjectPatProp Pat Prop Stmt Class Function Param SwitchCase TsEnumMember
    VarDeclarator
    (ClassMember × Found) (Decl × Found) (Expr × Found) (ModuleDecl × Found) (ModuleItem × Found)
    (ObjectPatProp × Found) (Pat ×
    Found) (Prop × Found) (Stmt × Found) (Class × Found) (Function × Found) (Param × Found) (SwitchCase × Found)
    (TsEnumMember ×
    Found) (VarDeclarator × Found) with_class_member with_decl with_expr with_module_decl with_module_item
    with_object_pat_prop
    with_pat with_prop with_stmt with_class with_function with_param with_switch_case with_ts_enum_member
    with_var_declarator it)
unfolding sites_of_class_member sites_of_decl sites_of_expr sites_of_module_decl sites_of_module_item
    sites_of_object_pat_prop
    sites_of_pat sites_of_prop sites_of_stmt sites_of_class sites_of_function sites_of_param sites_of_switch_case
    sites_of_ts_enum_member sites_of_var_declarator
at_module_item it = para-roll-ModuleItem Found Found Found Found Found Found Found Found Found Found Found Found Found
    Found Found
    in_class_member in_decl in_expr in_module_decl in_module_item in_object_pat_prop in_pat in_prop in_stmt in_class
    in_function
    in_param in_switch_case in_ts_enum_member in_var_declarator it

at_object_pat_prop : (it : Whole ObjectPatProp-F)
    → sites_of_object_pat_prop (roll-ObjectPatProp it) ≡ in_object_pat_prop
    (map-ObjectPatProp ClassMember Decl Expr ModuleDecl ModuleItem ObjectPatProp Pat Prop Stmt Class Function Param
    SwitchCase
    TsEnumMember VarDeclarator (ClassMember × Found) (Decl × Found) (Expr × Found) (ModuleDecl × Found)
    (ModuleItem × Found)
    (ObjectPatProp × Found) (Pat × Found) (Prop × Found) (Stmt × Found) (Class × Found) (Function × Found)
    (Param × Found)
    (SwitchCase × Found) (TsEnumMember × Found) (VarDeclarator × Found) with_class_member with_decl with_expr
    with_module_decl
    with_module_item with_object_pat_prop with_pat with_prop with_stmt with_class with_function with_param
    with_switch_case
    with_ts_enum_member with_var_declarator it)
unfolding sites_of_class_member sites_of_decl sites_of_expr sites_of_module_decl sites_of_module_item
    sites_of_object_pat_prop
    sites_of_pat sites_of_prop sites_of_stmt sites_of_class sites_of_function sites_of_param sites_of_switch_case
    sites_of_ts_enum_member sites_of_var_declarator
at_object_pat_prop it =
    para-roll-ObjectPatProp Found Found Found Found Found Found Found Found Found Found Found Found Found Found
    Found in_class_member in_decl in_expr in_module_decl in_module_item in_object_pat_prop in_pat in_prop in_stmt
    in_class
    in_function in_param in_switch_case in_ts_enum_member in_var_declarator it

at_pat : (it : Whole Pat-F) → sites_of_pat (roll-Pat it) ≡ in_pat (map-Pat ClassMember Decl Expr ModuleDecl ModuleItem
    ObjectPatProp Pat Prop Stmt Class Function Param SwitchCase TsEnumMember VarDeclarator (ClassMember × Found)
    (Decl × Found)
    (Expr × Found) (ModuleDecl × Found) (ModuleItem × Found) (ObjectPatProp × Found) (Pat × Found) (Prop × Found)
    (Stmt × Found)
    (Class × Found) (Function × Found) (Param × Found) (SwitchCase × Found) (TsEnumMember × Found)
    (VarDeclarator × Found)
    with_class_member with_decl with_expr with_module_decl with_module_item with_object_pat_prop with_pat with_prop
    with_stmt
    with_class with_function with_param with_switch_case with_ts_enum_member with_var_declarator it)
unfolding sites_of_class_member sites_of_decl sites_of_expr sites_of_module_decl sites_of_module_item
    sites_of_object_pat_prop
    sites_of_pat sites_of_prop sites_of_stmt sites_of_class sites_of_function sites_of_param sites_of_switch_case
    sites_of_ts_enum_member sites_of_var_declarator
at_pat it = para-roll-Pat Found Found Found Found Found Found Found Found Found Found Found Found Found Found Found
    in_class_member
    in_decl in_expr in_module_decl in_module_item in_object_pat_prop in_pat in_prop in_stmt in_class in_function
    in_param
    in_switch_case in_ts_enum_member in_var_declarator it

at_prop : (it : Whole Prop-F)
    → sites_of_prop (roll-Prop it) ≡ in_prop (map-Prop ClassMember Decl Expr ModuleDecl ModuleItem
    ObjectPatProp Pat Prop Stmt Class Function Param SwitchCase TsEnumMember VarDeclarator (ClassMember × Found)
    (Decl × Found)
    (Expr × Found) (ModuleDecl × Found) (ModuleItem × Found) (ObjectPatProp × Found) (Pat × Found) (Prop × Found)
    (Stmt × Found)
    (Class × Found) (Function × Found) (Param × Found) (SwitchCase × Found) (TsEnumMember × Found)
    (VarDeclarator × Found)
    with_class_member with_decl with_expr with_module_decl with_module_item with_object_pat_prop with_pat with_prop
    with_stmt
    with_class with_function with_param with_switch_case with_ts_enum_member with_var_declarator it)
unfolding sites_of_class_member sites_of_decl sites_of_expr sites_of_module_decl sites_of_module_item
    sites_of_object_pat_prop
    sites_of_pat sites_of_prop sites_of_stmt sites_of_class sites_of_function sites_of_param sites_of_switch_case
    sites_of_ts_enum_member sites_of_var_declarator
at_prop it = para-roll-Prop Found Found Found Found Found Found Found Found Found Found Found Found Found Found Found
    in_class_member in_decl in_expr in_module_decl in_module_item in_object_pat_prop in_pat in_prop in_stmt in_class
    in_function
    in_param in_switch_case in_ts_enum_member in_var_declarator it

at_stmt : (it : Whole Stmt-F)
    → sites_of_stmt (roll-Stmt it) ≡ in_stmt (map-Stmt ClassMember Decl Expr ModuleDecl ModuleItem
    ObjectPatProp Pat Prop Stmt Class Function Param SwitchCase TsEnumMember VarDeclarator (ClassMember × Found)
    (Decl × Found)
    (Expr × Found) (ModuleDecl × Found) (ModuleItem × Found) (ObjectPatProp × Found) (Pat × Found) (Prop × Found)
    (Stmt × Found)
    (Class × Found) (Function × Found) (Param × Found) (SwitchCase × Found) (TsEnumMember × Found)
    (VarDeclarator × Found)
    with_class_member with_decl with_expr with_module_decl with_module_item with_object_pat_prop with_pat with_prop
    with_stmt
    with_class with_function with_param with_switch_case with_ts_enum_member with_var_declarator it)
unfolding sites_of_class_member sites_of_decl sites_of_expr sites_of_module_decl sites_of_module_item
    sites_of_object_pat_prop
    sites_of_pat sites_of_prop sites_of_stmt sites_of_class sites_of_function sites_of_param sites_of_switch_case
    sites_of_ts_enum_member sites_of_var_declarator
at_stmt it = para-roll-Stmt Found Found Found Found Found Found Found Found Found Found Found Found Found Found Found
    in_class_member in_decl in_expr in_module_decl in_module_item in_object_pat_prop in_pat in_prop in_stmt in_class
    in_function
    in_param in_switch_case in_ts_enum_member in_var_declarator it

at_class : (it : Whole Class-F)
    → sites_of_class (roll-Class it) ≡ in_class (map-Class ClassMember Decl Expr ModuleDecl ModuleItem
    ObjectPatProp Pat Prop Stmt Class Function Param SwitchCase TsEnumMember VarDeclarator (ClassMember × Found)
    (Decl × Found)
    (Expr × Found) (ModuleDecl × Found) (ModuleItem × Found) (ObjectPatProp × Found) (Pat × Found) (Prop × Found)
    (Stmt × Found)
    (Class × Found) (Function × Found) (Param × Found) (SwitchCase × Found) (TsEnumMember × Found)
    (VarDeclarator × Found)
    with_class_member with_decl with_expr with_module_decl with_module_item with_object_pat_prop with_pat with_prop
    with_stmt
    with_class with_function with_param with_switch_case with_ts_enum_member with_var_declarator it)
unfolding sites_of_class_member sites_of_decl sites_of_expr sites_of_module_decl sites_of_module_item
    sites_of_object_pat_prop
    sites_of_pat sites_of_prop sites_of_stmt sites_of_class sites_of_function sites_of_param sites_of_switch_case
    sites_of_ts_enum_member sites_of_var_declarator
at_class it = para-roll-Class Found Found Found Found Found Found Found Found Found Found Found Found Found Found Found
    in_class_member in_decl in_expr in_module_decl in_module_item in_object_pat_prop in_pat in_prop in_stmt in_class
    in_function
    in_param in_switch_case in_ts_enum_member in_var_declarator it

at_function : (it : Whole Function-F)
    → sites_of_function (roll-Function it) ≡ in_function (map-Function ClassMember Decl Expr
    ModuleDecl ModuleItem ObjectPatProp Pat Prop Stmt Class Function Param SwitchCase TsEnumMember VarDeclarator
    (ClassMember ×
    Found) (Decl × Found) (Expr × Found) (ModuleDecl × Found) (ModuleItem × Found) (ObjectPatProp × Found)
    (Pat × Found) (Prop ×
    Found) (Stmt × Found) (Class × Found) (Function × Found) (Param × Found) (SwitchCase × Found) (TsEnumMember × Found)
    (VarDeclarator × Found) with_class_member with_decl with_expr with_module_decl with_module_item
    with_object_pat_prop with_pat
    with_prop with_stmt with_class with_function with_param with_switch_case with_ts_enum_member with_var_declarator it)
unfolding sites_of_class_member sites_of_decl sites_of_expr sites_of_module_decl sites_of_module_item
    sites_of_object_pat_prop
    sites_of_pat sites_of_prop sites_of_stmt sites_of_class sites_of_function sites_of_param sites_of_switch_case
    sites_of_ts_enum_member sites_of_var_declarator
at_function it = para-roll-Function Found Found Found Found Found Found Found Found Found Found Found Found Found Found
    Found
    in_class_member in_decl in_expr in_module_decl in_module_item in_object_pat_prop in_pat in_prop in_stmt in_class
    in_function
    in_param in_switch_case in_ts_enum_member in_var_declarator it

at_param : (it : Whole Param-F)
    → sites_of_param (roll-Param it) ≡ in_param (map-Param ClassMember Decl Expr ModuleDecl ModuleItem
    ObjectPatProp Pat Prop Stmt Class Function Param SwitchCase TsEnumMember VarDeclarator (ClassMember × Found)
    (Decl × Found)
    (Expr × Found) (ModuleDecl × Found) (ModuleItem × Found) (ObjectPatProp × Found) (Pat × Found) (Prop × Found)
    (Stmt × Found)
    (Class × Found) (Function × Found) (Param × Found) (SwitchCase × Found) (TsEnumMember × Found)
    (VarDeclarator × Found)
    with_class_member with_decl with_expr with_module_decl with_module_item with_object_pat_prop with_pat with_prop
    with_stmt
    with_class with_function with_param with_switch_case with_ts_enum_member with_var_declarator it)
unfolding sites_of_class_member sites_of_decl sites_of_expr sites_of_module_decl sites_of_module_item
    sites_of_object_pat_prop
    sites_of_pat sites_of_prop sites_of_stmt sites_of_class sites_of_function sites_of_param sites_of_switch_case
    sites_of_ts_enum_member sites_of_var_declarator
at_param it = para-roll-Param Found Found Found Found Found Found Found Found Found Found Found Found Found Found Found
    in_class_member in_decl in_expr in_module_decl in_module_item in_object_pat_prop in_pat in_prop in_stmt in_class
    in_function
    in_param in_switch_case in_ts_enum_member in_var_declarator it

at_switch_case : (it : Whole SwitchCase-F)
    → sites_of_switch_case (roll-SwitchCase it) ≡ in_switch_case (map-SwitchCase ClassMember
    Decl Expr ModuleDecl ModuleItem ObjectPatProp Pat Prop Stmt Class Function Param SwitchCase TsEnumMember
    VarDeclarator
    (ClassMember × Found) (Decl × Found) (Expr × Found) (ModuleDecl × Found) (ModuleItem × Found)
    (ObjectPatProp × Found) (Pat ×
    Found) (Prop × Found) (Stmt × Found) (Class × Found) (Function × Found) (Param × Found) (SwitchCase × Found)
    (TsEnumMember ×
    Found) (VarDeclarator × Found) with_class_member with_decl with_expr with_module_decl with_module_item
    with_object_pat_prop
    with_pat with_prop with_stmt with_class with_function with_param with_switch_case with_ts_enum_member
    with_var_declarator it)
unfolding sites_of_class_member sites_of_decl sites_of_expr sites_of_module_decl sites_of_module_item
    sites_of_object_pat_prop
    sites_of_pat sites_of_prop sites_of_stmt sites_of_class sites_of_function sites_of_param sites_of_switch_case
    sites_of_ts_enum_member sites_of_var_declarator
at_switch_case it = para-roll-SwitchCase Found Found Found Found Found Found Found Found Found Found Found Found Found
    Found Found
    in_class_member in_decl in_expr in_module_decl in_module_item in_object_pat_prop in_pat in_prop in_stmt in_class
    in_function
    in_param in_switch_case in_ts_enum_member in_var_declarator it

at_ts_enum_member : (it : Whole TsEnumMember-F) → sites_of_ts_enum_member (roll-TsEnumMember it) ≡ in_ts_enum_member
    (map-TsEnumMember ClassMember Decl Expr ModuleDecl ModuleItem ObjectPatProp Pat Prop Stmt Class Function Param
    SwitchCase
    TsEnumMember VarDeclarator (ClassMember × Found) (Decl × Found) (Expr × Found) (ModuleDecl × Found)
    (ModuleItem × Found)
    (ObjectPatProp × Found) (Pat × Found) (Prop × Found) (Stmt × Found) (Class × Found) (Function × Found)
    (Param × Found)
    (SwitchCase × Found) (TsEnumMember × Found) (VarDeclarator × Found) with_class_member with_decl with_expr
    with_module_decl
    with_module_item with_object_pat_prop with_pat with_prop with_stmt with_class with_function with_param
    with_switch_case
    with_ts_enum_member with_var_declarator it)
unfolding sites_of_class_member sites_of_decl sites_of_expr sites_of_module_decl sites_of_module_item
    sites_of_object_pat_prop
    sites_of_pat sites_of_prop sites_of_stmt sites_of_class sites_of_function sites_of_param sites_of_switch_case
    sites_of_ts_enum_member sites_of_var_declarator
at_ts_enum_member it =
    para-roll-TsEnumMember Found Found Found Found Found Found Found Found Found Found Found Found Found Found
    Found in_class_member in_decl in_expr in_module_decl in_module_item in_object_pat_prop in_pat in_prop in_stmt
    in_class
    in_function in_param in_switch_case in_ts_enum_member in_var_declarator it

at_var_declarator : (it : Whole VarDeclarator-F) → sites_of_var_declarator (roll-VarDeclarator it) ≡ in_var_declarator
    (map-VarDeclarator ClassMember Decl Expr ModuleDecl ModuleItem ObjectPatProp Pat Prop Stmt Class Function Param
    SwitchCase
    TsEnumMember VarDeclarator (ClassMember × Found) (Decl × Found) (Expr × Found) (ModuleDecl × Found)
    (ModuleItem × Found)
    (ObjectPatProp × Found) (Pat × Found) (Prop × Found) (Stmt × Found) (Class × Found) (Function × Found)
    (Param × Found)
    (SwitchCase × Found) (TsEnumMember × Found) (VarDeclarator × Found) with_class_member with_decl with_expr
    with_module_decl
    with_module_item with_object_pat_prop with_pat with_prop with_stmt with_class with_function with_param
    with_switch_case
    with_ts_enum_member with_var_declarator it)
unfolding sites_of_class_member sites_of_decl sites_of_expr sites_of_module_decl sites_of_module_item
    sites_of_object_pat_prop
    sites_of_pat sites_of_prop sites_of_stmt sites_of_class sites_of_function sites_of_param sites_of_switch_case
    sites_of_ts_enum_member sites_of_var_declarator
at_var_declarator it =
    para-roll-VarDeclarator Found Found Found Found Found Found Found Found Found Found Found Found Found Found
    Found in_class_member in_decl in_expr in_module_decl in_module_item in_object_pat_prop in_pat in_prop in_stmt
    in_class
    in_function in_param in_switch_case in_ts_enum_member in_var_declarator it

pub class_member_Empty : (found : Found) (it : Range) → found ++ sites_of_class_member (vClassMember.Empty it) ≡ found
class_member_Empty found it =
    adds_none found (ap sites_of_class_member (sym (vClassMember.rolls-Empty it)) ∙ at_class_member
    (ClassMember-F.ClassMember::Empty it))

pub class_member_StaticBlock : (found : Found) (stmts : List Stmt) (span : Range) → found ++ sites_of_class_member
    (vClassMember.StaticBlock stmts span) ≡ found ++ flat_map sites_of_stmt stmts
class_member_StaticBlock found stmts span =
    adds_one found (ap sites_of_class_member (sym (vClassMember.rolls-StaticBlock stmts
    span)) ∙ at_class_member (ClassMember-F.StaticBlock stmts span) ∙ each_of sites_of_stmt stmts)

pub class_member_TsIndexSignature : (found : Found) (modifiers : Modifiers) (name : Ident) (of : Option TsPart)
    (type_ann : Option
    TsPart) (span : Range)
    → found ++ sites_of_class_member (vClassMember.TsIndexSignature modifiers name of type_ann span) ≡ found
class_member_TsIndexSignature found modifiers name of type_ann span = adds_none found (ap sites_of_class_member (sym
    (vClassMember.rolls-TsIndexSignature modifiers name of type_ann span))
    ∙ at_class_member (ClassMember-F.TsIndexSignature
    modifiers name of type_ann span))

pub class_member_Method : (found : Found) (modifiers : Modifiers) (kind : MethodKind) (computed : Bool) (key : Expr)
    (optional :
    Bool) (function : Function) (span : Range)
    → found ++ sites_of_class_member (vClassMember.Method modifiers kind computed key
    optional function span) ≡ found ++ sites_of_expr key ++ sites_of_function function
class_member_Method found modifiers kind computed key optional function span =
    adds_two found _ _ (ap sites_of_class_member (sym
    (vClassMember.rolls-Method modifiers kind computed key optional function span)) ∙ at_class_member
    (ClassMember-F.ClassMember::Method modifiers kind computed key optional function span))

pub class_member_Prop : (found : Found) (modifiers : Modifiers) (computed : Bool) (key : Expr) (optional : Bool)
    (definite : Bool)
    (type_ann : Option TsPart) (value : Option Expr) (span : Range)
    → found ++ sites_of_class_member (vClassMember.Prop modifiers
    computed key optional definite type_ann value span) ≡ found ++ sites_of_expr key ++ if_some sites_of_expr value
class_member_Prop found modifiers computed key optional definite type_ann None span =
    adds_two found _ _ (ap sites_of_class_member
    (sym (vClassMember.rolls-Prop modifiers computed key optional definite type_ann None span)) ∙ at_class_member
    (ClassMember-F.Prop modifiers computed key optional definite type_ann None span))
class_member_Prop found modifiers computed key optional definite type_ann (Some value) span = adds_two found _ _ (ap
    sites_of_class_member
    (sym (vClassMember.rolls-Prop modifiers computed key optional definite type_ann (Some value) span)) ∙
    at_class_member (ClassMember-F.Prop modifiers computed key optional definite type_ann (Some value) span))

pub decl_Class : (found : Found) (declare : Bool) (class : Class) (span : Range)
    → found ++ sites_of_decl (vDecl.Class declare
    class span) ≡ found ++ sites_of_class class
decl_Class found declare class span =
    adds_one found (ap sites_of_decl (sym (vDecl.rolls-Class declare class span)) ∙ at_decl
    (Decl-F.Decl::Class declare class span))

pub decl_Fn : (found : Found) (declare : Bool) (function : Function) (span : Range)
    → found ++ sites_of_decl (vDecl.Fn declare
    function span) ≡ found ++ sites_of_function function
decl_Fn found declare function span =
    adds_one found (ap sites_of_decl (sym (vDecl.rolls-Fn declare function span)) ∙ at_decl
    (Decl-F.Decl::Fn declare function span))

pub decl_Var : (found : Found) (declare : Bool) (kind : VarDeclKind) (decls : List VarDeclarator) (span : Range)
    → found ++
    sites_of_decl (vDecl.Var declare kind decls span) ≡ found ++ flat_map sites_of_var_declarator decls
decl_Var found declare kind decls span =
    adds_one found (ap sites_of_decl (sym (vDecl.rolls-Var declare kind decls span)) ∙ at_decl
    (Decl-F.Var declare kind decls span) ∙ each_of sites_of_var_declarator decls)

pub decl_TsInterface : (found : Found) (declare : Bool) (id : Ident) (type_params : Option TsPart)
    (extends : Option TsPart) (body
    : Option TsPart) (span : Range)
    → found ++ sites_of_decl (vDecl.TsInterface declare id type_params extends body span) ≡ found
decl_TsInterface found declare id type_params extends body span =
    adds_none found (ap sites_of_decl (sym (vDecl.rolls-TsInterface
    declare id type_params extends body span)) ∙ at_decl (Decl-F.TsInterface declare id type_params extends body span))

pub decl_TsTypeAlias : (found : Found) (declare : Bool) (id : Ident) (type_params : Option TsPart)
    (type_ann : Option TsPart) (span
    : Range) → found ++ sites_of_decl (vDecl.TsTypeAlias declare id type_params type_ann span) ≡ found
decl_TsTypeAlias found declare id type_params type_ann span =
    adds_none found (ap sites_of_decl (sym (vDecl.rolls-TsTypeAlias
    declare id type_params type_ann span)) ∙ at_decl (Decl-F.TsTypeAlias declare id type_params type_ann span))

pub decl_TsEnum : (found : Found) (declare : Bool) (is_const : Bool) (id : Ident) (members : List TsEnumMember)
    (span : Range) →
    found ++ sites_of_decl (vDecl.TsEnum declare is_const id members span) ≡ found
    ++ flat_map sites_of_ts_enum_member members
decl_TsEnum found declare is_const id members span =
    adds_one found (ap sites_of_decl (sym (vDecl.rolls-TsEnum declare is_const id
    members span)) ∙ at_decl (Decl-F.TsEnum declare is_const id members span) ∙ each_of sites_of_ts_enum_member members)

pub decl_TsNamespace : (found : Found) (declare : Bool) (is_module : Bool) (id : TsEntityName) (body : List ModuleItem)
    (span :
    Range) → found ++ sites_of_decl (vDecl.TsNamespace declare is_module id body span) ≡ found
    ++ flat_map sites_of_module_item body
decl_TsNamespace found declare is_module id body span =
    adds_one found (ap sites_of_decl (sym (vDecl.rolls-TsNamespace declare
    is_module id body span)) ∙ at_decl (Decl-F.TsNamespace declare is_module id body span)
    ∙ each_of sites_of_module_item body)

pub decl_TsModule : (found : Found) (declare : Bool) (id : Str) (has_body : Bool) (body : List ModuleItem)
    (span : Range) → found
    ++ sites_of_decl (vDecl.TsModule declare id has_body body span) ≡ found ++ flat_map sites_of_module_item body
decl_TsModule found declare id has_body body span =
    adds_one found (ap sites_of_decl (sym (vDecl.rolls-TsModule declare id has_body
    body span)) ∙ at_decl (Decl-F.TsModule declare id has_body body span) ∙ each_of sites_of_module_item body)

pub decl_TsGlobal : (found : Found) (declare : Bool) (body : List ModuleItem) (span : Range) → found ++ sites_of_decl
    (vDecl.TsGlobal declare body span) ≡ found ++ flat_map sites_of_module_item body
decl_TsGlobal found declare body span =
    adds_one found (ap sites_of_decl (sym (vDecl.rolls-TsGlobal declare body span)) ∙ at_decl
    (Decl-F.TsGlobal declare body span) ∙ each_of sites_of_module_item body)

pub expr_This : (found : Found) (it : Range) → found ++ sites_of_expr (vExpr.This it) ≡ found
expr_This found it = adds_none found (ap sites_of_expr (sym (vExpr.rolls-This it)) ∙ at_expr (Expr-F.Expr::This it))

pub expr_Super : (found : Found) (it : Range) → found ++ sites_of_expr (vExpr.Super it) ≡ found
expr_Super found it = adds_none found (ap sites_of_expr (sym (vExpr.rolls-Super it)) ∙ at_expr (Expr-F.Super it))

pub expr_Ident : (found : Found) (it : Ident) → found ++ sites_of_expr (vExpr.Ident it) ≡ found
expr_Ident found it = adds_none found (ap sites_of_expr (sym (vExpr.rolls-Ident it)) ∙ at_expr (Expr-F.Expr::Ident it))

pub expr_PrivateName : (found : Found) (it : Ident) → found ++ sites_of_expr (vExpr.PrivateName it) ≡ found
expr_PrivateName found it =
    adds_none found (ap sites_of_expr (sym (vExpr.rolls-PrivateName it)) ∙ at_expr (Expr-F.PrivateName it))

pub expr_Lit : (found : Found) (it : Lit) → found ++ sites_of_expr (vExpr.Lit it) ≡ found
expr_Lit found it = adds_none found (ap sites_of_expr (sym (vExpr.rolls-Lit it)) ∙ at_expr (Expr-F.Lit it))

pub expr_Hole : (found : Found) (it : Range) → found ++ sites_of_expr (vExpr.Hole it) ≡ found
expr_Hole found it = adds_none found (ap sites_of_expr (sym (vExpr.rolls-Hole it)) ∙ at_expr (Expr-F.Expr::Hole it))

pub expr_Array : (found : Found) (elems : List Expr) (span : Range)
    → found ++ sites_of_expr (vExpr.Array elems span) ≡ found ++
    flat_map sites_of_expr elems
expr_Array found elems span =
    adds_one found (ap sites_of_expr (sym (vExpr.rolls-Array elems span)) ∙ at_expr (Expr-F.Expr::Array
    elems span) ∙ each_of sites_of_expr elems)

pub expr_Spread : (found : Found) (expr : Expr) (span : Range)
    → found ++ sites_of_expr (vExpr.Spread expr span) ≡ found ++
    sites_of_expr expr
expr_Spread found expr span =
    adds_one found (ap sites_of_expr (sym (vExpr.rolls-Spread expr span)) ∙ at_expr (Expr-F.Expr::Spread
    expr span))

pub expr_Object : (found : Found) (props : List Prop) (span : Range)
    → found ++ sites_of_expr (vExpr.Object props span) ≡ found ++
    flat_map sites_of_prop props
expr_Object found props span = adds_one found (ap sites_of_expr (sym (vExpr.rolls-Object props span)) ∙ at_expr
    (Expr-F.Expr::Object props span) ∙ each_of sites_of_prop props)

pub expr_Fn : (found : Found) (it : Function) → found ++ sites_of_expr (vExpr.Fn it) ≡ found ++ sites_of_function it
expr_Fn found it = adds_one found (ap sites_of_expr (sym (vExpr.rolls-Fn it)) ∙ at_expr (Expr-F.Expr::Fn it))

pub expr_Class : (found : Found) (it : Class) → found ++ sites_of_expr (vExpr.Class it) ≡ found ++ sites_of_class it
expr_Class found it = adds_one found (ap sites_of_expr (sym (vExpr.rolls-Class it)) ∙ at_expr (Expr-F.Expr::Class it))

pub expr_Arrow : (found : Found) (it : Function)
    → found ++ sites_of_expr (vExpr.Arrow it) ≡ found ++ sites_of_function it
expr_Arrow found it = adds_one found (ap sites_of_expr (sym (vExpr.rolls-Arrow it)) ∙ at_expr (Expr-F.Arrow it))

pub expr_Paren : (found : Found) (expr : Expr) (span : Range)
    → found ++ sites_of_expr (vExpr.Paren expr span) ≡ found ++
    sites_of_expr expr
expr_Paren found expr span =
    adds_one found (ap sites_of_expr (sym (vExpr.rolls-Paren expr span)) ∙ at_expr (Expr-F.Paren expr
    span))

pub expr_Unary : (found : Found) (op : UnaryOp) (arg : Expr) (span : Range)
    → found ++ sites_of_expr (vExpr.Unary op arg span) ≡
    found ++ sites_of_expr arg
expr_Unary found op arg span =
    adds_one found (ap sites_of_expr (sym (vExpr.rolls-Unary op arg span)) ∙ at_expr (Expr-F.Unary op
    arg span))

pub expr_Update : (found : Found) (op : UpdateOp) (prefix : Bool) (arg : Expr) (span : Range) → found ++ sites_of_expr
    (vExpr.Update op prefix arg span) ≡ found ++ sites_of_expr arg
expr_Update found op prefix arg span =
    adds_one found (ap sites_of_expr (sym (vExpr.rolls-Update op prefix arg span)) ∙ at_expr
    (Expr-F.Update op prefix arg span))

pub expr_Await : (found : Found) (arg : Expr) (span : Range) → found ++ sites_of_expr (vExpr.Await arg span) ≡ found ++
    sites_of_expr arg
expr_Await found arg span =
    adds_one found (ap sites_of_expr (sym (vExpr.rolls-Await arg span)) ∙ at_expr (Expr-F.Await arg span))

pub expr_Yield : (found : Found) (delegate : Bool) (arg : Option Expr) (span : Range)
    → found ++ sites_of_expr (vExpr.Yield
    delegate arg span) ≡ found ++ if_some sites_of_expr arg
expr_Yield found delegate None span =
    adds_one found (ap sites_of_expr (sym (vExpr.rolls-Yield delegate None span)) ∙ at_expr
    (Expr-F.Yield delegate None span))
expr_Yield found delegate (Some arg) span =
    adds_one found (ap sites_of_expr (sym (vExpr.rolls-Yield delegate (Some arg) span)) ∙
    at_expr (Expr-F.Yield delegate (Some arg) span))

pub expr_Bin : (found : Found) (op : BinaryOp) (left : Expr) (right : Expr) (span : Range)
    → found ++ sites_of_expr (vExpr.Bin op
    left right span) ≡ found ++ sites_of_expr left ++ sites_of_expr right
expr_Bin found op left right span =
    adds_two found _ _ (ap sites_of_expr (sym (vExpr.rolls-Bin op left right span)) ∙ at_expr
    (Expr-F.Bin op left right span))

pub expr_Assign : (found : Found) (op : AssignOp) (left : Pat) (right : Expr) (span : Range)
    → found ++ sites_of_expr (vExpr.Assign
    op left right span) ≡ found ++ sites_of_pat left ++ sites_of_expr right
expr_Assign found op left right span =
    adds_two found _ _ (ap sites_of_expr (sym (vExpr.rolls-Assign op left right span)) ∙ at_expr
    (Expr-F.Expr::Assign op left right span))

pub expr_Cond : (found : Found) (test : Expr) (cons : Expr) (alt : Expr) (span : Range)
    → found ++ sites_of_expr (vExpr.Cond test
    cons alt span) ≡ found ++ sites_of_expr test ++ sites_of_expr cons ++ sites_of_expr alt
expr_Cond found test cons alt span =
    adds_three found _ _ _ (ap sites_of_expr (sym (vExpr.rolls-Cond test cons alt span)) ∙ at_expr
    (Expr-F.Cond test cons alt span))

pub expr_Seq : (found : Found) (exprs : List Expr) (span : Range)
    → found ++ sites_of_expr (vExpr.Seq exprs span) ≡ found ++
    flat_map sites_of_expr exprs
expr_Seq found exprs span =
    adds_one found (ap sites_of_expr (sym (vExpr.rolls-Seq exprs span)) ∙ at_expr (Expr-F.Seq exprs span) ∙
    each_of sites_of_expr exprs)

pub expr_Member : (found : Found) (obj : Expr) (optional : Bool) (is_private : Bool) (prop : Ident) (span : Range)
    → found ++
    sites_of_expr (vExpr.Member obj optional is_private prop span) ≡ found ++ sites_of_expr obj
expr_Member found obj optional is_private prop span =
    adds_one found (ap sites_of_expr (sym (vExpr.rolls-Member obj optional
    is_private prop span)) ∙ at_expr (Expr-F.Member obj optional is_private prop span))

pub expr_Index : (found : Found) (obj : Expr) (optional : Bool) (prop : Expr) (span : Range)
    → found ++ sites_of_expr (vExpr.Index
    obj optional prop span) ≡ found ++ sites_of_expr obj ++ sites_of_expr prop
expr_Index found obj optional prop span =
    adds_two found _ _ (ap sites_of_expr (sym (vExpr.rolls-Index obj optional prop span)) ∙
    at_expr (Expr-F.Index obj optional prop span))

pub expr_Call : (found : Found) (callee : Expr) (optional : Bool) (type_args : Option TsPart) (args : List Expr)
    (span : Range) →
    found ++ sites_of_expr (vExpr.Call callee optional type_args args span) ≡ found ++ sites_of_expr callee ++ flat_map
    sites_of_expr args
expr_Call found callee optional type_args args span =
    adds_two found _ _ (ap sites_of_expr (sym (vExpr.rolls-Call callee optional
    type_args args span)) ∙ at_expr (Expr-F.Call callee optional type_args args span)
    ∙ ap (λ x. sites_of_expr callee ++ x)
    (each_of sites_of_expr args))

pub expr_New : (found : Found) (callee : Expr) (type_args : Option TsPart) (has_args : Bool) (args : List Expr)
    (span : Range) →
    found ++ sites_of_expr (vExpr.New callee type_args has_args args span) ≡ found ++ sites_of_expr callee ++ flat_map
    sites_of_expr args
expr_New found callee type_args has_args args span =
    adds_two found _ _ (ap sites_of_expr (sym (vExpr.rolls-New callee type_args
    has_args args span)) ∙ at_expr (Expr-F.New callee type_args has_args args span)
    ∙ ap (λ x. sites_of_expr callee ++ x) (each_of
    sites_of_expr args))

pub expr_ImportCall : (found : Found) (phase : ImportPhase) (args : List Expr) (span : Range)
    → found ++ sites_of_expr (vExpr.ImportCall phase args span) ≡
    found ++ call_sites phase args ++ flat_map sites_of_expr args
expr_ImportCall found phase args span =
    adds_two found _ _ (ap sites_of_expr (sym (vExpr.rolls-ImportCall phase args span)) ∙ at_expr
    (Expr-F.ImportCall phase args span)
    ∙ ap (λ xs. call_sites phase xs ++ each (map with_expr args)) (firsts_of sites_of_expr args) ∙ ap (λ
    ys. call_sites phase args ++ ys) (each_of sites_of_expr args))

pub expr_ImportMeta : (found : Found) (it : Range) → found ++ sites_of_expr (vExpr.ImportMeta it) ≡ found
expr_ImportMeta found it =
    adds_none found (ap sites_of_expr (sym (vExpr.rolls-ImportMeta it)) ∙ at_expr (Expr-F.ImportMeta it))

pub expr_NewTarget : (found : Found) (it : Range) → found ++ sites_of_expr (vExpr.NewTarget it) ≡ found
expr_NewTarget found it =
    adds_none found (ap sites_of_expr (sym (vExpr.rolls-NewTarget it)) ∙ at_expr (Expr-F.NewTarget it))

pub expr_Tpl : (found : Found) (quasis : List TplElement) (exprs : List Expr) (span : Range)
    → found ++ sites_of_expr (vExpr.Tpl
    quasis exprs span) ≡ found ++ flat_map sites_of_expr exprs
expr_Tpl found quasis exprs span =
    adds_one found (ap sites_of_expr (sym (vExpr.rolls-Tpl quasis exprs span)) ∙ at_expr (Expr-F.Tpl
    quasis exprs span) ∙ each_of sites_of_expr exprs)

pub expr_TaggedTpl : (found : Found) (tag : Expr) (type_args : Option TsPart) (tpl : Expr) (span : Range)
    → found ++ sites_of_expr
    (vExpr.TaggedTpl tag type_args tpl span) ≡ found ++ sites_of_expr tag ++ sites_of_expr tpl
expr_TaggedTpl found tag type_args tpl span =
    adds_two found _ _ (ap sites_of_expr (sym (vExpr.rolls-TaggedTpl tag type_args tpl
    span)) ∙ at_expr (Expr-F.TaggedTpl tag type_args tpl span))

pub expr_TsNonNull : (found : Found) (expr : Expr) (span : Range)
    → found ++ sites_of_expr (vExpr.TsNonNull expr span) ≡ found ++
    sites_of_expr expr
expr_TsNonNull found expr span = adds_one found (ap sites_of_expr (sym (vExpr.rolls-TsNonNull expr span)) ∙ at_expr
    (Expr-F.TsNonNull expr span))

pub expr_TsAs : (found : Found) (expr : Expr) (type_ann : Option TsPart) (span : Range)
    → found ++ sites_of_expr (vExpr.TsAs expr
    type_ann span) ≡ found ++ sites_of_expr expr
expr_TsAs found expr type_ann span =
    adds_one found (ap sites_of_expr (sym (vExpr.rolls-TsAs expr type_ann span)) ∙ at_expr
    (Expr-F.TsAs expr type_ann span))

pub expr_TsConstAssertion : (found : Found) (expr : Expr) (span : Range)
    → found ++ sites_of_expr (vExpr.TsConstAssertion expr
    span) ≡ found ++ sites_of_expr expr
expr_TsConstAssertion found expr span =
    adds_one found (ap sites_of_expr (sym (vExpr.rolls-TsConstAssertion expr span)) ∙ at_expr
    (Expr-F.TsConstAssertion expr span))

pub expr_TsSatisfies : (found : Found) (expr : Expr) (type_ann : Option TsPart) (span : Range) → found ++ sites_of_expr
    (vExpr.TsSatisfies expr type_ann span) ≡ found ++ sites_of_expr expr
expr_TsSatisfies found expr type_ann span =
    adds_one found (ap sites_of_expr (sym (vExpr.rolls-TsSatisfies expr type_ann span)) ∙
    at_expr (Expr-F.TsSatisfies expr type_ann span))

pub module_decl_Import : (found : Found) (it : ImportDecl)
    → found ++ sites_of_module_decl (vModuleDecl.Import it) ≡ found ++
    import_site it
module_decl_Import found it =
    adds_one found (ap sites_of_module_decl (sym (vModuleDecl.rolls-Import it)) ∙ at_module_decl
    (ModuleDecl-F.Import it))

pub module_decl_ExportDecl : (found : Found) (decl : Decl) (span : Range)
    → found ++ sites_of_module_decl (vModuleDecl.ExportDecl
    decl span) ≡ found ++ sites_of_decl decl
module_decl_ExportDecl found decl span =
    adds_one found (ap sites_of_module_decl (sym (vModuleDecl.rolls-ExportDecl decl span)) ∙
    at_module_decl (ModuleDecl-F.ExportDecl decl span))

pub module_decl_ExportNamed : (found : Found) (it : NamedExport)
    → found ++ sites_of_module_decl (vModuleDecl.ExportNamed it) ≡
    found ++ named_export_sites it
module_decl_ExportNamed found it = adds_one found (ap sites_of_module_decl (sym (vModuleDecl.rolls-ExportNamed it)) ∙
    at_module_decl (ModuleDecl-F.ExportNamed it))

pub module_decl_ExportDefaultDecl : (found : Found) (decl : Decl) (span : Range) → found ++ sites_of_module_decl
    (vModuleDecl.ExportDefaultDecl decl span) ≡ found ++ sites_of_decl decl
module_decl_ExportDefaultDecl found decl span =
    adds_one found (ap sites_of_module_decl (sym (vModuleDecl.rolls-ExportDefaultDecl
    decl span)) ∙ at_module_decl (ModuleDecl-F.ExportDefaultDecl decl span))

pub module_decl_ExportDefaultExpr : (found : Found) (expr : Expr) (span : Range) → found ++ sites_of_module_decl
    (vModuleDecl.ExportDefaultExpr expr span) ≡ found ++ sites_of_expr expr
module_decl_ExportDefaultExpr found expr span =
    adds_one found (ap sites_of_module_decl (sym (vModuleDecl.rolls-ExportDefaultExpr
    expr span)) ∙ at_module_decl (ModuleDecl-F.ExportDefaultExpr expr span))

pub module_decl_ExportAll : (found : Found) (it : ExportAll)
    → found ++ sites_of_module_decl (vModuleDecl.ExportAll it) ≡ found ++
    export_all_site it
module_decl_ExportAll found it =
    adds_one found (ap sites_of_module_decl (sym (vModuleDecl.rolls-ExportAll it)) ∙ at_module_decl
    (ModuleDecl-F.ExportAll it))

pub module_decl_TsImportEquals : (found : Found) (it : TsImportEqualsDecl) → found ++ sites_of_module_decl
    (vModuleDecl.TsImportEquals it) ≡ found ++ import_equals_sites it
module_decl_TsImportEquals found it =
    adds_one found (ap sites_of_module_decl (sym (vModuleDecl.rolls-TsImportEquals it)) ∙
    at_module_decl (ModuleDecl-F.TsImportEquals it))

pub module_decl_TsExportAssignment : (found : Found) (expr : Expr) (span : Range) → found ++ sites_of_module_decl
    (vModuleDecl.TsExportAssignment expr span) ≡ found ++ sites_of_expr expr
module_decl_TsExportAssignment found expr span =
    adds_one found (ap sites_of_module_decl (sym (vModuleDecl.rolls-TsExportAssignment
    expr span)) ∙ at_module_decl (ModuleDecl-F.TsExportAssignment expr span))

pub module_decl_TsNamespaceExport : (found : Found) (it : TsNamespaceExportDecl) → found ++ sites_of_module_decl
    (vModuleDecl.TsNamespaceExport it) ≡ found
module_decl_TsNamespaceExport found it =
    adds_none found (ap sites_of_module_decl (sym (vModuleDecl.rolls-TsNamespaceExport it)) ∙
    at_module_decl (ModuleDecl-F.TsNamespaceExport it))

pub module_item_ModuleDecl : (found : Found) (it : ModuleDecl)
    → found ++ sites_of_module_item (vModuleItem.ModuleDecl it) ≡ found
    ++ sites_of_module_decl it
module_item_ModuleDecl found it =
    adds_one found (ap sites_of_module_item (sym (vModuleItem.rolls-ModuleDecl it)) ∙ at_module_item
    (ModuleItem-F.ModuleDecl it))

pub module_item_Stmt : (found : Found) (it : Stmt)
    → found ++ sites_of_module_item (vModuleItem.Stmt it) ≡ found ++ sites_of_stmt it
module_item_Stmt found it = adds_one found (ap sites_of_module_item (sym (vModuleItem.rolls-Stmt it)) ∙ at_module_item
    (ModuleItem-F.Stmt it))

pub object_pat_prop_KeyValue : (found : Found) (computed : Bool) (key : Expr) (value : Pat) (span : Range) → found ++
    sites_of_object_pat_prop (vObjectPatProp.KeyValue computed key value span) ≡ found ++ sites_of_expr key
    ++ sites_of_pat value
object_pat_prop_KeyValue found computed key value span = adds_two found _ _ (ap sites_of_object_pat_prop (sym
    (vObjectPatProp.rolls-KeyValue computed key value span))
    ∙ at_object_pat_prop (ObjectPatProp-F.ObjectPatProp::KeyValue computed
    key value span))

pub object_pat_prop_Assign : (found : Found) (key : Ident) (value : Option Expr) (span : Range)
    → found ++ sites_of_object_pat_prop
    (vObjectPatProp.Assign key value span) ≡ found ++ if_some sites_of_expr value
object_pat_prop_Assign found key None span =
    adds_one found (ap sites_of_object_pat_prop (sym (vObjectPatProp.rolls-Assign key None
    span)) ∙ at_object_pat_prop (ObjectPatProp-F.ObjectPatProp::Assign key None span))
object_pat_prop_Assign found key (Some value) span =
    adds_one found (ap sites_of_object_pat_prop (sym (vObjectPatProp.rolls-Assign
    key (Some value) span)) ∙ at_object_pat_prop (ObjectPatProp-F.ObjectPatProp::Assign key (Some value) span))

pub object_pat_prop_Rest : (found : Found) (arg : Pat) (span : Range)
    → found ++ sites_of_object_pat_prop (vObjectPatProp.Rest arg
    span) ≡ found ++ sites_of_pat arg
object_pat_prop_Rest found arg span =
    adds_one found (ap sites_of_object_pat_prop (sym (vObjectPatProp.rolls-Rest arg span)) ∙
    at_object_pat_prop (ObjectPatProp-F.ObjectPatProp::Rest arg span))

pub pat_Ident : (found : Found) (id : Ident) (type_ann : Option TsPart) (span : Range)
    → found ++ sites_of_pat (vPat.Ident id
    type_ann span) ≡ found
pat_Ident found id type_ann span = adds_none found (ap sites_of_pat (sym (vPat.rolls-Ident id type_ann span)) ∙ at_pat
    (Pat-F.Pat::Ident id type_ann span))

pub pat_This : (found : Found) (type_ann : Option TsPart) (span : Range)
    → found ++ sites_of_pat (vPat.This type_ann span) ≡ found
pat_This found type_ann span =
    adds_none found (ap sites_of_pat (sym (vPat.rolls-This type_ann span)) ∙ at_pat (Pat-F.Pat::This
    type_ann span))

pub pat_Hole : (found : Found) (it : Range) → found ++ sites_of_pat (vPat.Hole it) ≡ found
pat_Hole found it = adds_none found (ap sites_of_pat (sym (vPat.rolls-Hole it)) ∙ at_pat (Pat-F.Pat::Hole it))

pub pat_Array : (found : Found) (elems : List Pat) (optional : Bool) (type_ann : Option TsPart) (span : Range)
    → found ++
    sites_of_pat (vPat.Array elems optional type_ann span) ≡ found ++ flat_map sites_of_pat elems
pat_Array found elems optional type_ann span =
    adds_one found (ap sites_of_pat (sym (vPat.rolls-Array elems optional type_ann
    span)) ∙ at_pat (Pat-F.Pat::Array elems optional type_ann span) ∙ each_of sites_of_pat elems)

pub pat_Object : (found : Found) (props : List ObjectPatProp) (optional : Bool) (type_ann : Option TsPart)
    (span : Range) → found
    ++ sites_of_pat (vPat.Object props optional type_ann span) ≡ found ++ flat_map sites_of_object_pat_prop props
pat_Object found props optional type_ann span =
    adds_one found (ap sites_of_pat (sym (vPat.rolls-Object props optional type_ann
    span)) ∙ at_pat (Pat-F.Pat::Object props optional type_ann span) ∙ each_of sites_of_object_pat_prop props)

pub pat_Rest : (found : Found) (arg : Pat) (type_ann : Option TsPart) (span : Range)
    → found ++ sites_of_pat (vPat.Rest arg
    type_ann span) ≡ found ++ sites_of_pat arg
pat_Rest found arg type_ann span = adds_one found (ap sites_of_pat (sym (vPat.rolls-Rest arg type_ann span)) ∙ at_pat
    (Pat-F.Pat::Rest arg type_ann span))

pub pat_Assign : (found : Found) (left : Pat) (right : Expr) (span : Range)
    → found ++ sites_of_pat (vPat.Assign left right span) ≡
    found ++ sites_of_pat left ++ sites_of_expr right
pat_Assign found left right span =
    adds_two found _ _ (ap sites_of_pat (sym (vPat.rolls-Assign left right span)) ∙ at_pat
    (Pat-F.Pat::Assign left right span))

pub pat_Expr : (found : Found) (it : Expr) → found ++ sites_of_pat (vPat.Expr it) ≡ found ++ sites_of_expr it
pat_Expr found it = adds_one found (ap sites_of_pat (sym (vPat.rolls-Expr it)) ∙ at_pat (Pat-F.Pat::Expr it))

pub prop_Spread : (found : Found) (expr : Expr) (span : Range)
    → found ++ sites_of_prop (vProp.Spread expr span) ≡ found ++
    sites_of_expr expr
prop_Spread found expr span =
    adds_one found (ap sites_of_prop (sym (vProp.rolls-Spread expr span)) ∙ at_prop (Prop-F.Prop::Spread
    expr span))

pub prop_Shorthand : (found : Found) (it : Ident) → found ++ sites_of_prop (vProp.Shorthand it) ≡ found
prop_Shorthand found it =
    adds_none found (ap sites_of_prop (sym (vProp.rolls-Shorthand it)) ∙ at_prop (Prop-F.Shorthand it))

pub prop_KeyValue : (found : Found) (computed : Bool) (key : Expr) (value : Expr) (span : Range)
    → found ++ sites_of_prop
    (vProp.KeyValue computed key value span) ≡ found ++ sites_of_expr key ++ sites_of_expr value
prop_KeyValue found computed key value span =
    adds_two found _ _ (ap sites_of_prop (sym (vProp.rolls-KeyValue computed key value
    span)) ∙ at_prop (Prop-F.Prop::KeyValue computed key value span))

pub prop_Method : (found : Found) (kind : MethodKind) (computed : Bool) (key : Expr) (function : Function)
    (span : Range) → found
    ++ sites_of_prop (vProp.Method kind computed key function span) ≡ found ++ sites_of_expr key
    ++ sites_of_function function
prop_Method found kind computed key function span =
    adds_two found _ _ (ap sites_of_prop (sym (vProp.rolls-Method kind computed key
    function span)) ∙ at_prop (Prop-F.Prop::Method kind computed key function span))

pub stmt_Block : (found : Found) (stmts : List Stmt) (span : Range)
    → found ++ sites_of_stmt (vStmt.Block stmts span) ≡ found ++
    flat_map sites_of_stmt stmts
stmt_Block found stmts span =
    adds_one found (ap sites_of_stmt (sym (vStmt.rolls-Block stmts span)) ∙ at_stmt (Stmt-F.Block stmts
    span) ∙ each_of sites_of_stmt stmts)

pub stmt_Empty : (found : Found) (it : Range) → found ++ sites_of_stmt (vStmt.Empty it) ≡ found
stmt_Empty found it = adds_none found (ap sites_of_stmt (sym (vStmt.rolls-Empty it)) ∙ at_stmt (Stmt-F.Stmt::Empty it))

pub stmt_Debugger : (found : Found) (it : Range) → found ++ sites_of_stmt (vStmt.Debugger it) ≡ found
stmt_Debugger found it =
    adds_none found (ap sites_of_stmt (sym (vStmt.rolls-Debugger it)) ∙ at_stmt (Stmt-F.Debugger it))

pub stmt_With : (found : Found) (obj : Expr) (body : Stmt) (span : Range)
    → found ++ sites_of_stmt (vStmt.With obj body span) ≡
    found ++ sites_of_expr obj ++ sites_of_stmt body
stmt_With found obj body span =
    adds_two found _ _ (ap sites_of_stmt (sym (vStmt.rolls-With obj body span)) ∙ at_stmt (Stmt-F.With
    obj body span))

pub stmt_Return : (found : Found) (arg : Option Expr) (span : Range)
    → found ++ sites_of_stmt (vStmt.Return arg span) ≡ found ++
    if_some sites_of_expr arg
stmt_Return found None span =
    adds_one found (ap sites_of_stmt (sym (vStmt.rolls-Return None span)) ∙ at_stmt (Stmt-F.Return None
    span))
stmt_Return found (Some arg) span =
    adds_one found (ap sites_of_stmt (sym (vStmt.rolls-Return (Some arg) span)) ∙ at_stmt
    (Stmt-F.Return (Some arg) span))

pub stmt_Labeled : (found : Found) (label : Ident) (body : Stmt) (span : Range)
    → found ++ sites_of_stmt (vStmt.Labeled label body
    span) ≡ found ++ sites_of_stmt body
stmt_Labeled found label body span =
    adds_one found (ap sites_of_stmt (sym (vStmt.rolls-Labeled label body span)) ∙ at_stmt
    (Stmt-F.Labeled label body span))

pub stmt_Break : (found : Found) (label : Option Ident) (span : Range)
    → found ++ sites_of_stmt (vStmt.Break label span) ≡ found
stmt_Break found label span =
    adds_none found (ap sites_of_stmt (sym (vStmt.rolls-Break label span)) ∙ at_stmt (Stmt-F.Break label
    span))

pub stmt_Continue : (found : Found) (label : Option Ident) (span : Range)
    → found ++ sites_of_stmt (vStmt.Continue label span) ≡
    found
stmt_Continue found label span = adds_none found (ap sites_of_stmt (sym (vStmt.rolls-Continue label span)) ∙ at_stmt
    (Stmt-F.Continue label span))

pub stmt_If : (found : Found) (test : Expr) (cons : Stmt) (alt : Option Stmt) (span : Range)
    → found ++ sites_of_stmt (vStmt.If
    test cons alt span) ≡ found ++ sites_of_expr test ++ sites_of_stmt cons ++ if_some sites_of_stmt alt
stmt_If found test cons None span =
    adds_three found _ _ _ (ap sites_of_stmt (sym (vStmt.rolls-If test cons None span)) ∙ at_stmt
    (Stmt-F.If test cons None span))
stmt_If found test cons (Some alt) span =
    adds_three found _ _ _ (ap sites_of_stmt (sym (vStmt.rolls-If test cons (Some alt) span))
    ∙ at_stmt (Stmt-F.If test cons (Some alt) span))

pub stmt_Switch : (found : Found) (discriminant : Expr) (cases : List SwitchCase) (span : Range)
    → found ++ sites_of_stmt
    (vStmt.Switch discriminant cases span) ≡ found ++ sites_of_expr discriminant ++ flat_map sites_of_switch_case cases
stmt_Switch found discriminant cases span =
    adds_two found _ _ (ap sites_of_stmt (sym (vStmt.rolls-Switch discriminant cases span))
    ∙ at_stmt (Stmt-F.Switch discriminant cases span)
    ∙ ap (λ x. sites_of_expr discriminant ++ x) (each_of sites_of_switch_case
    cases))

pub stmt_Throw : (found : Found) (arg : Expr) (span : Range) → found ++ sites_of_stmt (vStmt.Throw arg span) ≡ found ++
    sites_of_expr arg
stmt_Throw found arg span =
    adds_one found (ap sites_of_stmt (sym (vStmt.rolls-Throw arg span)) ∙ at_stmt (Stmt-F.Throw arg span))

pub stmt_Try : (found : Found) (block : Stmt) (param : Option Pat) (handler : Option Stmt) (finalizer : Option Stmt)
    (span : Range)
    → found ++ sites_of_stmt (vStmt.Try block param handler finalizer span) ≡ found ++ sites_of_stmt block
    ++ if_some sites_of_pat
    param ++ if_some sites_of_stmt handler ++ if_some sites_of_stmt finalizer
stmt_Try found block None None None span =
    adds_four found _ _ _ _ (ap sites_of_stmt (sym (vStmt.rolls-Try block None None None
    span)) ∙ at_stmt (Stmt-F.Try block None None None span))
stmt_Try found block None None (Some finalizer) span =
    adds_four found _ _ _ _ (ap sites_of_stmt (sym (vStmt.rolls-Try block None
    None (Some finalizer) span)) ∙ at_stmt (Stmt-F.Try block None None (Some finalizer) span))
stmt_Try found block None (Some handler) None span =
    adds_four found _ _ _ _ (ap sites_of_stmt (sym (vStmt.rolls-Try block None
    (Some handler) None span)) ∙ at_stmt (Stmt-F.Try block None (Some handler) None span))
stmt_Try found block None (Some handler) (Some finalizer) span =
    adds_four found _ _ _ _ (ap sites_of_stmt (sym (vStmt.rolls-Try
    block None (Some handler) (Some finalizer) span))
    ∙ at_stmt (Stmt-F.Try block None (Some handler) (Some finalizer) span))
stmt_Try found block (Some param) None None span =
    adds_four found _ _ _ _ (ap sites_of_stmt (sym (vStmt.rolls-Try block (Some
    param) None None span)) ∙ at_stmt (Stmt-F.Try block (Some param) None None span))
stmt_Try found block (Some param) None (Some finalizer) span =
    adds_four found _ _ _ _ (ap sites_of_stmt (sym (vStmt.rolls-Try
    block (Some param) None (Some finalizer) span))
    ∙ at_stmt (Stmt-F.Try block (Some param) None (Some finalizer) span))
stmt_Try found block (Some param) (Some handler) None span =
    adds_four found _ _ _ _ (ap sites_of_stmt (sym (vStmt.rolls-Try block
    (Some param) (Some handler) None span)) ∙ at_stmt (Stmt-F.Try block (Some param) (Some handler) None span))
stmt_Try found block (Some param) (Some handler) (Some finalizer) span = adds_four found _ _ _ _ (ap sites_of_stmt (sym
    (vStmt.rolls-Try block (Some param) (Some handler) (Some finalizer) span))
    ∙ at_stmt (Stmt-F.Try block (Some param) (Some
    handler) (Some finalizer) span))

pub stmt_While : (found : Found) (test : Expr) (body : Stmt) (span : Range)
    → found ++ sites_of_stmt (vStmt.While test body span) ≡
    found ++ sites_of_expr test ++ sites_of_stmt body
stmt_While found test body span =
    adds_two found _ _ (ap sites_of_stmt (sym (vStmt.rolls-While test body span)) ∙ at_stmt
    (Stmt-F.While test body span))

pub stmt_DoWhile : (found : Found) (body : Stmt) (test : Expr) (span : Range)
    → found ++ sites_of_stmt (vStmt.DoWhile body test
    span) ≡ found ++ sites_of_stmt body ++ sites_of_expr test
stmt_DoWhile found body test span =
    adds_two found _ _ (ap sites_of_stmt (sym (vStmt.rolls-DoWhile body test span)) ∙ at_stmt
    (Stmt-F.DoWhile body test span))

pub stmt_For : (found : Found) (init : Option Stmt) (test : Option Expr) (update : Option Expr) (body : Stmt)
    (span : Range) →
    found ++ sites_of_stmt (vStmt.For init test update body span) ≡ found ++ if_some sites_of_stmt init
    ++ if_some sites_of_expr
    test ++ if_some sites_of_expr update ++ sites_of_stmt body
stmt_For found None None None body span =
    adds_four found _ _ _ _ (ap sites_of_stmt (sym (vStmt.rolls-For None None None body
    span)) ∙ at_stmt (Stmt-F.For None None None body span))
stmt_For found None None (Some update) body span =
    adds_four found _ _ _ _ (ap sites_of_stmt (sym (vStmt.rolls-For None None (Some
    update) body span)) ∙ at_stmt (Stmt-F.For None None (Some update) body span))
stmt_For found None (Some test) None body span =
    adds_four found _ _ _ _ (ap sites_of_stmt (sym (vStmt.rolls-For None (Some test)
    None body span)) ∙ at_stmt (Stmt-F.For None (Some test) None body span))
stmt_For found None (Some test) (Some update) body span =
    adds_four found _ _ _ _ (ap sites_of_stmt (sym (vStmt.rolls-For None
    (Some test) (Some update) body span)) ∙ at_stmt (Stmt-F.For None (Some test) (Some update) body span))
stmt_For found (Some init) None None body span =
    adds_four found _ _ _ _ (ap sites_of_stmt (sym (vStmt.rolls-For (Some init) None
    None body span)) ∙ at_stmt (Stmt-F.For (Some init) None None body span))
stmt_For found (Some init) None (Some update) body span =
    adds_four found _ _ _ _ (ap sites_of_stmt (sym (vStmt.rolls-For (Some
    init) None (Some update) body span)) ∙ at_stmt (Stmt-F.For (Some init) None (Some update) body span))
stmt_For found (Some init) (Some test) None body span =
    adds_four found _ _ _ _ (ap sites_of_stmt (sym (vStmt.rolls-For (Some init)
    (Some test) None body span)) ∙ at_stmt (Stmt-F.For (Some init) (Some test) None body span))
stmt_For found (Some init) (Some test) (Some update) body span =
    adds_four found _ _ _ _ (ap sites_of_stmt (sym (vStmt.rolls-For
    (Some init) (Some test) (Some update) body span))
    ∙ at_stmt (Stmt-F.For (Some init) (Some test) (Some update) body span))

pub stmt_ForIn : (found : Found) (kind : Option VarDeclKind) (left : Pat) (right : Expr) (body : Stmt) (span : Range)
    → found ++
    sites_of_stmt (vStmt.ForIn kind left right body span) ≡ found ++ sites_of_pat left ++ sites_of_expr right
    ++ sites_of_stmt body
stmt_ForIn found kind left right body span =
    adds_three found _ _ _ (ap sites_of_stmt (sym (vStmt.rolls-ForIn kind left right body
    span)) ∙ at_stmt (Stmt-F.ForIn kind left right body span))

pub stmt_ForOf : (found : Found) (is_await : Bool) (kind : Option VarDeclKind) (left : Pat) (right : Expr)
    (body : Stmt) (span :
    Range) → found ++ sites_of_stmt (vStmt.ForOf is_await kind left right body span) ≡ found ++ sites_of_pat left
    ++ sites_of_expr
    right ++ sites_of_stmt body
stmt_ForOf found is_await kind left right body span =
    adds_three found _ _ _ (ap sites_of_stmt (sym (vStmt.rolls-ForOf is_await
    kind left right body span)) ∙ at_stmt (Stmt-F.ForOf is_await kind left right body span))

pub stmt_Decl : (found : Found) (it : Decl) → found ++ sites_of_stmt (vStmt.Decl it) ≡ found ++ sites_of_decl it
stmt_Decl found it = adds_one found (ap sites_of_stmt (sym (vStmt.rolls-Decl it)) ∙ at_stmt (Stmt-F.Decl it))

pub stmt_Expr : (found : Found) (expr : Expr) (span : Range) → found ++ sites_of_stmt (vStmt.Expr expr span) ≡ found ++
    sites_of_expr expr
stmt_Expr found expr span =
    adds_one found (ap sites_of_stmt (sym (vStmt.rolls-Expr expr span)) ∙ at_stmt (Stmt-F.Stmt::Expr expr
    span))

class_rolled : (ident : Option Ident) (is_abstract : Bool) (type_params : Option TsPart) (super_class : Option Expr)
    (super_type_args : Option TsPart) (implements : Option TsPart) (body : List ClassMember) (span : Range)
    → sites_of_class
    (roll-Class (record {
      ident = ident;
      is_abstract = is_abstract;
      type_params = type_params;
      super_class = super_class;
      super_type_args =
          super_type_args;
      implements = implements;
      body = body;
      span = span;
    })) ≡ if_some sites_of_expr super_class
    ++ flat_map sites_of_class_member body
class_rolled ident is_abstract type_params None super_type_args implements body span = at_class (record {
  ident = ident;
  is_abstract = is_abstract;
  type_params = type_params;
  super_class = None;
  super_type_args =
      super_type_args;
  implements = implements;
  body = body;
  span = span;
})
    ∙ ap (λ x. if_some sites_of_expr None ++ x) (each_of sites_of_class_member body)
class_rolled ident is_abstract type_params (Some super_class) super_type_args implements body span = at_class (record {
  ident = ident;
  is_abstract = is_abstract;
  type_params = type_params;
  super_class =
      (Some super_class);
  super_type_args = super_type_args;
  implements = implements;
  body = body;
  span = span;
})
    ∙ ap (λ x. if_some sites_of_expr (Some super_class) ++ x) (each_of sites_of_class_member body)

pub class_parts : (found : Found) (it : Class) → found ++ sites_of_class it ≡ found ++ if_some sites_of_expr (out-Class
    it).super_class ++ flat_map sites_of_class_member (out-Class it).body
class_parts found it =
    adds_two found _ _ (ap sites_of_class (sym (roll-out-Class it)) ∙ class_rolled (out-Class it).ident
    (out-Class it).is_abstract (out-Class it).type_params (out-Class it).super_class (out-Class it).super_type_args
    (out-Class
    it).implements (out-Class it).body (out-Class it).span)

function_rolled : (ident : Option Ident) (is_async : Bool) (is_generator : Bool) (type_params : Option TsPart)
    (params : List
    Param) (return_type : Option TsPart) (body : Option Stmt) (span : Range)
    → sites_of_function (roll-Function (record {
      ident = ident;
      is_async = is_async;
      is_generator = is_generator;
      type_params = type_params;
      params =
          params;
      return_type = return_type;
      body = body;
      span = span;
    })) ≡ flat_map sites_of_param params
    ++ if_some sites_of_stmt body
function_rolled ident is_async is_generator type_params params return_type None span = at_function (record {
  ident = ident;
  is_async = is_async;
  is_generator = is_generator;
  type_params = type_params;
  params =
      params;
  return_type = return_type;
  body = None;
  span = span;
})
    ∙ ap (λ x. x ++ if_some sites_of_stmt None) (each_of sites_of_param params)
function_rolled ident is_async is_generator type_params params return_type (Some body) span = at_function (record {
  ident = ident;
  is_async = is_async;
  is_generator = is_generator;
  type_params = type_params;
  params =
      params;
  return_type = return_type;
  body = (Some body);
  span = span;
})
    ∙ ap (λ x. x ++ if_some sites_of_stmt (Some body)) (each_of sites_of_param params)

pub function_parts : (found : Found) (it : Function) → found ++ sites_of_function it ≡ found ++ flat_map sites_of_param
    (out-Function it).params ++ if_some sites_of_stmt (out-Function it).body
function_parts found it =
    adds_two found _ _ (ap sites_of_function (sym (roll-out-Function it)) ∙ function_rolled (out-Function
    it).ident (out-Function it).is_async (out-Function it).is_generator (out-Function it).type_params
    (out-Function it).params
    (out-Function it).return_type (out-Function it).body (out-Function it).span)

param_rolled : (modifiers : Modifiers) (pat : Pat) (span : Range) → sites_of_param (roll-Param (record
    { modifiers = modifiers; pat = pat; span = span })) ≡ sites_of_pat pat
param_rolled modifiers pat span = at_param (record { modifiers = modifiers; pat = pat; span = span })

pub param_parts : (found : Found) (it : Param) → found ++ sites_of_param it ≡ found ++ sites_of_pat (out-Param it).pat
param_parts found it =
    adds_one found (ap sites_of_param (sym (roll-out-Param it)) ∙ param_rolled (out-Param it).modifiers
    (out-Param it).pat (out-Param it).span)

switch_case_rolled : (test : Option Expr) (cons : List Stmt) (span : Range)
    → sites_of_switch_case (roll-SwitchCase (record
    { test = test; cons = cons; span = span })) ≡ if_some sites_of_expr test ++ flat_map sites_of_stmt cons
switch_case_rolled None cons span = at_switch_case (record { test = None; cons = cons; span = span }) ∙ ap (λ x. if_some
    sites_of_expr None ++ x) (each_of sites_of_stmt cons)
switch_case_rolled (Some test) cons span =
    at_switch_case (record { test = (Some test); cons = cons; span = span }) ∙ ap (λ x.
    if_some sites_of_expr (Some test) ++ x) (each_of sites_of_stmt cons)

pub switch_case_parts : (found : Found) (it : SwitchCase)
    → found ++ sites_of_switch_case it ≡ found ++ if_some sites_of_expr
    (out-SwitchCase it).test ++ flat_map sites_of_stmt (out-SwitchCase it).cons
switch_case_parts found it =
    adds_two found _ _ (ap sites_of_switch_case (sym (roll-out-SwitchCase it)) ∙ switch_case_rolled
    (out-SwitchCase it).test (out-SwitchCase it).cons (out-SwitchCase it).span)

ts_enum_member_rolled : (computed : Bool) (id : Expr) (init : Option Expr) (span : Range) → sites_of_ts_enum_member
    (roll-TsEnumMember (record { computed = computed; id = id; init = init; span = span })) ≡ sites_of_expr id
    ++ if_some
    sites_of_expr init
ts_enum_member_rolled computed id None span =
    at_ts_enum_member (record { computed = computed; id = id; init = None; span = span })
ts_enum_member_rolled computed id (Some init) span = at_ts_enum_member (record
    { computed = computed; id = id; init = (Some init); span = span })

pub ts_enum_member_parts : (found : Found) (it : TsEnumMember)
    → found ++ sites_of_ts_enum_member it ≡ found ++ sites_of_expr
    (out-TsEnumMember it).id ++ if_some sites_of_expr (out-TsEnumMember it).init
ts_enum_member_parts found it = adds_two found _ _ (ap sites_of_ts_enum_member (sym (roll-out-TsEnumMember it)) ∙
    ts_enum_member_rolled (out-TsEnumMember it).computed (out-TsEnumMember it).id (out-TsEnumMember it).init
    (out-TsEnumMember
    it).span)

var_declarator_rolled : (name : Pat) (definite : Bool) (init : Option Expr) (span : Range) → sites_of_var_declarator
    (roll-VarDeclarator (record { name = name; definite = definite; init = init; span = span })) ≡ sites_of_pat name
    ++ if_some
    sites_of_expr init
var_declarator_rolled name definite None span = at_var_declarator (record
    { name = name; definite = definite; init = None; span = span })
var_declarator_rolled name definite (Some init) span = at_var_declarator (record
    { name = name; definite = definite; init = (Some init); span = span })

pub var_declarator_parts : (found : Found) (it : VarDeclarator)
    → found ++ sites_of_var_declarator it ≡ found ++ sites_of_pat
    (out-VarDeclarator it).name ++ if_some sites_of_expr (out-VarDeclarator it).init
var_declarator_parts found it = adds_two found _ _ (ap sites_of_var_declarator (sym (roll-out-VarDeclarator it)) ∙
    var_declarator_rolled (out-VarDeclarator it).name (out-VarDeclarator it).definite (out-VarDeclarator it).init
    (out-VarDeclarator it).span)
