-- Each form of items and programs moves as its parts do.
use Rattle.std.specs.Prelude.{ℕ, List, Option}
use Rattle.std.proofs.Common.{◌≡◌, sym, ap, ◌∙◌}
use Rattle.base.specs.declared.range.Range.{Range}
use Rattle.es_ast.specs.declared.leaf.ImportDecl.{ImportDecl}
use Rattle.es_ast.specs.declared.leaf.NamedExport.{NamedExport}
use Rattle.es_ast.specs.declared.leaf.ExportAll.{ExportAll}
use Rattle.es_ast.specs.declared.leaf.TsImportEqualsDecl.{TsImportEqualsDecl}
use Rattle.es_ast.specs.declared.leaf.TsNamespaceExportDecl.{TsNamespaceExportDecl}
use Rattle.es_ast.specs.declared.ast.Program.TheVariants as vProgram
use Rattle.es_ast.specs.declared.ast.Module.{Module}
use Rattle.es_ast.specs.declared.ast.Script.{Script}
use Rattle.es_ast.specs.declared.ast.ModuleItem.{ModuleItem, roll-ModuleItem, map-ModuleItem}
use Rattle.es_ast.specs.declared.ast.ModuleItem.TheVariants as vModuleItem
use Rattle.es_ast.specs.declared.ast.ModuleDecl.{ModuleDecl, roll-ModuleDecl, map-ModuleDecl}
use Rattle.es_ast.specs.declared.ast.ModuleDecl.TheVariants as vModuleDecl
use Rattle.es_ast.specs.declared.ast.Stmt.{Stmt}
use Rattle.es_ast.specs.declared.ast.Decl.{Decl}
use Rattle.es_ast.specs.declared.ast.Expr.{Expr}
use Rattle.es_ast.specs.declared.ast.Pat.{Pat}
use Rattle.es_ast.specs.declared.ast.ObjectPatProp.{ObjectPatProp}
use Rattle.es_ast.specs.declared.ast.Prop.{Prop}
use Rattle.es_ast.specs.declared.ast.Function.{Function}
use Rattle.es_ast.specs.declared.ast.Param.{Param}
use Rattle.es_ast.specs.declared.ast.VarDeclarator.{VarDeclarator}
use Rattle.es_ast.specs.declared.ast.SwitchCase.{SwitchCase}
use Rattle.es_ast.specs.declared.ast.TsEnumMember.{TsEnumMember}
use Rattle.es_ast.specs.declared.ast.Class.{Class}
use Rattle.es_ast.specs.declared.ast.ClassMember.{ClassMember}
use Rattle.es_ast.specs.declared.ast.ClassMember.TheOpen.{ModuleDecl-F, ModuleItem-F}
use Rattle.es_ast.specs.declared.ast.ClassMember.TheFolds.{fold-roll-ModuleDecl, fold-roll-ModuleItem}
use Rattle.es_law_edits.specs.moved.Move.{Move, range_to}
use Rattle.es_law_edits.specs.moved.ModuleLeaves.{import_decl_to, named_export_to, export_all_to, ts_import_equals_decl_to, ts_namespace_export_decl_to}
use Rattle.es_law_edits.specs.moved.Steps.{Moved, in_class_member, in_decl, in_expr, in_module_decl, in_module_item, in_object_pat_prop, in_pat, in_prop, in_stmt, in_class, in_function, in_param, in_switch_case, in_ts_enum_member, in_var_declarator}
use Rattle.es_law_edits.specs.moved.Trees.{module_to, script_to, module_item_to, module_decl_to, stmt_to, decl_to, expr_to, pat_to, object_pat_prop_to, prop_to, function_to, param_to, var_declarator_to, switch_case_to, ts_enum_member_to, class_to, class_member_to, moved_program}
use Rattle.es_law_edits.proofs.moved.Rel.{By, Each, each_is}
use Rattle.es_law_edits.proofs.moved.Same.{same1, same2, same3}

at_module_decl : (m : Move) (it : Moved ModuleDecl-F) → module_decl_to m (roll-ModuleDecl it) ≡ in_module_decl m
    (map-ModuleDecl ClassMember Decl Expr ModuleDecl ModuleItem ObjectPatProp Pat Prop Stmt Class Function Param
    SwitchCase TsEnumMember VarDeclarator ClassMember Decl Expr ModuleDecl ModuleItem ObjectPatProp Pat Prop Stmt
    Class Function Param SwitchCase TsEnumMember VarDeclarator (class_member_to m) (decl_to m) (expr_to m)
    (module_decl_to m) (module_item_to m) (object_pat_prop_to m) (pat_to m) (prop_to m) (stmt_to m) (class_to m)
    (function_to m) (param_to m) (switch_case_to m) (ts_enum_member_to m) (var_declarator_to m) it)
unfolding class_member_to decl_to expr_to module_decl_to module_item_to object_pat_prop_to pat_to prop_to stmt_to
    class_to function_to param_to switch_case_to ts_enum_member_to var_declarator_to
at_module_decl m it = fold-roll-ModuleDecl ClassMember Decl Expr ModuleDecl ModuleItem ObjectPatProp Pat Prop Stmt
    Class Function Param SwitchCase TsEnumMember VarDeclarator (in_class_member m) (in_decl m) (in_expr m)
    (in_module_decl m) (in_module_item m) (in_object_pat_prop m) (in_pat m) (in_prop m) (in_stmt m) (in_class m)
    (in_function m) (in_param m) (in_switch_case m) (in_ts_enum_member m) (in_var_declarator m) it

pub module_decl_Import : (m : Move) {import_decl import_decl2 : ImportDecl}
    → By (import_decl_to m) import_decl import_decl2 → By (module_decl_to m) (vModuleDecl.Import import_decl)
    (vModuleDecl.Import import_decl2)
module_decl_Import m {import_decl = import_decl} h0 =
    record {
      is = same1 vModuleDecl.Import h0.is ∙ sym (ap (module_decl_to m)
          (sym (vModuleDecl.rolls-Import import_decl)) ∙ at_module_decl m (ModuleDecl-F.Import import_decl));
    }

pub module_decl_ExportDecl : (m : Move) {decl decl2 : Decl} {span span2 : Range} → By (decl_to m) decl decl2
    → By (range_to m) span span2 → By (module_decl_to m) (vModuleDecl.ExportDecl decl span)
    (vModuleDecl.ExportDecl decl2 span2)
module_decl_ExportDecl m {decl = decl} {span = span} h0 h1 =
    record {
      is = same2 vModuleDecl.ExportDecl h0.is h1.is ∙ sym
          (ap (module_decl_to m) (sym (vModuleDecl.rolls-ExportDecl decl span)) ∙ at_module_decl m
          (ModuleDecl-F.ExportDecl decl span));
    }

pub module_decl_ExportNamed : (m : Move) {named_export named_export2 : NamedExport}
    → By (named_export_to m) named_export named_export2 → By (module_decl_to m)
    (vModuleDecl.ExportNamed named_export) (vModuleDecl.ExportNamed named_export2)
module_decl_ExportNamed m {named_export = named_export} h0 =
    record {
      is = same1 vModuleDecl.ExportNamed h0.is ∙ sym (ap (module_decl_to m)
          (sym (vModuleDecl.rolls-ExportNamed named_export))
          ∙ at_module_decl m (ModuleDecl-F.ExportNamed named_export));
    }

pub module_decl_ExportDefaultDecl : (m : Move) {decl decl2 : Decl} {span span2 : Range} → By (decl_to m) decl decl2
    → By (range_to m) span span2 → By (module_decl_to m) (vModuleDecl.ExportDefaultDecl decl span)
    (vModuleDecl.ExportDefaultDecl decl2 span2)
module_decl_ExportDefaultDecl m {decl = decl} {span = span} h0 h1 =
    record {
      is = same2 vModuleDecl.ExportDefaultDecl h0.is h1.is ∙ sym
          (ap (module_decl_to m) (sym (vModuleDecl.rolls-ExportDefaultDecl decl span)) ∙ at_module_decl m
          (ModuleDecl-F.ExportDefaultDecl decl span));
    }

pub module_decl_ExportDefaultExpr : (m : Move) {expr expr2 : Expr} {span span2 : Range} → By (expr_to m) expr expr2
    → By (range_to m) span span2 → By (module_decl_to m) (vModuleDecl.ExportDefaultExpr expr span)
    (vModuleDecl.ExportDefaultExpr expr2 span2)
module_decl_ExportDefaultExpr m {expr = expr} {span = span} h0 h1 =
    record {
      is = same2 vModuleDecl.ExportDefaultExpr h0.is h1.is ∙ sym
          (ap (module_decl_to m) (sym (vModuleDecl.rolls-ExportDefaultExpr expr span)) ∙ at_module_decl m
          (ModuleDecl-F.ExportDefaultExpr expr span));
    }

pub module_decl_ExportAll : (m : Move) {export_all export_all2 : ExportAll}
    → By (export_all_to m) export_all export_all2 → By (module_decl_to m) (vModuleDecl.ExportAll export_all)
    (vModuleDecl.ExportAll export_all2)
module_decl_ExportAll m {export_all = export_all} h0 =
    record {
      is = same1 vModuleDecl.ExportAll h0.is ∙ sym (ap (module_decl_to m)
          (sym (vModuleDecl.rolls-ExportAll export_all)) ∙ at_module_decl m (ModuleDecl-F.ExportAll export_all));
    }

pub module_decl_TsImportEquals : (m : Move) {ts_import_equals_decl ts_import_equals_decl2 : TsImportEqualsDecl}
    → By (ts_import_equals_decl_to m) ts_import_equals_decl ts_import_equals_decl2
    → By (module_decl_to m) (vModuleDecl.TsImportEquals ts_import_equals_decl)
    (vModuleDecl.TsImportEquals ts_import_equals_decl2)
module_decl_TsImportEquals m {ts_import_equals_decl = ts_import_equals_decl} h0 =
    record {
      is = same1 vModuleDecl.TsImportEquals h0.is ∙ sym
          (ap (module_decl_to m) (sym (vModuleDecl.rolls-TsImportEquals ts_import_equals_decl)) ∙ at_module_decl m
          (ModuleDecl-F.TsImportEquals ts_import_equals_decl));
    }

pub module_decl_TsExportAssignment : (m : Move) {expr expr2 : Expr} {span span2 : Range} → By (expr_to m) expr expr2
    → By (range_to m) span span2 → By (module_decl_to m) (vModuleDecl.TsExportAssignment expr span)
    (vModuleDecl.TsExportAssignment expr2 span2)
module_decl_TsExportAssignment m {expr = expr} {span = span} h0 h1 =
    record {
      is = same2 vModuleDecl.TsExportAssignment h0.is h1.is ∙ sym
          (ap (module_decl_to m) (sym (vModuleDecl.rolls-TsExportAssignment expr span)) ∙ at_module_decl m
          (ModuleDecl-F.TsExportAssignment expr span));
    }

pub module_decl_TsNamespaceExport : (m : Move) {ts_namespace_export_decl ts_namespace_export_decl2 :
    TsNamespaceExportDecl} → By (ts_namespace_export_decl_to m) ts_namespace_export_decl ts_namespace_export_decl2
    → By (module_decl_to m) (vModuleDecl.TsNamespaceExport ts_namespace_export_decl)
    (vModuleDecl.TsNamespaceExport ts_namespace_export_decl2)
module_decl_TsNamespaceExport m {ts_namespace_export_decl = ts_namespace_export_decl} h0 =
    record {
      is = same1 vModuleDecl.TsNamespaceExport h0.is ∙ sym
          (ap (module_decl_to m) (sym (vModuleDecl.rolls-TsNamespaceExport ts_namespace_export_decl)) ∙ at_module_decl m
          (ModuleDecl-F.TsNamespaceExport ts_namespace_export_decl));
    }

at_module_item : (m : Move) (it : Moved ModuleItem-F) → module_item_to m (roll-ModuleItem it) ≡ in_module_item m
    (map-ModuleItem ClassMember Decl Expr ModuleDecl ModuleItem ObjectPatProp Pat Prop Stmt Class Function Param
    SwitchCase TsEnumMember VarDeclarator ClassMember Decl Expr ModuleDecl ModuleItem ObjectPatProp Pat Prop Stmt
    Class Function Param SwitchCase TsEnumMember VarDeclarator (class_member_to m) (decl_to m) (expr_to m)
    (module_decl_to m) (module_item_to m) (object_pat_prop_to m) (pat_to m) (prop_to m) (stmt_to m) (class_to m)
    (function_to m) (param_to m) (switch_case_to m) (ts_enum_member_to m) (var_declarator_to m) it)
unfolding class_member_to decl_to expr_to module_decl_to module_item_to object_pat_prop_to pat_to prop_to stmt_to
    class_to function_to param_to switch_case_to ts_enum_member_to var_declarator_to
at_module_item m it = fold-roll-ModuleItem ClassMember Decl Expr ModuleDecl ModuleItem ObjectPatProp Pat Prop Stmt
    Class Function Param SwitchCase TsEnumMember VarDeclarator (in_class_member m) (in_decl m) (in_expr m)
    (in_module_decl m) (in_module_item m) (in_object_pat_prop m) (in_pat m) (in_prop m) (in_stmt m) (in_class m)
    (in_function m) (in_param m) (in_switch_case m) (in_ts_enum_member m) (in_var_declarator m) it

pub module_item_ModuleDecl : (m : Move) {module_decl module_decl2 : ModuleDecl}
    → By (module_decl_to m) module_decl module_decl2 → By (module_item_to m) (vModuleItem.ModuleDecl module_decl)
    (vModuleItem.ModuleDecl module_decl2)
module_item_ModuleDecl m {module_decl = module_decl} h0 =
    record {
      is = same1 vModuleItem.ModuleDecl h0.is ∙ sym (ap (module_item_to m)
          (sym (vModuleItem.rolls-ModuleDecl module_decl)) ∙ at_module_item m (ModuleItem-F.ModuleDecl module_decl));
    }

pub module_item_Stmt : (m : Move) {stmt stmt2 : Stmt} → By (stmt_to m) stmt stmt2
    → By (module_item_to m) (vModuleItem.Stmt stmt) (vModuleItem.Stmt stmt2)
module_item_Stmt m {stmt = stmt} h0 =
    record {
      is = same1 vModuleItem.Stmt h0.is ∙ sym (ap (module_item_to m) (sym (vModuleItem.rolls-Stmt stmt)) ∙
          at_module_item m (ModuleItem-F.Stmt stmt));
    }

pub module_made : (m : Move) {shebang shebang2 : Option (List ℕ)} {body body2 : List ModuleItem}
    {span span2 : Range} → shebang2 ≡ shebang → Each (By (module_item_to m)) body body2 → By (range_to m) span span2
    → By (module_to m) (record { shebang = shebang; body = body; span = span })
    (record { shebang = shebang2; body = body2; span = span2 })
unfolding module_to
module_made m h0 h1 h2 =
    let make : Option (List ℕ) → List ModuleItem → Range → Module = λ shebang body span. record
    { shebang = shebang; body = body; span = span } in
    record { is = same3 make h0 (each_is h1) h2.is }

pub script_made : (m : Move) {shebang shebang2 : Option (List ℕ)} {body body2 : List Stmt} {span span2 : Range}
    → shebang2 ≡ shebang → Each (By (stmt_to m)) body body2 → By (range_to m) span span2
    → By (script_to m) (record { shebang = shebang; body = body; span = span })
    (record { shebang = shebang2; body = body2; span = span2 })
unfolding script_to
script_made m h0 h1 h2 =
    let make : Option (List ℕ) → List Stmt → Range → Script = λ shebang body span. record
    { shebang = shebang; body = body; span = span } in
    record { is = same3 make h0 (each_is h1) h2.is }

pub program_Module : (m : Move) {whole whole2 : Module} → By (module_to m) whole whole2
    → By (moved_program m) (vProgram.Module whole) (vProgram.Module whole2)
unfolding moved_program
program_Module m h0 =
    record { is = same1 vProgram.Module h0.is }

pub program_Script : (m : Move) {whole whole2 : Script} → By (script_to m) whole whole2
    → By (moved_program m) (vProgram.Script whole) (vProgram.Script whole2)
unfolding moved_program
program_Script m h0 =
    record { is = same1 vProgram.Script h0.is }
