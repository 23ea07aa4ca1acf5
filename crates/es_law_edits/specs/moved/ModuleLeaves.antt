-- What imports and exports hold, and literals, where the text has other string literals in the places of some.
use Rattle.std.specs.Prelude.{option_map, map}
use Rattle.es_ast.specs.declared.leaf.Regex.{Regex}
use Rattle.es_ast.specs.declared.leaf.Lit.{Lit}
use Rattle.es_ast.specs.declared.leaf.Lit.TheVariants as vLit
use Rattle.es_ast.specs.declared.leaf.ModuleExportName.{ModuleExportName}
use Rattle.es_ast.specs.declared.leaf.ModuleExportName.TheVariants as vModuleExportName
use Rattle.es_ast.specs.declared.leaf.ImportAttribute.{ImportAttribute}
use Rattle.es_ast.specs.declared.leaf.ImportAttributes.{ImportAttributes}
use Rattle.es_ast.specs.declared.leaf.ImportSpecifier.{ImportSpecifier}
use Rattle.es_ast.specs.declared.leaf.ImportNames.{ImportNames}
use Rattle.es_ast.specs.declared.leaf.ImportNames.TheVariants as vImportNames
use Rattle.es_ast.specs.declared.leaf.ImportClause.{ImportClause}
use Rattle.es_ast.specs.declared.leaf.ImportClause.TheVariants as vImportClause
use Rattle.es_ast.specs.declared.leaf.ImportDecl.{ImportDecl}
use Rattle.es_ast.specs.declared.leaf.ExportSpecifier.{ExportSpecifier}
use Rattle.es_ast.specs.declared.leaf.NamedExport.{NamedExport}
use Rattle.es_ast.specs.declared.leaf.ExportAll.{ExportAll}
use Rattle.es_ast.specs.declared.leaf.TsModuleRef.{TsModuleRef}
use Rattle.es_ast.specs.declared.leaf.TsModuleRef.TheVariants as vTsModuleRef
use Rattle.es_ast.specs.declared.leaf.TsImportEqualsDecl.{TsImportEqualsDecl}
use Rattle.es_ast.specs.declared.leaf.TsNamespaceExportDecl.{TsNamespaceExportDecl}
use Rattle.es_law_edits.specs.moved.Move.{Move, range_to, put}
use Rattle.es_law_edits.specs.moved.Leaves.{ident_to, str_to, number_to, big_int_to, ts_entity_name_to}

unfoldable pub regex_to : Move → Regex → Regex
regex_to m it = record { raw = put (m.other it.span) it.raw; span = range_to m it.span }

unfoldable pub lit_to : Move → Lit → Lit
lit_to m (vLit.Null span) = vLit.Null (range_to m span)
lit_to m (vLit.Bool value span) = vLit.Bool value (range_to m span)
lit_to m (vLit.Num number) = vLit.Num (number_to m number)
lit_to m (vLit.BigInt big_int) = vLit.BigInt (big_int_to m big_int)
lit_to m (vLit.Str str) = vLit.Str (str_to m str)
lit_to m (vLit.Regex regex) = vLit.Regex (regex_to m regex)

unfoldable pub module_export_name_to : Move → ModuleExportName → ModuleExportName
module_export_name_to m (vModuleExportName.Ident ident) = vModuleExportName.Ident (ident_to m ident)
module_export_name_to m (vModuleExportName.Str str) = vModuleExportName.Str (str_to m str)

unfoldable pub import_attribute_to : Move → ImportAttribute → ImportAttribute
import_attribute_to m it = record {
  key = module_export_name_to m it.key;
  value = str_to m it.value;
  span = range_to m it.span;
}

unfoldable pub import_attributes_to : Move → ImportAttributes → ImportAttributes
import_attributes_to m it = record { items = map (import_attribute_to m) it.items; span = range_to m it.span }

unfoldable pub import_specifier_to : Move → ImportSpecifier → ImportSpecifier
import_specifier_to m it = record {
  type_only = it.type_only;
  imported = option_map (module_export_name_to m) it.imported;
  local = ident_to m it.local;
  span = range_to m it.span;
}

unfoldable pub import_names_to : Move → ImportNames → ImportNames
import_names_to m (vImportNames.Namespace local span) = vImportNames.Namespace (ident_to m local) (range_to m span)
import_names_to m (vImportNames.Named specifiers span) = vImportNames.Named (map (import_specifier_to m) specifiers)
    (range_to m span)

unfoldable pub import_clause_to : Move → ImportClause → ImportClause
import_clause_to m (vImportClause.Default ident) = vImportClause.Default (ident_to m ident)
import_clause_to m (vImportClause.Both default names span) = vImportClause.Both (ident_to m default)
    (import_names_to m names) (range_to m span)
import_clause_to m (vImportClause.Names import_names) = vImportClause.Names (import_names_to m import_names)

unfoldable pub import_decl_to : Move → ImportDecl → ImportDecl
import_decl_to m it = record {
  type_only = it.type_only;
  phase = it.phase;
  clause = option_map (import_clause_to m) it.clause;
  src = str_to m it.src;
  with = option_map (import_attributes_to m) it.with;
  span = range_to m it.span;
}

unfoldable pub export_specifier_to : Move → ExportSpecifier → ExportSpecifier
export_specifier_to m it = record {
  type_only = it.type_only;
  orig = module_export_name_to m it.orig;
  exported = option_map (module_export_name_to m) it.exported;
  span = range_to m it.span;
}

unfoldable pub named_export_to : Move → NamedExport → NamedExport
named_export_to m it = record {
  type_only = it.type_only;
  specifiers = map (export_specifier_to m) it.specifiers;
  src = option_map (str_to m) it.src;
  with = option_map (import_attributes_to m) it.with;
  span = range_to m it.span;
}

unfoldable pub export_all_to : Move → ExportAll → ExportAll
export_all_to m it = record {
  type_only = it.type_only;
  exported = option_map (module_export_name_to m) it.exported;
  src = str_to m it.src;
  with = option_map (import_attributes_to m) it.with;
  span = range_to m it.span;
}

unfoldable pub ts_module_ref_to : Move → TsModuleRef → TsModuleRef
ts_module_ref_to m (vTsModuleRef.TsEntityName ts_entity_name) = vTsModuleRef.TsEntityName
    (ts_entity_name_to m ts_entity_name)
ts_module_ref_to m (vTsModuleRef.TsExternalModuleRef expr span) = vTsModuleRef.TsExternalModuleRef (str_to m expr)
    (range_to m span)

unfoldable pub ts_import_equals_decl_to : Move → TsImportEqualsDecl → TsImportEqualsDecl
ts_import_equals_decl_to m it = record {
  is_export = it.is_export;
  type_only = it.type_only;
  id = ident_to m it.id;
  module_ref = ts_module_ref_to m it.module_ref;
  span = range_to m it.span;
}

unfoldable pub ts_namespace_export_decl_to : Move → TsNamespaceExportDecl → TsNamespaceExportDecl
ts_namespace_export_decl_to m it = record { id = ident_to m it.id; span = range_to m it.span }
