-- Each form of what imports and exports hold moves as its parts do.
use Rattle.std.specs.Prelude.{Bool, List, Option}
use Rattle.std.proofs.Common.{◌≡◌}
use Rattle.base.specs.declared.range.Range.{Range}
use Rattle.es_ast.specs.declared.ts.leaf.Ident.{Ident}
use Rattle.es_ast.specs.declared.ts.leaf.Str.{Str}
use Rattle.es_ast.specs.declared.ts.leaf.Number.{Number}
use Rattle.es_ast.specs.declared.ts.leaf.BigInt.{BigInt}
use Rattle.es_ast.specs.declared.ts.leaf.TsEntityName.{TsEntityName}
use Rattle.es_ast.specs.declared.leaf.Regex.{Regex}
use Rattle.es_ast.specs.declared.leaf.Lit.TheVariants as vLit
use Rattle.es_ast.specs.declared.leaf.ModuleExportName.{ModuleExportName}
use Rattle.es_ast.specs.declared.leaf.ModuleExportName.TheVariants as vModuleExportName
use Rattle.es_ast.specs.declared.leaf.ImportAttribute.{ImportAttribute}
use Rattle.es_ast.specs.declared.leaf.ImportAttributes.{ImportAttributes}
use Rattle.es_ast.specs.declared.leaf.ImportSpecifier.{ImportSpecifier}
use Rattle.es_ast.specs.declared.leaf.ImportNames.{ImportNames}
use Rattle.es_ast.specs.declared.leaf.ImportNames.TheVariants as vImportNames
use Rattle.es_ast.specs.declared.leaf.ImportClause.{ImportClause}
use Rattle.es_ast.specs.declared.leaf.ImportClause.TheVariants as vImportClause
use Rattle.es_ast.specs.declared.leaf.ImportPhase.{ImportPhase}
use Rattle.es_ast.specs.declared.leaf.ImportDecl.{ImportDecl}
use Rattle.es_ast.specs.declared.leaf.ExportSpecifier.{ExportSpecifier}
use Rattle.es_ast.specs.declared.leaf.NamedExport.{NamedExport}
use Rattle.es_ast.specs.declared.leaf.ExportAll.{ExportAll}
use Rattle.es_ast.specs.declared.leaf.TsModuleRef.{TsModuleRef}
use Rattle.es_ast.specs.declared.leaf.TsModuleRef.TheVariants as vTsModuleRef
use Rattle.es_ast.specs.declared.leaf.TsImportEqualsDecl.{TsImportEqualsDecl}
use Rattle.es_ast.specs.declared.leaf.TsNamespaceExportDecl.{TsNamespaceExportDecl}
use Rattle.es_law_edits.specs.moved.Move.{Move, range_to}
use Rattle.es_law_edits.specs.moved.Leaves.{ident_to, str_to, number_to, big_int_to, ts_entity_name_to}
use Rattle.es_law_edits.specs.moved.ModuleLeaves.{regex_to, lit_to, module_export_name_to, import_attribute_to, import_attributes_to, import_specifier_to, import_names_to, import_clause_to, import_decl_to, export_specifier_to, named_export_to, export_all_to, ts_module_ref_to, ts_import_equals_decl_to, ts_namespace_export_decl_to}
use Rattle.es_law_edits.proofs.moved.Rel.{By, Opt, Each, opt_is, each_is}
use Rattle.es_law_edits.proofs.moved.Same.{same1, same2, same3, same4, same5, same6}

pub lit_Null : (m : Move) {span span2 : Range} → By (range_to m) span span2
    → By (lit_to m) (vLit.Null span) (vLit.Null span2)
unfolding lit_to
lit_Null m h0 =
    record { is = same1 vLit.Null h0.is }

pub lit_Bool : (m : Move) {value value2 : Bool} {span span2 : Range} → value2 ≡ value → By (range_to m) span span2
    → By (lit_to m) (vLit.Bool value span) (vLit.Bool value2 span2)
unfolding lit_to
lit_Bool m h0 h1 =
    record { is = same2 vLit.Bool h0 h1.is }

pub lit_Num : (m : Move) {number number2 : Number} → By (number_to m) number number2
    → By (lit_to m) (vLit.Num number) (vLit.Num number2)
unfolding lit_to
lit_Num m h0 =
    record { is = same1 vLit.Num h0.is }

pub lit_BigInt : (m : Move) {big_int big_int2 : BigInt} → By (big_int_to m) big_int big_int2
    → By (lit_to m) (vLit.BigInt big_int) (vLit.BigInt big_int2)
unfolding lit_to
lit_BigInt m h0 =
    record { is = same1 vLit.BigInt h0.is }

pub lit_Str : (m : Move) {str str2 : Str} → By (str_to m) str str2 → By (lit_to m) (vLit.Str str) (vLit.Str str2)
unfolding lit_to
lit_Str m h0 =
    record { is = same1 vLit.Str h0.is }

pub lit_Regex : (m : Move) {regex regex2 : Regex} → By (regex_to m) regex regex2
    → By (lit_to m) (vLit.Regex regex) (vLit.Regex regex2)
unfolding lit_to
lit_Regex m h0 =
    record { is = same1 vLit.Regex h0.is }

pub module_export_name_Ident : (m : Move) {ident ident2 : Ident} → By (ident_to m) ident ident2
    → By (module_export_name_to m) (vModuleExportName.Ident ident) (vModuleExportName.Ident ident2)
unfolding module_export_name_to
module_export_name_Ident m h0 =
    record { is = same1 vModuleExportName.Ident h0.is }

pub module_export_name_Str : (m : Move) {str str2 : Str} → By (str_to m) str str2
    → By (module_export_name_to m) (vModuleExportName.Str str) (vModuleExportName.Str str2)
unfolding module_export_name_to
module_export_name_Str m h0 =
    record { is = same1 vModuleExportName.Str h0.is }

pub import_attribute_made : (m : Move) {key key2 : ModuleExportName} {value value2 : Str} {span span2 : Range}
    → By (module_export_name_to m) key key2 → By (str_to m) value value2 → By (range_to m) span span2
    → By (import_attribute_to m) (record { key = key; value = value; span = span })
    (record { key = key2; value = value2; span = span2 })
unfolding import_attribute_to
import_attribute_made m h0 h1 h2 =
    let make : ModuleExportName → Str → Range → ImportAttribute = λ key value span. record
    { key = key; value = value; span = span } in
    record { is = same3 make h0.is h1.is h2.is }

pub import_attributes_made : (m : Move) {items items2 : List ImportAttribute} {span span2 : Range}
    → Each (By (import_attribute_to m)) items items2 → By (range_to m) span span2
    → By (import_attributes_to m) (record { items = items; span = span }) (record { items = items2; span = span2 })
unfolding import_attributes_to
import_attributes_made m h0 h1 =
    let make : List ImportAttribute → Range → ImportAttributes = λ items span. record { items = items; span = span }
    in
    record { is = same2 make (each_is h0) h1.is }

pub import_specifier_made : (m : Move) {type_only type_only2 : Bool} {imported imported2 : Option ModuleExportName}
    {local local2 : Ident} {span span2 : Range} → type_only2 ≡ type_only
    → Opt (By (module_export_name_to m)) imported imported2 → By (ident_to m) local local2
    → By (range_to m) span span2 → By (import_specifier_to m)
    (record { type_only = type_only; imported = imported; local = local; span = span })
    (record { type_only = type_only2; imported = imported2; local = local2; span = span2 })
unfolding import_specifier_to
import_specifier_made m h0 h1 h2 h3 =
    let make : Bool → Option ModuleExportName → Ident → Range
    → ImportSpecifier = λ type_only imported local span. record
    { type_only = type_only; imported = imported; local = local; span = span } in
    record { is = same4 make h0 (opt_is h1) h2.is h3.is }

pub import_names_Namespace : (m : Move) {local local2 : Ident} {span span2 : Range} → By (ident_to m) local local2
    → By (range_to m) span span2 → By (import_names_to m) (vImportNames.Namespace local span)
    (vImportNames.Namespace local2 span2)
unfolding import_names_to
import_names_Namespace m h0 h1 =
    record { is = same2 vImportNames.Namespace h0.is h1.is }

pub import_names_Named : (m : Move) {specifiers specifiers2 : List ImportSpecifier} {span span2 : Range}
    → Each (By (import_specifier_to m)) specifiers specifiers2 → By (range_to m) span span2
    → By (import_names_to m) (vImportNames.Named specifiers span) (vImportNames.Named specifiers2 span2)
unfolding import_names_to
import_names_Named m h0 h1 =
    record { is = same2 vImportNames.Named (each_is h0) h1.is }

pub import_clause_Default : (m : Move) {ident ident2 : Ident} → By (ident_to m) ident ident2
    → By (import_clause_to m) (vImportClause.Default ident) (vImportClause.Default ident2)
unfolding import_clause_to
import_clause_Default m h0 =
    record { is = same1 vImportClause.Default h0.is }

pub import_clause_Both : (m : Move) {default default2 : Ident} {names names2 : ImportNames} {span span2 : Range}
    → By (ident_to m) default default2 → By (import_names_to m) names names2 → By (range_to m) span span2
    → By (import_clause_to m) (vImportClause.Both default names span) (vImportClause.Both default2 names2 span2)
unfolding import_clause_to
import_clause_Both m h0 h1 h2 =
    record { is = same3 vImportClause.Both h0.is h1.is h2.is }

pub import_clause_Names : (m : Move) {import_names import_names2 : ImportNames}
    → By (import_names_to m) import_names import_names2 → By (import_clause_to m) (vImportClause.Names import_names)
    (vImportClause.Names import_names2)
unfolding import_clause_to
import_clause_Names m h0 =
    record { is = same1 vImportClause.Names h0.is }

pub import_decl_made : (m : Move) {type_only type_only2 : Bool} {phase phase2 : ImportPhase}
    {clause clause2 : Option ImportClause} {src src2 : Str} {with with2 : Option ImportAttributes}
    {span span2 : Range} → type_only2 ≡ type_only → phase2 ≡ phase → Opt (By (import_clause_to m)) clause clause2
    → By (str_to m) src src2 → Opt (By (import_attributes_to m)) with with2 → By (range_to m) span span2
    → By (import_decl_to m) (record {
      type_only = type_only;
      phase = phase;
      clause = clause;
      src = src;
      with = with;
      span = span;
    }) (record {
      type_only = type_only2;
      phase = phase2;
      clause = clause2;
      src = src2;
      with = with2;
      span = span2;
    })
unfolding import_decl_to
import_decl_made m h0 h1 h2 h3 h4 h5 =
    let make : Bool → ImportPhase → Option ImportClause → Str → Option ImportAttributes → Range
    → ImportDecl = λ type_only phase clause src with span. record
    { type_only = type_only; phase = phase; clause = clause; src = src; with = with; span = span } in
    record { is = same6 make h0 h1 (opt_is h2) h3.is (opt_is h4) h5.is }

pub export_specifier_made : (m : Move) {type_only type_only2 : Bool} {orig orig2 : ModuleExportName}
    {exported exported2 : Option ModuleExportName} {span span2 : Range} → type_only2 ≡ type_only
    → By (module_export_name_to m) orig orig2 → Opt (By (module_export_name_to m)) exported exported2
    → By (range_to m) span span2 → By (export_specifier_to m)
    (record { type_only = type_only; orig = orig; exported = exported; span = span })
    (record { type_only = type_only2; orig = orig2; exported = exported2; span = span2 })
unfolding export_specifier_to
export_specifier_made m h0 h1 h2 h3 =
    let make : Bool → ModuleExportName → Option ModuleExportName → Range
    → ExportSpecifier = λ type_only orig exported span. record
    { type_only = type_only; orig = orig; exported = exported; span = span } in
    record { is = same4 make h0 h1.is (opt_is h2) h3.is }

pub named_export_made : (m : Move) {type_only type_only2 : Bool} {specifiers specifiers2 : List ExportSpecifier}
    {src src2 : Option Str} {with with2 : Option ImportAttributes} {span span2 : Range} → type_only2 ≡ type_only
    → Each (By (export_specifier_to m)) specifiers specifiers2 → Opt (By (str_to m)) src src2
    → Opt (By (import_attributes_to m)) with with2 → By (range_to m) span span2
    → By (named_export_to m) (record {
      type_only = type_only;
      specifiers = specifiers;
      src = src;
      with = with;
      span = span;
    }) (record {
      type_only = type_only2;
      specifiers = specifiers2;
      src = src2;
      with = with2;
      span = span2;
    })
unfolding named_export_to
named_export_made m h0 h1 h2 h3 h4 =
    let make : Bool → List ExportSpecifier → Option Str → Option ImportAttributes → Range
    → NamedExport = λ type_only specifiers src with span. record
    { type_only = type_only; specifiers = specifiers; src = src; with = with; span = span } in
    record { is = same5 make h0 (each_is h1) (opt_is h2) (opt_is h3) h4.is }

pub export_all_made : (m : Move) {type_only type_only2 : Bool} {exported exported2 : Option ModuleExportName}
    {src src2 : Str} {with with2 : Option ImportAttributes} {span span2 : Range} → type_only2 ≡ type_only
    → Opt (By (module_export_name_to m)) exported exported2 → By (str_to m) src src2
    → Opt (By (import_attributes_to m)) with with2 → By (range_to m) span span2
    → By (export_all_to m) (record {
      type_only = type_only;
      exported = exported;
      src = src;
      with = with;
      span = span;
    }) (record { type_only = type_only2; exported = exported2; src = src2; with = with2; span = span2 })
unfolding export_all_to
export_all_made m h0 h1 h2 h3 h4 =
    let make : Bool → Option ModuleExportName → Str → Option ImportAttributes → Range
    → ExportAll = λ type_only exported src with span. record {
      type_only = type_only;
      exported = exported;
      src = src;
      with = with;
      span = span;
    } in
    record { is = same5 make h0 (opt_is h1) h2.is (opt_is h3) h4.is }

pub ts_module_ref_TsEntityName : (m : Move) {ts_entity_name ts_entity_name2 : TsEntityName}
    → By (ts_entity_name_to m) ts_entity_name ts_entity_name2
    → By (ts_module_ref_to m) (vTsModuleRef.TsEntityName ts_entity_name) (vTsModuleRef.TsEntityName ts_entity_name2)
unfolding ts_module_ref_to
ts_module_ref_TsEntityName m h0 =
    record { is = same1 vTsModuleRef.TsEntityName h0.is }

pub ts_module_ref_TsExternalModuleRef : (m : Move) {expr expr2 : Str} {span span2 : Range}
    → By (str_to m) expr expr2 → By (range_to m) span span2 → By (ts_module_ref_to m)
    (vTsModuleRef.TsExternalModuleRef expr span) (vTsModuleRef.TsExternalModuleRef expr2 span2)
unfolding ts_module_ref_to
ts_module_ref_TsExternalModuleRef m h0 h1 =
    record { is = same2 vTsModuleRef.TsExternalModuleRef h0.is h1.is }

pub ts_import_equals_decl_made : (m : Move) {is_export is_export2 : Bool} {type_only type_only2 : Bool}
    {id id2 : Ident} {module_ref module_ref2 : TsModuleRef} {span span2 : Range} → is_export2 ≡ is_export
    → type_only2 ≡ type_only → By (ident_to m) id id2 → By (ts_module_ref_to m) module_ref module_ref2
    → By (range_to m) span span2 → By (ts_import_equals_decl_to m)
    (record { is_export = is_export; type_only = type_only; id = id; module_ref = module_ref; span = span })
    (record { is_export = is_export2; type_only = type_only2; id = id2; module_ref = module_ref2; span = span2 })
unfolding ts_import_equals_decl_to
ts_import_equals_decl_made m h0 h1 h2 h3 h4 =
    let make : Bool → Bool → Ident → TsModuleRef → Range → TsImportEqualsDecl = λ is_export type_only id module_ref
    span. record { is_export = is_export; type_only = type_only; id = id; module_ref = module_ref; span = span } in
    record { is = same5 make h0 h1 h2.is h3.is h4.is }

pub ts_namespace_export_decl_made : (m : Move) {id id2 : Ident} {span span2 : Range} → By (ident_to m) id id2
    → By (range_to m) span span2 → By (ts_namespace_export_decl_to m) (record { id = id; span = span })
    (record { id = id2; span = span2 })
unfolding ts_namespace_export_decl_to
ts_namespace_export_decl_made m h0 h1 =
    let make : Ident → Range → TsNamespaceExportDecl = λ id span. record { id = id; span = span } in
    record { is = same2 make h0.is h1.is }
