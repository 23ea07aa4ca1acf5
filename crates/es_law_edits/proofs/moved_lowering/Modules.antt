-- What programs, imports and exports become moves with their parts.
use Rattle.std.specs.Prelude.{ℕ, ◌+◌, ◌-◌, Bool, false, List, Option}
use Rattle.base.specs.declared.range.Range.{Range}
use Rattle.es_token.specs.declared.token.Token.{Token}
use Rattle.es_ast.specs.declared.ts.leaf.Ident.{Ident}
use Rattle.es_ast.specs.declared.ts.leaf.Str.{Str}
use Rattle.es_ast.specs.declared.leaf.ImportPhase.{ImportPhase}
use Rattle.es_ast.specs.declared.leaf.ImportPhase.TheVariants as vPhase
use Rattle.es_ast.specs.declared.leaf.ImportAttributes.{ImportAttributes}
use Rattle.es_ast.specs.declared.leaf.ModuleExportName.{ModuleExportName}
use Rattle.es_ast.specs.declared.leaf.TsModuleRef.{TsModuleRef}
use Rattle.es_lowering.specs.Value.{Value}
use Rattle.es_lowering.specs.Modules.{attribute, attributes, namespace, named_imports, default_clause, default_and_clause, specifier_of, renamed_import, imported_name, bare_import, from_import, phase_clause, phase_import, equals_of, require_import, entity_import, entity, export_all, source_with, with_of, export_names, exported_name, export_namespace, export_default_decl, export_default_expression, export_declaration, module_, script}
use Rattle.std.proofs.Common.{◌≡◌, ap, sym, subst}
use Rattle.es_law_edits.proofs.moved.Items.{module_decl_ExportAll, module_decl_ExportDecl, module_decl_ExportDefaultDecl, module_decl_ExportDefaultExpr, module_decl_ExportNamed, module_decl_Import, module_decl_TsImportEquals, module_decl_TsNamespaceExport, module_made, program_Module, program_Script, script_made}
use Rattle.es_law_edits.proofs.moved.Leaves.{ts_entity_name_made}
use Rattle.es_law_edits.proofs.moved.ModuleLeaves.{export_all_made, export_specifier_made, import_attribute_made, import_attributes_made, import_clause_Both, import_clause_Default, import_clause_Names, import_decl_made, import_names_Named, import_names_Namespace, import_specifier_made, named_export_made, ts_import_equals_decl_made, ts_module_ref_TsEntityName, ts_module_ref_TsExternalModuleRef, ts_namespace_export_decl_made}
use Rattle.es_law_edits.proofs.moved.Rel.{Both, By, Opt, none, some}
use Rattle.es_law_edits.specs.moved.Leaves.{ident_to, str_to, ts_entity_name_to}
use Rattle.es_law_edits.specs.moved.ModuleLeaves.{export_specifier_to, import_attribute_to, import_attributes_to, import_clause_to, import_names_to, import_specifier_to, module_export_name_to, ts_module_ref_to}
use Rattle.es_law_edits.specs.moved.Move.{Move, range_to}
use Rattle.es_law_edits.specs.moved.Trees.{module_decl_to, moved_program}
use Rattle.es_law_edits.proofs.moved_lowering.Frame.{Moves, Texts, behind_moves, first_of_moves, given_moves, is_there_moves, map_moves, opt_equal, optional_moves, part_moves, same, turns_moves}
use Rattle.es_law_edits.proofs.moved_lowering.Leaves.{span_of_moves}
use Rattle.es_law_edits.proofs.moved_lowering.Texts.{ident_at_moves, name_at_moves, shebang_at_moves, str_at_moves, this_or_name_at_moves}
use Rattle.es_law_edits.proofs.moved_lowering.Value.{attributes_at_moves, clause_at_moves, decl_at_moves, entity_at_moves, export_specifier_at_moves, expr_at_moves, group_moves, import_specifier_at_moves, item_at_moves, names_at_moves, stmt_at_moves}

pub attribute_moves : {m : Move} {x y : List ℕ} {ts us : List Token} → Texts m x y ts us → {turn turn2 : Value}
    → Moves m turn turn2 → Opt (By (import_attribute_to m)) (attribute x ts turn) (attribute y us turn2)
attribute_moves {m = m} told turn_ =
    given_moves (name_at_moves told (group_moves turn_ (same 0)) (same 0))
    (λ key key2 key_. given_moves (str_at_moves told turn_ (same 1))
    (λ value value2 value_. some
    (import_attribute_made m key_ value_
    (span_of_moves told (first_of_moves (part_moves (group_moves turn_ (same 0)) (same 0)))
    (behind_moves (part_moves turn_ (same 1)))))))

pub attributes_moves : {m : Move} {x y : List ℕ} {ts us : List Token} → Texts m x y ts us → {r r2 : Range}
    → By (range_to m) r r2 → {p p2 : Value} → Moves m p p2
    → Opt (By (import_attributes_to m)) (attributes x ts r p) (attributes y us r2 p2)
unfolding attributes
attributes_moves {m = m} told r_ p_ =
    map_moves _ _ (turns_moves (λ a a2 a_. attribute_moves told a_) (group_moves p_ (same 0)))
    (λ items items2 items_. import_attributes_made m items_ r_)

pub namespace_moves : {m : Move} {x y : List ℕ} {ts us : List Token} → Texts m x y ts us → {r r2 : Range}
    → By (range_to m) r r2 → {p p2 : Value} → Moves m p p2
    → Opt (By (import_names_to m)) (namespace x ts r p) (namespace y us r2 p2)
unfolding namespace
namespace_moves {m = m} told r_ p_ =
    map_moves _ _ (ident_at_moves told p_ (same 0)) (λ local local2 local_. import_names_Namespace m local_ r_)

pub named_imports_moves : {m : Move} {r r2 : Range} → By (range_to m) r r2 → {p p2 : Value} → Moves m p p2
    → Opt (By (import_names_to m)) (named_imports r p) (named_imports r2 p2)
unfolding named_imports
named_imports_moves {m = m} r_ p_ =
    map_moves _ _ (turns_moves (λ turn turn2 turn_. import_specifier_at_moves turn_ (same 0))
    (group_moves p_ (same 0))) (λ specifiers specifiers2 specifiers_. import_names_Named m specifiers_ r_)

pub default_clause_moves : {m : Move} {x y : List ℕ} {ts us : List Token} → Texts m x y ts us → {p p2 : Value}
    → Moves m p p2 → Opt (By (import_clause_to m)) (default_clause x ts p) (default_clause y us p2)
unfolding default_clause
default_clause_moves {m = m} told p_ =
    map_moves _ _ (ident_at_moves told p_ (same 0)) (λ a a2 a_. import_clause_Default m a_)

pub default_and_clause_moves : {m : Move} {x y : List ℕ} {ts us : List Token} → Texts m x y ts us → {r r2 : Range}
    → By (range_to m) r r2 → {p p2 : Value} → Moves m p p2
    → Opt (By (import_clause_to m)) (default_and_clause x ts r p) (default_and_clause y us r2 p2)
unfolding default_and_clause
default_and_clause_moves {m = m} told r_ p_ =
    given_moves (ident_at_moves told p_ (same 0))
    (λ default default2 default_. given_moves (names_at_moves p_ (same 1))
    (λ names names2 names_. some (import_clause_Both m default_ names_ r_)))

pub specifier_of_moves : (m : Move) {r r2 : Range} → By (range_to m) r r2 → {type_only type_only2 : Bool}
    → type_only2 ≡ type_only → {imported imported2 : Option ModuleExportName}
    → Opt (By (module_export_name_to m)) imported imported2 → {local local2 : Ident} → By (ident_to m) local local2
    → By (import_specifier_to m) (specifier_of r type_only imported local)
    (specifier_of r2 type_only2 imported2 local2)
specifier_of_moves m r_ type_only_ imported_ local_ = import_specifier_made m type_only_ imported_ local_ r_

pub renamed_import_moves : {m : Move} {x y : List ℕ} {ts us : List Token} → Texts m x y ts us → {r r2 : Range}
    → By (range_to m) r r2 → {p p2 : Value} → Moves m p p2
    → Opt (By (import_specifier_to m)) (renamed_import x ts r p) (renamed_import y us r2 p2)
unfolding renamed_import
renamed_import_moves {m = m} told r_ p_ =
    given_moves (name_at_moves told (group_moves p_ (same 1)) (same 0))
    (λ imported imported2 imported_. given_moves (ident_at_moves told p_ (same 2))
    (λ local local2 local_. some
    (specifier_of_moves m r_ (is_there_moves (group_moves p_ (same 0))) (some imported_) local_)))

pub imported_name_moves : {m : Move} {x y : List ℕ} {ts us : List Token} → Texts m x y ts us → {r r2 : Range}
    → By (range_to m) r r2 → {p p2 : Value} → Moves m p p2
    → Opt (By (import_specifier_to m)) (imported_name x ts r p) (imported_name y us r2 p2)
unfolding imported_name
imported_name_moves {m = m} told r_ p_ =
    map_moves _ _ (ident_at_moves told p_ (same 1))
    (λ a a2 a_. specifier_of_moves m r_ (is_there_moves (group_moves p_ (same 0))) none a_)

pub bare_import_moves : {m : Move} {x y : List ℕ} {ts us : List Token} → Texts m x y ts us → {r r2 : Range}
    → By (range_to m) r r2 → {p p2 : Value} → Moves m p p2
    → Opt (By (module_decl_to m)) (bare_import x ts r p) (bare_import y us r2 p2)
unfolding bare_import
bare_import_moves {m = m} told r_ p_ =
    given_moves (str_at_moves told p_ (same 0))
    (λ src src2 src_. given_moves
    (optional_moves (λ a a2 a_ b b2 b_. attributes_at_moves a_ b_) (group_moves p_ (same 1)))
    (λ with with2 with_. some
    (module_decl_Import m
    (import_decl_made m (same false) (same vPhase.Evaluation) none src_ with_ r_))))

pub from_import_moves : {m : Move} {x y : List ℕ} {ts us : List Token} → Texts m x y ts us → {r r2 : Range}
    → By (range_to m) r r2 → {p p2 : Value} → Moves m p p2
    → Opt (By (module_decl_to m)) (from_import x ts r p) (from_import y us r2 p2)
unfolding from_import
from_import_moves {m = m} told r_ p_ =
    given_moves (clause_at_moves p_ (same 1))
    (λ clause clause2 clause_. given_moves (str_at_moves told p_ (same 2))
    (λ src src2 src_. given_moves
    (optional_moves (λ a a2 a_ b b2 b_. attributes_at_moves a_ b_) (group_moves p_ (same 3)))
    (λ with with2 with_. some
    (module_decl_Import m
    (import_decl_made m (is_there_moves (group_moves p_ (same 0))) (same vPhase.Evaluation)
    (some clause_) src_ with_ r_)))))

pub phase_clause_moves : {m : Move} {x y : List ℕ} {ts us : List Token} → Texts m x y ts us
    → {phase phase2 : ImportPhase} → phase2 ≡ phase → {name name2 : Value} → Moves m name name2
    → {local local2 : Ident} → By (ident_to m) local local2
    → By (import_clause_to m) (phase_clause ts phase name local) (phase_clause us phase2 name2 local2)
phase_clause_moves {m = m} {ts = ts} {us = us} told {phase} {phase2} phase_ {name} {name2} name_ {local} {local2}
    local_ =
    subst (λ (p : ImportPhase). By (import_clause_to m) (phase_clause ts phase name local)
    (phase_clause us p name2 local2)) (sym phase_) (by_case phase)
  where
    by_case : (phase : ImportPhase)
        → By (import_clause_to m) (phase_clause ts phase name local) (phase_clause us phase name2 local2)
    by_case vPhase.Defer =
        import_clause_Names m
        (import_names_Namespace m local_
        (span_of_moves told (ap (λ n. n - 2) (first_of_moves name_)) (behind_moves name_)))
    by_case vPhase.Evaluation = import_clause_Default m local_
    by_case vPhase.Source = import_clause_Default m local_

pub phase_import_moves : {m : Move} {x y : List ℕ} {ts us : List Token} → Texts m x y ts us
    → {phase phase2 : ImportPhase} → phase2 ≡ phase → {r r2 : Range} → By (range_to m) r r2 → {p p2 : Value}
    → Moves m p p2 → Opt (By (module_decl_to m)) (phase_import x ts phase r p) (phase_import y us phase2 r2 p2)
unfolding phase_import
phase_import_moves {m = m} told phase_ r_ p_ =
    given_moves (ident_at_moves told p_ (same 0))
    (λ local local2 local_. given_moves (str_at_moves told p_ (same 1))
    (λ src src2 src_. given_moves
    (optional_moves (λ a a2 a_ b b2 b_. attributes_at_moves a_ b_) (group_moves p_ (same 2)))
    (λ with with2 with_. some
    (module_decl_Import m
    (import_decl_made m (same false) phase_
    (some (phase_clause_moves told phase_ (part_moves p_ (same 0)) local_)) src_ with_
    r_)))))

pub equals_of_moves : (m : Move) {r r2 : Range} → By (range_to m) r r2 → {is_export is_export2 : Bool}
    → is_export2 ≡ is_export → {type_only type_only2 : Bool} → type_only2 ≡ type_only → {id id2 : Ident}
    → By (ident_to m) id id2 → {module_ref module_ref2 : TsModuleRef}
    → By (ts_module_ref_to m) module_ref module_ref2
    → By (module_decl_to m) (equals_of r is_export type_only id module_ref)
    (equals_of r2 is_export2 type_only2 id2 module_ref2)
equals_of_moves m r_ is_export_ type_only_ id_ module_ref_ =
    module_decl_TsImportEquals m (ts_import_equals_decl_made m is_export_ type_only_ id_ module_ref_ r_)

pub require_import_moves : {m : Move} {x y : List ℕ} {ts us : List Token} → Texts m x y ts us
    → {is_export is_export2 : Bool} → is_export2 ≡ is_export → {r r2 : Range} → By (range_to m) r r2 → {p p2 : Value}
    → Moves m p p2 → Opt (By (module_decl_to m)) (require_import x ts is_export r p)
    (require_import y us is_export2 r2 p2)
unfolding require_import
require_import_moves {m = m} told is_export_ r_ p_ =
    given_moves (ident_at_moves told p_ (same 1))
    (λ id id2 id_. given_moves (str_at_moves told p_ (same 2))
    (λ src src2 src_. some
    (equals_of_moves m r_ is_export_ (is_there_moves (group_moves p_ (same 0))) id_
    (ts_module_ref_TsExternalModuleRef m src_
    (span_of_moves told (ap (λ n. n - 2) (first_of_moves (part_moves p_ (same 2))))
    (ap (λ n. n + 1) (behind_moves (part_moves p_ (same 2)))))))))

pub entity_import_moves : {m : Move} {x y : List ℕ} {ts us : List Token} → Texts m x y ts us
    → {is_export is_export2 : Bool} → is_export2 ≡ is_export → {r r2 : Range} → By (range_to m) r r2 → {p p2 : Value}
    → Moves m p p2 → Opt (By (module_decl_to m)) (entity_import x ts is_export r p)
    (entity_import y us is_export2 r2 p2)
unfolding entity_import
entity_import_moves {m = m} told is_export_ r_ p_ =
    given_moves (ident_at_moves told p_ (same 1))
    (λ id id2 id_. given_moves (entity_at_moves p_ (same 2))
    (λ name name2 name_. some
    (equals_of_moves m r_ is_export_ (is_there_moves (group_moves p_ (same 0))) id_
    (ts_module_ref_TsEntityName m name_))))

pub entity_moves : {m : Move} {x y : List ℕ} {ts us : List Token} → Texts m x y ts us → {r r2 : Range}
    → By (range_to m) r r2 → {p p2 : Value} → Moves m p p2
    → Opt (By (ts_entity_name_to m)) (entity x ts r p) (entity y us r2 p2)
unfolding entity
entity_moves {m = m} told r_ p_ =
    given_moves (this_or_name_at_moves told p_ (same 0))
    (λ left left2 left_. given_moves
    (turns_moves (λ turn turn2 turn_. ident_at_moves told turn_ (same 0)) (group_moves p_ (same 1)))
    (λ rest rest2 rest_. some (ts_entity_name_made m left_ rest_ r_)))

pub export_all_moves : {m : Move} {x y : List ℕ} {ts us : List Token} → Texts m x y ts us → {r r2 : Range}
    → By (range_to m) r r2 → {p p2 : Value} → Moves m p p2
    → Opt (By (module_decl_to m)) (export_all x ts r p) (export_all y us r2 p2)
unfolding export_all
export_all_moves {m = m} told r_ p_ =
    given_moves (optional_moves (λ g g2 g_ n n2 n_. name_at_moves told (group_moves g_ n_) (same 0))
    (group_moves p_ (same 1)))
    (λ exported exported2 exported_. given_moves (str_at_moves told p_ (same 2))
    (λ src src2 src_. given_moves
    (optional_moves (λ a a2 a_ b b2 b_. attributes_at_moves a_ b_) (group_moves p_ (same 3)))
    (λ with with2 with_. some
    (module_decl_ExportAll m
    (export_all_made m (is_there_moves (group_moves p_ (same 0))) exported_ src_ with_
    r_)))))

pub source_with_moves : {m : Move} {x y : List ℕ} {ts us : List Token} → Texts m x y ts us → {g g2 : Value}
    → Moves m g g2 → {n n2 : ℕ} → n2 ≡ n
    → Opt (Both (By (str_to m)) (Opt (By (import_attributes_to m)))) (source_with x ts g n) (source_with y us g2 n2)
source_with_moves told g_ n_ =
    given_moves (str_at_moves told g_ n_)
    (λ src src2 src_. given_moves
    (optional_moves (λ a a2 a_ b b2 b_. attributes_at_moves a_ b_) (group_moves g_ (ap (λ n. n + 1) n_)))
    (λ with with2 with_. some (src_, with_)))

pub with_of_moves : (m : Move) {a a2 : Option (Str × (Option ImportAttributes))}
    → Opt (Both (By (str_to m)) (Opt (By (import_attributes_to m)))) a a2
    → Opt (By (import_attributes_to m)) (with_of a) (with_of a2)
with_of_moves m (some source_) = source_.1
with_of_moves m none = none

pub export_names_moves : {m : Move} {x y : List ℕ} {ts us : List Token} → Texts m x y ts us → {r r2 : Range}
    → By (range_to m) r r2 → {p p2 : Value} → Moves m p p2
    → Opt (By (module_decl_to m)) (export_names x ts r p) (export_names y us r2 p2)
unfolding export_names
export_names_moves {m = m} told r_ p_ =
    given_moves (turns_moves (λ turn turn2 turn_. export_specifier_at_moves turn_ (same 0)) (group_moves p_ (same 1)))
    (λ specifiers specifiers2 specifiers_. given_moves
    (optional_moves (λ a a2 a_ b b2 b_. source_with_moves told a_ b_) (group_moves p_ (same 2)))
    (λ source source2 source_. some
    (module_decl_ExportNamed m
    (named_export_made m (is_there_moves (group_moves p_ (same 0))) specifiers_
    (map_moves _ _ source_ (λ source source2 source_. source_.0)) (with_of_moves m source_)
    r_))))

pub exported_name_moves : {m : Move} {x y : List ℕ} {ts us : List Token} → Texts m x y ts us → {r r2 : Range}
    → By (range_to m) r r2 → {p p2 : Value} → Moves m p p2
    → Opt (By (export_specifier_to m)) (exported_name x ts r p) (exported_name y us r2 p2)
unfolding exported_name
exported_name_moves {m = m} told r_ p_ =
    given_moves (name_at_moves told (group_moves p_ (same 1)) (same 0))
    (λ orig orig2 orig_. given_moves
    (optional_moves (λ g g2 g_ n n2 n_. name_at_moves told (group_moves g_ n_) (same 0))
    (group_moves p_ (same 2)))
    (λ exported exported2 exported_. some
    (export_specifier_made m (is_there_moves (group_moves p_ (same 0))) orig_ exported_ r_)))

pub export_namespace_moves : {m : Move} {x y : List ℕ} {ts us : List Token} → Texts m x y ts us → {r r2 : Range}
    → By (range_to m) r r2 → {p p2 : Value} → Moves m p p2
    → Opt (By (module_decl_to m)) (export_namespace x ts r p) (export_namespace y us r2 p2)
unfolding export_namespace
export_namespace_moves {m = m} told r_ p_ =
    map_moves _ _ (ident_at_moves told p_ (same 0))
    (λ id id2 id_. module_decl_TsNamespaceExport m (ts_namespace_export_decl_made m id_ r_))

pub export_default_decl_moves : {m : Move} {r r2 : Range} → By (range_to m) r r2 → {p p2 : Value} → Moves m p p2
    → Opt (By (module_decl_to m)) (export_default_decl r p) (export_default_decl r2 p2)
unfolding export_default_decl
export_default_decl_moves {m = m} r_ p_ =
    map_moves _ _ (decl_at_moves p_ (same 0)) (λ decl decl2 decl_. module_decl_ExportDefaultDecl m decl_ r_)

pub export_default_expression_moves : {m : Move} {r r2 : Range} → By (range_to m) r r2 → {p p2 : Value} → Moves m p p2
    → Opt (By (module_decl_to m)) (export_default_expression r p) (export_default_expression r2 p2)
unfolding export_default_expression
export_default_expression_moves {m = m} r_ p_ =
    map_moves _ _ (expr_at_moves p_ (same 0)) (λ expr expr2 expr_. module_decl_ExportDefaultExpr m expr_ r_)

pub export_declaration_moves : {m : Move} {r r2 : Range} → By (range_to m) r r2 → {p p2 : Value} → Moves m p p2
    → Opt (By (module_decl_to m)) (export_declaration r p) (export_declaration r2 p2)
unfolding export_declaration
export_declaration_moves {m = m} r_ p_ =
    map_moves _ _ (decl_at_moves p_ (same 0)) (λ decl decl2 decl_. module_decl_ExportDecl m decl_ r_)

pub module__moves : {m : Move} {x y : List ℕ} {ts us : List Token} → Texts m x y ts us → {r r2 : Range}
    → By (range_to m) r r2 → {p p2 : Value} → Moves m p p2
    → Opt (By (moved_program m)) (module_ x ts r p) (module_ y us r2 p2)
unfolding module_
module__moves {m = m} told r_ p_ =
    given_moves (optional_moves (λ a a2 a_ b b2 b_. shebang_at_moves told a_ b_) (group_moves p_ (same 0)))
    (λ shebang shebang2 shebang_. given_moves
    (turns_moves (λ turn turn2 turn_. item_at_moves turn_ (same 0)) (group_moves p_ (same 1)))
    (λ body body2 body_. some (program_Module m (module_made m (opt_equal shebang_) body_ r_))))

pub script_moves : {m : Move} {x y : List ℕ} {ts us : List Token} → Texts m x y ts us → {r r2 : Range}
    → By (range_to m) r r2 → {p p2 : Value} → Moves m p p2
    → Opt (By (moved_program m)) (script x ts r p) (script y us r2 p2)
unfolding script
script_moves {m = m} told r_ p_ =
    given_moves (optional_moves (λ a a2 a_ b b2 b_. shebang_at_moves told a_ b_) (group_moves p_ (same 0)))
    (λ shebang shebang2 shebang_. given_moves
    (turns_moves (λ turn turn2 turn_. stmt_at_moves turn_ (same 0)) (group_moves p_ (same 1)))
    (λ body body2 body_. some (program_Script m (script_made m (opt_equal shebang_) body_ r_))))
