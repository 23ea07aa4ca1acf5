-- What a module exports at run time (ECMA-262, "Static Semantics: ExportedNames"; of enums and namespaces, the handbook of
-- TypeScript). Names of types among those in braces count.
use Rattle.std.specs.Prelude.{ℕ, List, [], ◌∷◌, Option, Some, None, unwrap_or, codes}
use Rattle.std.specs.List.{flat_map}
use Rattle.es_ast.specs.declared.leaf.ExportAll.{ExportAll}
use Rattle.es_ast.specs.declared.leaf.ExportSpecifier.{ExportSpecifier}
use Rattle.es_ast.specs.declared.leaf.ModuleExportName.{ModuleExportName}
use Rattle.es_ast.specs.declared.leaf.ModuleExportName.TheVariants as vName
use Rattle.es_ast.specs.declared.ast.ModuleDecl.{ModuleDecl, out-ModuleDecl}
use Rattle.es_ast.specs.declared.ast.ModuleItem.{ModuleItem, out-ModuleItem}
use Rattle.es_ast.specs.declared.ast.Program.{Program}
use Rattle.es_ast.specs.declared.ast.Program.TheVariants as vProgram
use Rattle.es_ast.specs.declared.ast.ClassMember.TheOpen.{ModuleDecl-F, ModuleItem-F}
use Rattle.es_site.specs.Parts.{Whole}
use Rattle.es_bound_names.specs.Names.{Names, declared_names}

-- a name as it is spelled, or the value of a string
abbrev pub name_in : ModuleExportName → List ℕ
name_in (vName.Ident id) = id.sym
name_in (vName.Str str) = str.value

abbrev pub export_name : ModuleExportName → Names
export_name name = name_in name ∷ []

-- `a as b` is exported by its outer name
abbrev pub outer_name : ExportSpecifier → Names
outer_name it = export_name (unwrap_or it.exported it.orig)

-- `export * as a from` exports `a`, and `export * from` names another module whose names are exported again
abbrev pub all_as : Option ModuleExportName → Names
all_as (Some name) = export_name name
all_as None = []

abbrev pub all_from : ExportAll → Option ModuleExportName → Names
all_from it (Some name) = []
all_from it None = it.src.value ∷ []

abbrev pub default_name : Names
default_name = codes "default" ∷ []

-- the names of an import or export
abbrev pub names_by : Whole ModuleDecl-F → Names
names_by (ModuleDecl-F.ExportDecl decl span) = declared_names decl
names_by (ModuleDecl-F.ExportNamed it) = flat_map outer_name it.specifiers
names_by (ModuleDecl-F.ExportDefaultDecl decl span) = default_name
names_by (ModuleDecl-F.ExportDefaultExpr expr span) = default_name
names_by (ModuleDecl-F.ExportAll it) = all_as it.exported
names_by _ = []

-- the modules whose names it exports again
abbrev pub again_by : Whole ModuleDecl-F → Names
again_by (ModuleDecl-F.ExportAll it) = all_from it it.exported
again_by _ = []

abbrev pub in_item : (Whole ModuleDecl-F → Names) → Whole ModuleItem-F → Names
in_item names (ModuleItem-F.ModuleDecl decl) = names (out-ModuleDecl decl)
in_item names (ModuleItem-F.Stmt stmt) = []

unfoldable pub exported_by : ModuleItem → Names
exported_by item = in_item names_by (out-ModuleItem item)

unfoldable pub reexported_by : ModuleItem → Names
reexported_by item = in_item again_by (out-ModuleItem item)

-- the names that a program exports, in order, and the modules whose names it exports again; a script has none
unfoldable pub exports_of : Program → Names
exports_of (vProgram.Module it) = flat_map exported_by it.body
exports_of (vProgram.Script it) = []

unfoldable pub reexports_of : Program → Names
reexports_of (vProgram.Module it) = flat_map reexported_by it.body
reexports_of (vProgram.Script it) = []
