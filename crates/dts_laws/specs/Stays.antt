-- What a module imports, and what it exports from other modules or by name.
use Rattle.std.specs.Prelude.{Bool, true, false, List, [], ◌∷◌, if◌then◌else◌}
use Rattle.es_ast.specs.declared.ast.ModuleDecl.{out-ModuleDecl}
use Rattle.es_ast.specs.declared.ast.ModuleItem.{ModuleItem, out-ModuleItem}
use Rattle.es_ast.specs.declared.ast.Program.{Program}
use Rattle.es_ast.specs.declared.ast.Program.TheVariants as vProgram
use Rattle.es_ast.specs.declared.ast.ClassMember.TheOpen.{ModuleDecl-F, ModuleItem-F}
use Rattle.es_site.specs.Parts.{Whole}

-- an import, names exported from this module or from another, all of another, and the forms of TypeScript
abbrev pub decl_stays : Whole ModuleDecl-F → Bool
decl_stays (ModuleDecl-F.Import it) = true
decl_stays (ModuleDecl-F.ExportDecl decl span) = false
decl_stays (ModuleDecl-F.ExportNamed it) = true
decl_stays (ModuleDecl-F.ExportDefaultDecl decl span) = false
decl_stays (ModuleDecl-F.ExportDefaultExpr expr span) = false
decl_stays (ModuleDecl-F.ExportAll it) = true
decl_stays (ModuleDecl-F.TsImportEquals it) = true
decl_stays (ModuleDecl-F.TsExportAssignment expr span) = true
decl_stays (ModuleDecl-F.TsNamespaceExport it) = true

abbrev pub item_stays_by : Whole ModuleItem-F → Bool
item_stays_by (ModuleItem-F.ModuleDecl it) = decl_stays (out-ModuleDecl it)
item_stays_by (ModuleItem-F.Stmt it) = false

abbrev pub item_stays : ModuleItem → Bool
item_stays it = item_stays_by (out-ModuleItem it)

-- those items alone
abbrev pub staying : List ModuleItem → List ModuleItem
staying [] = []
staying (it ∷ others) = if item_stays it then it ∷ staying others else staying others

-- the items of a module; a script has none
abbrev pub items_of : Program → List ModuleItem
items_of (vProgram.Module it) = it.body
items_of (vProgram.Script it) = []
