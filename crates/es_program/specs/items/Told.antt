-- What the items of a module tell of it.
use Rattle.std.specs.Prelude.{Bool, true, false, List, [], ◌∷◌, Option, Some, None, unwrap_or}
use Rattle.es_ast.specs.declared.ast.ModuleItem.{ModuleItem, out-ModuleItem}
use Rattle.es_ast.specs.declared.ast.ModuleDecl.{ModuleDecl, out-ModuleDecl}
use Rattle.es_ast.specs.declared.ast.ClassMember.TheOpen.{ModuleDecl-F, ModuleItem-F}
use Rattle.es_site.specs.Parts.{Whole}

-- what a declaration tells: `import a = ..` and `export = a` that the module is one of CommonJS, any other import or
-- export that it is none, and `export as namespace a` nothing
abbrev pub told_by_decl : Whole ModuleDecl-F → Option Bool
told_by_decl (ModuleDecl-F.TsImportEquals it) = Some true
told_by_decl (ModuleDecl-F.TsExportAssignment expr _) = Some true
told_by_decl (ModuleDecl-F.TsNamespaceExport it) = None
told_by_decl _ = Some false

abbrev pub told_by_item : Whole ModuleItem-F → Option Bool
told_by_item (ModuleItem-F.ModuleDecl it) = told_by_decl (out-ModuleDecl it)
told_by_item (ModuleItem-F.Stmt it) = None

abbrev pub told_by : ModuleItem → Option Bool
told_by i = told_by_item (out-ModuleItem i)

-- the first item that tells decides
abbrev pub tells_script : List ModuleItem → Bool
tells_script [] = false
tells_script (i ∷ items) = unwrap_or (told_by i) (tells_script items)
