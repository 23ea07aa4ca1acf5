-- The names of parts of exports.
use Rattle.std.specs.Prelude.{List, ◌∷◌, []}
use Rattle.es_ast.specs.declared.ts.leaf.Str.{Str}
use Rattle.es_ast.specs.declared.ast.ModuleDecl.{ModuleDecl, out-ModuleDecl}
use Rattle.es_bound_names.specs.Names.{Names}
use Rattle.es_exports.specs.Exports.{names_by, again_by}

-- the value of a string
abbrev pub str_names : Str → Names
str_names str = str.value ∷ []

abbrev pub decl_exports : ModuleDecl → Names
decl_exports decl = names_by (out-ModuleDecl decl)

abbrev pub decl_reexports : ModuleDecl → Names
decl_reexports decl = again_by (out-ModuleDecl decl)
