-- Programs that are lent.
use Rattle.std.specs.Prelude.{ℕ, Bool, true, List, map, Option}
use Rattle.base.specs.declared.range.Range.{Range}
use Rattle.es_ast.specs.declared.ast.Program.{Program}
use Rattle.es_ast.specs.declared.ast.Program.TheVariants as program
use Rattle.es_ast.specs.declared.ast.ModuleItem.{ModuleItem}
use Rattle.es_ast.specs.declared.ast.ModuleItem.TheVariants as vItem
use Rattle.es_program.specs.Owned.{Owned, of_module, of_script}
use Rattle.es_program.specs.items.Told.{tells_script}
use Rattle.deno_ast.specs.declared.program_ref.ProgramRef.{ProgramRef}
use Rattle.deno_ast.specs.declared.program_ref.ProgramRef.TheVariants.{Module, Script}

-- the program itself
abbrev pub tree_of : ProgramRef → Owned Program
tree_of (Module m) = of_module m.now
tree_of (Script s) = of_script s.now

abbrev pub IsModule : Program → Type 0
IsModule (program.Module m) = Unit {0}
IsModule (program.Script s) = ⊥

abbrev pub IsScript : Program → Type 0
IsScript (program.Module m) = ⊥
IsScript (program.Script s) = Unit {0}

abbrev pub shebang_of : Program → Option (List ℕ)
shebang_of (program.Module m) = m.shebang
shebang_of (program.Script s) = s.shebang

abbrev pub span_of : Program → Range
span_of (program.Module m) = m.span
span_of (program.Script s) = s.span

-- whether a program is one of CommonJS: a script is one, and of a module its items tell
abbrev pub is_script_by_items : Program → Bool
is_script_by_items (program.Module m) = tells_script m.body
is_script_by_items (program.Script s) = true

-- the items of a program, in their order
abbrev pub items_of : Program → List ModuleItem
items_of (program.Module m) = m.body
items_of (program.Script s) = map vItem.Stmt s.body
