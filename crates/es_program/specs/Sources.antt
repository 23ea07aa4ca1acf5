-- What stands behind an owner of a program.
use Rattle.std.specs.Prelude.{Option}
use Rattle.es_ast.specs.declared.ast.Program.{Program}
use Rattle.es_ast.specs.declared.ast.Module.{Module}
use Rattle.es_ast.specs.declared.ast.Script.{Script}
use Rattle.es_program.specs.declared.source.ProgramSource.{ProgramSource}
use Rattle.es_program.specs.Owned.{Owned}
use Rattle.es_program.specs.Typed.{program_at, Holds, the_module, the_script}

abbrev pub typed_of : ProgramSource → Option Program
typed_of s = program_at s.text s.tokens s.row.items

abbrev pub Keeps : ProgramSource → Program → Type 0
Keeps s p = Holds s.text s.tokens s.row.items s.sites p

-- it as a module, and as a script
abbrev pub module_by : ProgramSource → Owned Module
module_by s = record { text = s.text; tokens = s.tokens; entries = s.row.items; typed = the_module (typed_of s) }

abbrev pub script_by : ProgramSource → Owned Script
script_by s = record { text = s.text; tokens = s.tokens; entries = s.row.items; typed = the_script (typed_of s) }
