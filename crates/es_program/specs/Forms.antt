-- The program that a module or a script is.
use Rattle.es_ast.specs.declared.ast.Program.{Program}
use Rattle.es_program.specs.declared.form.Form.{Form}
use Rattle.es_program.specs.declared.form.Form.TheVariants.{Module, Script}
use Rattle.es_program.specs.Owned.{Owned, of_module, of_script}

abbrev pub program_of : Form → Owned Program
program_of (Module m) = of_module m
program_of (Script s) = of_script s
