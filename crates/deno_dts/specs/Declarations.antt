-- What declarations are: the program that is first in their row.
use Rattle.std.specs.Prelude.{Option}
use Rattle.es_ast.specs.declared.ast.Program.{Program}
use Rattle.es_lowering.specs.Value.{part}
use Rattle.es_syntax.specs.Roles.{program_in}
use Rattle.es_changed.specs.Changed.{held_in}
use Rattle.deno_dts.specs.Kept.{Kept}

abbrev pub declarations_in : Kept → Option Program
declarations_in it = program_in (part (held_in it.text it.tokens it.entries) 0)
