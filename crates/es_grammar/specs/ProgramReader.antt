-- What the reader of the table of programs answers for keys: for worked rows.
use Rattle.std.specs.Prelude.{List}
use Rattle.grammar_theory.specs.declared.error.Lang.{Lang}
use Rattle.grammar_theory.specs.declared.error.Mode.{Mode}
use Rattle.grammar_theory.specs.Key.{Key}
use Rattle.grammar_theory.specs.Plain.{Plain, plain}
use Rattle.grammar_theory.specs.Fits.{most_nodes}
use Rattle.grammar_theory.specs.Reader.{Out, read_row}
use Rattle.es_grammar.specs.declared.rows.NodeKind.{NodeKind}
use Rattle.es_grammar.specs.Table.{rule}
use Rattle.es_grammar.specs.Conditions.{program_row}

-- what is read as a program, from the first key on
unfoldable pub read_program : Lang → Mode → List Key → Out (Plain NodeKind)
read_program l m K = read_row plain K (rule l) most_nodes (program_row m) 0
