use Rattle.std.proofs.Common.{subst, List}
use Rattle.std.specs.Prelude.{IfOk}
use Rattle.std.specs.Result.{IfErr}
use Rattle.grammar_theory.specs.declared.error.Mode.{Mode}
use Rattle.source_text.specs.module_text.ModuleText.{without_mark}
use Rattle.source_reading.specs.Fault.{Refuses}
use Rattle.deno_ast.specs.Source.{IsParsed, IsFault}
use Rattle.source_sites.specs.Modes.{modes_in}
use Rattle.deno_ast.proofs.FaultLemmas.{other_text_if}
use Rattle.deno_ast.proofs.ParsedLemmas.{other_source_if}
use Rattle.deno_ast.proofs.parsing.parse_program.Goals as goal

-- the fault of the text without its mark, in the modes of the media type
pub returns-clause-refused : goal.returns-clause-refused
returns-clause-refused c =
    subst (λ (ms : List Mode). IfErr c.parse_in.result
    (Refuses (IsFault ms c.args.params (without_mark c.args.params.text)))) c.modes_of-modes.ensures
    (other_text_if (modes_in c.modes_of-modes.result) c.args.params c.without_bom.result
    (without_mark c.args.params.text) c.parse_in.result c.without_bom.ensures c.parse_in.ensures.refused)

-- the source of the text without its mark, in the modes of the media type
pub returns-clause-parsed : goal.returns-clause-parsed
returns-clause-parsed c =
    subst (λ (ms : List Mode). IfOk c.parse_in.result (IsParsed ms c.args.params (without_mark c.args.params.text)))
    c.modes_of-modes.ensures
    (other_source_if (modes_in c.modes_of-modes.result) c.args.params (without_mark c.args.params.text)
    c.without_bom.result c.parse_in.result c.without_bom.ensures c.parse_in.ensures.parsed)
