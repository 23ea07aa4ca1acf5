use Rattle.std.proofs.Common.{subst, List}
use Rattle.std.proofs.lemmas.Result.{err_from_is_err_and}
use Rattle.grammar_theory.specs.declared.error.Mode.{Mode}
use Rattle.source_text.specs.module_text.ModuleText.{without_mark}
use Rattle.source_reading.specs.Fault.{Refuses}
use Rattle.deno_ast.specs.Source.{IsFault}
use Rattle.source_sites.specs.Modes.{modes_in}
use Rattle.deno_ast.proofs.FaultLemmas.{other_text}
use Rattle.deno_ast.proofs.ParsedLemmas.{parsed_in}
use Rattle.deno_ast.proofs.parsing.parse_program_with_post_process.Goals as goal

-- the fault of the text without its mark, in the modes of the media type
pub returns-in_err-program-clause-refused : goal.returns-in_err-program-clause-refused
returns-in_err-program-clause-refused g c =
    let p = err_from_is_err_and c.from_residual.result c.from_residual.ensures.1 in
    rw (p.1, p.2)
    (subst (λ (ms : List Mode). Refuses (IsFault ms c.args.params (without_mark c.args.params.text))
    c.in_err-program.field-0.0) c.modes_of-modes.ensures
    (other_text (modes_in c.modes_of-modes.result) c.args.params c.without_bom-params.result
    (without_mark c.args.params.text) c.in_err-program.field-0.0 c.without_bom-params.ensures
    c.in_err-program.ensures.refused))

-- the source of what was read, with what was made of it
pub returns-clause-parsed : goal.returns-clause-parsed
returns-clause-parsed g c =
    parsed_in _ _ (modes_in c.modes_of-modes.result) c.args.params c.without_bom-params.result
    (without_mark c.args.params.text) c.in_ok-program.field-0 c.post_process.result c.in_ok-source_of.field-0
    c.modes_of-modes.ensures c.without_bom-params.ensures c.in_ok-program.ensures.read c.post_process.ensures
    c.in_ok-source_of.ensures.kept c.in_ok-source_of.ensures.placed
    c.in_ok-source_of.ensures.scoped
