use Rattle.std.proofs.Common.{[], ◌∷◌}
use Rattle.std.proofs.lemmas.Result.{err_from_is_err_and}
use Rattle.grammar_theory.specs.declared.error.Mode.TheVariants as mode
use Rattle.source_text.specs.module_text.ModuleText.{without_mark}
use Rattle.deno_ast.proofs.FaultLemmas.{other_text}
use Rattle.deno_ast.proofs.ParsedLemmas.{parsed_with}
use Rattle.deno_ast.proofs.parsing.parse_module_with_post_process.Goals as goal

-- the fault of the text without its mark
pub returns-in_err-program-clause-refused : goal.returns-in_err-program-clause-refused
returns-in_err-program-clause-refused g c =
    let p = err_from_is_err_and c.from_residual.result c.from_residual.ensures.1 in
    rw (p.1, p.2) (other_text (mode.Module ∷ []) c.args.params c.without_bom-params.result
    (without_mark c.args.params.text)
    c.in_err-program.field-0.0 c.without_bom-params.ensures c.in_err-program.ensures.refused)

-- the source of what was read, with what was made of it
pub returns-clause-parsed : goal.returns-clause-parsed
returns-clause-parsed g c =
    parsed_with _ (mode.Module ∷ []) c.args.params (without_mark c.args.params.text) c.in_ok-program.field-0
    c.change_module.result c.without_bom-params.result c.in_ok-source_of.field-0 c.without_bom-params.ensures
    c.in_ok-program.ensures.read c.change_module.ensures c.in_ok-source_of.ensures.kept c.in_ok-source_of.ensures.placed
    c.in_ok-source_of.ensures.scoped
