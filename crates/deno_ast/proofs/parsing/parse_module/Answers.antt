use Rattle.std.proofs.Common.{[], ◌∷◌}
use Rattle.grammar_theory.specs.declared.error.Mode.TheVariants as mode
use Rattle.source_text.specs.module_text.ModuleText.{without_mark}
use Rattle.deno_ast.proofs.FaultLemmas.{other_text_if}
use Rattle.deno_ast.proofs.ParsedLemmas.{other_source_if}
use Rattle.deno_ast.proofs.parsing.parse_module.Goals as goal

-- the fault of the text without its mark
pub returns-clause-refused : goal.returns-clause-refused
returns-clause-refused c =
    other_text_if (mode.Module ∷ []) c.args.params c.without_bom.result (without_mark c.args.params.text)
    c.parse_in.result c.without_bom.ensures c.parse_in.ensures.refused

-- the source of the text without its mark
pub returns-clause-parsed : goal.returns-clause-parsed
returns-clause-parsed c =
    other_source_if (mode.Module ∷ []) c.args.params (without_mark c.args.params.text) c.without_bom.result
    c.parse_in.result c.without_bom.ensures c.parse_in.ensures.parsed
