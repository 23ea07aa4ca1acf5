use Rattle.source_sites.specs.Modes.{modes_in}
use Rattle.deno_ast.proofs.ParsedLemmas.{parsed_here}
use Rattle.deno_ast.proofs.parsing.parse_in.Goals as goal

-- the source of what was read
pub returns-clause-parsed : goal.returns-clause-parsed
returns-clause-parsed c =
    parsed_here (modes_in c.args.modes) c.args.params c.in_ok-reading.reading c.in_ok-source_of.field-0
    c.in_ok-reading.ensures.read c.in_ok-source_of.ensures.kept c.in_ok-source_of.ensures.placed
    c.in_ok-source_of.ensures.scoped
