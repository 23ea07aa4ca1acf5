use Rattle.graph_c.specs.Declarations.{told}
use Rattle.graph_c.proofs.declarations.answer_declarations.Goals as goal

-- what was told of the source's finding
pub returns-in-Ok-tell_declarations : goal.returns-in-Ok-tell_declarations
returns-in-Ok-tell_declarations c = told c.in-Ok.finding c.in-Ok.ensures c.in-Ok-tell_declarations.ensures.told
