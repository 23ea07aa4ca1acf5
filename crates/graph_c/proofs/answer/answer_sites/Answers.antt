use Rattle.graph_c.specs.Answer.{told}
use Rattle.graph_c.proofs.answer.answer_sites.Goals as goal

-- what was told of the source's finding
pub returns-in-Ok-tell : goal.returns-in-Ok-tell
returns-in-Ok-tell c = told c.in-Ok.finding c.in-Ok.ensures c.in-Ok-tell.ensures.told
