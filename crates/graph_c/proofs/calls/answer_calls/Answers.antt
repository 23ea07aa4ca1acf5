use Rattle.graph_c.specs.Calls.{told}
use Rattle.graph_c.proofs.calls.answer_calls.Goals as goal

-- what was told of the source's finding
pub returns-in-Ok-tell_calls : goal.returns-in-Ok-tell_calls
returns-in-Ok-tell_calls c = told c.in-Ok.finding c.in-Ok.ensures c.in-Ok-tell_calls.ensures.told
