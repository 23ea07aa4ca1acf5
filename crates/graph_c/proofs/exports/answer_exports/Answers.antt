use Rattle.graph_c.specs.Exports.{told}
use Rattle.graph_c.proofs.exports.answer_exports.Goals as goal

-- what was told of the source's finding
pub returns-in-Ok-tell_exports : goal.returns-in-Ok-tell_exports
returns-in-Ok-tell_exports c = told c.in-Ok.finding c.in-Ok.ensures c.in-Ok-tell_exports.ensures.told
