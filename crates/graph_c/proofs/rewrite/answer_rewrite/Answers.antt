use Rattle.graph_c.specs.Rewrite.{told}
use Rattle.graph_c.proofs.rewrite.answer_rewrite.Goals as goal

-- what was told of what the records make
pub returns : goal.returns
returns c = told c.in-Ok.rewriting c.in-Ok.ensures c.tell_rewriting.ensures
