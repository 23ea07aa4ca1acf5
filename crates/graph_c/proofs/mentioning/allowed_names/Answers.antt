use Rattle.graph_c.specs.Mentions.{of_none}
use Rattle.graph_c.proofs.mentioning.allowed_names.Goals as goal

-- they are no UTF-8
pub returns-in-Err : goal.returns-in-Err
returns-in-Err c = of_none c.in-Err.ensures.cases.0 c.new.ensures
