use Rattle.dts_patterns.proofs.NameLemmas.{name_node}
use Rattle.dts_patterns.proofs.names.name_over.Goals as goal

pub returns-clause-written : goal.returns-clause-written
returns-clause-written c = λ e env x ts. name_node env x ts _ _ _ _ _ (c.token_node.ensures.written e x ts)
