use Rattle.dts_patterns.proofs.NameLemmas.{name_alone}
use Rattle.dts_patterns.proofs.names.name_pattern.Goals as goal

pub returns-clause-written : goal.returns-clause-written
returns-clause-written c = λ e x ts.
    name_alone x ts _ _ _ _ (c.gone.ensures.written (c.leaf_node.ensures.before e) x ts)
    (c.leaf_node.ensures.written e x ts)
