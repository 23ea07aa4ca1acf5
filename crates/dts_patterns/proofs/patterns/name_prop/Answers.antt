use Rattle.dts_patterns.proofs.Props.{name_written}
use Rattle.dts_patterns.proofs.patterns.name_prop.Goals as goal

pub returns-clause-written : goal.returns-clause-written
returns-clause-written c = λ e env x ts r value.
    name_written env x ts _ r value (c.leaf_node.ensures.written (c.gone.ensures.before e) x ts)
    (c.gone.ensures.written e x ts)
