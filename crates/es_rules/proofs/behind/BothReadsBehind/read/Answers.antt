use Rattle.es_rules.proofs.behind.BothReadsBehind.read.Goals as goal

pub returns : goal.returns
returns g c =
    λ a base place operand. c.read.ensures (g.A.ReadsBehind.over c.args.self.now.0 a) base place
    (c.read-inner.ensures a base place operand)
