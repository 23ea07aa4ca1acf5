use Rattle.graph_builder.proofs.LinksLemmas.{ends_here}
use Rattle.graph_builder.proofs.SettlingLemmas.{value_there}
use Rattle.graph_builder.proofs.settle.verdicts_on.Goals as goal

pub judge-requires-clause-here : goal.judge-requires-clause-here
judge-requires-clause-here c =
    ends_here c.args.firsts.now c.args.values.now c.loop-number.number c.index-values-number.result c.requires.values
    (value_there c.args.values.now c.loop-number.number c.index-values-number.result c.index-values-number.result
    c.loop-number-test.true c.index-values-number.is)
