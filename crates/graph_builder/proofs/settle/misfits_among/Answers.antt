use Rattle.graph_builder.proofs.LinksLemmas.{end_here}
use Rattle.graph_builder.proofs.SettlingLemmas.{value_there}
use Rattle.graph_builder.proofs.settle.misfits_among.Goals as goal

pub misfit-requires-clause-here : goal.misfit-requires-clause-here
misfit-requires-clause-here c =
    end_here c.args.firsts.now c.args.edges.now c.args.number c.loop-place.place c.index-edges-place.result
    c.requires.here
    (value_there c.args.edges.now c.loop-place.place c.index-edges-place.result c.index-edges-place.result
    c.loop-place-test.true c.index-edges-place.is)
