use Rattle.graph_builder.specs.Rules.{rules_by}
use Rattle.graph_builder.proofs.ResultLemmas.{done_from, settled_graph}
use Rattle.graph_builder.proofs.SettledLinksLemmas.{finals_linked}
use Rattle.graph_builder.proofs.finish.finish.Goals as goal

pub into_parts-firsts-requires : goal.into_parts-firsts-requires
into_parts-firsts-requires g c =
    rw c.replace-taken.ensures.value (done_from c.args.reached.now c.count-count.ensures.once c.requires)

pub new-requires-2-clause-linked : goal.new-requires-2-clause-linked
new-requires-2-clause-linked g c =
    finals_linked (rules_by (g.W.Ways.means c.args.ways.now) (g.W.Ways.follows c.args.ways.now))
    c.into_parts-firsts.result.0 c.in_ok-entries.entries c.into_parts-firsts.result.1 c.in_ok-entries.ensures
    c.into_parts-firsts.ensures.links

pub returns-clause-entries : goal.returns-clause-entries
returns-clause-entries g c =
    settled_graph (rules_by (g.W.Ways.means c.args.ways.now) (g.W.Ways.follows c.args.ways.now)) c.args.reached.now
    c.into_parts-firsts.result.0 c.in_ok-entries.entries c.in_ok-order.order c.new-2.result
    (rw (← c.replace-taken.ensures.value) c.into_parts-firsts.ensures.entries) c.in_ok-entries.ensures
    c.in_ok-order.ensures c.new-2.ensures.entries c.new-2.ensures.numbered
