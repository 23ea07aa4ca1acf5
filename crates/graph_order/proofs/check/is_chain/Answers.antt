-- Each edge is a static one that begins where the one before it ends.
use Rattle.std.proofs.Common.{◌≡◌, sym, subst, take, drop, map, ◌+◌, rules, true, List}
use Rattle.std.proofs.lemmas.List.{take_all}
use Rattle.graph_entry.specs.Specifier.{text_of}
use Rattle.graph_order.specs.Edges.{Edge}
use Rattle.graph_order.specs.Order.{IsChain, edge_of}
use Rattle.graph_order.specs.declared.found.CycleEdge.{CycleEdge}
use Rattle.graph_order.proofs.CheckLemmas.{chain_push, chain_round, chain_at, edges_next, edges_split}
use Rattle.graph_order.proofs.check.is_chain.Goals as goal

pub returns-then-not-goes_on : goal.returns-then-not-goes_on
returns-then-not-goes_on c = (
  λ e. absurd cc,
  λ whole. absurd
      (let goes = chain_at c.args.graph.now.entries (text_of c.args.first.now) (text_of c.args.first.now)
      (text_of c.loop-edge.at.now) (map edge_of (take c.loop-edge.edge-index c.args.edges.now))
      (edge_of c.edge-item.result) (map edge_of (drop (c.loop-edge.edge-index + 1) c.args.edges.now))
      (subst (λ (es : List Edge). IsChain c.args.graph.now.entries (text_of c.args.first.now) es
      (text_of c.args.first.now)) (edges_split c.args.edges.now c.loop-edge.edge-index c.edge-item.result
      c.loop-edge-test.true c.edge-item.is) whole) c.loop-edge.invariant in
      let yes : c.goes_on.result ≡ true = c.goes_on.ensures.1 goes in search rules),
)

pub loop-edge-preserved : goal.loop-edge-preserved
loop-edge-preserved c =
    let yes : c.goes_on.result ≡ true = search rules in
    let goes = c.goes_on.ensures.0 yes in
    subst (λ (es : List Edge). IsChain c.args.graph.now.entries (text_of c.args.first.now) es
    (text_of c.edge-item.result.target)) (sym (edges_next c.args.edges.now c.loop-edge.edge-index c.edge-item.result
    c.loop-edge-test.true c.edge-item.is))
    (chain_push c.args.graph.now.entries (text_of c.args.first.now) (text_of c.loop-edge.at.now)
    (map edge_of (take c.loop-edge.edge-index c.args.edges.now)) (edge_of c.edge-item.result) c.loop-edge.invariant
    goes.0 goes.1)

pub returns : goal.returns
returns c =
    chain_round c.args.graph.now.entries (text_of c.args.first.now) (text_of c.loop-edge.at.now)
    (map edge_of c.args.edges.now) c.is_same.result
    (subst (λ (es : List CycleEdge). IsChain c.args.graph.now.entries (text_of c.args.first.now) (map edge_of es)
    (text_of c.loop-edge.at.now)) (take_all c.loop-edge.edge-index c.args.edges.now c.loop-edge-test.false)
    c.loop-edge.invariant) c.is_same.ensures
