use Rattle.std.proofs.Common.{ℕ, List, [], ◌∷◌, ◌++◌, ◌∙◌, ap, sym, take, append-nil, Option}
use Rattle.std.specs.List.{filter_map, cons_option}
use Rattle.graph_order.specs.Names.{named, sees}
use Rattle.graph_order.proofs.PlaceLemmas.{filter_next}
use Rattle.graph_order.proofs.names.module_links.Goals.{in-Some+in_ok-push, in_default}
use Rattle.graph_order.proofs.names.module_links.Goals as goal

pub loop-edge-preserved : goal.loop-edge-preserved
loop-edge-preserved c =
    let more = filter_next (sees (named c.args.graph.now.entries) c.args.graph.now.entries) c.edges-all.result.now
    c.loop-edge.edge-index c.edge-item.result c.loop-edge-test.true c.edge-item.is in
    let front = filter_map (sees (named c.args.graph.now.entries) c.args.graph.now.entries)
    (take c.loop-edge.edge-index c.edges-all.result.now) in
    elim c.match-node_of.branch [
      | in-Some+in_ok-push w ↦
          w.links-is ∙ w.in_ok-push.ensures.ok ∙ ap (λ (ls : List ℕ). ls ++ w.in-Some.node ∷ []) c.loop-edge.invariant
          ∙ ap (λ (o : Option ℕ). front ++ cons_option o []) (sym w.in-Some.is ∙ c.node_of.ensures) ∙ sym more
      | in_default w ↦
          w.links-is ∙ c.loop-edge.invariant ∙ sym (append-nil front)
          ∙ ap (λ (o : Option ℕ). front ++ cons_option o []) (sym w.in_default.is ∙ c.node_of.ensures) ∙ sym more
    ]
