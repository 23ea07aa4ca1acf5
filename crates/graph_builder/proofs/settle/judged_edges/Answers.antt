use Rattle.std.proofs.Common.{◌≡◌, ◌∙◌, ◌++◌, ◌∷◌, [], List, refl, sym, ap, append_assoc}
use Rattle.graph_builder.proofs.SettlingLemmas.{place_now, edges_push}
use Rattle.graph_builder.proofs.settle.judged_edges.Goals as goal

-- there is an answer for each edge
pub bounds-refused-len : goal.bounds-refused-len
bounds-refused-len c =
    place_now c.args.edges c.loop-edge.yielded _ c.in-Some.edge c.len.result _
    (c.loop-edge.invariant.whole ∙ ap (λ l. c.loop-edge.yielded ++ l) c.in-Some.ensures.steps.0)
    (c.len.ensures ∙ c.loop-edge.invariant.counted) c.requires

pub loop-edge-preserved : goal.loop-edge-preserved
loop-edge-preserved c =
    let whole = c.loop-edge.invariant.whole ∙ ap (λ l. c.loop-edge.yielded ++ l) c.in-Some.ensures.steps.0 in
    let more = edges_push c.args.refused.now c.args.edges c.loop-edge.yielded _ c.loop-edge.made c.push.new.self
    c.in-Some.edge c.settled_edge.result _ _
    c.len.result c.loop-edge.invariant.made c.loop-edge.invariant.counted whole c.requires c.len.ensures refl
    c.settled_edge.ensures c.in_ok-push.ensures.ok in record {
      made = more.0;
      counted = more.1;
      whole = whole ∙ sym (append_assoc c.loop-edge.yielded (c.in-Some.edge ∷ []) _);
    }
