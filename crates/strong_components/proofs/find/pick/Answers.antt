use Rattle.std.proofs.Common.{◌≡◌, ◌<◌, ◌+◌, ◌∙◌, ◌++◌, ◌∷◌, [], sym, subst, rules, ℕ, List, length, drop}
use Rattle.std.specs.Prelude.{slice_index}
use Rattle.topological_order.proofs.OrderLemmas.{links_at}
use Rattle.strong_components.specs.Condensed.{picked}
use Rattle.strong_components.proofs.BasicLemmas.{has_at}
use Rattle.strong_components.proofs.OrderingLemmas.{picked_own, picked_other}
use Rattle.strong_components.proofs.find.pick.Goals as goal
use Rattle.strong_components.proofs.find.pick.Goals.{then-least-node+in_ok-copy+in_ok-push, else-least-node}

pub offset_bounds-least-node : goal.offset_bounds-least-node
offset_bounds-least-node c =
    let l = c.requires.nodes (slice_index c.args.order.now c.loop-node.node-index)
    (has_at c.args.order.now c.loop-node.node-index c.loop-node-test.true) in
    search rules

pub bounds-least-node : goal.bounds-least-node
bounds-least-node c =
    c.requires.nodes (slice_index c.args.order.now c.loop-node.node-index)
    (has_at c.args.order.now c.loop-node.node-index c.loop-node-test.true)

pub bounds-roots-node : goal.bounds-roots-node
bounds-roots-node c =
    rw (← c.requires.least)
    (c.requires.nodes (slice_index c.args.order.now c.loop-node.node-index)
    (has_at c.args.order.now c.loop-node.node-index c.loop-node-test.true))

pub bounds-members-roots : goal.bounds-members-roots
bounds-members-roots c =
    rw c.requires.members
    (c.requires.roots (slice_index c.args.order.now c.loop-node.node-index)
    (rw (← c.requires.least)
    (c.requires.nodes (slice_index c.args.order.now c.loop-node.node-index)
    (has_at c.args.order.now c.loop-node.node-index c.loop-node-test.true))))

pub loop-node-preserved : goal.loop-node-preserved
loop-node-preserved c =
    elim c.if-least-node.branch [
      | then-least-node+in_ok-copy+in_ok-push w ↦
          rw (w.found-is, w.in_ok-push.ensures.ok, w.in_ok-copy.ensures)
          (subst (λ (row : List ℕ).
          (c.loop-node.found ++ row ∷ [])
          ++ picked c.args.roots.now c.args.least.now c.args.members.now
          (drop (c.loop-node.node-index + 1) c.args.order.now)
          ≡ picked c.args.roots.now c.args.least.now c.args.members.now c.args.order.now)
          (sym (w.index-members-roots.is
          ∙ links_at c.args.members.now
          (slice_index c.args.roots.now (slice_index c.args.order.now c.loop-node.node-index))
          w.index-members-roots.result bound))
          (picked_own c.args.roots.now c.args.least.now c.args.members.now c.args.order.now c.loop-node.node-index
          c.loop-node.found c.loop-node-test.true w.if-least-node.true c.loop-node.invariant))
      | else-least-node w ↦
          rw w.found-is
          (picked_other c.args.roots.now c.args.least.now c.args.members.now c.args.order.now c.loop-node.node-index
          c.loop-node.found c.loop-node-test.true w.if-least-node.false c.loop-node.invariant)
    ]
  where
    bound : slice_index c.args.roots.now (slice_index c.args.order.now c.loop-node.node-index)
        < length c.args.members.now
    bound =
        rw c.requires.members
        (c.requires.roots (slice_index c.args.order.now c.loop-node.node-index)
        (rw (← c.requires.least)
        (c.requires.nodes (slice_index c.args.order.now c.loop-node.node-index)
        (has_at c.args.order.now c.loop-node.node-index c.loop-node-test.true))))
