use Rattle.std.proofs.Common.{◌≡◌, true, List, ℕ, subst, sym}
use Rattle.topological_order.specs.Order.{has}
use Rattle.topological_order.proofs.OrderLemmas.{has_last}
use Rattle.strong_components.specs.Gather.{IsGathering}
use Rattle.strong_components.proofs.FinishLemmas.{match_none}
use Rattle.strong_components.proofs.GatherLemmas.{gathering_begun, gathering_more, gathering_done}
use Rattle.strong_components.proofs.gather.roots_of.Goals as goal

pub loop-node-init : goal.loop-node-init
loop-node-init c = (
  rw (c.in_ok-gathering.ensures.met, c.in_ok-gathering.ensures.roots)
      (gathering_begun c.args.links.now c.args.finished c.requires.finish),
  c.in_ok-gathering.ensures.empty,
)

pub gather-requires-clause-node : goal.gather-requires-clause-node
gather-requires-clause-node c =
    c.loop-node.invariant.0.nodes c.in-Some.node
    (subst (λ (xs : List ℕ). has xs c.in-Some.node ≡ true) (sym c.in-Some.ensures)
    (has_last c.pop.new.self c.in-Some.node))

pub loop-node-preserved : goal.loop-node-preserved
loop-node-preserved c = (
  gathering_more c.args.links.now c.pop.new.self c.in-Some.node c.loop-node.gathering.met c.loop-node.gathering.roots
      c.gather.new.self.met c.gather.new.self.roots
      (subst (λ (xs : List ℕ). IsGathering c.args.links.now xs c.loop-node.gathering.met c.loop-node.gathering.roots)
      c.in-Some.ensures c.loop-node.invariant.0)
      c.in_ok-gather.ensures.gathered,
  c.in_ok-gather.ensures.empty,
)

pub returns : goal.returns
returns c =
    gathering_done c.args.links.now c.loop-node.finished c.loop-node.gathering.met c.loop-node.gathering.roots
    c.loop-node.invariant.0 (match_none c.pop.result _ _ c.in_default.is c.pop.ensures).0
