use Rattle.std.proofs.Common.{◌≡◌, sym, subst, ℕ, List, true, false}
use Rattle.topological_order.specs.Order.{has}
use Rattle.topological_order.proofs.OrderLemmas.{has_last}
use Rattle.strong_components.specs.Gather.{IsSpread}
use Rattle.strong_components.proofs.FinishLemmas.{match_none}
use Rattle.strong_components.proofs.GatherLemmas.{spread_first, spread_taken, back_reach, spread_done}
use Rattle.strong_components.proofs.gather.Gathering.gather.Goals as goal

pub loop-at-init : goal.loop-at-init
loop-at-init c =
    spread_first c.args.links.now c.args.node c.args.self.now.met c.args.self.now.roots c.args.self.now.pending
    c.assign.new.self.met c.assign.new.self.roots c.assign.new.self.pending c.requires.closed c.requires.node
    c.requires.empty c.in_ok-assign.ensures.stays c.in_ok-assign.ensures.given

pub targets_of-requires : goal.targets_of-requires
targets_of-requires c =
    rw c.requires.len
    (c.loop-at.invariant.0.waiting c.in-Some.at
    (subst (λ (xs : List ℕ). has xs c.in-Some.at ≡ true) (sym c.in-Some.ensures)
    (has_last c.pop.new.self c.in-Some.at))).0

pub loop-at-preserved : goal.loop-at-preserved
loop-at-preserved c =
    let s = subst (λ (xs : List ℕ). IsSpread c.args.links.now c.args.node c.args.self.now.met c.args.self.now.roots
    c.loop-at.self.met c.loop-at.self.roots xs (λ _. false)) c.in-Some.ensures c.loop-at.invariant.0 in (
      c.in_ok-assign_all.ensures.spread c.args.links.now c.args.self.now.met c.args.self.now.roots
          (subst (λ (ts : List ℕ). IsSpread c.args.links.now c.args.node c.args.self.now.met c.args.self.now.roots
          c.loop-at.self.met c.loop-at.self.roots c.pop.new.self (has ts)) (sym c.targets_of.ensures)
          (spread_taken c.args.links.now c.args.back.now c.args.node c.args.self.now.met c.args.self.now.roots
          c.loop-at.self.met c.loop-at.self.roots c.pop.new.self c.in-Some.at c.requires.back s))
          (λ v h. back_reach c.args.links.now c.args.back.now c.args.node c.args.self.now.met c.args.self.now.roots
          c.loop-at.self.met c.loop-at.self.roots c.pop.new.self c.in-Some.at (λ _. false) c.requires.back s v
          (subst (λ (ts : List ℕ). has ts v ≡ true) c.targets_of.ensures h)),
      c.in_ok-assign_all.ensures.kept c.args.node c.loop-at.invariant.1,
    )

pub returns-clause-gathered : goal.returns-clause-gathered
returns-clause-gathered c =
    spread_done c.args.links.now c.args.node c.args.self.now.met c.args.self.now.roots c.loop-at.self.met
    c.loop-at.self.roots c.loop-at.self.pending c.loop-at.invariant.0
    (match_none c.pop.result _ _ c.in_default.is c.pop.ensures).0 c.loop-at.invariant.1
