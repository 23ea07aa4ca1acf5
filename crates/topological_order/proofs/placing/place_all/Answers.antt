use Rattle.std.proofs.Common.{◌≡◌, ◌≤◌, ◌∙◌, sym, subst, ℕ, List, true, false}
use Rattle.topological_order.specs.Order.{has}
use Rattle.topological_order.specs.Placing.{IsPlacing}
use Rattle.topological_order.proofs.PlacingLemmas.{fewer, match_none}
use Rattle.topological_order.proofs.placing.place_all.Goals as goal

pub place-requires-clause-least : goal.place-requires-clause-least
place-requires-clause-least c =
    subst (λ (xs : List ℕ). (u : ℕ) → has xs u ≡ true → c.in-Some.node ≤ u) c.in-Some.ensures.taken
    c.in-Some.ensures.least

pub loop-node-smaller : goal.loop-node-smaller
loop-node-smaller c =
    fewer c.args.links.now c.loop-node.placing.order c.loop-node.placing.placed _ c.loop-node.placing.cursor
    c.take.new.self c.in-Some.node
    (subst (λ (xs : List ℕ). IsPlacing c.args.links.now (λ _. false) c.loop-node.placing.order
    c.loop-node.placing.placed c.loop-node.placing.cursor xs) c.in-Some.ensures.taken c.loop-node.invariant)
    c.in_ok-place.ensures.placed

pub returns-clause-placing : goal.returns-clause-placing
returns-clause-placing c =
    let none = match_none c.take.result _ _ c.in_default.is c.take.ensures.taken in
    subst (λ (xs : List ℕ). IsPlacing c.args.links.now (λ _. false) c.loop-node.placing.order
    c.loop-node.placing.placed c.loop-node.placing.cursor xs) (none.0 ∙ sym none.1) c.loop-node.invariant

pub returns-clause-done : goal.returns-clause-done
returns-clause-done c = (match_none c.take.result _ _ c.in_default.is c.take.ensures.taken).1
