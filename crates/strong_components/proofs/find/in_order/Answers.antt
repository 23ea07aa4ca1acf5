use Rattle.std.proofs.Common.{◌≡◌, ◌<◌, sym, subst, true, ℕ, List, [], length}
use Rattle.topological_order.specs.Order.{Links, AreWithin, IsFound, has}
use Rattle.topological_order.specs.declared.found.Found.{Found}
use Rattle.topological_order.specs.declared.found.Found.TheVariants.{Order, Cycle}
use Rattle.strong_components.specs.Condensed.{AreJoined}
use Rattle.strong_components.proofs.OrderingLemmas.{if_ok, found_same, roots_within, joined_within, no_cycle, each_node, components_found}
use Rattle.strong_components.proofs.find.in_order.Goals as goal

pub members_of-requires : goal.members_of-requires
members_of-requires c = roots_within c.args.links.now c.args.roots.now c.requires.within c.requires.roots

pub order-requires : goal.order-requires
order-requires c =
    subst (λ (xs : Links). AreWithin xs) (sym c.as_slice-3.ensures.value)
    (joined_within c.args.links.now c.in_ok-least.least c.in_ok-joined.joined.items c.requires.within
    c.in_ok-least.ensures
    (subst (λ (xs : List ℕ). AreJoined c.args.links.now xs c.in_ok-joined.joined.items (length c.args.links.now))
    c.as_slice-2.ensures c.in_ok-joined.ensures))

pub pick-requires-clause-nodes : goal.pick-requires-clause-nodes
pick-requires-clause-nodes c = λ v h.
    rw (c.as_slice-in-Order.ensures, c.in_ok-least.ensures.len)
    (subst (λ (n : ℕ). v < n) c.in_ok-joined.ensures.len
    (each_node c.in_ok-joined.joined.items [] c.in-Order.order
    (subst (λ (xs : Links). IsFound xs (Order c.in-Order.order)) c.as_slice-3.ensures.value
    (subst (λ (f : Found). IsFound c.as_slice-3.result.now f) c.in-Order.is c.in_ok-order.ensures)).0.order.each v
    (subst (λ (xs : List ℕ). has xs v ≡ true) c.as_slice-in-Order-3.ensures h)))

pub unreachable-requires : goal.unreachable-requires
unreachable-requires c =
    no_cycle c.args.links.now c.in_ok-joined.joined.items c.in_ok-least.least c.requires.within c.in_ok-least.ensures
    (subst (λ (xs : List ℕ). AreJoined c.args.links.now xs c.in_ok-joined.joined.items (length c.args.links.now))
    c.as_slice-2.ensures c.in_ok-joined.ensures)
    c.in-Cycle.field-0
    (subst (λ (xs : Links). IsFound xs (Cycle c.in-Cycle.field-0)) c.as_slice-3.ensures.value
    (subst (λ (f : Found). IsFound c.as_slice-3.result.now f) c.in-Cycle.is c.in_ok-order.ensures)).0.is

pub returns : goal.returns
returns c =
    if_ok c.pick.result _ _
    (λ found is.
    found_same c.args.links.now c.args.roots.now _ _ _ _ _ _ found c.as_slice-in-Order.ensures
    c.as_slice-in-Order-2.ensures.value c.as_slice-in-Order-3.ensures is
    (components_found c.args.links.now c.args.roots.now c.in_ok-members.members.items c.in_ok-least.least
    c.in_ok-joined.joined.items c.requires.within c.requires.roots c.in_ok-members.ensures c.in_ok-least.ensures
    (subst (λ (xs : List ℕ). AreJoined c.args.links.now xs c.in_ok-joined.joined.items (length c.args.links.now))
    c.as_slice-2.ensures c.in_ok-joined.ensures)
    c.in-Order.order
    (subst (λ (xs : Links). IsFound xs (Order c.in-Order.order)) c.as_slice-3.ensures.value
    (subst (λ (f : Found). IsFound c.as_slice-3.result.now f) c.in-Order.is c.in_ok-order.ensures)).0))
    c.pick.ensures
