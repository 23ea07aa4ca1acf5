use Rattle.std.proofs.Common.{◌<◌, ◌∙◌, sym, subst, refl, ℕ, List, length}
use Rattle.std.specs.List.{AllByRecursion}
use Rattle.topological_order.proofs.OrderLemmas.{links_at}
use Rattle.strong_components.proofs.OrderingLemmas.{joined_begun, joined_more}
use Rattle.strong_components.proofs.condense.condensed.Goals as goal

pub loop-node-init : goal.loop-node-init
loop-node-init c =
    joined_begun c.args.links.now c.args.least.now c.in_ok-joined.joined.items c.in_ok-joined.ensures.len
    c.in_ok-joined.ensures.none

pub add_targets-requires-clause-targets : goal.add_targets-requires-clause-targets
add_targets-requires-clause-targets c =
    subst (λ (n : ℕ). AllByRecursion (λ t. t < n) c.as_slice-targets.result.now) (sym c.requires.len)
    (subst (λ (ts : List ℕ). AllByRecursion (λ t. t < length c.args.links.now) ts)
    (sym (c.as_slice-targets.ensures ∙ c.index-links-node.is
    ∙ links_at c.args.links.now c.loop-node.node c.index-links-node.result c.loop-node-test.true))
    (c.requires.within c.loop-node.node))

pub loop-node-preserved : goal.loop-node-preserved
loop-node-preserved c =
    joined_more c.args.links.now c.args.least.now c.loop-node.node c.loop-node.joined.items
    c.add_targets.new.joined.items c.as_slice-targets.result.now _
    (c.as_slice-targets.ensures ∙ c.index-links-node.is
    ∙ links_at c.args.links.now c.loop-node.node c.index-links-node.result c.loop-node-test.true)
    refl c.loop-node.invariant c.in_ok-add_targets.ensures.len c.in_ok-add_targets.ensures.kept
    c.in_ok-add_targets.ensures.added c.in_ok-add_targets.ensures.sound
