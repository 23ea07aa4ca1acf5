use Rattle.std.proofs.Common.{◌<◌, ◌∙◌, sym, subst, ℕ, List, length}
use Rattle.std.specs.List.{AllByRecursion}
use Rattle.topological_order.proofs.OrderLemmas.{links_at}
use Rattle.strong_components.proofs.reverse.reversed.Goals as goal

pub add_links-requires : goal.add_links-requires
add_links-requires c =
    subst (λ (n : ℕ). AllByRecursion (λ t. t < n) c.as_slice.result.now) (sym c.loop-node.invariant.len)
    (subst (λ (ts : List ℕ). AllByRecursion (λ t. t < length c.args.links.now) ts)
    (sym (c.as_slice.ensures ∙ c.index-links-node.is
    ∙ links_at c.args.links.now c.loop-node.node c.index-links-node.result c.loop-node-test.true))
    (c.requires c.loop-node.node))
