-- What is found of the numbers is told of the modules.
use Rattle.std.proofs.Common.{refl}
use Rattle.graph_order.specs.Names.{named}
use Rattle.graph_order.proofs.FoundLemmas.{within_at, found_at}
use Rattle.graph_order.proofs.find.order.Goals as goal

pub order-requires : goal.order-requires
order-requires c =
    within_at c.args.graph.now.entries c.in_ok-names.ensures.ascending (named c.args.graph.now.entries) refl
    c.in_ok-links.links c.as_slice-targets.result.now c.in_ok-links.ensures c.as_slice-targets.ensures

pub told-requires-clause-found : goal.told-requires-clause-found
told-requires-clause-found c =
    found_at c.args.graph.now.entries c.in_ok-names.ensures.ascending (named c.args.graph.now.entries) refl
    c.in_ok-links.links c.as_slice-targets.result.now c.in_ok-found.found c.in_ok-links.ensures
    c.as_slice-targets.ensures
    c.in_ok-found.ensures
