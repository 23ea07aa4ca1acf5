-- An order or a cycle of modules.
use Rattle.std.proofs.Common.{ℕ, ◌<◌, refl, subst}
use Rattle.std.specs.List.{AllByRecursion}
use Rattle.graph_order.specs.Names.{named, named_at}
use Rattle.graph_order.proofs.CheckLemmas.{IfOk-map}
use Rattle.graph_order.proofs.FoundLemmas.{nodes_at, sorted_at, links_at, round_at}
use Rattle.graph_order.proofs.NodeLemmas.{length-named_at}
use Rattle.graph_order.proofs.find.told.Goals as goal

pub sorted-requires : goal.sorted-requires
sorted-requires c =
    subst (λ (k : ℕ). AllByRecursion (λ v. v < k) c.as_slice.result.now) (length-named_at c.args.names.now)
    (nodes_at c.args.graph.now.entries c.requires.ascending (named_at c.args.names.now) c.requires.named c.args.found
    c.requires.found c.in-Order.nodes c.as_slice.result.now c.in-Order.is c.as_slice.ensures)

pub returns-in-Order : goal.returns-in-Order
returns-in-Order c = IfOk-map c.sorted.result _ _
    (sorted_at c.args.graph.now.entries c.requires.ascending (named_at c.args.names.now) c.requires.named c.args.found
    c.requires.found c.in-Order.nodes c.as_slice.result.now c.in-Order.is c.as_slice.ensures) c.sorted.ensures

pub cycle-requires-clause-links : goal.cycle-requires-clause-links
cycle-requires-clause-links c =
    links_at c.args.graph.now.entries c.requires.ascending (named c.args.graph.now.entries) refl c.args.found
    c.requires.found c.in-Cycle.links c.as_slice-in-Cycle.result.now c.in-Cycle.is c.as_slice-in-Cycle.ensures

pub returns-in-Cycle : goal.returns-in-Cycle
returns-in-Cycle c = IfOk-map c.cycle.result _ _
    (round_at c.args.graph.now.entries c.requires.ascending (named c.args.graph.now.entries) refl c.args.found
    c.requires.found c.in-Cycle.links c.as_slice-in-Cycle.result.now c.in-Cycle.is c.as_slice-in-Cycle.ensures)
    c.cycle.ensures
