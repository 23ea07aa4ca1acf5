-- Of orders and cycles a graph has exactly one kind.
use Rattle.std.proofs.Common.{List, map, ◌⊎◌, inl, inr, ℕ}
use Rattle.topological_order.specs.Order as n
use Rattle.topological_order.specs.Order.{Link}
use Rattle.topological_order.proofs.Theorems.{order_or_cycle as numbers_either}
use Rattle.graph_builder.specs.Rules.{Specifier}
use Rattle.graph_builder.specs.Graph.{IsAscending}
use Rattle.topological_order.proofs.OrderLemmas.{order_alone, order_frees}
use Rattle.graph_order.specs.Edges.{Entries, Edge}
use Rattle.graph_order.specs.Order.{IsOrder, IsCycle, IsStuck, HasOrder, HasCycle}
use Rattle.graph_order.specs.Names.{named, links_in}
use Rattle.graph_order.proofs.TransferLemmas.{at, order_to, order_back, cycle_to, cycle_back, stuck_back}
use Rattle.graph_order.proofs.NamingLemmas.{naming, within}

module _ (entries : Entries) (ascending : IsAscending entries) where
  -- where there is an order there is no cycle
  pub not_both : (list : List Specifier) (cycle : List Edge) → IsOrder entries list → IsCycle entries cycle → ⊥
  not_both list cycle o c =
      let m = naming entries ascending in
      let (ns, order) = order_back entries (links_in (named entries) entries) m list o in
      let (links, same, is) = cycle_back entries (links_in (named entries) entries) m cycle c in
      order_alone (links_in (named entries) entries) ns links order is

  -- and no module is stuck
  pub none_stuck : (list : List Specifier) (s : Specifier) → IsOrder entries list → IsStuck entries s → ⊥
  none_stuck list s o stuck =
      let m = naming entries ascending in
      let (ns, order) = order_back entries (links_in (named entries) entries) m list o in
      let (v, l, name, is) = stuck_back entries (links_in (named entries) entries) m s stuck in
      order_frees (links_in (named entries) entries) ns order v is

  -- there is an order or a cycle
  pub order_or_cycle : HasOrder entries ⊎ HasCycle entries
  order_or_cycle =
      by (numbers_either (links_in (named entries) entries) (within entries ascending))
    where
      by : ((list : List ℕ) × n.IsLeastOrder (links_in (named entries) entries) list)
          ⊎ ((cycle : List Link) × n.IsCycle (links_in (named entries) entries) cycle)
          → HasOrder entries ⊎ HasCycle entries
      by (inl (list, order)) =
          let m = naming entries ascending in
          inl (map m.name list, (order_to entries (links_in (named entries) entries) m list order).order)
      by (inr (cycle, round)) =
          let m = naming entries ascending in
          inr (
            map (at entries (links_in (named entries) entries) m) cycle,
            cycle_to entries (links_in (named entries) entries) m cycle round,
          )

  -- exactly one of the two
  pub exactly_one : (HasOrder entries ⊎ HasCycle entries) × (HasOrder entries → HasCycle entries → ⊥)
  exactly_one = (order_or_cycle, λ order cycle. not_both order.0 cycle.0 order.1 cycle.1)
