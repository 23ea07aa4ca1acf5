-- There is one list of groups in order; without cycles it is the order of modules.
use Rattle.std.proofs.Common.{◌≡◌, List, map}
use Rattle.graph_builder.specs.Rules.{Specifier}
use Rattle.graph_builder.specs.Graph.{IsAscending}
use Rattle.graph_order.specs.Edges.{Entries}
use Rattle.graph_order.specs.Order.{IsOrder, IsLeastOrder}
use Rattle.graph_order.specs.Names.{named, links_in}
use Rattle.graph_order.proofs.NamingLemmas.{naming}
use Rattle.graph_groups.specs.Groups.{AreGroups}
use Rattle.graph_groups.proofs.LawLemmas.{single, one_list, ordered}

module _ (entries : Entries) (ascending : IsAscending entries) where
  -- there is only one list of groups in order
  pub only_one : (a b : List (List Specifier)) → AreGroups entries a → AreGroups entries b → a ≡ b
  only_one a b i j = one_list entries (links_in (named entries) entries) (naming entries ascending) a b i j

  -- where there is an order of modules, the groups in order are its modules, each alone, in the least order
  pub without_cycles : (list : List Specifier) → IsOrder entries list → (found : List (List Specifier))
      → AreGroups entries found → (least : List Specifier) × IsLeastOrder entries least × (found ≡ map single least)
  without_cycles list o found i =
      ordered entries (links_in (named entries) entries) (naming entries ascending) list o found i
