-- What is found of the numbers is found of the graph.
use Rattle.std.proofs.Common.{◌≡◌, ◌<◌, ℕ, List, [], length, map, sym, ◌∙◌, ap, subst}
use Rattle.std.specs.Borrow.{Bor}
use Rattle.std.specs.List.{AllByRecursion}
use Rattle.url.specs.Parts.{Parts}
use Rattle.graph_builder.specs.Rules.{Specifier}
use Rattle.graph_builder.specs.Graph.{IsAscending}
use Rattle.topological_order.specs.Order.{Links}
use Rattle.strong_components.specs.Components as n2
use Rattle.graph_order.specs.Edges.{Entries}
use Rattle.graph_order.specs.Names.{Names, named, named_at, links_in, name_of}
use Rattle.graph_order.proofs.NamingLemmas.{naming, length-names}
use Rattle.graph_order.proofs.NodeLemmas.{length-named_at}
use Rattle.graph_groups.specs.Groups.{AreGroups}
use Rattle.graph_groups.proofs.GroupLemmas.{each_within, groups_to}

-- ---- what is found

-- the members are numbers of modules
pub members_at : (entries : Entries) → IsAscending entries → (urls : List (Bor Parts)) → named_at urls ≡ named entries
    → (links targets : Links) → links ≡ links_in (named entries) entries → targets ≡ links
    → (found numbered : List (List ℕ)) → n2.AreComponents targets found → numbered ≡ found
    → AllByRecursion (AllByRecursion (λ v. v < length urls)) numbered
members_at entries ascending urls names_is links targets links_is targets_is found numbered i numbered_is =
    subst (λ (cs : List (List ℕ)). AllByRecursion (AllByRecursion (λ v. v < length urls)) cs) (sym numbered_is)
    (subst (λ (k : ℕ). AllByRecursion (AllByRecursion (λ v. v < k)) found) count
    (each_within entries (links_in (named entries) entries) (naming entries ascending) [] found
    (subst (λ (x : Links). n2.AreComponents x found) (targets_is ∙ links_is) i).each))
  where
    count : length (links_in (named entries) entries) ≡ length urls
    count =
        length-names entries ascending ∙ ap (λ (ns : Names). length ns) (sym names_is) ∙ length-named_at urls

-- and their names are the groups
pub groups_at : (entries : Entries) → IsAscending entries → (urls : List (Bor Parts)) → named_at urls ≡ named entries
    → (links targets : Links) → links ≡ links_in (named entries) entries → targets ≡ links
    → (found numbered : List (List ℕ)) → n2.AreComponents targets found → numbered ≡ found
    → (groups : List (List Specifier)) → groups ≡ map (map (name_of (named_at urls))) numbered
    → AreGroups entries groups
groups_at entries ascending urls names_is links targets links_is targets_is found numbered i numbered_is groups is =
    subst (AreGroups entries)
    (sym (is ∙ ap (λ (ns : Names). map (map (name_of ns)) numbered) names_is
    ∙ ap (λ (cs : List (List ℕ)). map (map (name_of (named entries))) cs) numbered_is))
    (groups_to entries (links_in (named entries) entries) (naming entries ascending) found
    (subst (λ (x : Links). n2.AreComponents x found) (targets_is ∙ links_is) i))
