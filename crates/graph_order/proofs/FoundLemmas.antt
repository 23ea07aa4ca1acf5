-- What is found of the numbers is found of the graph.
use Rattle.std.proofs.Common.{◌≡◌, ◌<◌, ℕ, List, [], ◌∷◌, length, map, sym, ◌∙◌, ap, subst, Some}
use Rattle.std.specs.Prelude.{Option, slice_get, option_and_then}
use Rattle.std.specs.List.{AllByRecursion, filter_map}
use Rattle.graph_entry.specs.declared.entry.Dependency.{Dependency}
use Rattle.graph_builder.specs.Rules.{Specifier, edges_of}
use Rattle.graph_builder.specs.Graph.{module_of, IsAscending}
use Rattle.topological_order.specs.Order as n
use Rattle.topological_order.specs.Order.{Links, Link, links_of, IsLink}
use Rattle.topological_order.specs.declared.found.Found.{Found}
use Rattle.topological_order.specs.declared.found.Found.TheVariants as found
use Rattle.graph_order.specs.declared.found.Order.{Order}
use Rattle.graph_order.specs.declared.found.Order.TheVariants.{Sorted, Cycle}
use Rattle.graph_order.specs.Edges.{Entries, Edge, static_target}
use Rattle.graph_order.specs.Order.{IsLeastOrder, IsFirstCycle, IsFound}
use Rattle.graph_order.specs.Names.{Names, named, name_of, sees, links_in, place_of, module_edges, edges_there, edge_at, IsSorted, IsRound}
use Rattle.graph_order.proofs.TransferLemmas.{order_to, order_back, order_within, cycle_back, stuck_back, walk_to}
use Rattle.graph_order.proofs.NamingLemmas.{edge_from, within, naming, link_of, length-names}

-- the links of a chain are links
chain_links : (g : Links) (v w : ℕ) (path : List Link) → n.IsChain g v path w → AllByRecursion (IsLink g) path
chain_links g v w [] h = tt
chain_links g v w (e ∷ rest) h = (h.1, chain_links g (n.target g e) w rest h.2)

cycle_links : (g : Links) (cycle : List Link) → n.IsCycle g cycle → AllByRecursion (IsLink g) cycle
cycle_links g [] h = absurd h
cycle_links g (e ∷ rest) h = chain_links g e.0 e.0 (e ∷ rest) h.0

module _ (entries : Entries) (ascending : IsAscending entries) where
  -- a cycle that is found is one of links
  pub found_links : (links : List Link) → n.IsFound (links_in (named entries) entries) (found.Cycle links)
      → AllByRecursion (IsLink (links_in (named entries) entries)) links
  found_links links f = cycle_links (links_in (named entries) entries) links f.0.is

  -- an order that is found is one of modules
  pub found_nodes : (nodes : List ℕ) → n.IsFound (links_in (named entries) entries) (found.Order nodes)
      → AllByRecursion (λ v. v < length (named entries)) nodes
  found_nodes nodes f =
      subst (λ (k : ℕ). AllByRecursion (λ v. v < k) nodes) (length-names entries ascending)
      (order_within entries (links_in (named entries) entries) (naming entries ascending) [] nodes f.0.order.each)

  pub found_sorted : (nodes : List ℕ) → n.IsFound (links_in (named entries) entries) (found.Order nodes) → (o : Order)
      → IsSorted (map (name_of (named entries)) nodes) o → IsFound entries o
  found_sorted nodes f (Sorted urls) is = (
    subst (IsLeastOrder entries) (sym is)
        (order_to entries (links_in (named entries) entries) (naming entries ascending) nodes f.0),
    λ s stuck.
        let (v, l, name, at) = stuck_back entries (links_in (named entries) entries) (naming entries ascending) s stuck
        in f.1 v at,
    λ cycle is_cycle.
        let (links, same, at) = cycle_back entries (links_in (named entries) entries) (naming entries ascending) cycle
        is_cycle in f.2 links at,
  )
  found_sorted nodes f (Cycle cycle) is = absurd is

  pub found_cycle : (links : List Link) → n.IsFound (links_in (named entries) entries) (found.Cycle links) → (o : Order)
      → IsRound (map (edge_at entries) links) o → IsFound entries o
  found_cycle links f (Sorted urls) is = absurd is
  found_cycle links f (Cycle cycle) is = (
    subst (IsFirstCycle entries) (sym is)
        (walk_to entries (links_in (named entries) entries) (naming entries ascending) links f.0),
    λ list order.
        let (ns, at) = order_back entries (links_in (named entries) entries) (naming entries ascending) list order in
        f.1 ns at,
  )

  -- ---- the edge that a link is

  -- what is found of it at its module's specifier
  pub record IsEdgeOf (names : Names) (v k : ℕ) (s : Specifier) : Type 0 where
    pub from : s ≡ (edge_at entries (v, k)).from
    pub low : k < length (filter_map (sees names entries) (edges_there entries s))
    pub place : place_of (sees names entries) (edges_there entries s) k ≡ (edge_at entries (v, k)).place
    pub leads : option_and_then (static_target entries)
        (slice_get (edges_there entries s) (place_of (sees names entries) (edges_there entries s) k))
        ≡ Some (edge_at entries (v, k)).to

  pub edge_found : (names : Names) → names ≡ named entries → (v k : ℕ) → IsLink (links_in names entries) (v, k)
      → (s : Specifier) → s ≡ name_of names v → IsEdgeOf names v k s
  edge_found names is v k l s same =
      subst (λ (ns : Names). IsLink (links_in ns entries) (v, k) → s ≡ name_of ns v → IsEdgeOf ns v k s) (sym is)
      by l same
    where
      by : IsLink (links_in (named entries) entries) (v, k) → s ≡ name_of (named entries) v
          → IsEdgeOf (named entries) v k s
      by l same =
          let e = link_of entries ascending v k l in
          let all : edges_there entries s ≡ edges_of e.holder
          = ap (edges_there entries) same ∙ ap (λ o. module_edges (option_and_then module_of o)) e.there in
          let f : Dependency → Option ℕ = sees (named entries) entries in
          record {
            from = same;
            low = subst (λ (ds : List Dependency). k < length (filter_map f ds)) (sym all) e.low;
            place = ap (λ (ds : List Dependency). place_of f ds k) (all ∙ sym e.edges);
            leads = subst (λ (ds : List Dependency). option_and_then (static_target entries)
                (slice_get ds (place_of f ds k)) ≡ Some (edge_at entries (v, k)).to) (sym all)
                (ap (option_and_then (static_target entries)) e.at ∙ e.leads);
          }

pub some_one : {A : Type 0} (x y : A) → Some x ≡ Some y → x ≡ y
some_one x y h = cc

pub same_edge : (e : Edge) (a : Specifier) (p : ℕ) (b : Specifier) → e.from ≡ a → e.place ≡ p → e.to ≡ b
    → e ≡ edge_from a p b
same_edge e a p b x y z =
    ap (λ (s : Specifier). edge_from s e.place e.to) x ∙ ap (λ (n : ℕ). edge_from a n e.to) y
    ∙ ap (λ (s : Specifier). edge_from a p s) z

-- ---- what was found, over names and links as the code has them

module _ (entries : Entries) (ascending : IsAscending entries) (names : Names) (named_so : names ≡ named entries) where
  pub within_at : (links slice : Links) → links ≡ links_in names entries → slice ≡ links → n.AreWithin slice
  within_at links slice is same =
      subst n.AreWithin (sym (same ∙ is ∙ ap (λ (ns : Names). links_in ns entries) named_so))
      (within entries ascending)

  pub found_at : (links slice : Links) (f : Found) → links ≡ links_in names entries → slice ≡ links → n.IsFound slice f
      → n.IsFound (links_in (named entries) entries) f
  found_at links slice f is same is_found =
      subst (λ (g : Links). n.IsFound g f) (same ∙ is ∙ ap (λ (ns : Names). links_in ns entries) named_so) is_found

  pub nodes_at : (f : Found) → n.IsFound (links_in (named entries) entries) f → (nodes slice : List ℕ)
      → f ≡ found.Order nodes → slice ≡ nodes → AllByRecursion (λ v. v < length names) slice
  nodes_at f is_found nodes slice is same =
      subst (λ (ns : List ℕ). AllByRecursion (λ v. v < length names) ns) (sym same)
      (subst (λ (ns : Names). AllByRecursion (λ v. v < length ns) nodes) (sym named_so)
      (found_nodes entries ascending nodes (subst (n.IsFound (links_in (named entries) entries)) is is_found)))

  pub sorted_at : (f : Found) → n.IsFound (links_in (named entries) entries) f → (nodes slice : List ℕ)
      → f ≡ found.Order nodes → slice ≡ nodes → (o : Order) → IsSorted (map (name_of names) slice) o → IsFound entries o
  sorted_at f is_found nodes slice is same o told =
      found_sorted entries ascending nodes (subst (n.IsFound (links_in (named entries) entries)) is is_found) o
      (subst (λ (ns : Names). IsSorted (map (name_of ns) nodes) o) named_so
      (subst (λ (xs : List ℕ). IsSorted (map (name_of names) xs) o) same told))

  pub links_at : (f : Found) → n.IsFound (links_in (named entries) entries) f → (links slice : List Link)
      → f ≡ found.Cycle links → slice ≡ links → AllByRecursion (IsLink (links_in names entries)) slice
  links_at f is_found links slice is same =
      subst (AllByRecursion (IsLink (links_in names entries))) (sym same)
      (subst (λ (ns : Names). AllByRecursion (IsLink (links_in ns entries)) links) (sym named_so)
      (found_links entries ascending links (subst (n.IsFound (links_in (named entries) entries)) is is_found)))

  pub round_at : (f : Found) → n.IsFound (links_in (named entries) entries) f → (links slice : List Link)
      → f ≡ found.Cycle links → slice ≡ links → (o : Order) → IsRound (map (edge_at entries) slice) o
      → IsFound entries o
  round_at f is_found links slice is same o told =
      found_cycle entries ascending links (subst (n.IsFound (links_in (named entries) entries)) is is_found) o
      (subst (λ (xs : List Link). IsRound (map (edge_at entries) xs) o) same told)

  -- the edge's parts, as the code finds them
  pub edge_parts : (v k : ℕ) → IsLink (links_in names entries) (v, k) → (s : Specifier) → s ≡ name_of names v
      → (all : List Dependency) (place : ℕ) → all ≡ edges_there entries s → place ≡ place_of (sees names entries) all k
      → (option_and_then (static_target entries) (slice_get all place) ≡ Some (edge_at entries (v, k)).to)
      × (place ≡ (edge_at entries (v, k)).place)
  edge_parts v k l s same all place all_is place_is =
      let e = edge_found entries ascending names named_so v k l s same in
      let at : place ≡ place_of (sees names entries) (edges_there entries s) k
      = place_is ∙ ap (λ (ds : List Dependency). place_of (sees names entries) ds k) all_is in (
        ap (λ (ds : List Dependency). option_and_then (static_target entries) (slice_get ds place)) all_is
            ∙ ap (λ (p : ℕ). option_and_then (static_target entries) (slice_get (edges_there entries s) p)) at
            ∙ e.leads,
        at ∙ e.place,
      )
