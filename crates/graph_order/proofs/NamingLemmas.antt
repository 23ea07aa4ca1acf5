-- The numbers of a graph's modules stand for them.
use Rattle.std.proofs.Common.{zero, suc, ◌≡◌, ◌<◌, ℕ, Bool, true, false, List, [], ◌∷◌, length, map, refl, sym, ◌∙◌, ap, subst, arith, Option, Some, None}
use Rattle.std.specs.Prelude.{bytes_eq, position, slice_get, slice_index, slice_index_or, option_and_then, is_some, if◌then◌else◌}
use Rattle.std.specs.List.{filter_map, IsDistinct}
use Rattle.std.proofs.lemmas.List.{length-map}
use Rattle.graph_entry.specs.declared.entry.Dependency.{Dependency}
use Rattle.graph_entry.specs.declared.entry.Module.{Module}
use Rattle.graph_entry.specs.declared.entry.Entry.{Entry}
use Rattle.graph_entry.specs.declared.entry.Entry.TheVariants as entry
use Rattle.graph_entry.specs.Entry.{edge_target}
use Rattle.graph_builder.specs.Rules.{Specifier, edges_of}
use Rattle.graph_builder.specs.Graph.{entry_of, module_of, module_at, resolved, members_of, IsAscending}
use Rattle.graph_builder.specs.ByText.{keys_at, number_of}
use Rattle.graph_builder.proofs.ByTextLemmas.{distinct_sorted}
use Rattle.graph_builder.proofs.NumberLemmas.{key_of_number}
use Rattle.topological_order.specs.Order.{links_of, AreWithin}
use Rattle.topological_order.proofs.OrderLemmas.{all_from, link_node}
use Rattle.graph_order.specs.Edges.{Entries, IsModule, module_there, is_static, static_target, Edge, IsStaticEdge}
use Rattle.graph_order.specs.Names.{Held, Names, bare, modules_of, named, sees, links_of_held, links_in, place_of, name_of, edges_at, edge_at}
use Rattle.graph_order.proofs.PlaceLemmas.{found_at, found_back, place_rises}
use Rattle.graph_order.proofs.ModuleLemmas.{keys, keys-named, keys_ascend, held_at, held_of, one_key, key_rises, position_of}
use Rattle.graph_order.proofs.TransferLemmas.{Naming}

some_one : {A : Type 0} (x y : A) → Some x ≡ Some y → x ≡ y
some_one x y h = cc

-- an edge by its parts
abbrev pub edge_from : Specifier → ℕ → Specifier → Edge
edge_from s n t = record { from = s; place = n; to = t }

-- ---- static edges lead to modules

-- an entry's module
module_entry : (o : Option Entry) → is_some (option_and_then module_of o) ≡ true
    → (m : Module) × (o ≡ Some (entry.Module m))
module_entry None h = absurd cc
module_entry (Some (entry.Redirect target)) h = absurd cc
module_entry (Some (entry.Module m)) h = (m, refl)
module_entry (Some (entry.Package held)) h = absurd cc
module_entry (Some entry.External) h = absurd cc
module_entry (Some (entry.Error e)) h = absurd cc

there_module : (entries : Entries) (s t : Specifier) → module_there entries s ≡ Some t → IsModule entries t
there_module entries s t h = by (is_some (module_at entries s)) refl h
  where
    by : (b : Bool) → is_some (module_at entries s) ≡ b → (if b then Some (resolved entries s) else None) ≡ Some t
        → IsModule entries t
    by false f g = absurd cc
    by true f g =
        let same : resolved entries s ≡ t = some_one (resolved entries s) t g in
        let (m, is) = module_entry (entry_of entries (resolved entries s)) f in
        (m, subst (λ (x : Specifier). entry_of entries x ≡ Some (entry.Module m)) same is)

pub target_module : (entries : Entries) (d : Dependency) (t : Specifier) → static_target entries d ≡ Some t
    → IsModule entries t
target_module entries d t h = by (is_static d) (edge_target d) h
  where
    by : (b : Bool) (o : Option Specifier)
        → (if b then option_and_then (module_there entries) o else None) ≡ Some t → IsModule entries t
    by false o g = absurd cc
    by true None g = absurd cc
    by true (Some s) g = there_module entries s t g

-- ---- the numbers

module _ (entries : Entries) (ascending : IsAscending entries) where
  abbrev pub names : Names
  names = named entries

  abbrev pub ms : List Held
  ms = modules_of entries

  abbrev pub f : Dependency → Option ℕ
  f = sees names entries

  pub same_keys : keys_at names ≡ keys ms
  same_keys = keys-named ms

  members_once : IsDistinct bytes_eq (members_of entries)
  members_once = distinct_sorted (members_of entries) ascending

  pub keys_once : IsDistinct bytes_eq (keys ms)
  keys_once = distinct_sorted (keys ms) (keys_ascend entries ascending)

  pub names_once : IsDistinct bytes_eq (keys_at names)
  names_once = subst (IsDistinct bytes_eq) (sym same_keys) keys_once

  pub name-key : (v : ℕ) → name_of names v ≡ slice_index_or (keys ms) v []
  name-key v = ap (λ (ks : List Specifier). slice_index_or ks v []) same_keys

  pub length-keys : length (keys ms) ≡ length ms
  length-keys = length-map ms (λ (m : Held). _)

  pub length-links : length (links_in names entries) ≡ length ms
  length-links = length-map ms (links_of_held names entries)

  -- a module's links are what its edges give
  pub links-edges : (v : ℕ) → links_of (links_in names entries) v ≡ filter_map f (edges_at entries v)
  links-edges v = by ms v
    where
      by : (held : List Held) (v : ℕ)
          → slice_index_or (map (λ (m : Held). filter_map f (edges_of m.1)) held) v []
          ≡ filter_map f (slice_index_or (map (λ (m : Held). edges_of m.1) held) v [])
      by [] v = refl
      by (m ∷ held) zero = refl
      by (m ∷ held) (suc v) = by held v

  -- a number that an edge gives is its target's
  seen : (d : Dependency) (n : ℕ) → f d ≡ Some n
      → (t : Specifier) × (static_target entries d ≡ Some t) × (number_of names t ≡ Some n)
  seen d n h = by (static_target entries d) refl h
    where
      by : (o : Option Specifier) → static_target entries d ≡ o → option_and_then (number_of names) o ≡ Some n
          → (t : Specifier) × (static_target entries d ≡ Some t) × (number_of names t ≡ Some n)
      by None e g = absurd cc
      by (Some t) e g = (t, e, g)

  at_place : (ks : List Specifier) (n : ℕ) (t : Specifier) → slice_get ks n ≡ Some t
      → (n < length ks) × (slice_index_or ks n [] ≡ t)
  at_place [] n t h = absurd cc
  at_place (k ∷ ks) zero t h = (omega arith, some_one k t h)
  at_place (k ∷ ks) (suc n) t h = let (l, same) = at_place ks n t h in (omega (arith, l), same)

  pub seen_name : (t : Specifier) (n : ℕ) → number_of names t ≡ Some n → (n < length ms) × (name_of names n ≡ t)
  seen_name t n h =
      let (l, same) = at_place (keys_at names) n t (key_of_number names t n h) in
      (subst (λ (k : ℕ). n < k) (ap length same_keys ∙ length-keys) l, same)

  -- each module's number is found
  pub number_there : (s : Specifier) (v : ℕ) → v < length ms → name_of names v ≡ s → number_of names s ≡ Some v
  number_there s v l is =
      ap (number_of names) (sym is)
      ∙ ap (λ (x : Specifier). number_of names x) (name-key v)
      ∙ subst (λ (ks : List Specifier). position (bytes_eq (slice_index_or (keys ms) v [])) ks ≡ Some v) (sym same_keys)
      (position_of (keys ms) v keys_once (subst (λ (k : ℕ). v < k) (sym length-keys) l))

  -- a static edge gives the number of the module that it leads to
  sees_target : (d : Dependency) (t : Specifier) → static_target entries d ≡ Some t
      → (n : ℕ) × (n < length ms) × (name_of names n ≡ t) × (f d ≡ Some n)
  sees_target d t h =
      let (m, there) = target_module entries d t h in
      let (n, held) = held_of entries t m there in
      let name : name_of names n ≡ t = name-key n ∙ held.1 in
      (n, held.0, name, ap (option_and_then (number_of names)) h ∙ number_there t n held.0 name)

  pub node : (v : ℕ) → v < length (links_in names entries) → IsModule entries (name_of names v)
  node v l =
      let (m, h) = held_at entries v members_once (subst (λ (k : ℕ). v < k) length-links l) in
      (m, subst (λ (s : Specifier). entry_of entries s ≡ Some (entry.Module m)) (sym (name-key v)) h.there)

  pub node_of : (s : Specifier) → IsModule entries s
      → (v : ℕ) × (v < length (links_in names entries)) × (name_of names v ≡ s)
  node_of s (m, there) =
      let (v, held) = held_of entries s m there in
      (v, subst (λ (k : ℕ). v < k) (sym length-links) held.0, name-key v ∙ held.1)

  -- what a link is
  link : (v k : ℕ) → k < length (links_of (links_in names entries) v)
      → (d : Dependency) × (slice_get (edges_at entries v) (place_of f (edges_at entries v) k) ≡ Some d)
      × (f d ≡ Some (slice_index (links_of (links_in names entries) v) k))
  link v k l =
      let (d, at, gives) = found_at f (edges_at entries v) k
      (subst (λ (ns : List ℕ). k < length ns) (links-edges v) l) in
      (d, at, gives ∙ ap (λ (ns : List ℕ). Some (slice_index ns k)) (sym (links-edges v)))

  pub within : AreWithin (links_in names entries)
  within v = all_from (λ t. t < length (links_in names entries)) (links_of (links_in names entries) v)
      (λ k l.
      let (d, at, gives) = link v k l in
      let (t, leads, number) = seen d (slice_index (links_of (links_in names entries) v) k) gives in
      let (low, is) = seen_name t (slice_index (links_of (links_in names entries) v) k) number in
      subst (λ (n : ℕ). slice_index (links_of (links_in names entries) v) k < n) (sym length-links) low)

  pub edge : (v k : ℕ) → k < length (links_of (links_in names entries) v)
      → IsStaticEdge entries
      (record {
        from = name_of names v;
        place = place_of f (edges_at entries v) k;
        to = name_of names (slice_index (links_of (links_in names entries) v) k);
      })
  edge v k l =
      let low = link_node (links_in names entries) v k l in
      let (m, h) = held_at entries v members_once (subst (λ (n : ℕ). v < n) length-links low) in
      let (d, at, gives) = link v k l in
      let (t, leads, number) = seen d (slice_index (links_of (links_in names entries) v) k) gives in
      let (small, is) = seen_name t (slice_index (links_of (links_in names entries) v) k) number in
      record {
        holder = m;
        there = subst (λ (s : Specifier). entry_of entries s ≡ Some (entry.Module m)) (sym (name-key v)) h.there;
        edge = d;
        at = subst (λ (ds : List Dependency). slice_get ds (place_of f (edges_at entries v) k) ≡ Some d) h.edges at;
        leads = leads ∙ ap Some (sym is);
      }

  pub edge_of : (e : Edge) → IsStaticEdge entries e
      → (v : ℕ) × (k : ℕ) × (k < length (links_of (links_in names entries) v))
      × (e ≡ record {
        from = name_of names v;
        place = place_of f (edges_at entries v) k;
        to = name_of names (slice_index (links_of (links_in names entries) v) k);
      })
  edge_of e is =
      let (v, held) = held_of entries e.from is.holder is.there in
      let (n, small, target, gives) = sees_target is.edge e.to is.leads in
      let (k, l, same, place) = found_back f (edges_at entries v) e.place is.edge n
      (subst (λ (ds : List Dependency). slice_get ds e.place ≡ Some is.edge) (sym held.2) is.at) gives in
      let number : slice_index (links_of (links_in names entries) v) k ≡ n
      = ap (λ (ns : List ℕ). slice_index ns k) (links-edges v) ∙ same in (
        v,
        k,
        subst (λ (ns : List ℕ). k < length ns) (sym (links-edges v)) l,
        alike e (name_of names v) (place_of f (edges_at entries v) k)
            (name_of names (slice_index (links_of (links_in names entries) v) k))
            (sym (name-key v ∙ held.1)) (sym place) (sym (ap (name_of names) number ∙ target)),
      )
    where
      alike : (e : Edge) (a : Specifier) (p : ℕ) (b : Specifier) → e.from ≡ a → e.place ≡ p → e.to ≡ b
          → e ≡ record { from = a; place = p; to = b }
      alike e a p b x y z =
          ap (λ (s : Specifier). edge_from s e.place e.to) x ∙ ap (λ (n : ℕ). edge_from a n e.to) y
          ∙ ap (λ (s : Specifier). edge_from a p s) z

  -- so many names as links
  pub length-names : length (links_in names entries) ≡ length names
  length-names = length-links ∙ sym (length-map ms bare)

  -- a link of a module, in the graph
  pub record IsLinkOf (v k : ℕ) : Type 0 where
    pub holder : Module
    pub dependency : Dependency
    pub within : v < length names
    pub there : entry_of entries (name_of names v) ≡ Some (entry.Module holder)
    pub edges : edges_at entries v ≡ edges_of holder
    pub low : k < length (filter_map f (edges_of holder))
    pub at : slice_get (edges_of holder) (place_of f (edges_of holder) k) ≡ Some dependency
    pub leads : static_target entries dependency ≡ Some (edge_at entries (v, k)).to

  pub link_of : (v k : ℕ) → k < length (links_of (links_in names entries) v) → IsLinkOf v k
  link_of v k l =
      let low = link_node (links_in names entries) v k l in
      let (m, h) = held_at entries v members_once (subst (λ (n : ℕ). v < n) length-links low) in
      let e = edge v k l in
      let (d, at, gives) = link v k l in
      let (t, leads, number) = seen d (slice_index (links_of (links_in names entries) v) k) gives in
      let (small, is) = seen_name t (slice_index (links_of (links_in names entries) v) k) number in
      record {
        holder = m;
        dependency = d;
        within = subst (λ (n : ℕ). v < n) length-names low;
        there = subst (λ (s : Specifier). entry_of entries s ≡ Some (entry.Module m)) (sym (name-key v)) h.there;
        edges = h.edges;
        low = subst (λ (ds : List Dependency). k < length (filter_map f ds)) h.edges
            (subst (λ (ns : List ℕ). k < length ns) (links-edges v) l);
        at = subst (λ (ds : List Dependency). slice_get ds (place_of f ds k) ≡ Some d) h.edges at;
        leads = leads ∙ ap Some (sym is);
      }

  abbrev pub naming : Naming entries (links_in names entries)
  naming = record {
    name = name_of names;
    place = λ v k. place_of f (edges_at entries v) k;
    node = node;
    node_of = node_of;
    one = λ u v k l same. one_key (keys ms) u v keys_once
        (subst (λ (n : ℕ). u < n) (length-links ∙ sym length-keys) k)
        (subst (λ (n : ℕ). v < n) (length-links ∙ sym length-keys) l)
        (sym (name-key u) ∙ same ∙ name-key v);
    up = λ u v le l. rw (name-key u, name-key v) (key_rises (keys ms) u v (keys_ascend entries ascending) le
        (subst (λ (n : ℕ). v < n) (length-links ∙ sym length-keys) l));
    within = within;
    edge = edge;
    edge_of = edge_of;
    rises = λ v k l le low. place_rises f (edges_at entries v) k l le
        (subst (λ (ns : List ℕ). l < length ns) (links-edges v) low);
  }
