-- From numbered nodes to the modules of a graph: orders and cycles of the one are those of the other.
use Rattle.std.proofs.Common.{◌≡◌, ◌≤◌, ◌<◌, ◌⊎◌, inl, inr, ℕ, Bool, true, false, List, [], ◌∷◌, ◌++◌, length, map, refl, sym, ◌∙◌, ap, subst, arith}
use Rattle.std.specs.Prelude.{◌||◌, ◌==◌, bytes_eq, slice_index}
use Rattle.std.specs.List.{AllByRecursion}
use Rattle.std.specs.Cmp.Lexicographic.{nat_list_eq_equiv, same_text}
use Rattle.std.proofs.lemmas.Bool.Decides.{Decides-eqb}
use Rattle.std.proofs.lemmas.List.{map-append}
use Rattle.graph_builder.specs.Rules.{Specifier}
use Rattle.graph_builder.specs.Reach.{has}
use Rattle.topological_order.specs.Order as n
use Rattle.topological_order.specs.Order.{Links, Link, links_of}
use Rattle.topological_order.proofs.OrderLemmas.{all_at, all_from, link_node, cycle_node}
use Rattle.graph_order.specs.Edges.{Entries, IsModule, Edge, IsStaticEdge}
use Rattle.graph_order.specs.Order.{IsFree, IsUpTo, IsLeastFree, EachBehind, IsOrder, IsLeastOrder, IsChain, modules, AreApart, head_of, IsCycle, IsStuck, IsFirstStuck, IsFirstCycle}

-- what the numbers of modules and of their edges stand for
pub record Naming (entries : Entries) (g : Links) : Type 0 where
  pub name : ℕ → Specifier
  pub place : ℕ → ℕ → ℕ
  pub node : (v : ℕ) → v < length g → IsModule entries (name v)
  pub node_of : (s : Specifier) → IsModule entries s → (v : ℕ) × (v < length g) × (name v ≡ s)
  pub one : (u v : ℕ) → u < length g → v < length g → name u ≡ name v → u ≡ v
  pub up : (u v : ℕ) → u ≤ v → v < length g → IsUpTo (name u) (name v)
  pub within : n.AreWithin g
  pub edge : (v k : ℕ) → k < length (links_of g v)
      → IsStaticEdge entries (record { from = name v; place = place v k; to = name (slice_index (links_of g v) k) })
  pub edge_of : (e : Edge) → IsStaticEdge entries e
      → (v : ℕ) × (k : ℕ) × (k < length (links_of g v))
      × (e ≡ record { from = name v; place = place v k; to = name (slice_index (links_of g v) k) })
  pub rises : (v k l : ℕ) → k ≤ l → l < length (links_of g v) → place v k ≤ place v l

module _ (entries : Entries) (g : Links) (m : Naming entries g) where
  -- the edge that a link stands for
  abbrev pub at : Link → Edge
  at e = record { from = m.name e.0; place = m.place e.0 e.1; to = m.name (n.target g e) }

  -- these are nodes
  abbrev pub Within : List ℕ → Type 0
  Within front = AllByRecursion (λ t. t < length g) front

  pub target_within : (v k : ℕ) → k < length (links_of g v) → slice_index (links_of g v) k < length g
  target_within v k l = all_at (λ t. t < length g) (links_of g v) k (m.within v) l

  pub within_more : (front : List ℕ) (v : ℕ) → Within front → v < length g → Within (front ++ v ∷ [])
  within_more [] v w l = (l, tt)
  within_more (x ∷ front) v w l = (w.0, within_more front v w.1 l)

  -- ---- what is among modules

  eq-name : (u v : ℕ) → u < length g → v < length g → bytes_eq (m.name u) (m.name v) ≡ (u == v)
  eq-name u v k l = by (bytes_eq (m.name u) (m.name v)) refl (u == v) refl
    where
      by : (a : Bool) → bytes_eq (m.name u) (m.name v) ≡ a → (b : Bool) → (u == v) ≡ b → a ≡ b
      by true e true f = refl
      by false e false f = refl
      by true e false f =
          let same : u ≡ v = m.one u v k l (same_text (m.name u) (m.name v) (sym e)) in
          let yes : (u == v) ≡ true = (Decides-eqb u v).1 same in absurd cc
      by false e true f =
          let same : u ≡ v = (Decides-eqb u v).0 f in
          let yes : bytes_eq (m.name u) (m.name v) ≡ true
          = ap (λ (w : ℕ). bytes_eq (m.name u) (m.name w)) (sym same) ∙ nat_list_eq_equiv.refl (m.name u) in absurd cc

  pub has-name : (front : List ℕ) (v : ℕ) → Within front → v < length g → has (map m.name front) (m.name v) ≡ n.has front v
  has-name [] v w l = refl
  has-name (x ∷ front) v w l =
      ap (λ b. b || has (map m.name front) (m.name v)) (eq-name v x l w.0)
      ∙ ap (λ b. v == x || b) (has-name front v w.1 l)

  -- ---- orders

  free_to : (front : List ℕ) (v : ℕ) → Within front → n.IsFree g front v → IsFree entries (map m.name front) (m.name v)
  free_to front v w f = record {
    there = m.node v f.node;
    open_yet = has-name front v w f.node ∙ f.open_yet;
    placed = λ e is from. by e from (m.edge_of e is);
  }
    where
      by : (e : Edge) → e.from ≡ m.name v
          → (u : ℕ) × (k : ℕ) × (k < length (links_of g u))
          × (e ≡ record { from = m.name u; place = m.place u k; to = m.name (slice_index (links_of g u) k) })
          → has (map m.name front) e.to ≡ true
      by e from (u, k, l, same) =
          let here : u ≡ v = m.one u v (link_node g u k l) f.node (sym (ap (λ (x : Edge). x.from) same) ∙ from) in
          let l2 : k < length (links_of g v) = subst (λ (x : ℕ). k < length (links_of g x)) here l in
          let to : e.to ≡ m.name (slice_index (links_of g v) k)
          = ap (λ (x : Edge). x.to) same ∙ ap (λ (x : ℕ). m.name (slice_index (links_of g x) k)) here in
          ap (has (map m.name front)) to
          ∙ has-name front (slice_index (links_of g v) k) w (target_within v k l2)
          ∙ all_at (λ t. n.has front t ≡ true) (links_of g v) k f.placed l2

  free_back : (front : List ℕ) (v : ℕ) → Within front → v < length g → IsFree entries (map m.name front) (m.name v)
      → n.IsFree g front v
  free_back front v w l f = record {
    node = l;
    open_yet = sym (has-name front v w l) ∙ f.open_yet;
    placed = all_from (λ t. n.has front t ≡ true) (links_of g v)
        (λ k kl. sym (has-name front (slice_index (links_of g v) k) w (target_within v k kl))
        ∙ f.placed (at (v, k)) (m.edge v k kl) refl);
  }

  -- a free module's number
  free_node : (front : List ℕ) (s : Specifier) → Within front → IsFree entries (map m.name front) s
      → (v : ℕ) × (m.name v ≡ s) × n.IsFree g front v
  free_node front s w f =
      let (v, l, is) = m.node_of s f.there in
      (v, is, free_back front v w l (subst (IsFree entries (map m.name front)) (sym is) f))

  least_to : (front : List ℕ) (v : ℕ) → Within front → n.IsLeastFree g front v
      → IsLeastFree entries (map m.name front) (m.name v)
  least_to front v w f = record {
    free = free_to front v w f.free;
    least = λ s also.
        let (u, is, free) = free_node front s w also in
        subst (IsUpTo (m.name v)) is (m.up v u (f.least u free) free.node);
  }

  -- one by one
  each_to : (Low : List ℕ → ℕ → Type 0) (High : List Specifier → Specifier → Type 0)
      → ((front : List ℕ) (v : ℕ) → Within front → Low front v → High (map m.name front) (m.name v) × (v < length g))
      → (front list : List ℕ) → Within front → n.EachBehind Low front list
      → EachBehind High (map m.name front) (map m.name list)
  each_to Low High f front [] w h = tt
  each_to Low High f front (v ∷ rest) w h =
      let one = f front v w h.0 in (
        one.0,
        subst (λ (fs : List Specifier). EachBehind High fs (map m.name rest)) (map-append m.name front (v ∷ []))
            (each_to Low High f (front ++ v ∷ []) rest (within_more front v w one.1) h.1),
      )

  -- the numbers of an order
  numbers : (front : List ℕ) (list : List Specifier) → Within front
      → EachBehind (IsFree entries) (map m.name front) list
      → (ns : List ℕ) × (map m.name ns ≡ list) × Within ns × n.EachBehind (n.IsFree g) front ns
  numbers front [] w h = ([], refl, tt, tt)
  numbers front (s ∷ rest) w h =
      let (v, is, free) = free_node front s w h.0 in
      let next : map m.name (front ++ v ∷ []) ≡ map m.name front ++ s ∷ []
      = map-append m.name front (v ∷ []) ∙ ap (λ (x : Specifier). map m.name front ++ x ∷ []) is in
      let (ns, same, all, each) = numbers (front ++ v ∷ []) rest (within_more front v w free.node)
      (subst (λ (fs : List Specifier). EachBehind (IsFree entries) fs rest) (sym next) h.1) in (
        v ∷ ns,
        ap (λ (x : Specifier). x ∷ map m.name ns) is ∙ ap (λ (xs : List Specifier). s ∷ xs) same,
        (free.node, all),
        (free, each),
      )

  pub order_back : (list : List Specifier) → IsOrder entries list → (ns : List ℕ) × n.IsOrder g ns
  order_back list o =
      let (ns, same, all, each) = numbers [] list tt o.each in (
        ns,
        record {
          all = λ v l. sym (has-name ns v all l) ∙ ap (λ (xs : List Specifier). has xs (m.name v)) same
              ∙ o.all (m.name v) (m.node v l);
          each = each;
        },
      )

  -- all of an order's numbers are nodes
  pub order_within : (front list : List ℕ) → n.EachBehind (n.IsFree g) front list → Within list
  order_within front [] h = tt
  order_within front (v ∷ rest) h = (h.0.node, order_within (front ++ v ∷ []) rest h.1)

  pub order_to : (list : List ℕ) → n.IsLeastOrder g list → IsLeastOrder entries (map m.name list)
  order_to list o = record {
    order = record {
      all = λ s there. let (v, l, is) = m.node_of s there in
          ap (has (map m.name list)) (sym is)
          ∙ has-name list v (order_within [] list o.order.each) l ∙ o.order.all v l;
      each = each_to (n.IsFree g) (IsFree entries) (λ front v w f. (free_to front v w f, f.node)) [] list tt
          o.order.each;
    };
    least = each_to (n.IsLeastFree g) (IsLeastFree entries) (λ front v w f. (least_to front v w f, f.free.node)) []
        list tt o.least;
  }

  -- ---- chains and cycles

  pub chain_to : (v w : ℕ) (path : List Link) → n.IsChain g v path w
      → IsChain entries (m.name v) (map at path) (m.name w)
  chain_to v w [] h = ap m.name h
  chain_to v w (e ∷ rest) h = (ap m.name h.0, m.edge e.0 e.1 h.1, chain_to (n.target g e) w rest h.2)

  pub chain_back : (v : ℕ) (t : Specifier) (path : List Edge) → v < length g → IsChain entries (m.name v) path t
      → (links : List Link) × (w : ℕ) × (map at links ≡ path) × (m.name w ≡ t) × (w < length g)
      × n.IsChain g v links w
  chain_back v t [] l h = ([], v, refl, h, l, refl)
  chain_back v t (e ∷ rest) l h =
      let (u, k, kl, same) = m.edge_of e h.1 in
      let here : u ≡ v = m.one u v (link_node g u k kl) l (sym (ap (λ (x : Edge). x.from) same) ∙ h.0) in
      let next : IsChain entries (m.name (slice_index (links_of g u) k)) rest t
      = subst (λ (s : Specifier). IsChain entries s rest t) (ap (λ (x : Edge). x.to) same) h.2 in
      let (links, w, all, is, wl, chain) =
      chain_back (slice_index (links_of g u) k) t rest (target_within u k kl) next in (
        (u, k) ∷ links,
        w,
        ap (λ (x : Edge). x ∷ map at links) (sym same) ∙ ap (λ (xs : List Edge). e ∷ xs) all,
        is,
        wl,
        (here, kl, chain),
      )

  chain_within : (v w : ℕ) (path : List Link) → n.IsChain g v path w → Within (n.nodes path)
  chain_within v w [] h = tt
  chain_within v w (e ∷ rest) h = (link_node g e.0 e.1 h.1, chain_within (n.target g e) w rest h.2)

  modules-at : (links : List Link) → modules (map at links) ≡ map m.name (n.nodes links)
  modules-at [] = refl
  modules-at (e ∷ rest) = ap (λ (ss : List Specifier). m.name e.0 ∷ ss) (modules-at rest)

  apart_to : (vs : List ℕ) → Within vs → n.AreApart vs → AreApart (map m.name vs)
  apart_to [] w h = tt
  apart_to (v ∷ rest) w h = (has-name rest v w.1 w.0 ∙ h.0, apart_to rest w.1 h.1)

  apart_back : (vs : List ℕ) → Within vs → AreApart (map m.name vs) → n.AreApart vs
  apart_back [] w h = tt
  apart_back (v ∷ rest) w h = (sym (has-name rest v w.1 w.0) ∙ h.0, apart_back rest w.1 h.1)

  links_apart : (v w : ℕ) (links : List Link) → n.IsChain g v links w → n.AreApart (n.nodes links)
      → AreApart (modules (map at links))
  links_apart v w links h apart =
      subst AreApart (sym (modules-at links)) (apart_to (n.nodes links) (chain_within v w links h) apart)

  pub cycle_to : (cycle : List Link) → n.IsCycle g cycle → IsCycle entries (map at cycle)
  cycle_to [] h = h
  cycle_to (e ∷ rest) h = (chain_to e.0 e.0 (e ∷ rest) h.0, links_apart e.0 e.0 (e ∷ rest) h.0 h.1)

  pub cycle_back : (cycle : List Edge) → IsCycle entries cycle
      → (links : List Link) × (map at links ≡ cycle) × n.IsCycle g links
  cycle_back [] h = absurd h
  cycle_back (e ∷ rest) h =
      let (u, k, kl, same) = m.edge_of e h.0.1 in
      let from : e.from ≡ m.name u = ap (λ (x : Edge). x.from) same in
      let (links, w, all, is, wl, chain) = chain_back u e.from (e ∷ rest) (link_node g u k kl)
      (subst (λ (s : Specifier). IsChain entries s (e ∷ rest) e.from) from h.0) in
      let round : w ≡ u = m.one w u wl (link_node g u k kl) (is ∙ from) in
      (links, all, by links u (subst (n.IsChain g u links) round chain) all)
    where
      by : (links : List Link) (u : ℕ) → n.IsChain g u links u → map at links ≡ e ∷ rest → n.IsCycle g links
      by [] u c all = absurd cc
      by (f ∷ fs) u c all = (
        subst (λ (x : ℕ). n.IsChain g x (f ∷ fs) x) (sym c.0) c,
        apart_back (n.nodes (f ∷ fs)) (chain_within u u (f ∷ fs) c)
            (subst AreApart (modules-at (f ∷ fs)) (subst (λ (es : List Edge). AreApart (modules es)) (sym all) h.1)),
      )

  head-at : (cycle : List Link) → n.IsCycle g cycle → head_of (map at cycle) ≡ m.name (n.head_of cycle)
  head-at [] h = absurd h
  head-at (e ∷ rest) h = refl

  -- ---- stuck modules

  stuck_to : (v : ℕ) → n.IsStuck g v → IsStuck entries (m.name v)
  stuck_to v s = record {
    path = map at s.path;
    cycle = map at s.cycle;
    leads = subst (IsChain entries (m.name v) (map at s.path)) (sym (head-at s.cycle s.is))
        (chain_to v (n.head_of s.cycle) s.path s.leads);
    is = cycle_to s.cycle s.is;
  }

  -- a stuck module's number
  pub stuck_back : (s : Specifier) → IsStuck entries s
      → (v : ℕ) × (v < length g) × (m.name v ≡ s) × n.IsStuck g v
  stuck_back s st =
      let (cy, all, cycle) = cycle_back st.cycle st.is in
      let head : head_of st.cycle ≡ m.name (n.head_of cy) = ap head_of (sym all) ∙ head-at cy cycle in
      by st.path cy cycle head (begins st.path cy cycle head st.leads) st.leads
    where
      begins : (path : List Edge) (cy : List Link) → n.IsCycle g cy → head_of st.cycle ≡ m.name (n.head_of cy)
          → IsChain entries s path (head_of st.cycle) → (v : ℕ) × (v < length g) × (m.name v ≡ s)
      begins [] cy cycle head h = (n.head_of cy, cycle_node g cy cycle, sym (h ∙ head))
      begins (e ∷ rest) cy cycle head h =
          let (u, k, kl, same) = m.edge_of e h.1 in
          (u, link_node g u k kl, sym (ap (λ (x : Edge). x.from) same) ∙ h.0)

      by : (path : List Edge) (cy : List Link) → n.IsCycle g cy → head_of st.cycle ≡ m.name (n.head_of cy)
          → (v : ℕ) × (v < length g) × (m.name v ≡ s) → IsChain entries s path (head_of st.cycle)
          → (v : ℕ) × (v < length g) × (m.name v ≡ s) × n.IsStuck g v
      by path cy cycle head (v, l, is) h =
          let (links, w, all, at_end, wl, chain) = chain_back v (head_of st.cycle) path l
          (subst (λ (x : Specifier). IsChain entries x path (head_of st.cycle)) (sym is) h) in
          let same : w ≡ n.head_of cy = m.one w (n.head_of cy) wl (cycle_node g cy cycle) (at_end ∙ head) in
          (v, l, is, record { path = links; cycle = cy; leads = subst (n.IsChain g v links) same chain; is = cycle })

  -- ---- the walk

  first_to : (e : Link) → n.IsLink g e → n.IsFirstStuck g e → IsFirstStuck entries (at e)
  first_to e l f = record {
    stuck = stuck_to (n.target g e) f.stuck;
    earlier = λ o is from before stuck. by o (m.edge_of o is) from before (stuck_back o.to stuck);
  }
    where
      by : (o : Edge)
          → (u : ℕ) × (k : ℕ) × (k < length (links_of g u))
          × (o ≡ record { from = m.name u; place = m.place u k; to = m.name (slice_index (links_of g u) k) })
          → o.from ≡ m.name e.0 → o.place < m.place e.0 e.1
          → (v : ℕ) × (v < length g) × (m.name v ≡ o.to) × n.IsStuck g v → ⊥
      by o (u, k, kl, same) from before (v, vl, is, stuck) =
          let here : u ≡ e.0
          = m.one u e.0 (link_node g u k kl) (link_node g e.0 e.1 l) (sym (ap (λ (x : Edge). x.from) same) ∙ from) in
          let kl2 : k < length (links_of g e.0) = subst (λ (x : ℕ). k < length (links_of g x)) here kl in
          let place : o.place ≡ m.place e.0 k
          = ap (λ (x : Edge). x.place) same ∙ ap (λ (x : ℕ). m.place x k) here in
          let to : o.to ≡ m.name (slice_index (links_of g e.0) k)
          = ap (λ (x : Edge). x.to) same ∙ ap (λ (x : ℕ). m.name (slice_index (links_of g x) k)) here in
          let there : v ≡ slice_index (links_of g e.0) k
          = m.one v (slice_index (links_of g e.0) k) vl (target_within e.0 k kl2) (is ∙ to) in
          f.earlier k (earlier k kl2 (subst (λ (p : ℕ). p < m.place e.0 e.1) place before))
          (subst (n.IsStuck g) there stuck)
        where
          lt : (a b : ℕ) → (a < b) ⊎ (b ≤ a)
          lt a b = search arith

          decide : (k : ℕ) → (k < e.1) ⊎ (e.1 ≤ k) → k < length (links_of g e.0)
              → m.place e.0 k < m.place e.0 e.1 → k < e.1
          decide k (inl lesser) kl2 before = lesser
          decide k (inr other) kl2 before = let up = m.rises e.0 e.1 k other kl2 in absurd (omega (arith, up, before))

          earlier : (k : ℕ) → k < length (links_of g e.0) → m.place e.0 k < m.place e.0 e.1 → k < e.1
          earlier k kl2 before = decide k (lt k e.1) kl2 before

  firsts_to : (v w : ℕ) (path : List Link) → n.IsChain g v path w → AllByRecursion (n.IsFirstStuck g) path
      → AllByRecursion (IsFirstStuck entries) (map at path)
  firsts_to v w [] h all = tt
  firsts_to v w (e ∷ rest) h all = (first_to e h.1 all.0, firsts_to (n.target g e) w rest h.2 all.1)

  pub walk_to : (cycle : List Link) → n.IsFirstCycle g cycle → IsFirstCycle entries (map at cycle)
  walk_to cycle c =
      let join : map at (c.front ++ cycle) ≡ map at c.front ++ map at cycle = map-append at c.front cycle in
      record {
        start = m.name c.start;
        stuck = stuck_to c.start c.stuck;
        least = λ s st. let (v, l, is, stuck) = stuck_back s st in
            subst (IsUpTo (m.name c.start)) is (m.up c.start v (c.least v stuck) l);
        front = map at c.front;
        walk = subst (λ (es : List Edge). IsChain entries (m.name c.start) es (head_of (map at cycle))) join
            (subst (IsChain entries (m.name c.start) (map at (c.front ++ cycle))) (sym (head-at cycle c.is))
            (chain_to c.start (n.head_of cycle) (c.front ++ cycle) c.walk));
        apart = subst (λ (es : List Edge). AreApart (modules es)) join
            (links_apart c.start (n.head_of cycle) (c.front ++ cycle) c.walk c.apart);
        first = subst (AllByRecursion (IsFirstStuck entries)) join
            (firsts_to c.start (n.head_of cycle) (c.front ++ cycle) c.walk c.first);
        is = cycle_to cycle c.is;
      }
