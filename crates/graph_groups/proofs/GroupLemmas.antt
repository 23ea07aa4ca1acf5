-- From numbered nodes to the modules of a graph: components of the one are groups of the other.
use Rattle.std.proofs.Common.{◌≡◌, ◌<◌, ◌⊎◌, inl, inr, ℕ, true, false, List, [], ◌∷◌, ◌++◌, length, map, refl, sym, ◌∙◌, ap, subst, arith}
use Rattle.std.specs.Prelude.{◌||◌, ◌==◌, bytes_eq, slice_index}
use Rattle.std.specs.List.{AllByRecursion}
use Rattle.std.specs.Ordering.{nat_cmp, is_le, is_eq, ordering_reverse}
use Rattle.std.specs.declared.cmp.Ordering.{Ordering}
use Rattle.std.specs.declared.cmp.Ordering.TheVariants.{Less, Equal, Greater}
use Rattle.std.specs.Cmp.Lexicographic.{slice_cmp, nat_list_eq_equiv, same_text}
use Rattle.std.proofs.lemmas.Bool.{false≢true}
use Rattle.std.proofs.lemmas.Cmp.{nat_list_cmp_total}
use Rattle.std.proofs.lemmas.List.{map-append, length-map}
use Rattle.std.proofs.lemmas.Map.Text.{is_eq-slice_cmp}
use Rattle.graph_builder.specs.Rules.{Specifier}
use Rattle.graph_builder.specs.Reach.{has}
use Rattle.topological_order.specs.Order as n
use Rattle.topological_order.specs.Order.{Links, Link, links_of}
use Rattle.topological_order.proofs.OrderLemmas.{link_node}
use Rattle.strong_components.specs.Components as n2
use Rattle.strong_components.proofs.BasicLemmas.{has_at, place_in, either, by_left, by_right, same, itself}
use Rattle.strong_components.proofs.MemberLemmas.{all_has, first_among}
use Rattle.graph_order.specs.Edges.{Entries, IsModule, Edge}
use Rattle.graph_order.specs.Order.{IsUpTo}
use Rattle.graph_order.proofs.TransferLemmas.{Naming, at, Within, target_within, has-name, chain_to, chain_back}
use Rattle.graph_groups.specs.Groups.{Reaches, AreMutual, AreAscending, first_of, IsGroup, holds, IsReady, IsLeastReady, EachAfter, AreGroups}

module _ (entries : Entries) (g : Links) (m : Naming entries g) where
  -- ---- specifiers by numbers

  names : List ℕ → List Specifier
  names ns = map m.name ns

  pub within_of : (ns : List ℕ) → ((v : ℕ) → n.has ns v ≡ true → v < length g) → Within entries g m ns
  within_of [] h = tt
  within_of (x ∷ ns) h = (
    h x (by_left (x == x) (n.has ns x) (itself x)),
    within_of ns (λ v there. h v (by_right (v == x) (n.has ns v) there)),
  )

  -- what is among names is the name of what is among numbers
  name_in : (ns : List ℕ) (s : Specifier) → has (map m.name ns) s ≡ true
      → (v : ℕ) × (n.has ns v ≡ true) × (m.name v ≡ s)
  name_in [] s h = absurd (false≢true h)
  name_in (x ∷ ns) s h = by (either (bytes_eq s (m.name x)) (has (map m.name ns) s) h) (name_in ns s)
    where
      by : (bytes_eq s (m.name x) ≡ true) ⊎ (has (map m.name ns) s ≡ true)
          → (has (map m.name ns) s ≡ true → (v : ℕ) × (n.has ns v ≡ true) × (m.name v ≡ s))
          → (v : ℕ) × (n.has (x ∷ ns) v ≡ true) × (m.name v ≡ s)
      by (inl is) on = (x, by_left (x == x) (n.has ns x) (itself x), sym (same_text s (m.name x) (sym is)))
      by (inr rest) on = let (v, there, is) = on rest in (v, by_right (v == x) (n.has ns v) there, is)

  -- a lesser number is a lesser specifier
  pub name_less : (u v : ℕ) → u < v → v < length g → slice_cmp nat_cmp (m.name u) (m.name v) ≡ Less
  name_less u v less l =
      by (slice_cmp nat_cmp (m.name u) (m.name v)) refl (m.up u v (omega (arith, less)) l)
    where
      by : (o : Ordering) → slice_cmp nat_cmp (m.name u) (m.name v) ≡ o → is_le o ≡ true → o ≡ Less
      by Less is le = refl
      by Equal is le =
          let one = m.one u v (omega (arith, less, l)) l
          (same_text (m.name u) (m.name v) (sym (sym (is_eq-slice_cmp (m.name u) (m.name v)) ∙ ap is_eq is))) in
          absurd (omega (arith, one, less))
      by Greater is le = absurd (false≢true le)

  -- and the other way round
  less_name : (u v : ℕ) → u < length g → v < length g → slice_cmp nat_cmp (m.name u) (m.name v) ≡ Less → u < v
  less_name u v k l h = by (order u v)
    where
      order : (a b : ℕ) → (a ≡ b) ⊎ ((a < b) ⊎ (b < a))
      order a b = search arith

      none : Less ≡ Greater → ⊥
      none e = absurd cc

      by : (u ≡ v) ⊎ ((u < v) ⊎ (v < u)) → u < v
      by (inl e) = absurd (false≢true
          (sym (ap is_eq (ap (λ (x : ℕ). slice_cmp nat_cmp (m.name u) (m.name x)) e ∙ h))
          ∙ is_eq-slice_cmp (m.name u) (m.name u) ∙ nat_list_eq_equiv.refl (m.name u)))
      by (inr (inl lt)) = lt
      by (inr (inr gt)) = absurd (none
          (sym h ∙ nat_list_cmp_total.antisymm (m.name u) (m.name v) ∙ ap ordering_reverse (name_less v u gt k)))

  ascending_to : (ns : List ℕ) → Within entries g m ns → n2.AreAscending ns → AreAscending (map m.name ns)
  ascending_to [] w a = tt
  ascending_to (x ∷ ns) w a = (below ns w.1 a.0, ascending_to ns w.1 a.1)
    where
      below : (ns : List ℕ) → Within entries g m ns → AllByRecursion (λ y. x < y) ns
          → AllByRecursion (λ t. slice_cmp nat_cmp (m.name x) t ≡ Less) (map m.name ns)
      below [] w a = tt
      below (y ∷ ns) w a = (name_less x y a.0 w.0, below ns w.1 a.1)

  ascending_back : (ns : List ℕ) → Within entries g m ns → AreAscending (map m.name ns) → n2.AreAscending ns
  ascending_back [] w a = tt
  ascending_back (x ∷ ns) w a = (below ns w.1 a.0, ascending_back ns w.1 a.1)
    where
      below : (ns : List ℕ) → Within entries g m ns
          → AllByRecursion (λ t. slice_cmp nat_cmp (m.name x) t ≡ Less) (map m.name ns)
          → AllByRecursion (λ y. x < y) ns
      below [] w a = tt
      below (y ∷ ns) v a = (less_name x y w.0 v.0 a.0, below ns v.1 a.1)

  -- the numbers of modules
  numbers_of : (d : List Specifier) → ((s : Specifier) → has d s ≡ true → IsModule entries s)
      → (ns : List ℕ) × (map m.name ns ≡ d) × Within entries g m ns
  numbers_of [] h = ([], refl, tt)
  numbers_of (s ∷ d) h =
      let (v, l, is) = m.node_of s (h s (by_left (bytes_eq s s) (has d s) (nat_list_eq_equiv.refl s))) in
      let (ns, all, w) = numbers_of d (λ t there. h t (by_right (bytes_eq t s) (has d t) there)) in
      (v ∷ ns, ap (λ (x : Specifier). x ∷ map m.name ns) is ∙ ap (λ (xs : List Specifier). s ∷ xs) all, (l, w))

  -- ---- mutual reachability

  reach_to : (u v : ℕ) → n2.Reaches g u v → Reaches entries (m.name u) (m.name v)
  reach_to u v r = record { path = map (at entries g m) r.path; leads = chain_to entries g m u v r.path r.leads }

  reach_back : (u : ℕ) (t : Specifier) → u < length g → Reaches entries (m.name u) t
      → (w : ℕ) × (m.name w ≡ t) × (w < length g) × n2.Reaches g u w
  reach_back u t l r =
      let (links, w, all, is, wl, chain) = chain_back entries g m u t r.path l r.leads in
      (w, is, wl, record { path = links; leads = chain })

  mutual_to : (u v : ℕ) → n2.AreMutual g u v → AreMutual entries (m.name u) (m.name v)
  mutual_to u v r = record { there = reach_to u v r.there; back = reach_to v u r.back }

  mutual_from : (u : ℕ) (t : Specifier) → u < length g → AreMutual entries (m.name u) t
      → (w : ℕ) × (m.name w ≡ t) × (w < length g) × n2.AreMutual g u w
  mutual_from u t l r =
      let (w, is, wl, there) = reach_back u t l r.there in
      let (x, x_is, xl, back) = reach_back w (m.name u) wl
      (subst (λ (s : Specifier). Reaches entries s (m.name u)) (sym is) r.back) in (
        w,
        is,
        wl,
        record { there = there; back = subst (λ (y : ℕ). n2.Reaches g w y) (m.one x u xl l x_is) back },
      )

  -- ---- each group

  group_to : (ns : List ℕ) → n2.IsComponent g ns → IsGroup entries (map m.name ns)
  group_to ns i = record {
    some = λ none. i.some (sym (length-map ns m.name) ∙ none);
    ascending = ascending_to ns w i.ascending;
    modules = λ s h. let (v, there, is) = name_in ns s h in subst (IsModule entries) is (m.node v (i.nodes v there));
    whole = λ s t h. (λ k. to s t h k, λ k. from s t h k);
  }
    where
      w : Within entries g m ns
      w = within_of ns i.nodes

      to : (s t : Specifier) → has (map m.name ns) s ≡ true → has (map m.name ns) t ≡ true → AreMutual entries s t
      to s t h k =
          let (u, u_in, u_is) = name_in ns s h in
          let (v, v_in, v_is) = name_in ns t k in
          subst (λ (x : Specifier). AreMutual entries x t) u_is
          (subst (λ (x : Specifier). AreMutual entries (m.name u) x) v_is (mutual_to u v ((i.whole u v u_in).0 v_in)))

      from : (s t : Specifier) → has (map m.name ns) s ≡ true → AreMutual entries s t → has (map m.name ns) t ≡ true
      from s t h k =
          let (u, u_in, u_is) = name_in ns s h in
          let (v, v_is, vl, r) = mutual_from u t (i.nodes u u_in)
          (subst (λ (x : Specifier). AreMutual entries x t) (sym u_is) k) in
          subst (λ (x : Specifier). has (map m.name ns) x ≡ true) v_is
          (has-name entries g m ns v w vl ∙ (i.whole u v u_in).1 r)

  group_back : (ns : List ℕ) → Within entries g m ns → IsGroup entries (map m.name ns) → n2.IsComponent g ns
  group_back ns w i = record {
    some = λ none. i.some (length-map ns m.name ∙ none);
    ascending = ascending_back ns w i.ascending;
    nodes = node;
    whole = λ u v h. (λ k. to u v h k, λ k. from u v h k);
  }
    where
      node : (v : ℕ) → n.has ns v ≡ true → v < length g
      node v h = all_has (λ x. x < length g) ns v w h

      there : (v : ℕ) → v < length g → n.has ns v ≡ true → has (map m.name ns) (m.name v) ≡ true
      there v l h = has-name entries g m ns v w l ∙ h

      to : (u v : ℕ) → n.has ns u ≡ true → n.has ns v ≡ true → n2.AreMutual g u v
      to u v h k =
          let (x, is, xl, r) = mutual_from u (m.name v) (node u h)
          ((i.whole (m.name u) (m.name v) (there u (node u h) h)).0 (there v (node v k) k)) in
          subst (λ (y : ℕ). n2.AreMutual g u y) (m.one x v xl (node v k) is) r

      from : (u v : ℕ) → n.has ns u ≡ true → n2.AreMutual g u v → n.has ns v ≡ true
      from u v h k =
          let l = reached u v (node u h) k.there.path k.there.leads in
          sym (has-name entries g m ns v w l)
          ∙ (i.whole (m.name u) (m.name v) (there u (node u h) h)).1 (mutual_to u v k)
        where
          reached : (u v : ℕ) → u < length g → (path : List Link) → n.IsChain g u path v → v < length g
          reached u v l [] c = subst (λ (x : ℕ). x < length g) c l
          reached u v l (e ∷ path) c = reached (n.target g e) v (target_within entries g m e.0 e.1 c.1) path c.2

  -- ---- their order

  abbrev pub WithinEach : List (List ℕ) → Type 0
  WithinEach cs = AllByRecursion (Within entries g m) cs

  pub within_push : (cs : List (List ℕ)) (c : List ℕ) → WithinEach cs → Within entries g m c → WithinEach (cs ++ c ∷ [])
  within_push [] c w h = (h, tt)
  within_push (d ∷ cs) c w h = (w.0, within_push cs c w.1 h)

  pub holds-name : (cs : List (List ℕ)) (v : ℕ) → WithinEach cs → v < length g
      → holds (map (map m.name) cs) (m.name v) ≡ n2.holds cs v
  holds-name [] v w l = refl
  holds-name (c ∷ cs) v w l =
      ap (λ b. b || holds (map (map m.name) cs) (m.name v)) (has-name entries g m c v w.0 l)
      ∙ ap (λ b. n.has c v || b) (holds-name cs v w.1 l)

  pub ready_to : (front : List (List ℕ)) (c : List ℕ) → WithinEach front → n2.IsReady g front c
      → IsReady entries (map (map m.name) front) (map m.name c)
  ready_to front c w i = record {
    group = group_to c i.component;
    open_yet = λ s h. let (v, there, is) = name_in c s h in
        subst (λ (x : Specifier). holds (map (map m.name) front) x ≡ false) is
        (holds-name front v w (i.component.nodes v there) ∙ i.open_yet v there);
    after = λ e edge h. after e h (m.edge_of e edge);
  }
    where
      wc : Within entries g m c
      wc = within_of c i.component.nodes

      after : (e : Edge) → has (map m.name c) e.from ≡ true
          → (v : ℕ) × (k : ℕ) × (k < length (links_of g v))
          × (e ≡ record { from = m.name v; place = m.place v k; to = m.name (slice_index (links_of g v) k) })
          → (has (map m.name c) e.to || holds (map (map m.name) front) e.to) ≡ true
      after e h (v, k, l, same) =
          let t = slice_index (links_of g v) k in
          let tl = target_within entries g m v k l in
          let member = sym (has-name entries g m c v wc (link_node g v k l))
          ∙ ap (has (map m.name c)) (sym (ap (λ (x : Edge). x.from) same)) ∙ h in
          subst (λ (x : Specifier). (has (map m.name c) x || holds (map (map m.name) front) x) ≡ true)
          (sym (ap (λ (x : Edge). x.to) same))
          (ap (λ b. b || holds (map (map m.name) front) (m.name t)) (has-name entries g m c t wc tl)
          ∙ ap (λ b. n.has c t || b) (holds-name front t w tl)
          ∙ i.after v t member (has_at (links_of g v) k l))

  pub ready_back : (front : List (List ℕ)) (d : List Specifier) → WithinEach front
      → IsReady entries (map (map m.name) front) d
      → (ns : List ℕ) × (map m.name ns ≡ d) × n2.IsReady g front ns
  ready_back front d w i =
      let (ns, all, wn) = numbers_of d i.group.modules in
      (ns, all, back ns wn (subst (IsReady entries (map (map m.name) front)) (sym all) i))
    where
      back : (ns : List ℕ) → Within entries g m ns → IsReady entries (map (map m.name) front) (map m.name ns)
          → n2.IsReady g front ns
      back ns wn i = record {
        component = c;
        open_yet = λ v h.
            sym (holds-name front v w (c.nodes v h))
            ∙ i.open_yet (m.name v) (has-name entries g m ns v wn (c.nodes v h) ∙ h);
        after = λ v t h link. after v t h (place_in (links_of g v) t link);
      }
        where
          c : n2.IsComponent g ns
          c = group_back ns wn i.group

          after : (v t : ℕ) → n.has ns v ≡ true
              → (k : ℕ) × (k < length (links_of g v)) × (slice_index (links_of g v) k ≡ t)
              → (n.has ns t || n2.holds front t) ≡ true
          after v t h (k, l, is) =
              let tl = subst (λ (x : ℕ). x < length g) is (target_within entries g m v k l) in
              sym (ap (λ b. b || holds (map (map m.name) front) (m.name t)) (has-name entries g m ns t wn tl)
              ∙ ap (λ b. n.has ns t || b) (holds-name front t w tl))
              ∙ subst (λ (x : ℕ). (has (map m.name ns) (m.name x) || holds (map (map m.name) front) (m.name x)) ≡ true)
              is
              (i.after (at entries g m (v, k)) (m.edge v k l) (has-name entries g m ns v wn (c.nodes v h) ∙ h))

  pub first_name : (ns : List ℕ) → (length ns ≡ 0 → ⊥) → first_of (map m.name ns) ≡ m.name (n2.first_of ns)
  first_name [] some = absurd (some refl)
  first_name (x ∷ ns) some = refl

  least_to : (front : List (List ℕ)) (c : List ℕ) → WithinEach front → n2.IsLeastReady g front c
      → IsLeastReady entries (map (map m.name) front) (map m.name c)
  least_to front c w i = record {
    ready = ready_to front c w i.ready;
    least = λ d also.
        let (ns, all, r) = ready_back front d w also in
        subst (λ (x : List Specifier). IsUpTo (first_of (map m.name c)) (first_of x)) all
        (subst (λ (x : Specifier). IsUpTo x (first_of (map m.name ns))) (sym (first_name c i.ready.component.some))
        (subst (λ (x : Specifier). IsUpTo (m.name (n2.first_of c)) x) (sym (first_name ns r.component.some))
        (m.up (n2.first_of c) (n2.first_of ns) (i.least ns r)
        (r.component.nodes (n2.first_of ns) (first_among ns r.component.some)))));
  }

  each_to : (front list : List (List ℕ)) → WithinEach front → n2.EachAfter (n2.IsLeastReady g) front list
      → EachAfter (IsLeastReady entries) (map (map m.name) front) (map (map m.name) list)
  each_to front [] w h = tt
  each_to front (c ∷ list) w h = (
    least_to front c w h.0,
    subst (λ (fs : List (List Specifier)). EachAfter (IsLeastReady entries) fs (map (map m.name) list))
        (map-append (map m.name) front (c ∷ []))
        (each_to (front ++ c ∷ []) list
        (within_push front c w (within_of c h.0.ready.component.nodes)) h.1),
  )

  -- all members are nodes
  pub each_within : (front list : List (List ℕ)) → n2.EachAfter (n2.IsLeastReady g) front list → WithinEach list
  each_within front [] h = tt
  each_within front (c ∷ list) h =
      (within_of c h.0.ready.component.nodes, each_within (front ++ c ∷ []) list h.1)

  pub groups_to : (list : List (List ℕ)) → n2.AreComponents g list → AreGroups entries (map (map m.name) list)
  groups_to list i = record {
    all = λ s there. let (v, l, is) = m.node_of s there in
        subst (λ (x : Specifier). holds (map (map m.name) list) x ≡ true) is
        (holds-name list v (each_within [] list i.each) l ∙ i.all v l);
    each = each_to [] list tt i.each;
  }
