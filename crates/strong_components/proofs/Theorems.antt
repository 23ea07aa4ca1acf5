-- There is one list of components in order; without cycles it is the least topological order.
use Rattle.std.proofs.Common.{◌≡◌, ◌≤◌, ◌<◌, ◌⊎◌, inl, inr, ℕ, Bool, true, false, List, [], ◌∷◌, ◌++◌, length, map, refl, sym, ◌∙◌, ap, subst, arith}
use Rattle.std.specs.Prelude.{◌||◌, ◌==◌, slice_index}
use Rattle.std.specs.List.{AllByRecursion}
use Rattle.std.proofs.lemmas.Bool.{false≢true}
use Rattle.std.proofs.lemmas.Bool.Decides.{Decides-eqb}
use Rattle.topological_order.specs.Order.{Links, Link, links_of, has, AreWithin, target, IsChain, EachBehind, IsFree, IsLeastFree, IsOrder, IsLeastOrder, IsCycle}
use Rattle.topological_order.proofs.OrderLemmas.{has-push, all_from}
use Rattle.topological_order.proofs.Theorems.{order_or_cycle}
use Rattle.strong_components.specs.Components.{Reaches, AreMutual, AreAscending, first_of, IsComponent, holds, IsReady, IsLeastReady, EachAfter, AreComponents}
use Rattle.strong_components.proofs.BasicLemmas.{same, itself, either, by_left, by_right, or_false, alike, has_at, reaches_on, mutual_self}
use Rattle.strong_components.proofs.MemberLemmas.{all_has, first_least, first_among}

-- ---- one list

-- lists that ascend and have the same numbers are one
same_lists : (xs ys : List ℕ) → AreAscending xs → AreAscending ys → ((v : ℕ) → has xs v ≡ has ys v) → xs ≡ ys
same_lists [] [] a b h = refl
same_lists [] (y ∷ ys) a b h = absurd (false≢true (h y ∙ by_left (y == y) (has ys y) (itself y)))
same_lists (x ∷ xs) [] a b h = absurd (false≢true (sym (h x) ∙ by_left (x == x) (has xs x) (itself x)))
same_lists (x ∷ xs) (y ∷ ys) a b h = joined (same_lists xs ys a.1 b.1 rest)
  where
    one : x ≡ y
    one =
        let up : x ≤ y = first_least (x ∷ xs) y a (h y ∙ by_left (y == y) (has ys y) (itself y)) in
        let down : y ≤ x = first_least (y ∷ ys) x b (sym (h x) ∙ by_left (x == x) (has xs x) (itself x)) in
        omega (arith, up, down)

    joined : xs ≡ ys → x ∷ xs ≡ y ∷ ys
    joined is = ap (λ (z : ℕ). z ∷ xs) one ∙ ap (λ (zs : List ℕ). y ∷ zs) is

    -- the first one isn't among those after it
    gone : (z : ℕ) (zs : List ℕ) → AllByRecursion (λ w. z < w) zs → (c : Bool) → has zs z ≡ c → c ≡ false
    gone z zs all true is = absurd (let less = all_has (λ w. z < w) zs z all is in omega (arith, less))
    gone z zs all false is = refl

    rest : (v : ℕ) → has xs v ≡ has ys v
    rest v = by (v == x) refl (v == y) refl (h v)
      where
        by : (p : Bool) → (v == x) ≡ p → (q : Bool) → (v == y) ≡ q → (p || has xs v) ≡ (q || has ys v)
            → has xs v ≡ has ys v
        by false e false f k = k
        by true e q f k =
            ap (has xs) (same v x e) ∙ gone x xs a.0 (has xs x) refl
            ∙ sym (ap (has ys) (same v x e ∙ one) ∙ gone y ys b.0 (has ys y) refl)
        by false e true f k =
            ap (has xs) (same v y f ∙ sym one) ∙ gone x xs a.0 (has xs x) refl
            ∙ sym (ap (has ys) (same v y f) ∙ gone y ys b.0 (has ys y) refl)

module _ (g : Links) where
  -- components with one member in common are one
  same_component : (c d : List ℕ) (u : ℕ) → IsComponent g c → IsComponent g d → has c u ≡ true → has d u ≡ true → c ≡ d
  same_component c d u i j in_c in_d = same_lists c d i.ascending j.ascending (λ v. alike (has c v) (has d v)
      (λ h. (j.whole u v in_d).1 ((i.whole u v in_c).0 h)) (λ h. (i.whole u v in_c).1 ((j.whole u v in_d).0 h)))

  first_node : (c : List ℕ) → IsComponent g c → first_of c < length g
  first_node c i = i.nodes (first_of c) (first_among c i.some)

  holds_none : (front : List (List ℕ)) (u : ℕ) → holds (front ++ []) u ≡ holds front u
  holds_none [] u = refl
  holds_none (c ∷ front) u = ap (λ b. has c u || b) (holds_none front u)

  holds_moved : (front : List (List ℕ)) (c : List ℕ) (rest : List (List ℕ)) (u : ℕ)
      → holds (front ++ c ∷ rest) u ≡ holds ((front ++ c ∷ []) ++ rest) u
  holds_moved [] c rest u = refl
  holds_moved (d ∷ front) c rest u = ap (λ b. has d u || b) (holds_moved front c rest u)

  -- each node is in one of these
  abbrev Whole : List (List ℕ) → Type 0
  Whole list = (v : ℕ) → v < length g → holds list v ≡ true

  same_rest : (front a b : List (List ℕ)) → EachAfter (IsLeastReady g) front a → EachAfter (IsLeastReady g) front b
      → Whole (front ++ a) → Whole (front ++ b) → a ≡ b
  same_rest front [] [] i j whole_a whole_b = refl
  same_rest front [] (d ∷ b) i j whole_a whole_b =
      absurd (none front d j.0.ready whole_a)
    where
      none : (front : List (List ℕ)) (d : List ℕ) → IsReady g front d → Whole (front ++ []) → ⊥
      none front d r whole = false≢true
          (sym (r.open_yet (first_of d) (first_among d r.component.some))
          ∙ sym (holds_none front (first_of d)) ∙ whole (first_of d) (first_node d r.component))
  same_rest front (c ∷ a) [] i j whole_a whole_b =
      absurd (none front c i.0.ready whole_b)
    where
      none : (front : List (List ℕ)) (d : List ℕ) → IsReady g front d → Whole (front ++ []) → ⊥
      none front d r whole = false≢true
          (sym (r.open_yet (first_of d) (first_among d r.component.some))
          ∙ sym (holds_none front (first_of d)) ∙ whole (first_of d) (first_node d r.component))
  same_rest front (c ∷ a) (d ∷ b) i j whole_a whole_b =
      joined (same_rest (front ++ c ∷ []) a b i.1
      (subst (λ (x : List ℕ). EachAfter (IsLeastReady g) (front ++ x ∷ []) b) (sym one) j.1)
      (λ v l. sym (holds_moved front c a v) ∙ whole_a v l)
      (λ v l. sym (holds_moved front c b v)
      ∙ subst (λ (x : List ℕ). holds (front ++ x ∷ b) v ≡ true) (sym one) (whole_b v l)))
    where
      one : c ≡ d
      one =
          let up : first_of c ≤ first_of d = i.0.least d j.0.ready in
          let down : first_of d ≤ first_of c = j.0.least c i.0.ready in
          let eq : first_of c ≡ first_of d = omega (arith, up, down) in
          same_component c d (first_of c) i.0.ready.component j.0.ready.component
          (first_among c i.0.ready.component.some)
          (subst (λ (x : ℕ). has d x ≡ true) (sym eq) (first_among d j.0.ready.component.some))

      joined : a ≡ b → c ∷ a ≡ d ∷ b
      joined is = ap (λ (x : List ℕ). x ∷ a) one ∙ ap (λ (xs : List (List ℕ)). d ∷ xs) is

  -- there is only one list of components in order
  pub only_one : (a b : List (List ℕ)) → AreComponents g a → AreComponents g b → a ≡ b
  only_one a b i j = same_rest [] a b i.each j.each i.all j.all

  -- ---- without cycles

  -- a component of one node
  abbrev pub single : ℕ → List ℕ
  single v = v ∷ []

  -- these nodes' links lead to them
  abbrev Closed : List ℕ → Type 0
  Closed front = (v t : ℕ) → has front v ≡ true → has (links_of g v) t ≡ true → has front t ≡ true

  closed_more : (front : List ℕ) (v : ℕ) → Closed front → IsFree g front v → Closed (front ++ v ∷ [])
  closed_more front v closed f u t h link =
      has-push front v t ∙ by_left (has front t) (t == v)
      (there (either (has front u) (u == v) (sym (has-push front v u) ∙ h)))
    where
      there : (has front u ≡ true) ⊎ ((u == v) ≡ true) → has front t ≡ true
      there (inl before) = closed u t before link
      there (inr is) =
          all_has (λ x. has front x ≡ true) (links_of g v) t f.placed
          (subst (λ (x : ℕ). has (links_of g x) t ≡ true) (same u v is) link)

  -- a node of an order is free behind nodes whose links lead to them
  placed : (front list : List ℕ) → Closed front → EachBehind (IsFree g) front list → (v : ℕ) → has list v ≡ true
      → (before : List ℕ) × Closed before × IsFree g before v
  placed front [] closed h v there = absurd (false≢true there)
  placed front (x ∷ list) closed h v there =
      by (either (v == x) (has list v) there)
      (placed (front ++ x ∷ []) list (closed_more front x closed h.0) h.1 v)
    where
      by : ((v == x) ≡ true) ⊎ (has list v ≡ true)
          → (has list v ≡ true → (before : List ℕ) × Closed before × IsFree g before v)
          → (before : List ℕ) × Closed before × IsFree g before v
      by (inl is) on = (front, closed, subst (λ (y : ℕ). IsFree g front y) (sym (same v x is)) h.0)
      by (inr rest) on = on rest

  closed_chain : (front : List ℕ) → Closed front → (v w : ℕ) (path : List Link) → IsChain g v path w
      → has front v ≡ true → has front w ≡ true
  closed_chain front closed v w [] h there = subst (λ (x : ℕ). has front x ≡ true) h there
  closed_chain front closed v w (e ∷ path) h there =
      closed_chain front closed (target g e) w path h.2
      (closed e.0 (target g e) (subst (λ (x : ℕ). has front x ≡ true) (sym h.0) there)
      (has_at (links_of g e.0) e.1 h.1))

  -- where there is an order, no link's target reaches its node
  no_round : (list : List ℕ) → IsOrder g list → (v t : ℕ) → v < length g → has (links_of g v) t ≡ true → Reaches g t v
      → ⊥
  no_round list o v t l link r =
      let (before, closed, f) = placed [] list (λ u w h k. absurd (false≢true h)) o.each v (o.all v l) in
      false≢true (sym f.open_yet
      ∙ closed_chain before closed t v r.path r.leads
      (all_has (λ x. has before x ≡ true) (links_of g v) t f.placed link))

  -- and nodes that reach each other are one
  mutual_one : (list : List ℕ) → IsOrder g list → (v w : ℕ) → v < length g → AreMutual g v w → w ≡ v
  mutual_one list o v w l m = by m.there.path m.there.leads
    where
      by : (path : List Link) → IsChain g v path w → w ≡ v
      by [] h = sym h
      by (e ∷ path) h = absurd (no_round list o v (target g e) l
          (subst (λ (x : ℕ). has (links_of g x) (target g e) ≡ true) h.0 (has_at (links_of g e.0) e.1 h.1))
          (reaches_on g (target g e) w v (record { path = path; leads = h.2 }) m.back))

  of_single : (list : List ℕ) → IsOrder g list → (v : ℕ) → v < length g → IsComponent g (single v)
  of_single list o v l = record {
    some = λ none. absurd (omega (arith, none));
    ascending = (tt, tt);
    nodes = λ u h. subst (λ (x : ℕ). x < length g) (sym (is u h)) l;
    whole = λ u w h. (
      λ k. subst (λ (x : ℕ). AreMutual g x w) (sym (is u h))
          (subst (λ (x : ℕ). AreMutual g v x) (sym (is w k)) (mutual_self g v)),
      λ m. by_left (w == v) false ((Decides-eqb w v).1
          (mutual_one list o v w l (subst (λ (x : ℕ). AreMutual g x w) (is u h) m))),
    );
  }
    where
      is : (u : ℕ) → has (single v) u ≡ true → u ≡ v
      is u h = same u v (sym (or_false (u == v)) ∙ h)

  holds_single : (front : List ℕ) (v : ℕ) → holds (map single front) v ≡ has front v
  holds_single [] v = refl
  holds_single (x ∷ front) v =
      ap (λ b. b || holds (map single front) v) (or_false (v == x)) ∙ ap (λ b. v == x || b) (holds_single front v)

  map_push : (front : List ℕ) (v : ℕ) → map single (front ++ v ∷ []) ≡ map single front ++ single v ∷ []
  map_push [] v = refl
  map_push (x ∷ front) v = ap (λ (cs : List (List ℕ)). single x ∷ cs) (map_push front v)

  -- the least member of a component that may come next is free
  freed : (list : List ℕ) → IsOrder g list → (front : List ℕ) (d : List ℕ) → IsReady g (map single front) d
      → IsFree g front (first_of d)
  freed list o front d i = record {
    node = first_node d i.component;
    open_yet = sym (holds_single front u) ∙ i.open_yet u among;
    placed = all_from (λ t. has front t ≡ true) (links_of g u)
        (λ k l. before (slice_index (links_of g u) k) (has_at (links_of g u) k l));
  }
    where
      u : ℕ
      u = first_of d

      among : has d u ≡ true
      among = first_among d i.component.some

      before : (t : ℕ) → has (links_of g u) t ≡ true → has front t ≡ true
      before t link = by (either (has d t) (holds (map single front) t) (i.after u t among link))
        where
          by : (has d t ≡ true) ⊎ (holds (map single front) t ≡ true) → has front t ≡ true
          by (inl inside) =
              absurd (no_round list o u t (first_node d i.component) link ((i.component.whole u t among).0 inside).back)
          by (inr there) = sym (holds_single front t) ∙ there

  each_single : (all : List ℕ) → IsOrder g all → (front list : List ℕ) → EachBehind (IsLeastFree g) front list
      → EachAfter (IsLeastReady g) (map single front) (map single list)
  each_single all o front [] h = tt
  each_single all o front (v ∷ list) h = (
    record {
      ready = record {
        component = of_single all o v h.0.free.node;
        open_yet = λ u k. holds_single front u ∙ ap (has front) (is u k) ∙ h.0.free.open_yet;
        after = λ u t k link. by_right (has (single v) t) (holds (map single front) t)
            (holds_single front t
            ∙ all_has (λ x. has front x ≡ true) (links_of g v) t h.0.free.placed
            (subst (λ (x : ℕ). has (links_of g x) t ≡ true) (is u k) link));
      };
      least = λ d i. h.0.least (first_of d) (freed all o front d i);
    },
    subst (λ (cs : List (List ℕ)). EachAfter (IsLeastReady g) cs (map single list)) (map_push front v)
        (each_single all o (front ++ v ∷ []) list h.1),
  )
    where
      is : (u : ℕ) → has (single v) u ≡ true → u ≡ v
      is u h = same u v (sym (or_false (u == v)) ∙ h)

  -- where there is a least order, its nodes are the components, in its order
  pub of_order : (list : List ℕ) → IsLeastOrder g list → AreComponents g (map single list)
  of_order list o = record {
    all = λ v l. holds_single list v ∙ o.order.all v l;
    each = each_single list o.order [] list o.least;
  }

  -- without cycles the components in order are the nodes in the least order
  pub without_cycles : AreWithin g → ((cycle : List Link) → IsCycle g cycle → ⊥) → (found : List (List ℕ))
      → AreComponents g found → (list : List ℕ) × IsLeastOrder g list × (found ≡ map single list)
  without_cycles within none found i = by (order_or_cycle g within)
    where
      by : ((list : List ℕ) × IsLeastOrder g list) ⊎ ((cycle : List Link) × IsCycle g cycle)
          → (list : List ℕ) × IsLeastOrder g list × (found ≡ map single list)
      by (inl (list, o)) = (list, o, only_one found (map single list) i (of_order list o))
      by (inr (cycle, h)) = absurd (none cycle h)
