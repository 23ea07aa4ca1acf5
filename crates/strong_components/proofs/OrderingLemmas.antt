-- The links between components, and the order that they give.
use Rattle.std.proofs.Common.{zero, suc, ◌≡◌, ◌≢◌, ◌≤◌, ◌<◌, ◌+◌, ◌⊎◌, inl, inr, ℕ, Bool, true, false, cond, List, [], ◌∷◌, ◌++◌, length, drop, add-one, append_assoc, refl, sym, ◌∙◌, ap, subst, arith, Result, Ok, Err, IfOk}
use Rattle.std.specs.Prelude.{◌||◌, ◌==◌, slice_index}
use Rattle.std.proofs.lemmas.Bool.{false≢true}
use Rattle.std.proofs.lemmas.Bool.Decides.{Decides-eqb}
use Rattle.topological_order.specs.Order.{Links, Link, links_of, has, AreWithin, target, IsChain, EachBehind, IsFree, IsLeastFree, IsLeastOrder, IsCycle}
use Rattle.topological_order.proofs.OrderLemmas.{has-push, all_from}
use Rattle.strong_components.specs.Components.{Reaches, AreMutual, first_of, IsComponent, holds, IsReady, IsLeastReady, EachAfter, AreComponents}
use Rattle.strong_components.specs.Gather.{AreRoots}
use Rattle.strong_components.specs.Condensed.{AreMembers, AreLeast, IsJoin, IsJoined, AreJoined, picked}
use Rattle.strong_components.proofs.BasicLemmas.{same, differ, either, by_left, by_right, or_false, or_assoc, alike, place_in, has_at, reaches_self, reaches_on, reaches_link, mutual_back, mutual_node}
use Rattle.strong_components.proofs.MemberLemmas.{all_has, first_least, first_among, last_or, members, member_self, is_component}

-- ---- links between components

pub joined_begun : (g : Links) (least : List ℕ) (lists : Links) → length lists ≡ length g
    → ((u : ℕ) → links_of lists u ≡ []) → AreJoined g least lists 0
joined_begun g least lists len none = record {
  len = len;
  added = λ v t l. absurd (omega (arith, l));
  sound = λ u w h. absurd (false≢true (subst (λ (xs : List ℕ). has xs w ≡ true) (none u) h));
}

-- those of one node more
pub joined_more : (g : Links) (least : List ℕ) (n : ℕ) (old new : Links) (targets : List ℕ) (from : ℕ)
    → targets ≡ links_of g n → from ≡ slice_index least n → AreJoined g least old n
    → length new ≡ length old
    → ((u w : ℕ) → has (links_of old u) w ≡ true → has (links_of new u) w ≡ true)
    → ((k : ℕ) → k < length targets → slice_index least (slice_index targets k) ≢ from
    → has (links_of new from) (slice_index least (slice_index targets k)) ≡ true)
    → ((u w : ℕ) → has (links_of new u) w ≡ true → (has (links_of old u) w ≡ true) ⊎ IsJoin least from targets u w)
    → AreJoined g least new (n + 1)
joined_more g least n old new targets from targets_is from_is j len kept added sound = record {
  len = len ∙ j.len;
  added = λ v t l link other. added_at v t link other (last_or v n (omega (arith, l)));
  sound = λ u w h. sound_at u w (sound u w h);
}
  where
    here : (t : ℕ) → has targets t ≡ true → slice_index least t ≢ from
        → has (links_of new from) (slice_index least t) ≡ true
    here t link other =
        let (k, l, at) = place_in targets t link in
        subst (λ (x : ℕ). has (links_of new from) (slice_index least x) ≡ true) at
        (added k l (subst (λ (x : ℕ). slice_index least x ≢ from) (sym at) other))

    added_at : (v t : ℕ) → has (links_of g v) t ≡ true → slice_index least t ≢ slice_index least v → (v ≡ n) ⊎ (v < n)
        → has (links_of new (slice_index least v)) (slice_index least t) ≡ true
    added_at v t link other (inl is) =
        let eq : slice_index least v ≡ from = ap (slice_index least) is ∙ sym from_is in
        subst (λ (x : ℕ). has (links_of new x) (slice_index least t) ≡ true) (sym eq)
        (here t (subst (λ (xs : List ℕ). has xs t ≡ true) (ap (links_of g) is ∙ sym targets_is) link)
        (subst (λ (x : ℕ). slice_index least t ≢ x) eq other))
    added_at v t link other (inr less) =
        kept (slice_index least v) (slice_index least t) (j.added v t less link other)

    sound_at : (u w : ℕ) → (has (links_of old u) w ≡ true) ⊎ IsJoin least from targets u w
        → IsJoined g least (n + 1) u w
    sound_at u w (inl h) =
        let i = j.sound u w h in
        record { node = i.node; below = let less : i.node < n = i.below in omega (arith, less); join = i.join }
    sound_at u w (inr i) = record {
      node = n;
      below = omega arith;
      join = subst (λ (ts : List ℕ). IsJoin least (slice_index least n) ts u w) targets_is
          (subst (λ (x : ℕ). IsJoin least x targets u w) from_is i);
    }

-- ---- there is no cycle among components

module _ (g joined : Links) (least : List ℕ) (within : AreWithin g) (q : AreLeast g least)
    (j : AreJoined g least joined (length g)) where
  target_node : (v t : ℕ) → has (links_of g v) t ≡ true → t < length g
  target_node v t link = all_has (λ x. x < length g) (links_of g v) t (within v) link

  pub least_node : (v : ℕ) → v < length g → slice_index least v < length g
  least_node v l = mutual_node g v (slice_index least v) within l (q.of_least v l)

  -- a least member is its own
  pub least_self : (v : ℕ) → v < length g → slice_index least (slice_index least v) ≡ slice_index least v
  least_self v l = sym (q.same v (slice_index least v) l (least_node v l) (q.of_least v l))

  join_reaches : (u w : ℕ) → has (links_of joined u) w ≡ true → Reaches g u w
  join_reaches u w h =
      let i = j.sound u w h in
      let t = i.join.target in
      reaches_on g u i.node w
      (subst (λ (x : ℕ). Reaches g x i.node) (sym i.join.from_is) (q.of_least i.node i.below).back)
      (reaches_on g i.node t w (reaches_link g i.node t i.join.among)
      (subst (λ (x : ℕ). Reaches g t x) i.join.to_is (q.of_least t (target_node i.node t i.join.among)).there))

  chain_reaches : (u w : ℕ) (path : List Link) → IsChain joined u path w → Reaches g u w
  chain_reaches u w [] h = subst (λ (x : ℕ). Reaches g u x) h (reaches_self g u)
  chain_reaches u w (e ∷ path) h =
      subst (λ (x : ℕ). Reaches g x w) h.0
      (reaches_on g e.0 (target joined e) w
      (join_reaches e.0 (target joined e) (has_at (links_of joined e.0) e.1 h.1))
      (chain_reaches (target joined e) w path h.2))

  pub no_cycle : (cycle : List Link) → IsCycle joined cycle → ⊥
  no_cycle [] h = h
  no_cycle (e ∷ rest) h = i.join.other (sym (from ∙ met ∙ to) ∙ i.join.from_is)
    where
      link : has (links_of joined e.0) (target joined e) ≡ true
      link = has_at (links_of joined e.0) e.1 h.0.1

      i : IsJoined g least (length g) e.0 (target joined e)
      i = j.sound e.0 (target joined e) link

      -- both are least members
      from : e.0 ≡ slice_index least e.0
      from = i.join.from_is ∙ sym (least_self i.node i.below) ∙ ap (slice_index least) (sym i.join.from_is)

      there : i.join.target < length g
      there = target_node i.node i.join.target i.join.among

      to : slice_index least (target joined e) ≡ target joined e
      to = ap (slice_index least) (sym i.join.to_is) ∙ least_self i.join.target there ∙ i.join.to_is

      from_node : e.0 < length g
      from_node = subst (λ (x : ℕ). x < length g) (sym i.join.from_is) (least_node i.node i.below)

      to_node : target joined e < length g
      to_node = subst (λ (x : ℕ). x < length g) i.join.to_is (least_node i.join.target there)

      met : slice_index least e.0 ≡ slice_index least (target joined e)
      met = q.same e.0 (target joined e) from_node to_node (record {
        there = join_reaches e.0 (target joined e) link;
        back = chain_reaches (target joined e) e.0 rest h.0.2;
      })

-- ---- the order of components

pub each_node : (g : Links) (front list : List ℕ) → EachBehind (IsFree g) front list → (v : ℕ) → has list v ≡ true
    → v < length g
each_node g front [] h v there = absurd (false≢true there)
each_node g front (x ∷ list) h v there =
    by (either (v == x) (has list v) there) (each_node g (front ++ x ∷ []) list h.1 v)
  where
    by : ((v == x) ≡ true) ⊎ (has list v ≡ true) → (has list v ≡ true → v < length g) → v < length g
    by (inl is) on = subst (λ (y : ℕ). y < length g) (sym (same v x is)) h.0.node
    by (inr rest) on = on rest

pub holds-push : (cs : List (List ℕ)) (c : List ℕ) (u : ℕ) → holds (cs ++ c ∷ []) u ≡ (holds cs u || has c u)
holds-push [] c u = or_false (has c u)
holds-push (d ∷ cs) c u = ap (λ b. has d u || b) (holds-push cs c u) ∙ sym (or_assoc (has d u) (holds cs u) (has c u))

module _ (g : Links) (roots : List ℕ) (lists : Links) (least : List ℕ) (joined : Links) (within : AreWithin g)
    (r : AreRoots g roots) (m : AreMembers roots (length roots) lists) (q : AreLeast g least)
    (j : AreJoined g least joined (length g)) where
  -- the members of the component of a node
  abbrev row : ℕ → List ℕ
  row v = members g roots lists v

  of : (v : ℕ) → v < length g → IsComponent g (row v)
  of v l = is_component g roots lists within r m v l

  self : (v : ℕ) → v < length g → has (row v) v ≡ true
  self v l = member_self g roots lists r m v l

  has_same : (u v : ℕ) → u < length g → v < length g → slice_index least v ≡ v
      → has (row v) u ≡ (slice_index least u == v)
  has_same u v l k is = alike (has (row v) u) (slice_index least u == v) to from
    where
      to : has (row v) u ≡ true → (slice_index least u == v) ≡ true
      to h =
          (Decides-eqb (slice_index least u) v).1
          (sym (q.same v u k l (((of v k).whole v u (self v k)).0 h)) ∙ is)

      from : (slice_index least u == v) ≡ true → has (row v) u ≡ true
      from h =
          ((of v k).whole v u (self v k)).1
          (mutual_back g u v (subst (λ (x : ℕ). AreMutual g u x) (same (slice_index least u) v h) (q.of_least u l)))

  -- these components are those with their least members among these nodes
  abbrev Cover : List (List ℕ) → List ℕ → Type 0
  Cover cs front = (u : ℕ) → u < length g → holds cs u ≡ has front (slice_index least u)

  ready : (front : List ℕ) (cs : List (List ℕ)) (v : ℕ) → Cover cs front → v < length g → slice_index least v ≡ v
      → IsFree joined front v → IsReady g cs (row v)
  ready front cs v cover l is f = record {
    component = of v l;
    open_yet = λ u h. cover u (node u h) ∙ ap (has front) (least_is u h) ∙ f.open_yet;
    after = λ u t h link. after u t h link (slice_index least t == v) refl;
  }
    where
      node : (u : ℕ) → has (row v) u ≡ true → u < length g
      node u h = (of v l).nodes u h

      least_is : (u : ℕ) → has (row v) u ≡ true → slice_index least u ≡ v
      least_is u h = same (slice_index least u) v (sym (has_same u v (node u h) l is) ∙ h)

      after : (u t : ℕ) → has (row v) u ≡ true → has (links_of g u) t ≡ true → (b : Bool)
          → (slice_index least t == v) ≡ b → (has (row v) t || holds cs t) ≡ true
      after u t h link true eq =
          by_left (has (row v) t) (holds cs t)
          (has_same t v (all_has (λ x. x < length g) (links_of g u) t (within u) link) l is ∙ eq)
      after u t h link false eq =
          let t_node : t < length g = all_has (λ x. x < length g) (links_of g u) t (within u) link in
          by_right (has (row v) t) (holds cs t)
          (cover t t_node
          ∙ all_has (λ x. has front x ≡ true) (links_of joined v) (slice_index least t) f.placed
          (subst (λ (x : ℕ). has (links_of joined x) (slice_index least t) ≡ true) (least_is u h)
          (j.added u t (node u h) link
          (λ eq2. differ (slice_index least t) v eq (eq2 ∙ least_is u h)))))

  -- the least member of a component that may come next may come next
  freed : (front : List ℕ) (cs : List (List ℕ)) (d : List ℕ) → Cover cs front → IsReady g cs d
      → IsFree joined front (first_of d)
  freed front cs d cover i = record {
    node = rw j.len node;
    open_yet = sym (ap (has front) own) ∙ sym (cover u node) ∙ i.open_yet u among;
    placed = all_from (λ w. has front w ≡ true) (links_of joined u)
        (λ k l. placed (slice_index (links_of joined u) k) (has_at (links_of joined u) k l));
  }
    where
      u : ℕ
      u = first_of d

      among : has d u ≡ true
      among = first_among d i.component.some

      node : u < length g
      node = i.component.nodes u among

      own : slice_index least u ≡ u
      own =
          let up : u ≤ slice_index least u =
          first_least d (slice_index least u) i.component.ascending
          ((i.component.whole u (slice_index least u) among).1 (q.of_least u node)) in
          let down : slice_index least u ≤ u = q.below u node in
          omega (arith, up, down)

      placed : (w : ℕ) → has (links_of joined u) w ≡ true → has front w ≡ true
      placed w h = by (either (has d t) (holds cs t) (i.after s.node t member s.join.among))
        where
          s : IsJoined g least (length g) u w
          s = j.sound u w h

          t : ℕ
          t = s.join.target

          t_node : t < length g
          t_node = all_has (λ x. x < length g) (links_of g s.node) t (within s.node) s.join.among

          member : has d s.node ≡ true
          member =
              (i.component.whole u s.node among).1
              (mutual_back g s.node u
              (subst (λ (x : ℕ). AreMutual g s.node x) (sym s.join.from_is) (q.of_least s.node s.below)))

          by : (has d t ≡ true) ⊎ (holds cs t ≡ true) → has front w ≡ true
          by (inl inside) =
              absurd (s.join.other
              (sym s.join.to_is ∙ sym (q.same u t node t_node ((i.component.whole u t among).0 inside)) ∙ own
              ∙ s.join.from_is))
          by (inr before) =
              subst (λ (x : ℕ). has front x ≡ true) s.join.to_is (sym (cover t t_node) ∙ before)

  each_picked : (front order : List ℕ) (cs : List (List ℕ)) → Cover cs front
      → EachBehind (IsLeastFree joined) front order
      → EachAfter (IsLeastReady g) cs (picked roots least lists order)
  each_picked front [] cs cover h = tt
  each_picked front (v ∷ rest) cs cover h = by (slice_index least v == v) refl (each_picked (front ++ v ∷ []) rest)
    where
      node : v < length g
      node = subst (λ (n : ℕ). v < n) j.len h.0.free.node

      more : (slice_index least v == v) ≡ true → Cover (cs ++ row v ∷ []) (front ++ v ∷ [])
      more is u l =
          holds-push cs (row v) u
          ∙ ap (λ b. b || has (row v) u) (cover u l)
          ∙ ap (λ b. has front (slice_index least u) || b) (has_same u v l node (same (slice_index least v) v is))
          ∙ sym (has-push front v (slice_index least u))

      other : (slice_index least v == v) ≡ false → (u : ℕ) → u < length g → (b : Bool)
          → (slice_index least u == v) ≡ b → b ≡ false
      other is u l true eq =
          let e : slice_index least u ≡ v = same (slice_index least u) v eq in
          absurd (differ (slice_index least v) v is
          (ap (slice_index least) (sym e) ∙ least_self g joined least within q j u l ∙ e))
      other is u l false eq = refl

      less : (slice_index least v == v) ≡ false → Cover cs (front ++ v ∷ [])
      less is u l =
          cover u l
          ∙ sym (has-push front v (slice_index least u)
          ∙ ap (λ b. has front (slice_index least u) || b) (other is u l (slice_index least u == v) refl)
          ∙ or_false (has front (slice_index least u)))

      by : (b : Bool) → (slice_index least v == v) ≡ b
          → ((cs : List (List ℕ)) → Cover cs (front ++ v ∷ []) → EachBehind (IsLeastFree joined) (front ++ v ∷ []) rest
          → EachAfter (IsLeastReady g) cs (picked roots least lists rest))
          → EachAfter (IsLeastReady g) cs
          (cond b (row v ∷ picked roots least lists rest) (picked roots least lists rest))
      by true is on = (
        record {
          ready = ready front cs v cover node (same (slice_index least v) v is) h.0.free;
          least =
              λ d i. subst (λ (x : ℕ). x ≤ first_of d) (sym (first_is (same (slice_index least v) v is)))
              (h.0.least (first_of d) (freed front cs d cover i));
        },
        on (cs ++ row v ∷ []) (more is) h.1,
      )
        where
          first_is : slice_index least v ≡ v → first_of (row v) ≡ v
          first_is eq =
              let among : has (row v) (first_of (row v)) ≡ true = first_among (row v) (of v node).some in
              let down : first_of (row v) ≤ v = first_least (row v) v (of v node).ascending (self v node) in
              let f_node : first_of (row v) < length g = (of v node).nodes (first_of (row v)) among in
              let up : v ≤ first_of (row v) =
              subst (λ (x : ℕ). x ≤ first_of (row v))
              (same (slice_index least (first_of (row v))) v
              (sym (has_same (first_of (row v)) v f_node node eq) ∙ among))
              (q.below (first_of (row v)) f_node) in
              omega (arith, down, up)
      by false is on = on cs (less is) h.1

  all_picked : (order : List ℕ) (v : ℕ) → v < length g → has order (slice_index least v) ≡ true
      → holds (picked roots least lists order) v ≡ true
  all_picked [] v l h = absurd (false≢true h)
  all_picked (x ∷ rest) v l h =
      by (slice_index least x == x) refl (either (slice_index least v == x) (has rest (slice_index least v)) h)
      (all_picked rest v l)
    where
      by : (b : Bool) → (slice_index least x == x) ≡ b
          → ((slice_index least v == x) ≡ true) ⊎ (has rest (slice_index least v) ≡ true)
          → (has rest (slice_index least v) ≡ true → holds (picked roots least lists rest) v ≡ true)
          → holds (cond b (row x ∷ picked roots least lists rest) (picked roots least lists rest)) v ≡ true
      by true is (inl eq) on =
          by_left (has (row x) v) (holds (picked roots least lists rest) v)
          (has_same v x l
          (subst (λ (y : ℕ). y < length g) (same (slice_index least v) x eq) (least_node g joined least within q j v l))
          (same (slice_index least x) x is) ∙ eq)
      by true is (inr there) on = by_right (has (row x) v) (holds (picked roots least lists rest) v) (on there)
      by false is (inl eq) on =
          let e : slice_index least v ≡ x = same (slice_index least v) x eq in
          absurd (differ (slice_index least x) x is
          (ap (slice_index least) (sym e) ∙ least_self g joined least within q j v l ∙ e))
      by false is (inr there) on = on there

  pub components_found : (order : List ℕ) → IsLeastOrder joined order
      → AreComponents g (picked roots least lists order)
  components_found order o = record {
    all = λ v l. all_picked order v l
        (o.order.all (slice_index least v) (rw j.len (least_node g joined least within q j v l)));
    each = each_picked [] order [] (λ u l. refl) o.least;
  }

-- ---- picking

pub drop_from : (order : List ℕ) (n : ℕ) → n < length order → drop n order ≡ slice_index order n ∷ drop (suc n) order
drop_from [] n l = absurd (omega arith)
drop_from (x ∷ order) zero l = refl
drop_from (x ∷ order) (suc n) l = drop_from order n (omega arith)

picked_from : (roots least : List ℕ) (lists : Links) (order : List ℕ) (n : ℕ) → n < length order
    → picked roots least lists (drop n order)
    ≡ cond (slice_index least (slice_index order n) == slice_index order n)
    (links_of lists (slice_index roots (slice_index order n)) ∷ picked roots least lists (drop (n + 1) order))
    (picked roots least lists (drop (n + 1) order))
picked_from roots least lists order n l =
    ap (picked roots least lists) (drop_from order n l)
    ∙ ap (λ k. cond (slice_index least (slice_index order n) == slice_index order n)
    (links_of lists (slice_index roots (slice_index order n)) ∷ picked roots least lists (drop k order))
    (picked roots least lists (drop k order))) (sym (add-one n))

-- a node that is the least member of its component
pub picked_own : (roots least : List ℕ) (lists : Links) (order : List ℕ) (n : ℕ) (found : List (List ℕ))
    → n < length order → slice_index least (slice_index order n) ≡ slice_index order n
    → found ++ picked roots least lists (drop n order) ≡ picked roots least lists order
    → (found ++ links_of lists (slice_index roots (slice_index order n)) ∷ [])
    ++ picked roots least lists (drop (n + 1) order)
    ≡ picked roots least lists order
picked_own roots least lists order n found l is h =
    append_assoc found (links_of lists (slice_index roots (slice_index order n)) ∷ [])
    (picked roots least lists (drop (n + 1) order))
    ∙ ap (λ (cs : List (List ℕ)). found ++ cs)
    (sym (picked_from roots least lists order n l
    ∙ ap (λ b. cond b
    (links_of lists (slice_index roots (slice_index order n)) ∷ picked roots least lists (drop (n + 1) order))
    (picked roots least lists (drop (n + 1) order)))
    ((Decides-eqb (slice_index least (slice_index order n)) (slice_index order n)).1 is)))
    ∙ h

-- another one
pub picked_other : (roots least : List ℕ) (lists : Links) (order : List ℕ) (n : ℕ) (found : List (List ℕ))
    → n < length order → slice_index least (slice_index order n) ≢ slice_index order n
    → found ++ picked roots least lists (drop n order) ≡ picked roots least lists order
    → found ++ picked roots least lists (drop (n + 1) order) ≡ picked roots least lists order
picked_other roots least lists order n found l other h =
    ap (λ (cs : List (List ℕ)). found ++ cs)
    (sym (picked_from roots least lists order n l
    ∙ ap (λ b. cond b
    (links_of lists (slice_index roots (slice_index order n)) ∷ picked roots least lists (drop (n + 1) order))
    (picked roots least lists (drop (n + 1) order)))
    (off (slice_index least (slice_index order n) == slice_index order n) refl)))
    ∙ h
  where
    off : (b : Bool) → (slice_index least (slice_index order n) == slice_index order n) ≡ b
        → (slice_index least (slice_index order n) == slice_index order n) ≡ false
    off true is = absurd (other (same (slice_index least (slice_index order n)) (slice_index order n) is))
    off false is = is

-- ---- what the components rest on

pub roots_within : (g : Links) (roots : List ℕ) → AreWithin g → AreRoots g roots → (v : ℕ) → v < length roots
    → slice_index roots v < length roots
roots_within g roots within r v l =
    rw r.len (mutual_node g v (slice_index roots v) within (rw (← r.len) l) (r.of_root v (rw (← r.len) l)))

pub joined_within : (g : Links) (least : List ℕ) (joined : Links) → AreWithin g → AreLeast g least
    → AreJoined g least joined (length g) → AreWithin joined
joined_within g least joined within q j v =
    all_from (λ t. t < length joined) (links_of joined v)
    (λ k l. rw j.len (node (slice_index (links_of joined v) k) (has_at (links_of joined v) k l)))
  where
    node : (w : ℕ) → has (links_of joined v) w ≡ true → w < length g
    node w h =
        let s = j.sound v w h in
        subst (λ (x : ℕ). x < length g) s.join.to_is
        (least_node g joined least within q j s.join.target
        (all_has (λ x. x < length g) (links_of g s.node) s.join.target (within s.node) s.join.among))

-- the same, over what was read
pub found_same : (g : Links) (roots least least2 : List ℕ) (lists lists2 : Links) (order order2 : List ℕ)
    (found : List (List ℕ)) → least2 ≡ least → lists2 ≡ lists → order2 ≡ order
    → found ≡ picked roots least2 lists2 order2
    → AreComponents g (picked roots least lists order) → AreComponents g found
found_same g roots least least2 lists lists2 order order2 found a b c d h = rw (d, a, b, c) h

-- what is answered, by what a call answers
pub if_ok : {T E : Type 0} (r : Result T E) (P Q : T → Type 0) → ((x : T) → P x → Q x) → IfOk r P → IfOk r Q
if_ok (Ok x) P Q f h = f x h
if_ok (Err e) P Q f h = tt
