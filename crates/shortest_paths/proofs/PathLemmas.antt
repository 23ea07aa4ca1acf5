-- What a search that is done has found.
use Rattle.std.proofs.Common.{zero, suc, ◌≡◌, ◌≤◌, ◌<◌, ◌+◌, ◌⊎◌, inl, inr, ℕ, Bool, true, false, List, [], ◌∷◌, ◌++◌, length, reverse, refl, sym, ◌∙◌, ap, subst, arith}
use Rattle.std.specs.Prelude.{◌||◌, ◌==◌, slice_index}
use Rattle.std.specs.List.{AllByRecursion}
use Rattle.std.proofs.lemmas.Bool.{false≢true}
use Rattle.std.proofs.lemmas.List.{reverse-append, length-append}
use Rattle.topological_order.specs.Order.{Links, Link, has, IsLink, target, IsChain}
use Rattle.topological_order.proofs.OrderLemmas.{has-push, chain_more}
use Rattle.shortest_paths.specs.declared.without.Without.{Without}
use Rattle.shortest_paths.specs.declared.without.Without.TheVariants as without
use Rattle.shortest_paths.specs.Paths.{keeps, IsPath, IsReached, IsShortest, IsGone, AreGone, AreAscending}
use Rattle.shortest_paths.specs.Search.{is_met, met_by, IsStart, IsNext, IsFollowed, IsSearched, IsTraced, AreMarkedOnly}
use Rattle.shortest_paths.proofs.SearchLemmas.{same, either, by_left, by_right, itself, met_within}

-- the links from a node to the last one, last first, which are one for each level between
pub record IsTracing (g : Links) (w : Without) (met : List Bool) (level : List ℕ) (back : List Link) (at node : ℕ)
    : Type 0 where
  pub chain : IsChain g at (reverse back) node
  pub kept : AllByRecursion (λ e. keeps w g e ≡ true) (reverse back)
  pub here : is_met met at ≡ true
  pub count : length back + slice_index level at ≡ slice_index level node

module _ (g : Links) (roots : List ℕ) (w : Without) (met : List Bool) (level : List ℕ) (from : List Link)
    (s : IsSearched g roots w met level from) where
  followed : (e : Link) (u : ℕ) → e.0 ≡ u → IsLink g e → keeps w g e ≡ true → is_met met u ≡ true
      → IsFollowed g met level e
  followed e u at link keep m = s.closed e link keep (subst (λ (x : ℕ). is_met met x ≡ true) (sym at) m)

  -- kept links lead from a node that is met to nodes that are, each at most one level further
  chain_met : (u v : ℕ) (path : List Link) → IsChain g u path v → AllByRecursion (λ e. keeps w g e ≡ true) path
      → is_met met u ≡ true → (is_met met v ≡ true) × (slice_index level v ≤ slice_index level u + length path)
  chain_met u v [] h kept m = (
    subst (λ (x : ℕ). is_met met x ≡ true) h m,
    subst (λ (x : ℕ). slice_index level x ≤ slice_index level u + 0) h (omega arith),
  )
  chain_met u v (e ∷ path) h kept m = by (followed e u h.0 h.1 kept.0 m) (chain_met (target g e) v path h.2 kept.1)
    where
      by : IsFollowed g met level e
          → (is_met met (target g e) ≡ true
          → (is_met met v ≡ true) × (slice_index level v ≤ slice_index level (target g e) + length path))
          → (is_met met v ≡ true) × (slice_index level v ≤ slice_index level u + length (e ∷ path))
      by f on =
          let rest = on f.reached in
          let near = f.near in
          let far = rest.1 in
          let at = ap (slice_index level) h.0 in
          (rest.0, omega (arith, near, far, at))

  -- a path leads to a node that is met, and isn't shorter than its level
  pub path_met : (v : ℕ) (path : List Link) → IsPath g roots w path v
      → (is_met met v ≡ true) × (slice_index level v ≤ length path)
  path_met v path p = (there.0, let far = there.1 in let is = root.1 in omega (arith, far, is))
    where
      root : (is_met met p.root ≡ true) × (slice_index level p.root ≡ 0)
      root = s.roots_met p.root p.among p.begins

      there : (is_met met v ≡ true) × (slice_index level v ≤ slice_index level p.root + length path)
      there = chain_met p.root v path p.chain p.kept root.0

  pub tracing_begun : (node : ℕ) → is_met met node ≡ true → IsTracing g w met level [] node node
  tracing_begun node h = record { chain = refl; kept = tt; here = h; count = omega arith }

  pub tracing_more : (back : List Link) (at node : ℕ) → IsTracing g w met level back at node → 0 < slice_index level at
      → IsTracing g w met level (back ++ met_by from at ∷ []) (met_by from at).0 node
  tracing_more back at node t l = by (s.each at t.here)
    where
      by : IsStart roots w level at ⊎ IsNext g w met level from at
          → IsTracing g w met level (back ++ met_by from at ∷ []) (met_by from at).0 node
      by (inl start) = absurd (let first = start.first in omega (arith, first, l))
      by (inr n) = record {
        chain = subst (λ (es : List Link). IsChain g (met_by from at).0 es node)
            (sym (reverse-append back (met_by from at ∷ [])))
            (refl, n.link, subst (λ (x : ℕ). IsChain g x (reverse back) node) (sym n.leads) t.chain);
        kept = subst (λ (es : List Link). AllByRecursion (λ e. keeps w g e ≡ true) es)
            (sym (reverse-append back (met_by from at ∷ []))) (n.kept, t.kept);
        here = n.node;
        count =
            let len = length-append back (met_by from at ∷ []) in
            let next = n.next in
            let count = t.count in
            omega (arith, len, next, count);
      }

  -- a node that isn't a root was met on a later level
  pub tracing_less : (at : ℕ) → is_met met at ≡ true → 0 < slice_index level at
      → slice_index level (met_by from at).0 < slice_index level at
  tracing_less at h l = by (s.each at h)
    where
      by : IsStart roots w level at ⊎ IsNext g w met level from at
          → slice_index level (met_by from at).0 < slice_index level at
      by (inl start) = absurd (let first = start.first in omega (arith, first, l))
      by (inr n) = let next = n.next in omega (arith, next)

  pub tracing_done : (back : List Link) (at node : ℕ) → IsTracing g w met level back at node → slice_index level at ≤ 0
      → (path : List Link) → path ≡ reverse back → length path ≡ length back
      → IsTraced g roots w (slice_index level node) node path
  tracing_done back at node t l path is len = by (s.each at t.here)
    where
      by : IsStart roots w level at ⊎ IsNext g w met level from at
          → IsTraced g roots w (slice_index level node) node path
      by (inl start) = record {
        is = record {
          root = at;
          among = start.among;
          begins = start.begins;
          chain = subst (λ (es : List Link). IsChain g at es node) (sym is) t.chain;
          kept = subst (λ (es : List Link). AllByRecursion (λ e. keeps w g e ≡ true) es) (sym is) t.kept;
        };
        count_is = let count = t.count in let first = start.first in omega (arith, count, first, len);
      }
      by (inr n) = absurd (let next = n.next in omega (arith, next, l))

  all_push : {A : Type 0} (P : A → Type 0) (xs : List A) (x : A) → AllByRecursion P xs → P x
      → AllByRecursion P (xs ++ x ∷ [])
  all_push P [] x h p = (p, tt)
  all_push P (y ∷ ys) x h p = (h.0, all_push P ys x h.1 p)

  -- paths lead to nodes that are met
  met_reached : (n v : ℕ) → slice_index level v ≡ n → is_met met v ≡ true → IsReached g roots w v
  met_reached zero v is h = by (s.each v h)
    where
      by : IsStart roots w level v ⊎ IsNext g w met level from v → IsReached g roots w v
      by (inl start) = record {
        path = [];
        is = record { root = v; among = start.among; begins = start.begins; chain = refl; kept = tt };
      }
      by (inr n) = absurd (let next = n.next in omega (arith, next, is))
  met_reached (suc m) v is h = by (s.each v h) (met_reached m)
    where
      by : IsStart roots w level v ⊎ IsNext g w met level from v
          → ((u : ℕ) → slice_index level u ≡ m → is_met met u ≡ true → IsReached g roots w u)
          → IsReached g roots w v
      by (inl start) on = absurd (let first = start.first in omega (arith, first, is))
      by (inr n) on =
          let e = met_by from v in
          let r = on e.0 (let next = n.next in omega (arith, next, is)) n.node in
          record {
            path = r.path ++ e ∷ [];
            is = record {
              root = r.is.root;
              among = r.is.among;
              begins = r.is.begins;
              chain = subst (λ (x : ℕ). IsChain g r.is.root (r.path ++ e ∷ []) x) n.leads
                  (chain_more g r.is.root e.0 r.path e r.is.chain refl n.link);
              kept = all_push (λ e. keeps w g e ≡ true) r.path e r.is.kept n.kept;
            };
          }

  pub reached_if : (v : ℕ) → is_met met v ≡ true → IsReached g roots w v
  reached_if v h = met_reached (slice_index level v) v refl h

  pub met_if : (v : ℕ) → IsReached g roots w v → is_met met v ≡ true
  met_if v r = (path_met v r.path r.is).0

-- the path over which a node was met is a shortest one
pub traced_shortest : (g : Links) (roots : List ℕ) (met : List Bool) (level : List ℕ) (from : List Link)
    → IsSearched g roots without.Nothing met level from → (v : ℕ) (path : List Link)
    → IsTraced g roots without.Nothing (slice_index level v) v path → IsShortest g roots path v
traced_shortest g roots met level from s v path t = record {
  is = t.is;
  least = λ other p.
      let far : slice_index level v ≤ length other = (path_met g roots without.Nothing met level from s v other p).1 in
      let is = t.count_is in
      omega (arith, far, is);
}

-- ---- what is gone

pub all_has : (P : ℕ → Type 0) (xs : List ℕ) (u : ℕ) → AllByRecursion P xs → has xs u ≡ true → P u
all_has P [] u h there = absurd (false≢true there)
all_has P (x ∷ xs) u h there = by (u == x) refl there (all_has P xs u h.1)
  where
    by : (b : Bool) → (u == x) ≡ b → (b || has xs u) ≡ true → (has xs u ≡ true → P u) → P u
    by true eq there rest = subst (λ (y : ℕ). P y) (sym (same u x eq)) h.0
    by false eq there rest = rest there

all_push_number : (P : ℕ → Type 0) (xs : List ℕ) (x : ℕ) → AllByRecursion P xs → P x
    → AllByRecursion P (xs ++ x ∷ [])
all_push_number P [] x h p = (p, tt)
all_push_number P (y ∷ ys) x h p = (h.0, all_push_number P ys x h.1 p)

ascending_more : (xs : List ℕ) (x : ℕ) → AreAscending xs → ((v : ℕ) → has xs v ≡ true → v < x)
    → AreAscending (xs ++ x ∷ [])
ascending_more [] x h below = (tt, tt)
ascending_more (y ∷ ys) x h below = (
  all_push_number (λ w. y < w) ys x h.0 (below y (by_left (y == y) (has ys y) (itself y))),
  ascending_more ys x h.1 (λ v there. below v (by_right (v == y) (has ys v) there)),
)

last_or : (a b : ℕ) → a < b + 1 → (a ≡ b) ⊎ (a < b)
last_or a b h = grind arith

pub marked_begun : (first second : List Bool) → AreMarkedOnly first second 0 []
marked_begun first second = record {
  ascending = tt;
  each = λ v. (λ h. absurd (false≢true h), λ h. absurd (let l = h.0 in omega (arith, l)));
}

-- a place that is marked in the first list alone
pub marked_more : (first second : List Bool) (n : ℕ) (places : List ℕ) → AreMarkedOnly first second n places
    → is_met first n ≡ true → is_met second n ≡ false → AreMarkedOnly first second (n + 1) (places ++ n ∷ [])
marked_more first second n places m one two = record {
  ascending = ascending_more places n m.ascending (λ v h. ((m.each v).0 h).0);
  each = λ v. (
    λ h. to v (either (has places v) (v == n) (sym (has-push places n v) ∙ h)),
    λ h. back v h (last_or v n h.0),
  );
}
  where
    to : (v : ℕ) → (has places v ≡ true) ⊎ ((v == n) ≡ true)
        → (v < n + 1) × (is_met first v ≡ true) × (is_met second v ≡ false)
    to v (inl h) = let old = (m.each v).0 h in (let l = old.0 in omega (arith, l), old.1, old.2)
    to v (inr is) =
        (rw (same v n is) (omega arith), rw (same v n is) one, rw (same v n is) two)

    back : (v : ℕ) → (v < n + 1) × (is_met first v ≡ true) × (is_met second v ≡ false) → (v ≡ n) ⊎ (v < n)
        → has (places ++ n ∷ []) v ≡ true
    back v h (inl is) = rw is (has-push places n n ∙ by_right (has places n) (n == n) (itself n))
    back v h (inr l) =
        has-push places n v ∙ by_left (has places v) (v == n) ((m.each v).1 (l, h.1, h.2))

-- another one
pub marked_less : (first second : List Bool) (n : ℕ) (places : List ℕ) → AreMarkedOnly first second n places
    → (is_met first n ≡ true → is_met second n ≡ false → ⊥) → AreMarkedOnly first second (n + 1) places
marked_less first second n places m not_here = record {
  ascending = m.ascending;
  each = λ v. (
    λ h. let old = (m.each v).0 h in (let l = old.0 in omega (arith, l), old.1, old.2),
    λ h. back v h (last_or v n h.0),
  );
}
  where
    back : (v : ℕ) → (v < n + 1) × (is_met first v ≡ true) × (is_met second v ≡ false) → (v ≡ n) ⊎ (v < n)
        → has places v ≡ true
    back v h (inl is) = absurd (not_here
        (subst (λ (x : ℕ). is_met first x ≡ true) is h.1) (subst (λ (x : ℕ). is_met second x ≡ false) is h.2))
    back v h (inr l) = (m.each v).1 (l, h.1, h.2)

-- the nodes that the whole search met, and the other one didn't
pub gone_found : (g : Links) (roots : List ℕ) (w : Without) (met met2 : List Bool) (level level2 : List ℕ)
    (from from2 : List Link) (places : List ℕ)
    → IsSearched g roots without.Nothing met level from → IsSearched g roots w met2 level2 from2
    → AreMarkedOnly met met2 (length met) places → AreGone g roots w places
gone_found g roots w met met2 level level2 from from2 places s s2 m = record {
  ascending = m.ascending;
  each = λ v. (λ h. to v h, λ h. back v h);
}
  where
    to : (v : ℕ) → has places v ≡ true → IsGone g roots w v
    to v h = record {
      reached = reached_if g roots without.Nothing met level from s v ((m.each v).0 h).1;
      gone = λ r. false≢true (sym ((m.each v).0 h).2 ∙ met_if g roots w met2 level2 from2 s2 v r);
    }

    back : (v : ℕ) → IsGone g roots w v → has places v ≡ true
    back v h =
        let there : is_met met v ≡ true = met_if g roots without.Nothing met level from s v h.reached in
        (m.each v).1 (met_within met v there, there, off (is_met met2 v) refl)
      where
        off : (b : Bool) → is_met met2 v ≡ b → is_met met2 v ≡ false
        off true is = absurd (h.gone (reached_if g roots w met2 level2 from2 s2 v is))
        off false is = is
