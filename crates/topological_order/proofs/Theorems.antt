-- Of an order and a cycle there is exactly one kind.
use Rattle.std.proofs.Common.{zero, suc, ◌≡◌, ◌≤◌, ◌<◌, ◌+◌, ◌⊎◌, inl, inr, ℕ, Bool, true, false, List, [], ◌∷◌, ◌++◌, length, refl, sym, ◌∙◌, ap, subst, arith, Decides}
use Rattle.std.specs.Prelude.{◌||◌, ◌==◌, slice_index}
use Rattle.std.specs.List.{AllByRecursion}
use Rattle.std.proofs.lemmas.Bool.{false≢true}
use Rattle.std.proofs.lemmas.Bool.Decides.{Decides-eqb}
use Rattle.topological_order.specs.Order.{Links, Link, links_of, has, nodes, AreWithin, IsChain, AreApart, head_of, IsCycle, IsFree, IsLeastFree, EachBehind, IsOrder, IsLeastOrder}
use Rattle.topological_order.specs.Walk.{IsCutAt}
use Rattle.topological_order.proofs.OrderLemmas.{has-push, all_at, each_free, each_more, order_alone, nodes-append, apart_more, cycle_from, chain_more}

-- ---- how many nodes are left

abbrev one_open : Bool → ℕ
one_open true = 0
one_open false = 1

-- how many of the numbers below n aren't among these
abbrev left : List ℕ → ℕ → ℕ
left front zero = 0
left front (suc n) = one_open (has front n) + left front n

level : (a b : ℕ) → a ≡ b → a ≤ b
level a b h = omega (arith, h)

low : (a : ℕ) → 0 ≤ a
low a = omega arith

fewer : (a b : Bool) → one_open (a || b) ≤ one_open a
fewer true b = low 0
fewer false true = low 1
fewer false false = level 1 1 refl

both_up : (a b c d : ℕ) → a ≤ b → c ≤ d → a + c ≤ b + d
both_up a b c d h k = omega (arith, h, k)

left_push : (front : List ℕ) (v n : ℕ) → left (front ++ v ∷ []) n ≤ left front n
left_push front v zero = low 0
left_push front v (suc n) =
    both_up (one_open (has (front ++ v ∷ []) n)) (one_open (has front n)) (left (front ++ v ∷ []) n) (left front n)
    (subst (λ b. one_open b ≤ one_open (has front n)) (sym (has-push front v n)) (fewer (has front n) (n == v)))
    (left_push front v n)

-- the last number below a limit, or one below it
last_or : (a b : ℕ) → a < suc b → (b ≡ a) ⊎ (a < b)
last_or a b h = grind arith

less_or : (a b : ℕ) → (a < b) ⊎ (b ≤ a)
less_or a b = grind arith

-- one more that wasn't among them
left_less : (front : List ℕ) (v n : ℕ) → v < n → has front v ≡ false → left (front ++ v ∷ []) n < left front n
left_less front v zero l off = absurd (omega (arith, l))
left_less front v (suc n) l off = by (λ l. left_less front v n l off) (last_or v n l)
  where
    first : (a b c d : ℕ) → a ≡ 0 → b ≡ 1 → c ≤ d → a + c < b + d
    first a b c d h k m = omega (arith, h, k, m)

    second : (a b c d : ℕ) → a ≤ b → c < d → a + c < b + d
    second a b c d h k = omega (arith, h, k)

    by : (v < n → left (front ++ v ∷ []) n < left front n) → (n ≡ v) ⊎ (v < n)
        → one_open (has (front ++ v ∷ []) n) + left (front ++ v ∷ []) n < one_open (has front n) + left front n
    by rest (inl same) =
        let before : has front n ≡ false = ap (has front) same ∙ off in
        let after : has (front ++ v ∷ []) n ≡ true
        = has-push front v n ∙ ap (λ b. b || n == v) before ∙ (Decides-eqb n v).1 same in
        first (one_open (has (front ++ v ∷ []) n)) (one_open (has front n)) (left (front ++ v ∷ []) n) (left front n)
        (ap one_open after) (ap one_open before) (left_push front v n)
    by rest (inr lower) =
        second (one_open (has (front ++ v ∷ []) n)) (one_open (has front n)) (left (front ++ v ∷ []) n) (left front n)
        (subst (λ b. one_open b ≤ one_open (has front n)) (sym (has-push front v n)) (fewer (has front n) (n == v)))
        (rest lower)

-- ---- the end of a walk, from a node that it has met

cut_at : (walk : List Link) (node : ℕ) → has (nodes walk) node ≡ true → (cycle : List Link) × IsCutAt walk node cycle
cut_at [] node h = absurd (false≢true h)
cut_at (e ∷ rest) node h = by (cut_at rest node) (node == e.0) refl h
  where
    by : (has (nodes rest) node ≡ true → (cycle : List Link) × IsCutAt rest node cycle)
        → (b : Bool) → (node == e.0) ≡ b → (b || has (nodes rest) node) ≡ true
        → (cycle : List Link) × IsCutAt (e ∷ rest) node cycle
    by more true is h = (
      e ∷ rest,
      record {
        front = [];
        split = refl;
        head = sym ((Decides-eqb node e.0).0 is);
        some =
            λ none. absurd cc;
      },
    )
    by more false is h =
        let (cycle, cut) = more h in (
          cycle,
          record {
            front = e ∷ cut.front;
            split = ap (λ (es : List Link). e ∷ es) cut.split;
            head = cut.head;
            some = cut.some;
          },
        )

-- ---- what is free

-- all of these are among those, or one isn't
all_or_open : (front ts : List ℕ)
    → AllByRecursion (λ t. has front t ≡ true) ts
    ⊎ ((k : ℕ) × (k < length ts) × (has front (slice_index ts k) ≡ false))
all_or_open front [] = inl tt
all_or_open front (t ∷ ts) = by (has front t) refl (all_or_open front ts)
  where
    by : (b : Bool) → has front t ≡ b
        → AllByRecursion (λ t. has front t ≡ true) ts
        ⊎ ((k : ℕ) × (k < length ts) × (has front (slice_index ts k) ≡ false))
        → AllByRecursion (λ t. has front t ≡ true) (t ∷ ts)
        ⊎ ((k : ℕ) × (k < length (t ∷ ts)) × (has front (slice_index (t ∷ ts) k) ≡ false))
    by false is rest = inr (zero, omega arith, is)
    by true is (inl all) = inl (is, all)
    by true is (inr (k, l, off)) = inr (suc k, omega (arith, l), off)

-- so are all numbers below n
below_or_open : (front : List ℕ) (n : ℕ)
    → ((v : ℕ) → v < n → has front v ≡ true) ⊎ ((v : ℕ) × (v < n) × (has front v ≡ false))
below_or_open front zero = inl (λ v l. absurd (omega (arith, l)))
below_or_open front (suc n) = by (has front n) refl (below_or_open front n)
  where
    by : (b : Bool) → has front n ≡ b
        → ((v : ℕ) → v < n → has front v ≡ true) ⊎ ((v : ℕ) × (v < n) × (has front v ≡ false))
        → ((v : ℕ) → v < suc n → has front v ≡ true) ⊎ ((v : ℕ) × (v < suc n) × (has front v ≡ false))
    by false is rest = inr (n, omega arith, is)
    by true is (inr (v, l, off)) = inr (v, omega (arith, l), off)
    by true is (inl all) = inl (λ v l. pick v (last_or v n l))
      where
        pick : (v : ℕ) → (n ≡ v) ⊎ (v < n) → has front v ≡ true
        pick v (inl e) = ap (has front) (sym e) ∙ is
        pick v (inr l) = all v l

module _ (g : Links) where
  -- the least free node, or none below n is free
  abbrev Next : List ℕ → ℕ → Type 0
  Next front n =
      ((v : ℕ) × IsFree g front v × ((u : ℕ) → u < v → IsFree g front u → ⊥))
      ⊎ ((u : ℕ) → u < n → IsFree g front u → ⊥)

  free_at : (front : List ℕ) (v : ℕ) → v < length g → IsFree g front v ⊎ (IsFree g front v → ⊥)
  free_at front v l = by (has front v) refl (all_or_open front (links_of g v))
    where
      by : (b : Bool) → has front v ≡ b
          → AllByRecursion (λ t. has front t ≡ true) (links_of g v)
          ⊎ ((k : ℕ) × (k < length (links_of g v)) × (has front (slice_index (links_of g v) k) ≡ false))
          → IsFree g front v ⊎ (IsFree g front v → ⊥)
      by true is any = inr (λ f. false≢true (sym f.open_yet ∙ is))
      by false is (inl all) = inl (record { node = l; open_yet = is; placed = all })
      by false is (inr (k, kl, off)) =
          inr (λ f. false≢true (sym off ∙ all_at (λ t. has front t ≡ true) (links_of g v) k f.placed kl))

  next_free : (front : List ℕ) (n : ℕ) → n ≤ length g → Next front n
  next_free front zero l = inr (λ u low. absurd (omega (arith, low)))
  next_free front (suc n) l = by (next_free front n (omega (arith, l))) (free_at front n (omega (arith, l)))
    where
      by : Next front n → IsFree g front n ⊎ (IsFree g front n → ⊥) → Next front (suc n)
      by (inl found) at = inl found
      by (inr none) (inl free) = inl (n, free, none)
      by (inr none) (inr not_free) = inr (λ u low. pick u (last_or u n low))
        where
          pick : (u : ℕ) → (n ≡ u) ⊎ (u < n) → IsFree g front u → ⊥
          pick u (inl e) f = not_free (subst (IsFree g front) (sym e) f)
          pick u (inr low) f = none u low f

  -- ---- where none is free, a walk over those that are left meets one twice

  on_from : (front : List ℕ) → ((u : ℕ) → u < length g → IsFree g front u → ⊥) → (v : ℕ) → v < length g
      → has front v ≡ false
      → (k : ℕ) × (k < length (links_of g v)) × (has front (slice_index (links_of g v) k) ≡ false)
  on_from front none v l off = by (all_or_open front (links_of g v))
    where
      by : AllByRecursion (λ t. has front t ≡ true) (links_of g v)
          ⊎ ((k : ℕ) × (k < length (links_of g v)) × (has front (slice_index (links_of g v) k) ≡ false))
          → (k : ℕ) × (k < length (links_of g v)) × (has front (slice_index (links_of g v) k) ≡ false)
      by (inl all) = absurd (none v l (record { node = l; open_yet = off; placed = all }))
      by (inr found) = found

  -- at a node that it has met it has gone round
  round_at : (start : ℕ) (walk : List Link) (here : ℕ) → IsChain g start walk here → AreApart (nodes walk)
      → has (nodes walk) here ≡ true → (cycle : List Link) × IsCycle g cycle
  round_at start walk here chain apart met =
      let (cycle, cut) = cut_at walk here met in (
        cycle,
        cycle_from g start cut.front cycle
            (subst (λ (es : List Link). IsChain g start es (head_of cycle)) cut.split (rw cut.head chain))
            (subst (λ (es : List Link). AreApart (nodes es)) cut.split apart) cut.some,
      )

  -- a walk over what is left, with so many nodes that it hasn't met, comes to a cycle
  abbrev Comes : List ℕ → ℕ → ℕ → Type 0
  Comes front start fuel =
      (walk : List Link) (here : ℕ) → IsChain g start walk here → AreApart (nodes walk) → here < length g
      → has front here ≡ false → left (nodes walk) (length g) ≤ fuel → (cycle : List Link) × IsCycle g cycle

  comes_more : AreWithin g → (front : List ℕ) → ((u : ℕ) → u < length g → IsFree g front u → ⊥) → (start fuel : ℕ)
      → Comes front start fuel → Comes front start (suc fuel)
  comes_more within front none start fuel more walk here chain apart node off l =
      by (has (nodes walk) here) refl (on_from front none here node off)
    where
      by : (b : Bool) → has (nodes walk) here ≡ b
          → (k : ℕ) × (k < length (links_of g here)) × (has front (slice_index (links_of g here) k) ≡ false)
          → (cycle : List Link) × IsCycle g cycle
      by true met on = round_at start walk here chain apart met
      by false met (k, kl, yet) =
          let less = left_less (nodes walk) here (length g) node met in
          let ends : nodes (walk ++ (here, k) ∷ []) ≡ nodes walk ++ here ∷ []
          = nodes-append walk ((here, k) ∷ []) in
          more (walk ++ (here, k) ∷ []) (slice_index (links_of g here) k)
          (chain_more g start here walk (here, k) chain refl kl)
          (subst AreApart (sym ends) (apart_more (nodes walk) here apart met))
          (all_at (λ t. t < length g) (links_of g here) k (within here) kl) yet
          (subst (λ (vs : List ℕ). left vs (length g) ≤ fuel) (sym ends) (omega (arith, l, less)))

  comes : AreWithin g → (front : List ℕ) → ((u : ℕ) → u < length g → IsFree g front u → ⊥) → (start fuel : ℕ)
      → Comes front start fuel
  comes within front none start zero = λ walk here chain apart node off l.
      by walk here chain apart node l (has (nodes walk) here) refl
    where
      by : (walk : List Link) (here : ℕ) → IsChain g start walk here → AreApart (nodes walk) → here < length g
          → left (nodes walk) (length g) ≤ 0 → (b : Bool) → has (nodes walk) here ≡ b
          → (cycle : List Link) × IsCycle g cycle
      by walk here chain apart node l true met = round_at start walk here chain apart met
      by walk here chain apart node l false met =
          absurd (let less = left_less (nodes walk) here (length g) node met in omega (arith, l, less))
  comes within front none start (suc fuel) =
      comes_more within front none start fuel (comes within front none start fuel)

  -- ---- one node is placed behind the other, the least that may stand there first

  abbrev Either : Type 0
  Either = ((list : List ℕ) × IsLeastOrder g list) ⊎ ((cycle : List Link) × IsCycle g cycle)

  -- these are placed, and so many are left
  abbrev Ends : ℕ → Type 0
  Ends fuel = (front : List ℕ) → EachBehind (IsLeastFree g) [] front → left front (length g) ≤ fuel → Either

  end_here : AreWithin g → (front : List ℕ) → EachBehind (IsLeastFree g) [] front
      → ((u : ℕ) → u < length g → IsFree g front u → ⊥) → Either
  end_here within front each none = by (below_or_open front (length g))
    where
      by : ((v : ℕ) → v < length g → has front v ≡ true) ⊎ ((v : ℕ) × (v < length g) × (has front v ≡ false)) → Either
      by (inl all) =
          inl (front, record { order = record { all = all; each = each_free g [] front each }; least = each })
      by (inr (v, node, off)) =
          inr (comes within front none v (left [] (length g)) [] v refl tt node off
          (level (left [] (length g)) (left [] (length g)) refl))

  ends_more : AreWithin g → (fuel : ℕ) → Ends fuel → Ends (suc fuel)
  ends_more within fuel more front each l = by (next_free front (length g) (level (length g) (length g) refl))
    where
      by : Next front (length g) → Either
      by (inr none) = end_here within front each none
      by (inl (v, free, least)) =
          let less = left_less front v (length g) free.node free.open_yet in
          more (front ++ v ∷ [])
          (each_more (IsLeastFree g) [] front v each
          (record { free = free; least = λ u also. at_least u also (less_or u v) }))
          (omega (arith, l, less))
        where
          at_least : (u : ℕ) → IsFree g front u → (u < v) ⊎ (v ≤ u) → v ≤ u
          at_least u also (inl lower) = absurd (least u lower also)
          at_least u also (inr higher) = higher

  ends : AreWithin g → (fuel : ℕ) → Ends fuel
  ends within zero = λ front each l. by front each l (next_free front (length g) (level (length g) (length g) refl))
    where
      by : (front : List ℕ) → EachBehind (IsLeastFree g) [] front → left front (length g) ≤ 0 → Next front (length g)
          → Either
      by front each l (inr none) = end_here within front each none
      by front each l (inl (v, free, least)) =
          absurd (let less = left_less front v (length g) free.node free.open_yet in omega (arith, l, less))
  ends within (suc fuel) = ends_more within fuel (ends within fuel)

  -- there is an order, and a least one, or there is a cycle
  pub order_or_cycle : AreWithin g
      → ((list : List ℕ) × IsLeastOrder g list) ⊎ ((cycle : List Link) × IsCycle g cycle)
  order_or_cycle within = ends within (left [] (length g)) [] tt (level (left [] (length g)) (left [] (length g)) refl)

  -- and never both
  pub not_both : (list : List ℕ) (cycle : List Link) → IsOrder g list → IsCycle g cycle → ⊥
  not_both list cycle order round = order_alone g list cycle order round
