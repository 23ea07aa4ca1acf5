-- Orders, cycles and stuck nodes.
use Rattle.std.proofs.Common.{zero, suc, ◌≡◌, ◌≤◌, ◌<◌, ◌+◌, ◌-◌, ◌⊎◌, inl, inr, ℕ, Bool, true, false, cond, List, [], ◌∷◌, ◌++◌, length, get_or, map, refl, sym, ◌∙◌, ap, subst, arith, rules, append_assoc, append-nil, Decides, Result, Ok, Err, OnOk}
use Rattle.std.specs.Prelude.{◌||◌, ◌==◌, slice_index, slice_index_or}
use Rattle.std.specs.List.{AllByRecursion}
use Rattle.std.proofs.lemmas.Bool.{false≢true}
use Rattle.std.proofs.lemmas.Bool.Decides.{Decides-eqb}
use Rattle.std.proofs.lemmas.List.{get_or_default}
use Rattle.topological_order.specs.Order.{Links, links_of, has, AreWithin, IsFree, IsLeastFree, EachBehind, IsOrder, IsLeastOrder, Link, IsLink, target, IsChain, nodes, AreApart, head_of, IsCycle, IsStuck}

-- ---- numbers among others

same : (x y : ℕ) → (x == y) ≡ true → x ≡ y
same x y h = (Decides-eqb x y).0 h

pub itself : (x : ℕ) → (x == x) ≡ true
itself x = (Decides-eqb x x).1 refl

or_true : (a : Bool) → (a || true) ≡ true
or_true true = refl
or_true false = refl

or_false : (a : Bool) → (a || false) ≡ a
or_false true = refl
or_false false = refl

or_assoc : (a b c : Bool) → (a || (b || c)) ≡ ((a || b) || c)
or_assoc true b c = refl
or_assoc false b c = refl

-- what is among two lists
pub has-append : (xs ys : List ℕ) (v : ℕ) → has (xs ++ ys) v ≡ (has xs v || has ys v)
has-append [] ys v = refl
has-append (x ∷ xs) ys v = ap (λ b. v == x || b) (has-append xs ys v) ∙ or_assoc (v == x) (has xs v) (has ys v)

-- one more at the end
pub has-push : (xs : List ℕ) (x v : ℕ) → has (xs ++ x ∷ []) v ≡ (has xs v || v == x)
has-push xs x v = has-append xs (x ∷ []) v ∙ ap (λ b. has xs v || b) (or_false (v == x))

pub has_more : (xs : List ℕ) (x v : ℕ) → has xs v ≡ true → has (xs ++ x ∷ []) v ≡ true
has_more xs x v h = has-push xs x v ∙ ap (λ b. b || v == x) h

pub has_last : (xs : List ℕ) (x : ℕ) → has (xs ++ x ∷ []) x ≡ true
has_last xs x = has-push xs x x ∙ ap (λ b. has xs x || b) (itself x) ∙ or_true (has xs x)

-- ---- what holds of each

pub all_map : {A : Type 0} (P Q : A → Type 0) → ((x : A) → P x → Q x) → (xs : List A) → AllByRecursion P xs
    → AllByRecursion Q xs
all_map P Q f [] h = tt
all_map P Q f (x ∷ xs) h = (f x h.0, all_map P Q f xs h.1)

-- at a place
pub all_at : (P : ℕ → Type 0) (xs : List ℕ) (k : ℕ) → AllByRecursion P xs → k < length xs → P (slice_index xs k)
all_at P [] k h l = absurd (omega arith)
all_at P (x ∷ xs) zero h l = h.0
all_at P (x ∷ xs) (suc k) h l = all_at P xs k h.1 (omega arith)

-- from each place
pub all_from : (P : ℕ → Type 0) (xs : List ℕ) → ((k : ℕ) → k < length xs → P (slice_index xs k)) → AllByRecursion P xs
all_from P [] h = tt
all_from P (x ∷ xs) h = (h 0 (omega arith), all_from P xs (λ k l. h (suc k) (omega arith)))

-- ---- nodes

-- a node with a link is one
pub link_node : (g : Links) (v k : ℕ) → k < length (links_of g v) → v < length g
link_node [] v k l = absurd (none v l)
  where
    none : (v : ℕ) → k < length (links_of [] v) → ⊥
    none zero l = omega arith
    none (suc v) l = omega arith
link_node (x ∷ g) zero k l = omega arith
link_node (x ∷ g) (suc v) k l = let rest : v < length g = link_node g v k l in omega (arith, rest)

-- a chain's end, or its first link, is a node's
pub chain_node : (g : Links) (v w : ℕ) (path : List Link) → IsChain g v path w → w < length g → v < length g
chain_node g v w [] h l = rw h l
chain_node g v w (e ∷ path) h l = rw (← h.0) (link_node g e.0 e.1 h.1)

-- a cycle's first node is one
pub cycle_node : (g : Links) (cycle : List Link) → IsCycle g cycle → head_of cycle < length g
cycle_node g [] h = absurd h
cycle_node g (e ∷ rest) h = link_node g e.0 e.1 h.0.1

-- so is a stuck node
pub stuck_node : (g : Links) (v : ℕ) → IsStuck g v → v < length g
stuck_node g v s = chain_node g v (head_of s.cycle) s.path s.leads (cycle_node g s.cycle s.is)

-- a node of a cycle is stuck
pub cycle_stuck : (g : Links) (cycle : List Link) → IsCycle g cycle → IsStuck g (head_of cycle)
cycle_stuck g cycle h = record { path = []; cycle = cycle; leads = refl; is = h }

-- one of its links leads to a stuck one
pub stuck_on : (g : Links) (v : ℕ) → IsStuck g v
    → (k : ℕ) × (k < length (links_of g v)) × IsStuck g (slice_index (links_of g v) k)
stuck_on g v s = by s.path s.leads s.cycle refl s.is
  where
    round : (cycle : List Link) → s.cycle ≡ cycle → IsCycle g cycle → v ≡ head_of cycle
        → (k : ℕ) × (k < length (links_of g v)) × IsStuck g (slice_index (links_of g v) k)
    round [] is c h = absurd c
    round (e ∷ rest) is c h =
        subst (λ (x : ℕ). (k : ℕ) × (k < length (links_of g x)) × IsStuck g (slice_index (links_of g x) k)) (sym h)
        (e.1, c.0.1, record { path = rest; cycle = e ∷ rest; leads = c.0.2; is = c })

    by : (path : List Link) → IsChain g v path (head_of s.cycle) → (cycle : List Link) → s.cycle ≡ cycle
        → IsCycle g cycle
        → (k : ℕ) × (k < length (links_of g v)) × IsStuck g (slice_index (links_of g v) k)
    by [] h cycle is c = round cycle is c (h ∙ ap head_of is)
    by (e ∷ path) h cycle is c =
        subst (λ (x : ℕ). (k : ℕ) × (k < length (links_of g x)) × IsStuck g (slice_index (links_of g x) k)) h.0
        (e.1, h.1, record { path = path; cycle = s.cycle; leads = h.2; is = s.is })

-- ---- what is placed isn't stuck

-- none of these is stuck
abbrev pub NoneStuck : Links → List ℕ → Type 0
NoneStuck g front = (v : ℕ) → has front v ≡ true → IsStuck g v → ⊥

-- nor one more whose links all lead to them
pub none_more : (g : Links) (front : List ℕ) (v : ℕ) → IsFree g front v → NoneStuck g front
    → NoneStuck g (front ++ v ∷ [])
none_more g front v free none = λ u there stuck.
    by u (has front u) refl (u == v) refl (sym (has-push front v u) ∙ there) stuck
  where
    last : IsStuck g v → ⊥
    last stuck =
        let on : (k : ℕ) × (k < length (links_of g v)) × IsStuck g (slice_index (links_of g v) k) =
        stuck_on g v stuck in
        none (slice_index (links_of g v) on.0)
        (all_at (λ t. has front t ≡ true) (links_of g v) on.0 free.placed on.1) on.2

    by : (u : ℕ) (a : Bool) → has front u ≡ a → (b : Bool) → (u == v) ≡ b → (a || b) ≡ true → IsStuck g u → ⊥
    by u true is b eq there stuck = none u is stuck
    by u false is true eq there stuck = last (subst (λ (x : ℕ). IsStuck g x) (same u v eq) stuck)
    by u false is false eq there stuck = false≢true there

-- a list in which each may stand behind those before it
pub none_behind : (g : Links) (front list : List ℕ) → NoneStuck g front → EachBehind (IsFree g) front list
    → NoneStuck g (front ++ list)
none_behind g front [] none each = rw (append-nil front) none
none_behind g front (v ∷ rest) none each =
    subst (λ (xs : List ℕ). NoneStuck g xs) (append_assoc front (v ∷ []) rest)
    (none_behind g (front ++ v ∷ []) rest (none_more g front v each.0 none) each.1)

-- ---- not both

-- where there is an order, no node is stuck
pub order_frees : (g : Links) (list : List ℕ) → IsOrder g list → (v : ℕ) → IsStuck g v → ⊥
order_frees g list order v stuck =
    none_behind g [] list (λ u there. absurd (false≢true there)) order.each v (order.all v (stuck_node g v stuck)) stuck

-- and there is no cycle
pub order_alone : (g : Links) (list : List ℕ) (cycle : List Link) → IsOrder g list → IsCycle g cycle → ⊥
order_alone g list cycle order h = order_frees g list order (head_of cycle) (cycle_stuck g cycle h)

-- ---- the least

pub each_free : (g : Links) (front list : List ℕ) → EachBehind (IsLeastFree g) front list
    → EachBehind (IsFree g) front list
each_free g front [] h = tt
each_free g front (v ∷ rest) h = (h.0.free, each_free g (front ++ v ∷ []) rest h.1)

-- one more at the end
pub each_more : (Stands : List ℕ → ℕ → Type 0) (front list : List ℕ) (v : ℕ) → EachBehind Stands front list
    → Stands (front ++ list) v → EachBehind Stands front (list ++ v ∷ [])
each_more Stands front [] v h s = (subst (λ (xs : List ℕ). Stands xs v) (append-nil front) s, tt)
each_more Stands front (x ∷ list) v h s = (
  h.0,
  each_more Stands (front ++ x ∷ []) list v h.1
      (subst (λ (xs : List ℕ). Stands xs v) (sym (append_assoc front (x ∷ []) list)) s),
)

-- ---- the end of a walk

-- a chain in two parts
pub chain_split : (g : Links) (v w : ℕ) (front back : List Link) → IsChain g v (front ++ back) w
    → (m : ℕ) × IsChain g v front m × IsChain g m back w
chain_split g v w [] back h = (v, refl, h)
chain_split g v w (e ∷ front) back h =
    let rest : (m : ℕ) × IsChain g (target g e) front m × IsChain g m back w =
    chain_split g (target g e) w front back h.2 in
    (rest.0, (h.0, h.1, rest.1), rest.2)

-- from the first node on
pub chain_head : (g : Links) (v w : ℕ) (path : List Link) → IsChain g v path w → (length path ≡ 0 → ⊥)
    → v ≡ head_of path
chain_head g v w [] h some = absurd (some refl)
chain_head g v w (e ∷ path) h some = sym h.0

or_left : (a b : Bool) → (a || b) ≡ false → a ≡ false
or_left true b h = absurd (false≢true (sym h))
or_left false b h = refl

or_right : (a b : Bool) → (a || b) ≡ false → b ≡ false
or_right true b h = absurd (false≢true (sym h))
or_right false b h = h

-- the nodes of two lists of links
pub nodes-append : (xs ys : List Link) → nodes (xs ++ ys) ≡ nodes xs ++ nodes ys
nodes-append [] ys = refl
nodes-append (x ∷ xs) ys = ap (λ ns. x.0 ∷ ns) (nodes-append xs ys)

-- apart as a whole, apart in the second part
pub apart_second : (xs ys : List ℕ) → AreApart (xs ++ ys) → AreApart ys
apart_second [] ys h = h
apart_second (x ∷ xs) ys h = apart_second xs ys h.1

-- one more that isn't among them
pub apart_more : (xs : List ℕ) (x : ℕ) → AreApart xs → has xs x ≡ false → AreApart (xs ++ x ∷ [])
apart_more [] x h fresh = (refl, tt)
apart_more (y ∷ ys) x h fresh = (
  has-push ys x y ∙ ap (λ b. b || y == x) h.0 ∙ turned y x (or_left (x == y) (has ys x) fresh),
  apart_more ys x h.1 (or_right (x == y) (has ys x) fresh),
)
  where
    turned : (y x : ℕ) → (x == y) ≡ false → (y == x) ≡ false
    turned y x h = by (y == x) refl
      where
        by : (b : Bool) → (y == x) ≡ b → (y == x) ≡ false
        by true is = absurd (false≢true (sym h ∙ subst (λ (z : ℕ). (x == z) ≡ true) (sym (same y x is)) (itself x)))
        by false is = is

-- a cycle that is the end of a walk
pub cycle_from : (g : Links) (v : ℕ) (front cycle : List Link) → IsChain g v (front ++ cycle) (head_of cycle)
    → AreApart (nodes (front ++ cycle)) → (length cycle ≡ 0 → ⊥) → IsCycle g cycle
cycle_from g v front [] chain apart some = absurd (some refl)
cycle_from g v front (e ∷ rest) chain apart some =
    let parts : (m : ℕ) × IsChain g v front m × IsChain g m (e ∷ rest) e.0 =
    chain_split g v e.0 front (e ∷ rest) chain in (
      subst (λ (m : ℕ). IsChain g m (e ∷ rest) e.0) (chain_head g parts.0 e.0 (e ∷ rest) parts.2 some) parts.2,
      apart_second (nodes front) (nodes (e ∷ rest))
          (subst (λ (ns : List ℕ). AreApart ns) (nodes-append front (e ∷ rest)) apart),
    )

-- each link of a walk to a cycle leads to a stuck node
pub walk_stuck : (g : Links) (v : ℕ) (walk cycle : List Link) → IsChain g v walk (head_of cycle) → IsCycle g cycle
    → AllByRecursion (λ e. IsStuck g (target g e)) walk
walk_stuck g v [] cycle h c = tt
walk_stuck g v (e ∷ walk) cycle h c =
    (record { path = walk; cycle = cycle; leads = h.2; is = c }, walk_stuck g (target g e) walk cycle h.2 c)

-- one more link at the end
pub chain_more : (g : Links) (v w : ℕ) (path : List Link) (e : Link) → IsChain g v path w → e.0 ≡ w → IsLink g e
    → IsChain g v (path ++ e ∷ []) (target g e)
chain_more g v w [] e h is link = (is ∙ sym h, link, refl)
chain_more g v w (f ∷ path) e h is link = (h.0, h.1, chain_more g (target g f) w path e h.2 is link)

-- ---- results

pub on_ok : {T E : Type 0} (r : Result T E) (P Q : Type 0) → (P → Q) → OnOk r P → OnOk r Q
on_ok (Ok x) P Q f h = f h
on_ok (Err e) P Q f h = tt

-- a node's links, whatever stands for a missing node
pub links_at : (g : Links) (v : ℕ) (d : List ℕ) → v < length g → get_or g v d ≡ links_of g v
links_at g v d l = get_or_default g v d [] l
