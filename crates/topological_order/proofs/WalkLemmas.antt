-- The walk to the first cycle, and what the placing has found at its end.
use Rattle.std.proofs.Common.{zero, suc, ◌≡◌, ◌≢◌, ◌≤◌, ◌<◌, ◌+◌, ◌⊎◌, inl, inr, ℕ, Bool, true, false, List, [], ◌∷◌, ◌++◌, length, get_or, set, replicate, refl, sym, ◌∙◌, ap, subst, arith, rules, append_assoc, Result, Ok, Err, IfOk, Decides}
use Rattle.std.specs.Prelude.{◌||◌, ◌==◌, slice_index, slice_index_or}
use Rattle.std.specs.List.{AllByRecursion}
use Rattle.std.proofs.lemmas.Bool.{false≢true}
use Rattle.std.proofs.lemmas.Bool.Decides.{Decides-eqb}
use Rattle.std.proofs.lemmas.List.{length-set, get_or-set_same, get_or-set_other, length-replicate}
use Rattle.topological_order.specs.Order.{Links, Link, links_of, has, nodes, AreWithin, IsChain, IsLink, target, AreApart, head_of, IsCycle, IsStuck, IsFirstStuck, IsFirstCycle, IsFree, IsLeastFree, EachBehind, IsOrder, IsLeastOrder, IsFound}
use Rattle.topological_order.specs.declared.found.Found.TheVariants.{Order, Cycle}
use Rattle.topological_order.specs.Placing.{Waits, IsPlacing}
use Rattle.topological_order.specs.Walk.{IsClosed, IsFirstOpen, IsOpenLink, IsWalk, IsCutAt}
use Rattle.topological_order.proofs.OrderLemmas.{has-push, has_last, all_at, each_free, none_behind, stuck_node, order_frees, order_alone, cycle_stuck, nodes-append, apart_more, cycle_from, walk_stuck, chain_more}

le_or : (j i : ℕ) → (j < i) ⊎ (i ≤ j)
le_or j i = grind arith

-- a walk begins
pub walk_begun : (g : Links) (placed : List Bool) (start : ℕ) → IsClosed g placed → IsFirstOpen placed start
    → IsWalk g placed (replicate (length g) false) start [] start
walk_begun g placed start closed first = record {
  chain = refl;
  apart = tt;
  met_len = length-replicate (length g) false;
  marks = λ v. none (length g) v;
  each = tt;
  node = rw (← closed.len) first.within;
  open_yet = first.open_yet;
}
  where
    none : (n v : ℕ) → slice_index_or (replicate n false) v false ≡ false
    none zero v = refl
    none (suc n) zero = refl
    none (suc n) (suc v) = none n v

-- there is a link to a node that isn't placed
pub open_within : (g : Links) (placed : List Bool) (v k : ℕ) → IsClosed g placed → v < length g
    → slice_index_or placed v false ≡ false
    → ((j : ℕ) → 0 ≤ j → j < k → slice_index_or placed (slice_index (links_of g v) j) false ≡ true)
    → k < length (links_of g v)
open_within g placed v k closed node yet passed =
    let on : (j : ℕ) × (j < length (links_of g v))
    × (slice_index_or placed (slice_index (links_of g v) j) false ≡ false) =
    closed.leads v node yet in
    by on.0 on.1 on.2 (le_or on.0 k)
  where
    by : (j : ℕ) → j < length (links_of g v) → slice_index_or placed (slice_index (links_of g v) j) false ≡ false
        → (j < k) ⊎ (k ≤ j) → k < length (links_of g v)
    by j within off (inl less) = absurd (false≢true (sym off ∙ passed j (omega arith) less))
    by j within off (inr le) = omega (arith, within, le)

all_push : {A : Type 0} (P : A → Type 0) (xs : List A) (x : A) → AllByRecursion P xs → P x
    → AllByRecursion P (xs ++ x ∷ [])
all_push P [] x h p = (p, tt)
all_push P (y ∷ ys) x h p = (h.0, all_push P ys x h.1 p)

-- one link more
pub walk_more : (g : Links) (placed met : List Bool) (start : ℕ) (walk : List Link) (here k : ℕ) → AreWithin g
    → IsWalk g placed met start walk here → slice_index_or met here false ≡ false → k < length (links_of g here)
    → ((j : ℕ) → 0 ≤ j → j < k → slice_index_or placed (slice_index (links_of g here) j) false ≡ true)
    → slice_index_or placed (slice_index (links_of g here) k) false ≡ false
    → IsWalk g placed (set met here true) start (walk ++ (here, k) ∷ []) (slice_index (links_of g here) k)
walk_more g placed met start walk here k within w fresh link passed yet = record {
  chain = chain_more g start here walk (here, k) w.chain refl link;
  apart = subst (λ (ns : List ℕ). AreApart ns) (sym ends)
      (apart_more (nodes walk) here w.apart (sym (w.marks here) ∙ fresh));
  met_len = length-set met here true ∙ w.met_len;
  marks = λ v. met_at v (v == here) refl ∙ ap (λ (ns : List ℕ). has ns v) (sym ends);
  each = all_push (IsOpenLink g placed) walk (here, k) w.each (record { passed = λ j l. passed j (omega arith) l });
  node = all_at (λ t. t < length g) (links_of g here) k (within here) link;
  open_yet = yet;
}
  where
    ends : nodes (walk ++ (here, k) ∷ []) ≡ nodes walk ++ here ∷ []
    ends = nodes-append walk ((here, k) ∷ [])

    met_at : (v : ℕ) (b : Bool) → (v == here) ≡ b
        → slice_index_or (set met here true) v false ≡ has (nodes walk ++ here ∷ []) v
    met_at v true is =
        let one : v ≡ here = (Decides-eqb v here).0 is in
        subst (λ (x : ℕ). slice_index_or (set met here true) x false ≡ has (nodes walk ++ here ∷ []) x) (sym one)
        (get_or-set_same met here true false (rw w.met_len w.node) ∙ sym (has_last (nodes walk) here))
    met_at v false is =
        get_or-set_other met here v true false (λ one. false≢true (sym is ∙ (Decides-eqb v here).1 one))
        ∙ w.marks v ∙ sym (has-push (nodes walk) here v ∙ rw is (or_none (has (nodes walk) v)))
      where
        or_none : (b : Bool) → (b || false) ≡ b
        or_none true = refl
        or_none false = refl

-- the walk comes to a node for the second time
pub walk_done : (g : Links) (placed met : List Bool) (start : ℕ) (walk cycle : List Link) (here : ℕ)
    → IsClosed g placed → IsFirstOpen placed start → IsWalk g placed met start walk here → IsCutAt walk here cycle
    → IsFirstCycle g cycle
walk_done g placed met start walk cycle here closed first w cut = record {
  start = start;
  stuck = record { path = walk; cycle = cycle; leads = chain; is = round };
  least = λ v stuck. at_least v stuck (le_or v start);
  front = cut.front;
  walk = whole;
  apart = apart;
  first = subst (λ (es : List Link). AllByRecursion (IsFirstStuck g) es) cut.split
      (each walk (walk_stuck g start walk cycle chain round) w.each);
  is = round;
}
  where
    chain : IsChain g start walk (head_of cycle)
    chain = rw cut.head w.chain

    whole : IsChain g start (cut.front ++ cycle) (head_of cycle)
    whole = subst (λ (es : List Link). IsChain g start es (head_of cycle)) cut.split chain

    apart : AreApart (nodes (cut.front ++ cycle))
    apart = subst (λ (es : List Link). AreApart (nodes es)) cut.split w.apart

    round : IsCycle g cycle
    round = cycle_from g start cut.front cycle whole apart cut.some

    at_least : (v : ℕ) → IsStuck g v → (v < start) ⊎ (start ≤ v) → start ≤ v
    at_least v stuck (inl less) = absurd (closed.done v (first.first v less) stuck)
    at_least v stuck (inr le) = le

    each : (es : List Link) → AllByRecursion (λ e. IsStuck g (target g e)) es → AllByRecursion (IsOpenLink g placed) es
        → AllByRecursion (IsFirstStuck g) es
    each [] s o = tt
    each (e ∷ es) s o = (
      record { stuck = s.0; earlier = λ k l stuck. closed.done (target g (e.0, k)) (o.0.passed k l) stuck },
      each es s.1 o.1,
    )

-- ---- the end of the placing

-- what is placed isn't stuck
pub placed_free : (g : Links) (order : List ℕ) (placed : List Bool) (cursor free : List ℕ)
    → IsPlacing g (λ _. false) order placed cursor free → (v : ℕ) → slice_index_or placed v false ≡ true → IsStuck g v
    → ⊥
placed_free g order placed cursor free p v is stuck =
    none_behind g [] order (λ u there. absurd (false≢true there)) (each_free g [] order p.each) v
    (sym (p.marks v) ∙ is) stuck

-- what isn't has a link to such a one
pub placing_closed : (g : Links) (order : List ℕ) (placed : List Bool) (cursor free : List ℕ)
    → IsPlacing g (λ _. false) order placed cursor free → free ≡ [] → IsClosed g placed
placing_closed g order placed cursor free p none = record {
  len = p.placed_len;
  leads = λ v l off. by v (p.waits v l (sym (p.marks v) ∙ off) refl);
  done = placed_free g order placed cursor free p;
}
  where
    by : (v : ℕ) → (has free v ≡ true) ⊎ Waits g order cursor v
        → (k : ℕ) × (k < length (links_of g v)) × (slice_index_or placed (slice_index (links_of g v) k) false ≡ false)
    by v (inl there) = absurd (false≢true (ap (λ (xs : List ℕ). has xs v) (sym none) ∙ there))
    by v (inr w) =
        (slice_index cursor v, w.within, p.marks (slice_index (links_of g v) (slice_index cursor v)) ∙ w.open_yet)

-- where all are placed, the order is found
pub order_found : (g : Links) (order : List ℕ) (placed : List Bool) (cursor free : List ℕ)
    → IsPlacing g (λ _. false) order placed cursor free
    → ((v : ℕ) → v < length placed → slice_index_or placed v false ≡ true)
    → IsFound g (Order order)
order_found g order placed cursor free p all =
    (record { order = is; least = p.each }, order_frees g order is, λ cycle h. order_alone g order cycle is h)
  where
    is : IsOrder g order
    is = record {
      all = λ v l. sym (p.marks v) ∙ all v (rw p.placed_len l);
      each = each_free g [] order p.each;
    }

-- else the cycle is
pub cycle_found : (g : Links) (cycle : List Link) → IsFirstCycle g cycle → IsFound g (Cycle cycle)
cycle_found g cycle f = (f, λ list order. order_alone g list cycle order f.is)

-- a step of the walk, over the targets as they were read
pub walk_step : (g : Links) (placed met : List Bool) (start : ℕ) (walk : List Link) (here k : ℕ) (targets : List ℕ)
    → targets ≡ links_of g here → AreWithin g → IsClosed g placed → IsWalk g placed met start walk here
    → slice_index_or met here false ≡ false
    → ((j : ℕ) → 0 ≤ j → j < k → slice_index_or placed (slice_index targets j) false ≡ true)
    → (k < length targets → slice_index_or placed (slice_index targets k) false ≡ false)
    → IsWalk g placed (set met here true) start (walk ++ (here, k) ∷ []) (slice_index targets k)
walk_step g placed met start walk here k targets is within closed w fresh =
    subst (λ (t : List ℕ). ((j : ℕ) → 0 ≤ j → j < k → slice_index_or placed (slice_index t j) false ≡ true)
    → (k < length t → slice_index_or placed (slice_index t k) false ≡ false)
    → IsWalk g placed (set met here true) start (walk ++ (here, k) ∷ []) (slice_index t k)) (sym is)
    (λ passed yet.
    let link : k < length (links_of g here) = open_within g placed here k closed w.node w.open_yet passed in
    walk_more g placed met start walk here k within w fresh link passed (yet link))

-- the end of the walk without its first link, of another node
pub end_more : (walk rest behind : List Link) (first : Link) (node : ℕ) (front : List Link)
    → rest ≡ first ∷ behind → walk ≡ front ++ rest → has (nodes rest) node ≡ true → first.0 ≢ node
    → (walk ≡ (front ++ first ∷ []) ++ behind) × (has (nodes behind) node ≡ true)
end_more walk rest behind first node front is split there other = (
  split ∙ ap (λ (es : List Link). front ++ es) is ∙ sym (append_assoc front (first ∷ []) behind),
  by (node == first.0) refl (subst (λ (es : List Link). has (nodes es) node ≡ true) is there),
)
  where
    by : (b : Bool) → (node == first.0) ≡ b → (b || has (nodes behind) node) ≡ true → has (nodes behind) node ≡ true
    by true eq h = absurd (other (sym ((Decides-eqb node first.0).0 eq)))
    by false eq h = h

-- what is answered, by what a call answers
pub if_ok : {T E : Type 0} (r : Result T E) (P Q : T → Type 0) → ((x : T) → P x → Q x) → IfOk r P → IfOk r Q
if_ok (Ok x) P Q f h = f x h
if_ok (Err e) P Q f h = tt
