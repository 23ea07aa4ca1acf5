-- The links of one level, and the roots, one after another.
use Rattle.std.proofs.Common.{◌≡◌, ◌≤◌, ◌<◌, ◌+◌, ◌⊎◌, inl, inr, ℕ, Bool, true, false, List, [], ◌∷◌, ◌++◌, length, set, drop, sym, ◌∙◌, ap, subst, arith, Result, Ok, Err, IfOk}
use Rattle.std.specs.Prelude.{◌==◌, slice_index}
use Rattle.std.specs.List.{AllByRecursion}
use Rattle.std.proofs.lemmas.Bool.{false≢true}
use Rattle.topological_order.specs.Order.{Links, Link, links_of, has, AreWithin}
use Rattle.topological_order.proofs.OrderLemmas.{all_at}
use Rattle.shortest_paths.specs.declared.without.Without.{Without}
use Rattle.shortest_paths.specs.Paths.{keeps, keeps_link, keeps_root}
use Rattle.shortest_paths.specs.Search.{is_met, IsFollowed, IsSearch, IsKept, AreRootsMet, AreMarkedOnly, unmarked}
use Rattle.shortest_paths.proofs.SearchLemmas.{by_left, itself, met_within, kept_on, followed_kept, hand_less, level_next, root_met, link_met, last_or, drop_next, has_at, place_in}

-- the node at a place of a level that is in hand
module _ (g : Links) (roots : List ℕ) (w : Without) (front : List ℕ) (at : ℕ) (here : at < length front) where
  abbrev node : ℕ
  node = slice_index front at

  pub first_in_hand : (met : List Bool) (level : List ℕ) (from : List Link) (next : List ℕ) (depth : ℕ)
      → IsSearch g roots w (drop at front) met level from next depth
      → IsSearch g roots w (node ∷ drop (at + 1) front) met level from next depth
  first_in_hand met level from next depth s =
      subst (λ (xs : List ℕ). IsSearch g roots w xs met level from next depth) (drop_next front at here) s

  pub node_met : (met : List Bool) (level : List ℕ) (from : List Link) (next : List ℕ) (depth : ℕ)
      → IsSearch g roots w (drop at front) met level from next depth → is_met met node ≡ true
  node_met met level from next depth s =
      ((first_in_hand met level from next depth s).in_hand node
      (by_left (node == node) (has (drop (at + 1) front) node) (itself node))).0

  pub node_within : (met : List Bool) (level : List ℕ) (from : List Link) (next : List ℕ) (depth : ℕ)
      → IsSearch g roots w (drop at front) met level from next depth → node < length g
  node_within met level from next depth s =
      subst (λ (n : ℕ). node < n) s.met_len (met_within met node (node_met met level from next depth s))

  -- what holds after so many of its links
  abbrev pub Follows : List Bool → List ℕ → List ℕ → ℕ → List Bool → List ℕ → List Link → List ℕ → Type 0
  Follows met0 level0 next0 n met level from next =
      ((depth : ℕ) × IsSearch g roots w (drop at front) met level from next depth)
      × IsKept met0 level0 met level
      × (unmarked met + length next ≤ unmarked met0 + length next0)
      × ((k : ℕ) → k < n → k < length (links_of g node) → keeps w g (node, k) ≡ true
      → IsFollowed g met level (node, k))

  pub follow_more : (met0 : List Bool) (level0 next0 : List ℕ) (place : ℕ) (met : List Bool) (level : List ℕ)
      (from : List Link) (next : List ℕ) (further : ℕ) (targets : List ℕ) (met2 : List Bool) (level2 : List ℕ)
      (from2 : List Link) (next2 : List ℕ)
      → AreWithin g → is_met met0 node ≡ true → targets ≡ links_of g node → place < length targets
      → further ≡ slice_index level0 node + 1 → keeps_link w node place (slice_index targets place) ≡ true
      → Follows met0 level0 next0 place met level from next
      → (is_met met (slice_index targets place) ≡ true
      → (met2 ≡ met) × (level2 ≡ level) × (from2 ≡ from) × (next2 ≡ next))
      → (is_met met (slice_index targets place) ≡ false
      → (met2 ≡ set met (slice_index targets place) true) × (level2 ≡ set level (slice_index targets place) further)
      × (from2 ≡ set from (slice_index targets place) (node, place)) × (next2 ≡ next ++ slice_index targets place ∷ []))
      → Follows met0 level0 next0 (place + 1) met2 level2 from2 next2
  follow_more met0 level0 next0 place met level from next further targets met2 level2 from2 next2 within met_node
      targets_is l further_is keep i stays fresh = (
        (
          i.0.0,
          subst (λ (xs : List ℕ). IsSearch g roots w xs met2 level2 from2 next2 i.0.0)
              (sym (drop_next front at here)) r.0,
        ),
        kept_on met0 met met2 level0 level level2 i.1 r.1,
        (let one = i.2 in let two = r.2 in omega (arith, one, two)),
        λ k below low kept. followed k low kept (last_or k place below),
      )
    where
      r : IsSearch g roots w (node ∷ drop (at + 1) front) met2 level2 from2 next2 i.0.0 × IsKept met level met2 level2
          × (unmarked met2 + length next2 ≤ unmarked met + length next) × IsFollowed g met2 level2 (node, place)
      r = link_met g roots w node (drop (at + 1) front) met level from next i.0.0 place further targets met2 level2
          from2
          next2 within (first_in_hand met level from next i.0.0 i.0.1) targets_is l
          (further_is ∙ ap (λ (n : ℕ). n + 1) (sym (i.1.levels node met_node)))
          (subst (λ (ts : List ℕ). keeps_link w node place (slice_index ts place) ≡ true) targets_is keep) stays fresh

      followed : (k : ℕ) → k < length (links_of g node) → keeps w g (node, k) ≡ true → (k ≡ place) ⊎ (k < place)
          → IsFollowed g met2 level2 (node, k)
      followed k low kept (inl is) = subst (λ (x : ℕ). IsFollowed g met2 level2 (node, x)) (sym is) r.3
      followed k low kept (inr less) =
          followed_kept g met met2 level level2 (node, k) r.1 (i.1.marks node met_node) (i.3 k less low kept)

  pub follow_less : (met0 : List Bool) (level0 next0 : List ℕ) (place : ℕ) (met : List Bool) (level : List ℕ)
      (from : List Link) (next targets : List ℕ) → targets ≡ links_of g node
      → keeps_link w node place (slice_index targets place) ≡ false
      → Follows met0 level0 next0 place met level from next → Follows met0 level0 next0 (place + 1) met level from next
  follow_less met0 level0 next0 place met level from next targets targets_is left i =
      (i.0, i.1, i.2, λ k below low kept. followed k low kept (last_or k place below))
    where
      followed : (k : ℕ) → k < length (links_of g node) → keeps w g (node, k) ≡ true → (k ≡ place) ⊎ (k < place)
          → IsFollowed g met level (node, k)
      followed k low kept (inl is) = absurd (false≢true
          (sym (subst (λ (ts : List ℕ). keeps_link w node place (slice_index ts place) ≡ false) targets_is left)
          ∙ subst (λ (x : ℕ). keeps w g (node, x) ≡ true) is kept))
      followed k low kept (inr less) = i.3 k less low kept

  pub follow_done : (met0 : List Bool) (level0 next0 : List ℕ) (n : ℕ) (met : List Bool) (level : List ℕ)
      (from : List Link) (next targets : List ℕ) → targets ≡ links_of g node → length targets ≤ n
      → Follows met0 level0 next0 n met level from next
      → (depth : ℕ) × IsSearch g roots w (drop (at + 1) front) met level from next depth
  follow_done met0 level0 next0 n met level from next targets targets_is le i = (
    i.0.0,
    hand_less g roots w node (drop (at + 1) front) met level from next i.0.0
        (first_in_hand met level from next i.0.0 i.0.1)
        (λ k l kept. i.3 k
        (let more : length (links_of g node) ≤ n = subst (λ (ts : List ℕ). length ts ≤ n) targets_is le in
        omega (arith, more, l)) l kept),
  )

-- ---- levels

pub front_next : (g : Links) (roots : List ℕ) (w : Without) (met : List Bool) (level : List ℕ) (from : List Link)
    (next front rest : List ℕ) (depth : ℕ) → front ≡ next → rest ≡ []
    → IsSearch g roots w [] met level from next depth → IsSearch g roots w front met level from rest (depth + 1)
front_next g roots w met level from next front rest depth a b s =
    rw (a, b) (level_next g roots w met level from next depth s)

pub roots_kept : (roots : List ℕ) (w : Without) (met met2 : List Bool) (level level2 : List ℕ)
    → IsKept met level met2 level2 → AreRootsMet roots w met level → AreRootsMet roots w met2 level2
roots_kept roots w met met2 level level2 k r = λ v h begins.
    let old = r v h begins in (k.marks v old.0, k.levels v old.0 ∙ old.1)

-- ---- roots

-- what holds after so many roots
abbrev pub Meets : Links → List ℕ → Without → ℕ → List Bool → List ℕ → List Link → List ℕ → Type 0
Meets g roots w n met level from next =
    IsSearch g roots w [] met level from next 0
    × ((k : ℕ) → k < n → k < length roots → keeps_root w (slice_index roots k) ≡ true
    → (is_met met (slice_index roots k) ≡ true) × (slice_index level (slice_index roots k) ≡ 0))

pub meet_more : (g : Links) (roots : List ℕ) (w : Without) (n : ℕ) (met : List Bool) (level : List ℕ) (from : List Link)
    (next : List ℕ) (met2 : List Bool) (level2 : List ℕ) (from2 : List Link) (next2 : List ℕ)
    → AllByRecursion (λ r. r < length g) roots → n < length roots → keeps_root w (slice_index roots n) ≡ true
    → Meets g roots w n met level from next
    → (is_met met (slice_index roots n) ≡ true
    → (met2 ≡ met) × (level2 ≡ level) × (from2 ≡ from) × (next2 ≡ next))
    → (is_met met (slice_index roots n) ≡ false
    → (met2 ≡ set met (slice_index roots n) true) × (level2 ≡ set level (slice_index roots n) 0)
    × (from2 ≡ set from (slice_index roots n) (0, 0)) × (next2 ≡ next ++ slice_index roots n ∷ []))
    → Meets g roots w (n + 1) met2 level2 from2 next2
meet_more g roots w n met level from next met2 level2 from2 next2 within l begins i stays fresh =
    (r.0, λ k below low kept. met_at k low kept (last_or k n below))
  where
    r : IsSearch g roots w [] met2 level2 from2 next2 0 × IsKept met level met2 level2
        × (is_met met2 (slice_index roots n) ≡ true) × (slice_index level2 (slice_index roots n) ≡ 0)
    r = root_met g roots w met level from next (slice_index roots n) met2 level2 from2 next2 i.0
        (all_at (λ r. r < length g) roots n within l) (has_at roots n l) begins stays fresh

    met_at : (k : ℕ) → k < length roots → keeps_root w (slice_index roots k) ≡ true → (k ≡ n) ⊎ (k < n)
        → (is_met met2 (slice_index roots k) ≡ true) × (slice_index level2 (slice_index roots k) ≡ 0)
    met_at k low kept (inl is) = subst (λ (x : ℕ). (is_met met2 (slice_index roots x) ≡ true)
        × (slice_index level2 (slice_index roots x) ≡ 0)) (sym is) (r.2, r.3)
    met_at k low kept (inr less) =
        let old = i.1 k less low kept in
        (r.1.marks (slice_index roots k) old.0, r.1.levels (slice_index roots k) old.0 ∙ old.1)

pub meet_less : (g : Links) (roots : List ℕ) (w : Without) (n : ℕ) (met : List Bool) (level : List ℕ) (from : List Link)
    (next : List ℕ) → keeps_root w (slice_index roots n) ≡ false → Meets g roots w n met level from next
    → Meets g roots w (n + 1) met level from next
meet_less g roots w n met level from next left i = (i.0, λ k below low kept. met_at k low kept (last_or k n below))
  where
    met_at : (k : ℕ) → k < length roots → keeps_root w (slice_index roots k) ≡ true → (k ≡ n) ⊎ (k < n)
        → (is_met met (slice_index roots k) ≡ true) × (slice_index level (slice_index roots k) ≡ 0)
    met_at k low kept (inl is) =
        absurd (false≢true (sym left ∙ subst (λ (x : ℕ). keeps_root w (slice_index roots x) ≡ true) is kept))
    met_at k low kept (inr less) = i.1 k less low kept

pub meet_done : (g : Links) (roots : List ℕ) (w : Without) (n : ℕ) (met : List Bool) (level : List ℕ) (from : List Link)
    (next : List ℕ) → length roots ≤ n → Meets g roots w n met level from next → AreRootsMet roots w met level
meet_done g roots w n met level from next le i = λ v h begins.
    let (k, l, at) = place_in roots v h in
    subst (λ (x : ℕ). (is_met met x ≡ true) × (slice_index level x ≡ 0)) at
    (i.1 k (omega (arith, le, l)) l (subst (λ (x : ℕ). keeps_root w x ≡ true) (sym at) begins))

-- ---- what a call answers

pub if_ok : {T E : Type 0} (r : Result T E) (P Q : T → Type 0) → ((x : T) → P x → Q x) → IfOk r P → IfOk r Q
if_ok (Ok x) P Q f h = f x h
if_ok (Err e) P Q f h = tt

pub marked_same : (first second met met2 : List Bool) (places : List ℕ) → first ≡ met → second ≡ met2
    → AreMarkedOnly first second (length first) places → AreMarkedOnly met met2 (length met) places
marked_same first second met met2 places a b m =
    subst (λ (x : List Bool). AreMarkedOnly met x (length met) places) b
    (subst (λ (x : List Bool). AreMarkedOnly x second (length x) places) a m)
