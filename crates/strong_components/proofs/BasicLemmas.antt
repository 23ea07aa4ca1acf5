-- Numbers in lists, marks, and chains of links.
use Rattle.std.proofs.Common.{zero, suc, ◌≡◌, ◌≢◌, ◌<◌, ◌+◌, ◌⊎◌, inl, inr, ℕ, Bool, true, false, List, [], ◌∷◌, ◌++◌, length, set, replicate, refl, sym, ◌∙◌, ap, subst, arith}
use Rattle.std.specs.Prelude.{◌||◌, ◌==◌, slice_index, slice_index_or}
use Rattle.std.proofs.lemmas.Bool.{false≢true}
use Rattle.std.proofs.lemmas.Bool.Decides.{Decides-eqb}
use Rattle.std.proofs.lemmas.List.{get_or-set_same, get_or-set_other}
use Rattle.topological_order.specs.Order.{Links, Link, links_of, has, AreWithin, target, IsChain, EachBehind}
use Rattle.topological_order.proofs.OrderLemmas.{all_at}
use Rattle.strong_components.specs.Components.{Reaches, AreMutual}
use Rattle.strong_components.specs.Finish.{unmarked}

-- ---- truth values

pub same : (x y : ℕ) → (x == y) ≡ true → x ≡ y
same x y h = (Decides-eqb x y).0 h

pub differ : (x y : ℕ) → (x == y) ≡ false → x ≢ y
differ x y h is = false≢true (sym h ∙ (Decides-eqb x y).1 is)

pub itself : (x : ℕ) → (x == x) ≡ true
itself x = (Decides-eqb x x).1 refl

pub either : (a b : Bool) → (a || b) ≡ true → (a ≡ true) ⊎ (b ≡ true)
either true b h = inl refl
either false b h = inr h

pub by_left : (a b : Bool) → a ≡ true → (a || b) ≡ true
by_left a b h = rw h refl

pub by_right : (a b : Bool) → b ≡ true → (a || b) ≡ true
by_right true b h = refl
by_right false b h = h

pub or_false : (a : Bool) → (a || false) ≡ a
or_false true = refl
or_false false = refl

pub or_moved : (a b c : Bool) → (a || (b || c)) ≡ ((a || c) || b)
or_moved true b c = refl
or_moved false true true = refl
or_moved false true false = refl
or_moved false false true = refl
or_moved false false false = refl

pub or_assoc : (a b c : Bool) → ((a || b) || c) ≡ (a || (b || c))
or_assoc true b c = refl
or_assoc false b c = refl

pub alike : (a b : Bool) → (a ≡ true → b ≡ true) → (b ≡ true → a ≡ true) → a ≡ b
alike true b f g = sym (f refl)
alike false true f g = g refl
alike false false f g = refl

-- ---- numbers in lists

-- where a number is
pub place_in : (xs : List ℕ) (x : ℕ) → has xs x ≡ true → (k : ℕ) × (k < length xs) × (slice_index xs k ≡ x)
place_in [] x h = absurd (false≢true h)
place_in (y ∷ ys) x h = by (x == y) refl h (place_in ys x)
  where
    by : (b : Bool) → (x == y) ≡ b → (b || has ys x) ≡ true
        → (has ys x ≡ true → (k : ℕ) × (k < length ys) × (slice_index ys k ≡ x))
        → (k : ℕ) × (k < length (y ∷ ys)) × (slice_index (y ∷ ys) k ≡ x)
    by true is h rest = (zero, omega arith, sym (same x y is))
    by false is h rest = let (k, l, at) = rest h in (suc k, omega (arith, l), at)

pub has_at : (xs : List ℕ) (k : ℕ) → k < length xs → has xs (slice_index xs k) ≡ true
has_at [] k l = absurd (omega arith)
has_at (x ∷ xs) zero l = by_left (x == x) (has xs x) (itself x)
has_at (x ∷ xs) (suc k) l = by_right (slice_index xs k == x) (has xs (slice_index xs k)) (has_at xs k (omega arith))

-- ---- marks

pub marked_within : (marks : List Bool) (v : ℕ) → slice_index_or marks v false ≡ true → v < length marks
marked_within [] v h = absurd (none v h)
  where
    none : (v : ℕ) → slice_index_or [] v false ≡ true → ⊥
    none zero h = false≢true h
    none (suc v) h = false≢true h
marked_within (b ∷ bs) zero h = omega arith
marked_within (b ∷ bs) (suc v) h = let rest : v < length bs = marked_within bs v h in omega (arith, rest)

pub mark_here : (marks : List Bool) (v : ℕ) → v < length marks → slice_index_or (set marks v true) v false ≡ true
mark_here marks v l = get_or-set_same marks v true false l

pub mark_there : (marks : List Bool) (v u : ℕ) → (u == v) ≡ false
    → slice_index_or (set marks v true) u false ≡ slice_index_or marks u false
mark_there marks v u h = get_or-set_other marks v u true false (differ u v h)

-- marks stay
pub mark_kept : (marks : List Bool) (v u : ℕ) → slice_index_or marks u false ≡ true
    → slice_index_or (set marks v true) u false ≡ true
mark_kept marks v u h = by (u == v) refl
  where
    by : (b : Bool) → (u == v) ≡ b → slice_index_or (set marks v true) u false ≡ true
    by true is =
        subst (λ (x : ℕ). slice_index_or (set marks v true) x false ≡ true) (sym (same u v is))
        (mark_here marks v (subst (λ (x : ℕ). x < length marks) (same u v is) (marked_within marks u h)))
    by false is = mark_there marks v u is ∙ h

pub none_marked : (n v : ℕ) → slice_index_or (replicate n false) v false ≡ false
none_marked zero v = refl
none_marked (suc n) zero = refl
none_marked (suc n) (suc v) = none_marked n v

pub all_zero : (n v : ℕ) → slice_index (replicate n 0) v ≡ 0
all_zero zero v = refl
all_zero (suc n) zero = refl
all_zero (suc n) (suc v) = all_zero n v

pub fewer_unmarked : (marks : List Bool) (v : ℕ) → v < length marks → slice_index_or marks v false ≡ false
    → unmarked (set marks v true) + 1 ≡ unmarked marks
fewer_unmarked [] v l h = absurd (omega arith)
fewer_unmarked (b ∷ bs) zero l h = by b h
  where
    by : (b : Bool) → b ≡ false → unmarked (true ∷ bs) + 1 ≡ unmarked (b ∷ bs)
    by false is = omega arith
    by true is = absurd (false≢true (sym is))
fewer_unmarked (b ∷ bs) (suc v) l h = let rest : unmarked (set bs v true) + 1 ≡ unmarked bs =
    fewer_unmarked bs v (omega arith) h in omega (arith, rest)

-- ---- what holds behind what comes before

pub each_last : (Fits : List ℕ → ℕ → Type 0) (front list : List ℕ) (v : ℕ) → EachBehind Fits front (list ++ v ∷ [])
    → EachBehind Fits front list × Fits (front ++ list) v
each_last Fits front [] v h = (tt, subst (λ (xs : List ℕ). Fits xs v) (sym (append_none front)) h.0)
  where
    append_none : (xs : List ℕ) → xs ++ [] ≡ xs
    append_none [] = refl
    append_none (x ∷ xs) = ap (λ (ys : List ℕ). x ∷ ys) (append_none xs)
each_last Fits front (x ∷ list) v h =
    let rest = each_last Fits (front ++ x ∷ []) list v h.1 in
    ((h.0, rest.0), subst (λ (xs : List ℕ). Fits xs v) (moved front) rest.1)
  where
    moved : (xs : List ℕ) → (xs ++ x ∷ []) ++ list ≡ xs ++ x ∷ list
    moved [] = refl
    moved (y ∷ ys) = ap (λ (zs : List ℕ). y ∷ zs) (moved ys)

-- ---- chains

pub chain_joined : (g : Links) (u v w : ℕ) (p q : List Link) → IsChain g u p v → IsChain g v q w
    → IsChain g u (p ++ q) w
chain_joined g u v w [] q h k = subst (λ (x : ℕ). IsChain g x q w) (sym h) k
chain_joined g u v w (e ∷ p) q h k = (h.0, h.1, chain_joined g (target g e) v w p q h.2 k)

pub reaches_self : (g : Links) (v : ℕ) → Reaches g v v
reaches_self g v = record { path = []; leads = refl }

pub reaches_on : (g : Links) (u v w : ℕ) → Reaches g u v → Reaches g v w → Reaches g u w
reaches_on g u v w r s = record { path = r.path ++ s.path; leads = chain_joined g u v w r.path s.path r.leads s.leads }

pub reaches_link : (g : Links) (v t : ℕ) → has (links_of g v) t ≡ true → Reaches g v t
reaches_link g v t h =
    let (k, l, at) = place_in (links_of g v) t h in record { path = (v, k) ∷ []; leads = (refl, l, at) }

-- what holds of a node if it holds of one that it has a link to, holds of a node that reaches one of which it holds
pub reaches_back : (g : Links) (P : ℕ → Type 0) → ((v t : ℕ) → has (links_of g v) t ≡ true → P t → P v)
    → (v w : ℕ) (path : List Link) → IsChain g v path w → P w → P v
reaches_back g P closed v w [] h p = subst P (sym h) p
reaches_back g P closed v w (e ∷ path) h p =
    subst P h.0
    (closed e.0 (target g e) (has_at (links_of g e.0) e.1 h.1) (reaches_back g P closed (target g e) w path h.2 p))

-- a node reaches nodes
pub reached_node : (g : Links) → AreWithin g → (v w : ℕ) (path : List Link) → IsChain g v path w → v < length g
    → w < length g
reached_node g within v w [] h l = subst (λ (x : ℕ). x < length g) h l
reached_node g within v w (e ∷ path) h l =
    reached_node g within (target g e) w path h.2 (all_at (λ t. t < length g) (links_of g e.0) e.1 (within e.0) h.1)

pub mutual_self : (g : Links) (v : ℕ) → AreMutual g v v
mutual_self g v = record { there = reaches_self g v; back = reaches_self g v }

pub mutual_back : (g : Links) (v w : ℕ) → AreMutual g v w → AreMutual g w v
mutual_back g v w m = record { there = m.back; back = m.there }

pub mutual_on : (g : Links) (u v w : ℕ) → AreMutual g u v → AreMutual g v w → AreMutual g u w
mutual_on g u v w m n =
    record { there = reaches_on g u v w m.there n.there; back = reaches_on g w v u n.back m.back }

pub mutual_node : (g : Links) (v w : ℕ) → AreWithin g → v < length g → AreMutual g v w → w < length g
mutual_node g v w within l m = reached_node g within v w m.there.path m.there.leads l
