-- The members of components, and the links between components.
use Rattle.std.proofs.Common.{zero, suc, ◌≡◌, ◌≤◌, ◌<◌, ◌+◌, ◌⊎◌, inl, inr, ℕ, Bool, true, false, List, [], ◌∷◌, ◌++◌, length, set, refl, sym, ◌∙◌, ap, subst, arith}
use Rattle.std.specs.Prelude.{◌||◌, ◌&&◌, ◌==◌, slice_index}
use Rattle.std.specs.List.{AllByRecursion}
use Rattle.std.proofs.lemmas.Bool.{false≢true}
use Rattle.std.proofs.lemmas.Bool.Decides.{Decides-eqb}
use Rattle.std.proofs.lemmas.List.{length-set, get_or-set_same, get_or-set_other}
use Rattle.topological_order.specs.Order.{Links, links_of, has, AreWithin}
use Rattle.topological_order.proofs.OrderLemmas.{has-push}
use Rattle.strong_components.specs.Components.{AreMutual, AreAscending, first_of, IsComponent}
use Rattle.strong_components.specs.Gather.{AreRoots}
use Rattle.strong_components.specs.Condensed.{AreMembers, AreLeast}
use Rattle.strong_components.proofs.BasicLemmas.{same, differ, itself, either, by_left, by_right, mutual_back, mutual_on, mutual_node}

-- ---- lists that ascend

pub all_has : (P : ℕ → Type 0) (xs : List ℕ) (u : ℕ) → AllByRecursion P xs → has xs u ≡ true → P u
all_has P [] u h there = absurd (false≢true there)
all_has P (x ∷ xs) u h there = by (u == x) refl there (all_has P xs u h.1)
  where
    by : (b : Bool) → (u == x) ≡ b → (b || has xs u) ≡ true → (has xs u ≡ true → P u) → P u
    by true eq there rest = subst (λ (y : ℕ). P y) (sym (same u x eq)) h.0
    by false eq there rest = rest there

pub first_least : (xs : List ℕ) (v : ℕ) → AreAscending xs → has xs v ≡ true → first_of xs ≤ v
first_least [] v h there = absurd (false≢true there)
first_least (x ∷ xs) v h there = by (either (v == x) (has xs v) there)
  where
    by : ((v == x) ≡ true) ⊎ (has xs v ≡ true) → x ≤ v
    by (inl is) = rw (same v x is) (omega arith)
    by (inr rest) = let less : x < v = all_has (λ w. x < w) xs v h.0 rest in omega (arith, less)

pub first_among : (xs : List ℕ) → (length xs ≡ 0 → ⊥) → has xs (first_of xs) ≡ true
first_among [] some = absurd (some refl)
first_among (x ∷ xs) some = by_left (x == x) (has xs x) (itself x)

pub some_among : (xs : List ℕ) (v : ℕ) → has xs v ≡ true → length xs ≡ 0 → ⊥
some_among [] v h is = false≢true h
some_among (x ∷ xs) v h is = absurd (omega (arith, is))

all_push : (P : ℕ → Type 0) (xs : List ℕ) (x : ℕ) → AllByRecursion P xs → P x → AllByRecursion P (xs ++ x ∷ [])
all_push P [] x h p = (p, tt)
all_push P (y ∷ ys) x h p = (h.0, all_push P ys x h.1 p)

pub ascending_more : (xs : List ℕ) (x : ℕ) → AreAscending xs → ((v : ℕ) → has xs v ≡ true → v < x)
    → AreAscending (xs ++ x ∷ [])
ascending_more [] x h below = (tt, tt)
ascending_more (y ∷ ys) x h below = (
  all_push (λ w. y < w) ys x h.0 (below y (by_left (y == y) (has ys y) (itself y))),
  ascending_more ys x h.1 (λ v there. below v (by_right (v == y) (has ys v) there)),
)

-- ---- members

-- one empty list more
pub none_more : (lists : Links) → ((u : ℕ) → links_of lists u ≡ []) → (u : ℕ) → links_of (lists ++ [] ∷ []) u ≡ []
none_more [] none zero = refl
none_more [] none (suc u) = none u
none_more (xs ∷ lists) none zero = none zero
none_more (xs ∷ lists) none (suc u) = none_more lists (λ v. none (suc v)) u

pub members_begun : (roots : List ℕ) (lists : Links) → length lists ≡ length roots
    → ((u : ℕ) → links_of lists u ≡ []) → AreMembers roots 0 lists
members_begun roots lists len none = record {
  len = len;
  each = λ r v h. absurd (false≢true (subst (λ (xs : List ℕ). has xs v ≡ true) (none r) h));
  all = λ v l. absurd (omega (arith, l));
  ascending = λ r. subst AreAscending (sym (none r)) tt;
}

-- what a list has after one more was put into one of the lists
pub put_has : (lists : Links) (at item r v : ℕ) → at < length lists
    → has (links_of (set lists at (links_of lists at ++ item ∷ [])) r) v
    ≡ ((r == at && v == item) || has (links_of lists r) v)
put_has lists at item r v l = by (r == at) refl
  where
    swap : (a b : Bool) → (a || b) ≡ (b || a)
    swap true true = refl
    swap true false = refl
    swap false true = refl
    swap false false = refl

    by : (b : Bool) → (r == at) ≡ b
        → has (links_of (set lists at (links_of lists at ++ item ∷ [])) r) v
        ≡ ((b && v == item) || has (links_of lists r) v)
    by true is =
        subst (λ (x : ℕ). has (links_of (set lists at (links_of lists at ++ item ∷ [])) x) v
        ≡ (v == item || has (links_of lists x) v)) (sym (same r at is))
        (ap (λ (xs : List ℕ). has xs v) (get_or-set_same lists at (links_of lists at ++ item ∷ []) [] l)
        ∙ has-push (links_of lists at) item v ∙ swap (has (links_of lists at) v) (v == item))
    by false is =
        ap (λ (xs : List ℕ). has xs v)
        (get_or-set_other lists at r (links_of lists at ++ item ∷ []) [] (differ r at is))

pub last_or : (a b : ℕ) → a < suc b → (a ≡ b) ⊎ (a < b)
last_or a b h = grind arith

-- one node more
pub members_more : (roots : List ℕ) (n : ℕ) (lists : Links) → AreMembers roots n lists
    → slice_index roots n < length roots
    → AreMembers roots (n + 1) (set lists (slice_index roots n) (links_of lists (slice_index roots n) ++ n ∷ []))
members_more roots n lists m l = record {
  len = length-set lists at (links_of lists at ++ n ∷ []) ∙ m.len;
  each = λ r v h. each_at r v (r == at) refl (v == n) refl (sym (put_has lists at n r v within) ∙ h);
  all = λ v less. all_at_node v (last_or v n (omega (arith, less)));
  ascending = λ r. ascending_at r (r == at) refl;
}
  where
    at : ℕ
    at = slice_index roots n

    within : at < length lists
    within = rw m.len l

    each_at : (r v : ℕ) (a : Bool) → (r == at) ≡ a → (b : Bool) → (v == n) ≡ b
        → ((a && b) || has (links_of lists r) v) ≡ true → (v < n + 1) × (slice_index roots v ≡ r)
    each_at r v true is true eq h =
        (rw (same v n eq) (omega arith), ap (slice_index roots) (same v n eq) ∙ sym (same r at is))
    each_at r v true is false eq h = let old = m.each r v h in (let less = old.0 in omega (arith, less), old.1)
    each_at r v false is b eq h = let old = m.each r v h in (let less = old.0 in omega (arith, less), old.1)

    all_at_node : (v : ℕ) → (v ≡ n) ⊎ (v < n)
        → has (links_of (set lists at (links_of lists at ++ n ∷ [])) (slice_index roots v)) v ≡ true
    all_at_node v (inl is) =
        put_has lists at n (slice_index roots v) v within
        ∙ by_left (slice_index roots v == at && v == n) (has (links_of lists (slice_index roots v)) v)
        (both (slice_index roots v == at) (v == n)
        ((Decides-eqb (slice_index roots v) at).1 (ap (slice_index roots) is))
        ((Decides-eqb v n).1 is))
      where
        both : (a b : Bool) → a ≡ true → b ≡ true → (a && b) ≡ true
        both a b h k = rw (h, k) refl
    all_at_node v (inr less) =
        put_has lists at n (slice_index roots v) v within
        ∙ by_right (slice_index roots v == at && v == n) (has (links_of lists (slice_index roots v)) v) (m.all v less)

    ascending_at : (r : ℕ) (b : Bool) → (r == at) ≡ b
        → AreAscending (links_of (set lists at (links_of lists at ++ n ∷ [])) r)
    ascending_at r true is =
        subst (λ (x : ℕ). AreAscending (links_of (set lists at (links_of lists at ++ n ∷ [])) x)) (sym (same r at is))
        (subst AreAscending (sym (get_or-set_same lists at (links_of lists at ++ n ∷ []) [] within))
        (ascending_more (links_of lists at) n (m.ascending at) (λ v h. (m.each at v h).0)))
    ascending_at r false is =
        subst AreAscending (sym (get_or-set_other lists at r (links_of lists at ++ n ∷ []) [] (differ r at is)))
        (m.ascending r)

-- ---- each component

module _ (g : Links) (roots : List ℕ) (lists : Links) where
  -- a node's members
  abbrev pub members : ℕ → List ℕ
  members v = links_of lists (slice_index roots v)

  pub member_self : AreRoots g roots → AreMembers roots (length roots) lists → (v : ℕ) → v < length g
      → has (members v) v ≡ true
  member_self r m v l = m.all v (rw r.len l)

  pub members_some : AreRoots g roots → AreMembers roots (length roots) lists → (v : ℕ) → v < length g
      → length (members v) ≡ 0 → ⊥
  members_some r m v l = some_among (members v) v (member_self r m v l)

  pub is_component : AreWithin g → AreRoots g roots → AreMembers roots (length roots) lists → (v : ℕ) → v < length g
      → IsComponent g (members v)
  is_component within r m v l = record {
    some = members_some r m v l;
    ascending = m.ascending (slice_index roots v);
    nodes = λ u h. node u h;
    whole = λ u w h. (λ k. between u w h k, λ k. among u w h k);
  }
    where
      node : (u : ℕ) → has (members v) u ≡ true → u < length g
      node u h = subst (λ (n : ℕ). u < n) r.len (m.each (slice_index roots v) u h).0

      to_root : (u : ℕ) → has (members v) u ≡ true → AreMutual g u (slice_index roots v)
      to_root u h = subst (λ (x : ℕ). AreMutual g u x) (m.each (slice_index roots v) u h).1 (r.of_root u (node u h))

      between : (u w : ℕ) → has (members v) u ≡ true → has (members v) w ≡ true → AreMutual g u w
      between u w h k =
          mutual_on g u (slice_index roots v) w (to_root u h) (mutual_back g w (slice_index roots v) (to_root w k))

      among : (u w : ℕ) → has (members v) u ≡ true → AreMutual g u w → has (members v) w ≡ true
      among u w h k =
          let l : w < length g = mutual_node g u w within (node u h) k in
          subst (λ (x : ℕ). has (links_of lists x) w ≡ true)
          (sym (r.same u w (node u h) l k) ∙ (m.each (slice_index roots v) u h).1) (member_self r m w l)

  -- the least members
  pub least_members : AreWithin g → AreRoots g roots → AreMembers roots (length roots) lists → (least : List ℕ)
      → length least ≡ length g → ((v : ℕ) → v < length g → slice_index least v ≡ first_of (members v))
      → AreLeast g least
  least_members within r m least len is = record {
    len = len;
    of_least = λ v l. of_least v l;
    same = λ v w l k both.
        is v l ∙ ap (λ x. first_of (links_of lists x)) (r.same v w l k both) ∙ sym (is w k);
    below = λ v l. rw (is v l)
        (first_least (members v) v (m.ascending (slice_index roots v)) (member_self r m v l));
  }
    where
      of_least : (v : ℕ) → v < length g → AreMutual g v (slice_index least v)
      of_least v l =
          subst (λ (x : ℕ). AreMutual g v x) (sym (is v l))
          (((is_component within r m v l).whole v (first_of (members v)) (member_self r m v l)).0
          (first_among (members v) (members_some r m v l)))
