-- Placing nodes one behind the other.
use Rattle.std.proofs.Common.{zero, suc, ◌≡◌, ◌≢◌, ◌≤◌, ◌<◌, ◌+◌, ◌-◌, ◌⊎◌, inl, inr, ℕ, Bool, true, false, cond, not, List, [], ◌∷◌, ◌++◌, length, get_or, set, drop, replicate, Option, Some, None, IfSome, MatchOption, add-one, refl, sym, ◌∙◌, ap, subst, arith, rules, Decides}
use Rattle.std.specs.Prelude.{◌||◌, ◌&&◌, ◌==◌, nat_lt, slice_index, slice_index_or}
use Rattle.std.specs.List.{All, AllByRecursion}
use Rattle.std.specs.BTreeSet.{insert_key}
use Rattle.std.specs.BTreeMap.Range.{IsLtBy}
use Rattle.std.specs.Ordering.{nat_cmp, match_ordering}
use Rattle.std.specs.declared.cmp.Ordering.{Ordering}
use Rattle.std.specs.declared.cmp.Ordering.TheVariants.{Less, Equal, Greater}
use Rattle.std.proofs.lemmas.Cmp.{ranked}
use Rattle.std.proofs.lemmas.List.Elements.{recursion_from_All}
use Rattle.std.proofs.lemmas.Bool.{false≢true}
use Rattle.std.proofs.lemmas.Bool.Decides.{Decides-eqb, Decides-ltb}
use Rattle.std.proofs.lemmas.List.{length-set, get_or-set_same, get_or-set_other, length-replicate, get_or_default}
use Rattle.topological_order.specs.Order.{Links, links_of, has, AreWithin, IsFree, IsLeastFree, EachBehind}
use Rattle.topological_order.specs.Placing.{AreBack, Waits, IsPlacing}
use Rattle.topological_order.proofs.OrderLemmas.{itself, has-push, has_more, has_last, all_map, all_at, all_from, each_more}

same : (x y : ℕ) → (x == y) ≡ true → x ≡ y
same x y h = (Decides-eqb x y).0 h

differ : (x y : ℕ) → (x == y) ≡ false → x ≢ y
differ x y h is = false≢true (sym h ∙ (Decides-eqb x y).1 is)

-- more may be in hand
pub in_hand_more : (g : Links) (h k : ℕ → Bool) (order : List ℕ) (placed : List Bool) (cursor free : List ℕ)
    → ((v : ℕ) → v < length g → k v ≡ false → h v ≡ false)
    → IsPlacing g h order placed cursor free → IsPlacing g k order placed cursor free
in_hand_more g h k order placed cursor free less p = record {
  placed_len = p.placed_len;
  cursor_len = p.cursor_len;
  marks = p.marks;
  each = p.each;
  within = p.within;
  counted = p.counted;
  may = p.may;
  waits = λ v node yet hand. p.waits v node yet (less v node hand);
}

-- the node's count after it was set
count_here : (cursor : List ℕ) (node k : ℕ) → node < length cursor → slice_index (set cursor node k) node ≡ k
count_here cursor node k l = get_or-set_same cursor node k 0 l

count_there : (cursor : List ℕ) (node k v : ℕ) → (v == node) ≡ false
    → slice_index (set cursor node k) v ≡ slice_index cursor v
count_there cursor node k v h = get_or-set_other cursor node v k 0 (differ v node h)

le_or : (j i : ℕ) → (j < i) ⊎ (i ≤ j)
le_or j i = grind arith

-- a node moves on
pub moved_on : (g : Links) (h : ℕ → Bool) (order : List ℕ) (placed : List Bool) (cursor free free' : List ℕ)
    (node k : ℕ)
    → node < length g
    → slice_index cursor node ≤ k → k ≤ length (links_of g node)
    → ((j : ℕ) → slice_index cursor node ≤ j → j < k
    → slice_index_or placed (slice_index (links_of g node) j) false ≡ true)
    → (k < length (links_of g node) → slice_index_or placed (slice_index (links_of g node) k) false ≡ false)
    → ((v : ℕ) → has free' v
    ≡ ((v == node && (k == length (links_of g node) && not (slice_index_or placed node false))) || has free v))
    → IsPlacing g (λ u. u == node || h u) order placed cursor free
    → IsPlacing g h order placed (set cursor node k) free'
moved_on g h order placed cursor free free' node k is_node from within passed open_yet is_free p = record {
  placed_len = p.placed_len;
  cursor_len = length-set cursor node k ∙ p.cursor_len;
  marks = p.marks;
  each = p.each;
  within = λ v. within_at v (v == node) refl;
  counted = λ v j l. counted_at v (v == node) refl j l;
  may = λ v there. may_at v (v == node) refl (sym (is_free v) ∙ there);
  waits = λ v l yet hand. waits_at v (v == node) refl l yet hand;
}
  where
    here : slice_index (set cursor node k) node ≡ k
    here = count_here cursor node k (rw p.cursor_len is_node)

    within_at : (v : ℕ) (b : Bool) → (v == node) ≡ b → slice_index (set cursor node k) v ≤ length (links_of g v)
    within_at v true is = rw (same v node is, here) within
    within_at v false is = rw (count_there cursor node k v is) (p.within v)

    all_counted : (j : ℕ) → j < k → has order (slice_index (links_of g node) j) ≡ true
    all_counted j l = by (le_or j (slice_index cursor node))
      where
        by : (j < slice_index cursor node) ⊎ (slice_index cursor node ≤ j)
            → has order (slice_index (links_of g node) j) ≡ true
        by (inl before) = p.counted node j before
        by (inr behind) = sym (p.marks (slice_index (links_of g node) j)) ∙ passed j behind l

    counted_at : (v : ℕ) (b : Bool) → (v == node) ≡ b → (j : ℕ) → j < slice_index (set cursor node k) v
        → has order (slice_index (links_of g v) j) ≡ true
    counted_at v true is j l =
        subst (λ (x : ℕ). has order (slice_index (links_of g x) j) ≡ true) (sym (same v node is))
        (all_counted j (subst (λ (x : ℕ). j < x) (ap (λ x. slice_index (set cursor node k) x) (same v node is) ∙ here)
        l))
    counted_at v false is j l = p.counted v j (subst (λ (x : ℕ). j < x) (count_there cursor node k v is) l)

    may_here : (whole marked : Bool) → (k == length (links_of g node)) ≡ whole
        → slice_index_or placed node false ≡ marked
        → (whole && not marked) ≡ true → IsFree g order node
    may_here true false full yet both = record {
      node = is_node;
      open_yet = sym (p.marks node) ∙ yet;
      placed = all_from (λ t. has order t ≡ true) (links_of g node)
          (λ j l. all_counted j (rw (same k (length (links_of g node)) full) l));
    }
    may_here true true full yet both = absurd (false≢true both)
    may_here false marked full yet both = absurd (false≢true both)

    may_at : (v : ℕ) (b : Bool) → (v == node) ≡ b
        → ((b && (k == length (links_of g node) && not (slice_index_or placed node false))) || has free v) ≡ true
        → IsFree g order v
    may_at v true is there = either (k == length (links_of g node) && not (slice_index_or placed node false)) refl there
      where
        either : (c : Bool) → (k == length (links_of g node) && not (slice_index_or placed node false)) ≡ c
            → (c || has free v) ≡ true → IsFree g order v
        either true whole t =
            subst (λ (x : ℕ). IsFree g order x) (sym (same v node is))
            (may_here (k == length (links_of g node)) (slice_index_or placed node false) refl refl whole)
        either false whole t = p.may v t
    may_at v false is there = p.may v there

    free_more : (v : ℕ) → has free v ≡ true → has free' v ≡ true
    free_more v there = is_free v
        ∙ rw there (last (v == node && (k == length (links_of g node) && not (slice_index_or placed node false))))
      where
        last : (b : Bool) → (b || true) ≡ true
        last true = refl
        last false = refl

    waits_here : has order node ≡ false → (has free' node ≡ true) ⊎ Waits g order (set cursor node k) node
    waits_here yet = by (k == length (links_of g node)) refl
      where
        by : (b : Bool) → (k == length (links_of g node)) ≡ b
            → (has free' node ≡ true) ⊎ Waits g order (set cursor node k) node
        by true full = inl (is_free node ∙ rw (itself node, full, p.marks node, yet) refl)
        by false part =
            let less : k < length (links_of g node) = omega (arith, within, differ k (length (links_of g node)) part) in
            inr (record {
              within = rw here less;
              open_yet = rw here (sym (p.marks (slice_index (links_of g node) k)) ∙ open_yet less);
            })

    kept : (v : ℕ) → (v == node) ≡ false → (has free v ≡ true) ⊎ Waits g order cursor v
        → (has free' v ≡ true) ⊎ Waits g order (set cursor node k) v
    kept v is (inl there) = inl (free_more v there)
    kept v is (inr w) = inr (record {
      within = rw (count_there cursor node k v is) w.within;
      open_yet = rw (count_there cursor node k v is) w.open_yet;
    })

    waits_at : (v : ℕ) (b : Bool) → (v == node) ≡ b → v < length g → has order v ≡ false → h v ≡ false
        → (has free' v ≡ true) ⊎ Waits g order (set cursor node k) v
    waits_at v true is l yet hand =
        subst (λ (x : ℕ). (has free' x ≡ true) ⊎ Waits g order (set cursor node k) x) (sym (same v node is))
        (waits_here (subst (λ (x : ℕ). has order x ≡ false) (same v node is) yet))
    waits_at v false is l yet hand = kept v is (p.waits v l yet (rw (is, hand) refl))

-- a node is placed: those that have a link to it are in hand
pub placed_more : (g back : Links) (order : List ℕ) (placed : List Bool) (cursor free : List ℕ) (node : ℕ)
    → AreBack g back
    → IsPlacing g (λ _. false) order placed cursor (node ∷ free)
    → ((u : ℕ) → has (node ∷ free) u ≡ true → node ≤ u)
    → has free node ≡ false
    → IsPlacing g (has (links_of back node)) (order ++ node ∷ []) (set placed node true) cursor free
placed_more g back order placed cursor free node turned p least gone = record {
  placed_len = length-set placed node true ∙ p.placed_len;
  cursor_len = p.cursor_len;
  marks = λ v. marks_at v (v == node) refl;
  each = each_more (IsLeastFree g) [] order node p.each (record { free = here; least = λ u free_u. least_at u free_u });
  within = p.within;
  counted = λ v j l. has_more order node (slice_index (links_of g v) j) (p.counted v j l);
  may = λ v there. may_at v (v == node) refl there;
  waits = λ v l yet hand. waits_at v l (sym (has-push order node v) ∙ yet) hand;
}
  where
    among : has (node ∷ free) node ≡ true
    among = rw (itself node) refl

    here : IsFree g order node
    here = p.may node among

    marks_at : (v : ℕ) (b : Bool) → (v == node) ≡ b
        → slice_index_or (set placed node true) v false ≡ has (order ++ node ∷ []) v
    marks_at v true is =
        subst (λ (x : ℕ). slice_index_or (set placed node true) x false ≡ has (order ++ node ∷ []) x)
        (sym (same v node is))
        (get_or-set_same placed node true false (rw p.placed_len here.node) ∙ sym (has_last order node))
    marks_at v false is =
        get_or-set_other placed node v true false (differ v node is) ∙ p.marks v
        ∙ sym (has-push order node v ∙ rw is (or_none (has order v)))
      where
        or_none : (b : Bool) → (b || false) ≡ b
        or_none true = refl
        or_none false = refl

    no_wait : (u : ℕ) → IsFree g order u → Waits g order cursor u → ⊥
    no_wait u f w = false≢true
        (sym w.open_yet ∙ all_at (λ t. has order t ≡ true) (links_of g u) (slice_index cursor u) f.placed w.within)

    least_at : (u : ℕ) → IsFree g order u → node ≤ u
    least_at u f = by (p.waits u f.node f.open_yet refl)
      where
        by : (has (node ∷ free) u ≡ true) ⊎ Waits g order cursor u → node ≤ u
        by (inl there) = least u there
        by (inr w) = absurd (no_wait u f w)

    may_at : (v : ℕ) (b : Bool) → (v == node) ≡ b → has free v ≡ true → IsFree g (order ++ node ∷ []) v
    may_at v true is there =
        absurd (false≢true (sym gone ∙ subst (λ (x : ℕ). has free x ≡ true) (same v node is) there))
    may_at v false is there =
        let f : IsFree g order v = p.may v (rw is there) in
        record {
          node = f.node;
          open_yet = has-push order node v ∙ rw (f.open_yet, is) refl;
          placed = all_map (λ t. has order t ≡ true) (λ t. has (order ++ node ∷ []) t ≡ true)
              (λ t there. has_more order node t there) (links_of g v) f.placed;
        }

    waits_at : (v : ℕ) → v < length g → (has order v || v == node) ≡ false → has (links_of back node) v ≡ false
        → (has free v ≡ true) ⊎ Waits g (order ++ node ∷ []) cursor v
    waits_at v l yet hand = by (has order v) refl (v == node) refl yet
      where
        still : (v == node) ≡ false → (has (node ∷ free) v ≡ true) ⊎ Waits g order cursor v
            → (has free v ≡ true) ⊎ Waits g (order ++ node ∷ []) cursor v
        still is (inl there) = inl (subst (λ (b : Bool). (b || has free v) ≡ true) is there)
        still is (inr w) = inr
            (record { within = w.within; open_yet = has-push order node t ∙ rw w.open_yet (other (t == node) refl) })
          where
            t : ℕ
            t = slice_index (links_of g v) (slice_index cursor v)

            other : (b : Bool) → (t == node) ≡ b → (t == node) ≡ false
            other true eq = absurd (false≢true (sym hand
                ∙ subst (λ (x : ℕ). has (links_of back x) v ≡ true) (same t node eq)
                (turned v (slice_index cursor v) w.within)))
            other false eq = eq

        by : (a : Bool) → has order v ≡ a → (b : Bool) → (v == node) ≡ b → (a || b) ≡ false
            → (has free v ≡ true) ⊎ Waits g (order ++ node ∷ []) cursor v
        by true a b eq both = absurd (false≢true (sym both))
        by false a true eq both = absurd (false≢true (sym both))
        by false a false eq both = still eq (p.waits v l a refl)

-- nothing is placed yet, and all are in hand
pub none_placed : (g : Links) → IsPlacing g (λ _. true) [] (replicate (length g) false) (replicate (length g) 0) []
none_placed g = record {
  placed_len = length-replicate (length g) false;
  cursor_len = length-replicate (length g) 0;
  marks = λ v. none (length g) v;
  each = tt;
  within = λ v. rw (zero_at (length g) v) (omega arith);
  counted = λ v j l. absurd (no j (subst (λ (x : ℕ). j < x) (zero_at (length g) v) l));
  may = λ v there. absurd (false≢true there);
  waits = λ v l yet hand. absurd (false≢true (sym hand));
}
  where
    none : (n v : ℕ) → slice_index_or (replicate n false) v false ≡ false
    none zero v = refl
    none (suc n) zero = refl
    none (suc n) (suc v) = none n v

    zero_at : (n v : ℕ) → slice_index (replicate n 0) v ≡ 0
    zero_at zero v = refl
    zero_at (suc n) zero = refl
    zero_at (suc n) (suc v) = zero_at n v

    no : (j : ℕ) → j < 0 → ⊥
    no j l = omega arith

-- those from here on are in hand
abbrev pub from_here : ℕ → ℕ → Bool
from_here i v = not (nat_lt v i)

-- the first of them moves on
pub from_next : (i v : ℕ) → (v == i || from_here (i + 1) v) ≡ false → from_here i v ≡ false
from_next i v h = by (v == i) refl (nat_lt v (i + 1)) refl h
  where
    by : (a : Bool) → (v == i) ≡ a → (b : Bool) → nat_lt v (i + 1) ≡ b → (a || not b) ≡ false → not (nat_lt v i) ≡ false
    by true eq b lt h = absurd (false≢true (sym h))
    by false eq false lt h = absurd (false≢true (sym h))
    by false eq true lt h =
        let less : v < i + 1 = (Decides-ltb v (i + 1)).0 lt in
        let below : nat_lt v i ≡ true = (Decides-ltb v i).1 (omega (arith, less, differ v i eq)) in
        rw below refl

-- none is left
pub from_end : (n v : ℕ) → v < n → from_here n v ≡ false
from_end n v l = let below : nat_lt v n ≡ true = (Decides-ltb v n).1 l in rw below refl

-- ---- the number of those that aren't placed

abbrev pub open_count : List Bool → ℕ
open_count [] = 0
open_count (b ∷ bs) = cond b 0 1 + open_count bs

pub count-set : (placed : List Bool) (node : ℕ) → node < length placed → slice_index_or placed node false ≡ false
    → open_count (set placed node true) + 1 ≡ open_count placed
count-set [] node l h = absurd (omega arith)
count-set (b ∷ bs) zero l h = by b h
  where
    by : (b : Bool) → b ≡ false → open_count (true ∷ bs) + 1 ≡ open_count (b ∷ bs)
    by false is = omega arith
    by true is = absurd (false≢true (sym is))
count-set (b ∷ bs) (suc node) l h = let rest : open_count (set bs node true) + 1 ≡ open_count bs =
    count-set bs node (omega arith) h in omega (arith, rest)

-- the same, over the targets as they were read
pub moved_by : (g : Links) (h : ℕ → Bool) (order : List ℕ) (placed : List Bool) (cursor free free' : List ℕ)
    (node k : ℕ)
    (targets : List ℕ) → targets ≡ links_of g node
    → node < length g
    → slice_index cursor node ≤ k → k ≤ length targets
    → ((j : ℕ) → slice_index cursor node ≤ j → j < k → slice_index_or placed (slice_index targets j) false ≡ true)
    → (k < length targets → slice_index_or placed (slice_index targets k) false ≡ false)
    → ((v : ℕ) → has free' v
    ≡ ((v == node && (k == length targets && not (slice_index_or placed node false))) || has free v))
    → IsPlacing g (λ u. u == node || h u) order placed cursor free
    → IsPlacing g h order placed (set cursor node k) free'
moved_by g h order placed cursor free free' node k targets is l from within passed yet is_free p =
    moved_on g h order placed cursor free free' node k l from (subst (λ (t : List ℕ). k ≤ length t) is within)
    (subst (λ (t : List ℕ). (j : ℕ) → slice_index cursor node ≤ j → j < k
    → slice_index_or placed (slice_index t j) false ≡ true) is passed)
    (subst (λ (t : List ℕ). k < length t → slice_index_or placed (slice_index t k) false ≡ false) is yet)
    (subst (λ (t : List ℕ). (v : ℕ) → has free' v
    ≡ ((v == node && (k == length t && not (slice_index_or placed node false))) || has free v)) is is_free) p

-- those that are left, and the next one
next_suc : (xs : List ℕ) (i u : ℕ) → i < length xs
    → (u == slice_index xs i || has (drop (suc i) xs) u) ≡ has (drop i xs) u
next_suc [] i u l = absurd (omega arith)
next_suc (x ∷ xs) zero u l = refl
next_suc (x ∷ xs) (suc i) u l = next_suc xs i u (omega arith)

pub next_in_hand : (xs : List ℕ) (i u : ℕ) → i < length xs
    → (u == slice_index xs i || has (drop (i + 1) xs) u) ≡ false → has (drop i xs) u ≡ false
next_in_hand xs i u l h =
    sym (next_suc xs i u l) ∙ subst (λ (n : ℕ). (u == slice_index xs i || has (drop n xs) u) ≡ false) (add-one i) h

-- none is left
pub none_left : (xs : List ℕ) (i v : ℕ) → length xs ≤ i → has (drop i xs) v ≡ false
none_left [] zero v l = refl
none_left [] (suc i) v l = refl
none_left (x ∷ xs) zero v l = absurd (omega arith)
none_left (x ∷ xs) (suc i) v l = none_left xs i v (omega arith)

-- ---- links the other way round

-- one more in the list of a node
pub put_back : (back : Links) (target node : ℕ) (old new : List ℕ) → target < length back → old ≡ get_or back target old
    → new ≡ old ++ node ∷ [] → (u w : ℕ)
    → has (links_of (set back target new) u) w ≡ ((u == target && w == node) || has (links_of back u) w)
put_back back target node old new l was is u w = by (u == target) refl
  where
    or_swap : (a b : Bool) → (a || b) ≡ (b || a)
    or_swap true true = refl
    or_swap true false = refl
    or_swap false true = refl
    or_swap false false = refl

    by : (b : Bool) → (u == target) ≡ b
        → has (links_of (set back target new) u) w ≡ ((b && w == node) || has (links_of back u) w)
    by true eq =
        subst (λ (x : ℕ). has (links_of (set back target new) x) w ≡ (w == node || has (links_of back x) w))
        (sym (same u target eq))
        (ap (λ (xs : List ℕ). has xs w) (get_or-set_same back target new [] l ∙ is) ∙ has-push old node w
        ∙ or_swap (has old w) (w == node)
        ∙ ap (λ (xs : List ℕ). w == node || has xs w) (was ∙ get_or_default back target old [] l))
    by false eq = ap (λ (xs : List ℕ). has xs w) (get_or-set_other back target u new [] (differ u target eq))

-- ---- the set of those that may stand next

pub has-insert : (xs : List ℕ) (node v : ℕ) → has (insert_key nat_cmp xs node) v ≡ (v == node || has xs v)
has-insert [] node v = refl
has-insert (x ∷ xs) node v = by (nat_cmp node x) refl (has-insert xs node v)
  where
    swap : (a b c : Bool) → (a || (b || c)) ≡ (b || (a || c))
    swap true true c = refl
    swap true false c = refl
    swap false true c = refl
    swap false false c = refl

    twice : (a c : Bool) → (a || c) ≡ (a || (a || c))
    twice true c = refl
    twice false c = refl

    by : (o : Ordering) → nat_cmp node x ≡ o → has (insert_key nat_cmp xs node) v ≡ (v == node || has xs v)
        → has (match_ordering o (node ∷ x ∷ xs) (x ∷ xs) (x ∷ insert_key nat_cmp xs node)) v
        ≡ (v == node || (v == x || has xs v))
    by Less is rest = refl
    by Equal is rest =
        let one : node ≡ x = ranked node x Equal (sym is) in
        rw one (twice (v == x) (has xs v))
    by Greater is rest = rw rest (swap (v == x) (v == node) (has xs v))

-- what is above each is above those that are among them
all_has : (P : ℕ → Type 0) (xs : List ℕ) (u : ℕ) → AllByRecursion P xs → has xs u ≡ true → P u
all_has P [] u h there = absurd (false≢true there)
all_has P (x ∷ xs) u h there = by (u == x) refl there (all_has P xs u h.1)
  where
    by : (b : Bool) → (u == x) ≡ b → (b || has xs u) ≡ true → (has xs u ≡ true → P u) → P u
    by true eq there rest = subst (λ (y : ℕ). P y) (sym (same u x eq)) h.0
    by false eq there rest = rest there

above : (v : ℕ) (keys : List ℕ) → All (IsLtBy nat_cmp v) keys → (u : ℕ) → has keys u ≡ true → v < u
above v keys all u there =
    ranked v u Less (sym
    (all_has (λ y. nat_cmp v y ≡ Less) keys u (recursion_from_All (λ y. nat_cmp v y ≡ Less) keys all) there))

pub taken_least : (r : Option ℕ) (old new : List ℕ) → IfSome r (λ k. old ≡ k ∷ new)
    → IfSome r (λ k. All (IsLtBy nat_cmp k) new) → IfSome r (λ v. (u : ℕ) → has old u ≡ true → v ≤ u)
taken_least None old new is all = tt
taken_least (Some v) old new is all = λ u there. by u (u == v) refl (subst (λ (xs : List ℕ). has xs u ≡ true) is there)
  where
    by : (u : ℕ) (b : Bool) → (u == v) ≡ b → (b || has new u) ≡ true → v ≤ u
    by u true eq there = rw (same u v eq) (omega arith)
    by u false eq there = let less : v < u = above v new all u there in omega (arith, less)

pub taken_gone : (r : Option ℕ) (new : List ℕ) → IfSome r (λ k. All (IsLtBy nat_cmp k) new)
    → IfSome r (λ v. has new v ≡ false)
taken_gone None new all = tt
taken_gone (Some v) new all = by (has new v) refl
  where
    by : (b : Bool) → has new v ≡ b → has new v ≡ false
    by true there = let less : v < v = above v new all v there in absurd (omega (arith, less))
    by false gone = gone

-- fewer are left
pub fewer : (g : Links) (order : List ℕ) (placed placed' : List Bool) (cursor free : List ℕ) (node : ℕ)
    → IsPlacing g (λ _. false) order placed cursor (node ∷ free) → placed' ≡ set placed node true
    → open_count placed' < open_count placed
fewer g order placed placed' cursor free node p is =
    let among : has (node ∷ free) node ≡ true = rw (itself node) refl in
    let f : IsFree g order node = p.may node among in
    let less : open_count (set placed node true) + 1 ≡ open_count placed =
    count-set placed node (rw p.placed_len f.node) (p.marks node ∙ f.open_yet) in
    rw is (omega (arith, less))

-- at the start all are in hand
pub none_begun : (g : Links) → IsPlacing g (from_here 0) [] (replicate (length g) false) (replicate (length g) 0) []
none_begun g = in_hand_more g (λ _. true) (from_here 0) [] _ _ [] (λ v l off. absurd (none v off)) (none_placed g)
  where
    none : (v : ℕ) → from_here 0 v ≡ false → ⊥
    none v off = by (nat_lt v 0) refl off
      where
        by : (b : Bool) → nat_lt v 0 ≡ b → not b ≡ false → ⊥
        by false is off = false≢true (sym off)
        by true is off = let less : v < 0 = (Decides-ltb v 0).0 is in absurd (omega (arith, less))

-- at the end none is
pub all_begun : (g : Links) (n : ℕ) (order : List ℕ) (placed : List Bool) (cursor free : List ℕ)
    → IsPlacing g (from_here n) order placed cursor free → length g ≤ n
    → IsPlacing g (λ _. false) order placed cursor free
all_begun g n order placed cursor free p le =
    in_hand_more g (from_here n) (λ _. false) order placed cursor free (λ v l off. from_end n v (omega (arith, le, l)))
    p

-- what an option that is none says
pub match_none : {T : Type 0} (r : Option T) (A : Type 0) (B : T → Type 0) → r ≡ None → MatchOption r A B → A
match_none None A B is h = h
match_none (Some x) A B is h = absurd cc
