-- A search, breadth first.
use Rattle.std.proofs.Common.{zero, suc, ◌≡◌, ◌≢◌, ◌≤◌, ◌<◌, ◌+◌, ◌⊎◌, inl, inr, ℕ, Bool, true, false, List, [], ◌∷◌, ◌++◌, length, set, drop, replicate, add-one, refl, sym, ◌∙◌, ap, subst, arith}
use Rattle.std.specs.Prelude.{◌||◌, ◌==◌, slice_index}
use Rattle.std.proofs.lemmas.Bool.{false≢true}
use Rattle.std.proofs.lemmas.Bool.Decides.{Decides-eqb}
use Rattle.std.proofs.lemmas.List.{length-set, get_or-set_same, get_or-set_other, length-replicate, length-append}
use Rattle.topological_order.specs.Order.{Links, Link, links_of, has, AreWithin, IsLink, target}
use Rattle.topological_order.proofs.OrderLemmas.{has-push, has_more, all_at}
use Rattle.shortest_paths.specs.declared.without.Without.{Without}
use Rattle.shortest_paths.specs.Paths.{keeps, keeps_root}
use Rattle.shortest_paths.specs.Search.{is_met, met_by, IsStart, IsNext, IsFollowed, IsSearch, IsSearched, IsKept, AreRootsMet, unmarked}

pub same : (x y : ℕ) → (x == y) ≡ true → x ≡ y
same x y h = (Decides-eqb x y).0 h

pub differ : (x y : ℕ) → (x == y) ≡ false → x ≢ y
differ x y h is = false≢true (sym h ∙ (Decides-eqb x y).1 is)

pub itself : (x : ℕ) → (x == x) ≡ true
itself x = (Decides-eqb x x).1 refl

pub either : (a b : Bool) → (a || b) ≡ true → (a ≡ true) ⊎ (b ≡ true)
either true b h = inl refl
either false b h = inr h

pub by_left : (a b : Bool) → a ≡ true → (a || b) ≡ true
by_left a b h = rw h refl

pub by_right : (a b : Bool) → b ≡ true → (a || b) ≡ true
by_right true b h = refl
by_right false b h = h

-- ---- marks

pub met_within : (met : List Bool) (v : ℕ) → is_met met v ≡ true → v < length met
met_within [] v h = absurd (none v h)
  where
    none : (v : ℕ) → is_met [] v ≡ true → ⊥
    none zero h = false≢true h
    none (suc v) h = false≢true h
met_within (b ∷ bs) zero h = omega arith
met_within (b ∷ bs) (suc v) h = let rest : v < length bs = met_within bs v h in omega (arith, rest)

none_met : (n v : ℕ) → is_met (replicate n false) v ≡ false
none_met zero v = refl
none_met (suc n) zero = refl
none_met (suc n) (suc v) = none_met n v

-- one that is met isn't one that isn't
pub met_other : (met : List Bool) (v u : ℕ) → is_met met v ≡ false → is_met met u ≡ true → (u == v) ≡ false
met_other met v u off on = by (u == v) refl
  where
    by : (b : Bool) → (u == v) ≡ b → (u == v) ≡ false
    by true is = absurd (false≢true (sym off ∙ subst (λ (x : ℕ). is_met met x ≡ true) (same u v is) on))
    by false is = is

pub met_there : (met : List Bool) (v u : ℕ) → (u == v) ≡ false → is_met (set met v true) u ≡ is_met met u
met_there met v u h = get_or-set_other met v u true false (differ u v h)

pub met_here : (met : List Bool) (v : ℕ) → v < length met → is_met (set met v true) v ≡ true
met_here met v l = get_or-set_same met v true false l

pub unmarked_upto : (met : List Bool) → unmarked met ≤ length met
unmarked_upto [] = omega arith
unmarked_upto (true ∷ bs) = let rest : unmarked bs ≤ length bs = unmarked_upto bs in omega (arith, rest)
unmarked_upto (false ∷ bs) = let rest : unmarked bs ≤ length bs = unmarked_upto bs in omega (arith, rest)

pub fewer_unmarked : (met : List Bool) (v : ℕ) → v < length met → is_met met v ≡ false
    → unmarked (set met v true) + 1 ≡ unmarked met
fewer_unmarked [] v l h = absurd (omega arith)
fewer_unmarked (b ∷ bs) zero l h = by b h
  where
    by : (b : Bool) → b ≡ false → unmarked (true ∷ bs) + 1 ≡ unmarked (b ∷ bs)
    by false is = omega arith
    by true is = absurd (false≢true (sym is))
fewer_unmarked (b ∷ bs) (suc v) l h = let rest : unmarked (set bs v true) + 1 ≡ unmarked bs =
    fewer_unmarked bs v (omega arith) h in omega (arith, rest)

-- ---- the search

pub search_begun : (g : Links) (roots : List ℕ) (w : Without)
    → IsSearch g roots w [] (replicate (length g) false) (replicate (length g) 0) (replicate (length g) (0, 0)) [] 0
search_begun g roots w = record {
  met_len = length-replicate (length g) false;
  level_len = length-replicate (length g) 0;
  from_len = length-replicate (length g) (0, 0);
  each = λ v h. absurd (none v h);
  upper = λ v h. absurd (none v h);
  small = λ v h. absurd (none v h);
  in_hand = λ v h. absurd (false≢true h);
  nexts = λ v h. absurd (false≢true h);
  closed = λ e link kept h. absurd (none e.0 h);
}
  where
    none : (v : ℕ) → is_met (replicate (length g) false) v ≡ true → ⊥
    none v h = false≢true (sym (none_met (length g) v) ∙ h)

-- what stays where a node is met that wasn't
pub kept_fresh : (met : List Bool) (level : List ℕ) (node at : ℕ) → is_met met node ≡ false
    → IsKept met level (set met node true) (set level node at)
kept_fresh met level node at fresh = record {
  marks = λ v h. met_there met node v (met_other met node v fresh h) ∙ h;
  levels = λ v h. get_or-set_other level node v at 0 (differ v node (met_other met node v fresh h));
}

pub kept_same : (met : List Bool) (level : List ℕ) → IsKept met level met level
kept_same met level = record { marks = λ v h. h; levels = λ v h. refl }

pub kept_on : (met met2 met3 : List Bool) (level level2 level3 : List ℕ) → IsKept met level met2 level2
    → IsKept met2 level2 met3 level3 → IsKept met level met3 level3
kept_on met met2 met3 level level2 level3 a b = record {
  marks = λ v h. b.marks v (a.marks v h);
  levels = λ v h. b.levels v (a.marks v h) ∙ a.levels v h;
}

-- a link that is followed stays so
pub followed_kept : (g : Links) (met met2 : List Bool) (level level2 : List ℕ) (e : Link)
    → IsKept met level met2 level2 → is_met met e.0 ≡ true → IsFollowed g met level e → IsFollowed g met2 level2 e
followed_kept g met met2 level level2 e k h f = record {
  reached = k.marks (target g e) f.reached;
  near = rw (k.levels (target g e) f.reached, k.levels e.0 h) f.near;
}

-- a node is met
pub search_met : (g : Links) (roots : List ℕ) (w : Without) (hand : List ℕ) (met : List Bool) (level : List ℕ)
    (from : List Link) (next : List ℕ) (depth node : ℕ) (by_link : Link)
    → IsSearch g roots w hand met level from next depth → node < length g → is_met met node ≡ false
    → depth + unmarked met ≤ length g
    → IsStart roots w (set level node depth) node
    ⊎ IsNext g w (set met node true) (set level node depth) (set from node by_link) node
    → IsSearch g roots w hand (set met node true) (set level node depth) (set from node by_link) (next ++ node ∷ [])
    depth
search_met g roots w hand met level from next depth node by_link s l fresh room here = record {
  met_len = length-set met node true ∙ s.met_len;
  level_len = length-set level node depth ∙ s.level_len;
  from_len = length-set from node by_link ∙ s.from_len;
  each = λ v h. each_at v h (v == node) refl;
  upper = λ v h. upper_at v h (v == node) refl;
  small = λ v h. small_at v h (v == node) refl;
  in_hand = λ v h. let old = s.in_hand v h in (k.marks v old.0, rw (k.levels v old.0) old.1);
  nexts = λ v h. nexts_at v (either (has next v) (v == node) (sym (has-push next node v) ∙ h));
  closed = λ e link keep h. closed_at e link keep h (e.0 == node) refl;
}
  where
    k : IsKept met level (set met node true) (set level node depth)
    k = kept_fresh met level node depth fresh

    before : (v : ℕ) → (v == node) ≡ false → is_met (set met node true) v ≡ true → is_met met v ≡ true
    before v is h = sym (met_there met node v is) ∙ h

    level_here : slice_index (set level node depth) node ≡ depth
    level_here = get_or-set_same level node depth 0 (rw s.level_len l)

    less : unmarked (set met node true) + 1 ≡ unmarked met
    less = fewer_unmarked met node (rw s.met_len l) fresh

    from_there : (v : ℕ) → (v == node) ≡ false → met_by (set from node by_link) v ≡ met_by from v
    from_there v is = get_or-set_other from node v by_link (0, 0) (differ v node is)

    next_kept : (v : ℕ) → (v == node) ≡ false → is_met met v ≡ true → IsNext g w met level from v
        → IsNext g w (set met node true) (set level node depth) (set from node by_link) v
    next_kept v is h n = record {
      link = rw (from_there v is) n.link;
      leads = rw (from_there v is) n.leads;
      kept = rw (from_there v is) n.kept;
      node = rw (from_there v is) (k.marks (met_by from v).0 n.node);
      next = rw (from_there v is, k.levels v h, k.levels (met_by from v).0 n.node) n.next;
    }

    each_at : (v : ℕ) → is_met (set met node true) v ≡ true → (b : Bool) → (v == node) ≡ b
        → IsStart roots w (set level node depth) v
        ⊎ IsNext g w (set met node true) (set level node depth) (set from node by_link) v
    each_at v h true is = subst
        (λ (x : ℕ). IsStart roots w (set level node depth) x
        ⊎ IsNext g w (set met node true) (set level node depth) (set from node by_link) x) (sym (same v node is)) here
    each_at v h false is = by (s.each v (before v is h))
      where
        by : IsStart roots w level v ⊎ IsNext g w met level from v
            → IsStart roots w (set level node depth) v
            ⊎ IsNext g w (set met node true) (set level node depth) (set from node by_link) v
        by (inl start) = inl (record {
          among = start.among;
          begins = start.begins;
          first = k.levels v (before v is h) ∙ start.first;
        })
        by (inr n) = inr (next_kept v is (before v is h) n)

    upper_at : (v : ℕ) → is_met (set met node true) v ≡ true → (b : Bool) → (v == node) ≡ b
        → slice_index (set level node depth) v ≤ depth
    upper_at v h true is = rw (same v node is, level_here) (omega arith)
    upper_at v h false is = rw (k.levels v (before v is h)) (s.upper v (before v is h))

    small_at : (v : ℕ) → is_met (set met node true) v ≡ true → (b : Bool) → (v == node) ≡ b
        → slice_index (set level node depth) v + unmarked (set met node true) < length g
    small_at v h true is = rw (same v node is, level_here) (omega (arith, room, less))
    small_at v h false is =
        let old : slice_index level v + unmarked met < length g = s.small v (before v is h) in
        rw (k.levels v (before v is h)) (omega (arith, old, less))

    nexts_at : (v : ℕ) → (has next v ≡ true) ⊎ ((v == node) ≡ true)
        → (is_met (set met node true) v ≡ true) × (slice_index (set level node depth) v ≡ depth)
    nexts_at v (inl h) = let old = s.nexts v h in (k.marks v old.0, k.levels v old.0 ∙ old.1)
    nexts_at v (inr is) = subst
        (λ (x : ℕ). (is_met (set met node true) x ≡ true) × (slice_index (set level node depth) x ≡ depth))
        (sym (same v node is)) (met_here met node (rw s.met_len l), level_here)

    closed_at : (e : Link) → IsLink g e → keeps w g e ≡ true → is_met (set met node true) e.0 ≡ true → (b : Bool)
        → (e.0 == node) ≡ b
        → ((has hand e.0 || has (next ++ node ∷ []) e.0) ≡ true)
        ⊎ IsFollowed g (set met node true) (set level node depth) e
    closed_at e link keep h true is =
        inl (by_right (has hand e.0) (has (next ++ node ∷ []) e.0)
        (has-push next node e.0 ∙ by_right (has next e.0) (e.0 == node) is))
    closed_at e link keep h false is = by (s.closed e link keep (before e.0 is h))
      where
        by : ((has hand e.0 || has next e.0) ≡ true) ⊎ IsFollowed g met level e
            → ((has hand e.0 || has (next ++ node ∷ []) e.0) ≡ true)
            ⊎ IsFollowed g (set met node true) (set level node depth) e
        by (inl wait) = inl (more (either (has hand e.0) (has next e.0) wait))
          where
            more : (has hand e.0 ≡ true) ⊎ (has next e.0 ≡ true)
                → (has hand e.0 || has (next ++ node ∷ []) e.0) ≡ true
            more (inl a) = by_left (has hand e.0) (has (next ++ node ∷ []) e.0) a
            more (inr b) = by_right (has hand e.0) (has (next ++ node ∷ []) e.0) (has_more next node e.0 b)
        by (inr f) =
            inr (followed_kept g met (set met node true) level (set level node depth) e k (before e.0 is h) f)

-- a kept link of the first node in hand is followed to a node that wasn't met
pub link_fresh : (g : Links) (roots : List ℕ) (w : Without) (node : ℕ) (rest : List ℕ) (met : List Bool)
    (level : List ℕ)
    (from : List Link) (next : List ℕ) (depth place t : ℕ) → t ≡ target g (node, place) → t < length g
    → IsSearch g roots w (node ∷ rest) met level from next depth
    → place < length (links_of g node) → keeps w g (node, place) ≡ true → is_met met t ≡ false
    → IsSearch g roots w (node ∷ rest) (set met t true) (set level t depth) (set from t (node, place)) (next ++ t ∷ [])
    depth
link_fresh g roots w node rest met level from next depth place t t_is t_node s l keep fresh =
    search_met g roots w (node ∷ rest) met level from next depth t (node, place) s t_node fresh
    (let small : slice_index level node + unmarked met < length g = s.small node mine.0 in
    let deep : slice_index level node + 1 ≡ depth = mine.1 in
    omega (arith, small, deep))
    (inr (record {
      link = subst (λ (e : Link). IsLink g e) (sym from_here) l;
      leads = subst (λ (e : Link). target g e ≡ t) (sym from_here) (sym t_is);
      kept = subst (λ (e : Link). keeps w g e ≡ true) (sym from_here) keep;
      node = subst (λ (e : Link). is_met (set met t true) e.0 ≡ true) (sym from_here) (k.marks node mine.0);
      next = subst (λ (e : Link). slice_index (set level t depth) t ≡ slice_index (set level t depth) e.0 + 1)
          (sym from_here) (level_here ∙ sym (ap (λ (n : ℕ). n + 1) (k.levels node mine.0) ∙ mine.1));
    }))
  where
    mine : (is_met met node ≡ true) × (slice_index level node + 1 ≡ depth)
    mine = s.in_hand node (by_left (node == node) (has rest node) (itself node))

    k : IsKept met level (set met t true) (set level t depth)
    k = kept_fresh met level t depth fresh

    level_here : slice_index (set level t depth) t ≡ depth
    level_here = get_or-set_same level t depth 0 (rw s.level_len t_node)

    from_here : met_by (set from t (node, place)) t ≡ (node, place)
    from_here = get_or-set_same from t (node, place) (0, 0) (rw s.from_len t_node)

-- it is followed then
pub followed_fresh : (g : Links) (roots : List ℕ) (w : Without) (node : ℕ) (rest : List ℕ) (met : List Bool)
    (level : List ℕ) (from : List Link) (next : List ℕ) (depth place t : ℕ) → t ≡ target g (node, place) → t < length g
    → IsSearch g roots w (node ∷ rest) met level from next depth → is_met met t ≡ false
    → IsFollowed g (set met t true) (set level t depth) (node, place)
followed_fresh g roots w node rest met level from next depth place t t_is t_node s fresh = record {
  reached = subst (λ (x : ℕ). is_met (set met t true) x ≡ true) t_is (met_here met t (rw s.met_len t_node));
  near = subst (λ (x : ℕ). slice_index (set level t depth) x ≤ slice_index (set level t depth) node + 1) t_is
      (let here = get_or-set_same level t depth 0 (rw s.level_len t_node) in
      let there = get_or-set_other level t node depth 0 (differ node t (met_other met t node fresh mine.0)) in
      let deep : slice_index level node + 1 ≡ depth = mine.1 in
      near (slice_index (set level t depth) t) (slice_index (set level t depth) node) (slice_index level node) here
      there deep);
}
  where
    mine : (is_met met node ≡ true) × (slice_index level node + 1 ≡ depth)
    mine = s.in_hand node (by_left (node == node) (has rest node) (itself node))

    near : (a b c : ℕ) → a ≡ depth → b ≡ c → c + 1 ≡ depth → a ≤ b + 1
    near a b c e f h = omega (arith, e, f, h)

-- or it leads to a node that was met
pub followed_met : (g : Links) (roots : List ℕ) (w : Without) (node : ℕ) (rest : List ℕ) (met : List Bool)
    (level : List ℕ) (from : List Link) (next : List ℕ) (depth place : ℕ)
    → IsSearch g roots w (node ∷ rest) met level from next depth → is_met met (target g (node, place)) ≡ true
    → IsFollowed g met level (node, place)
followed_met g roots w node rest met level from next depth place s h = record {
  reached = h;
  near =
      let mine = (s.in_hand node (by_left (node == node) (has rest node) (itself node))).1 in
      let up : slice_index level (target g (node, place)) ≤ depth = s.upper (target g (node, place)) h in
      omega (arith, mine, up);
}

-- all kept links of the first node in hand are followed
pub hand_less : (g : Links) (roots : List ℕ) (w : Without) (node : ℕ) (rest : List ℕ) (met : List Bool) (level : List ℕ)
    (from : List Link) (next : List ℕ) (depth : ℕ) → IsSearch g roots w (node ∷ rest) met level from next depth
    → ((k : ℕ) → k < length (links_of g node) → keeps w g (node, k) ≡ true → IsFollowed g met level (node, k))
    → IsSearch g roots w rest met level from next depth
hand_less g roots w node rest met level from next depth s all = record {
  met_len = s.met_len;
  level_len = s.level_len;
  from_len = s.from_len;
  each = s.each;
  upper = s.upper;
  small = s.small;
  in_hand = λ v h. s.in_hand v (by_right (v == node) (has rest v) h);
  nexts = s.nexts;
  closed = λ e link keep h. closed_at e.0 e.1 link keep (e.0 == node) refl (s.closed e link keep h);
}
  where
    closed_at : (v k : ℕ) → IsLink g (v, k) → keeps w g (v, k) ≡ true → (b : Bool) → (v == node) ≡ b
        → (((b || has rest v) || has next v) ≡ true) ⊎ IsFollowed g met level (v, k)
        → ((has rest v || has next v) ≡ true) ⊎ IsFollowed g met level (v, k)
    closed_at v k link keep true is old =
        inr (subst (λ (x : ℕ). IsFollowed g met level (x, k)) (sym (same v node is))
        (all k (subst (λ (x : ℕ). k < length (links_of g x)) (same v node is) link)
        (subst (λ (x : ℕ). keeps w g (x, k) ≡ true) (same v node is) keep)))
    closed_at v k link keep false is old = old

-- the next level
pub level_next : (g : Links) (roots : List ℕ) (w : Without) (met : List Bool) (level : List ℕ) (from : List Link)
    (next : List ℕ) (depth : ℕ) → IsSearch g roots w [] met level from next depth
    → IsSearch g roots w next met level from [] (depth + 1)
level_next g roots w met level from next depth s = record {
  met_len = s.met_len;
  level_len = s.level_len;
  from_len = s.from_len;
  each = s.each;
  upper = λ v h. let up : slice_index level v ≤ depth = s.upper v h in omega (arith, up);
  small = s.small;
  in_hand = λ v h. let old = s.nexts v h in (old.0, let eq = old.1 in omega (arith, eq));
  nexts = λ v h. absurd (false≢true h);
  closed = λ e link keep h. closed_at e (s.closed e link keep h);
}
  where
    closed_at : (e : Link) → (has next e.0 ≡ true) ⊎ IsFollowed g met level e
        → ((has next e.0 || false) ≡ true) ⊎ IsFollowed g met level e
    closed_at e (inl h) = inl (by_left (has next e.0) false h)
    closed_at e (inr f) = inr f

-- no level is next
pub search_done : (g : Links) (roots : List ℕ) (w : Without) (met : List Bool) (level : List ℕ) (from : List Link)
    (next : List ℕ) (depth : ℕ) → IsSearch g roots w [] met level from next depth → next ≡ []
    → AreRootsMet roots w met level → IsSearched g roots w met level from
search_done g roots w met level from next depth s empty r = record {
  met_len = s.met_len;
  level_len = s.level_len;
  from_len = s.from_len;
  roots_met = r;
  each = s.each;
  closed = λ e link keep h. closed_at e (s.closed e link keep h);
}
  where
    closed_at : (e : Link) → (has next e.0 ≡ true) ⊎ IsFollowed g met level e → IsFollowed g met level e
    closed_at e (inl h) = absurd (false≢true (subst (λ (xs : List ℕ). has xs e.0 ≡ true) empty h))
    closed_at e (inr f) = f

-- ---- the same, over what a call answers

-- a root
pub root_met : (g : Links) (roots : List ℕ) (w : Without) (met : List Bool) (level : List ℕ) (from : List Link)
    (next : List ℕ) (root : ℕ) (met2 : List Bool) (level2 : List ℕ) (from2 : List Link) (next2 : List ℕ)
    → IsSearch g roots w [] met level from next 0 → root < length g → has roots root ≡ true → keeps_root w root ≡ true
    → (is_met met root ≡ true → (met2 ≡ met) × (level2 ≡ level) × (from2 ≡ from) × (next2 ≡ next))
    → (is_met met root ≡ false → (met2 ≡ set met root true) × (level2 ≡ set level root 0)
    × (from2 ≡ set from root (0, 0)) × (next2 ≡ next ++ root ∷ []))
    → IsSearch g roots w [] met2 level2 from2 next2 0 × IsKept met level met2 level2
    × (is_met met2 root ≡ true) × (slice_index level2 root ≡ 0)
root_met g roots w met level from next root met2 level2 from2 next2 s l among begins stays fresh =
    by (is_met met root) refl
  where
    by : (b : Bool) → is_met met root ≡ b
        → IsSearch g roots w [] met2 level2 from2 next2 0 × IsKept met level met2 level2
        × (is_met met2 root ≡ true) × (slice_index level2 root ≡ 0)
    by true is =
        let e = stays is in
        rw (e.0, e.1, e.2, e.3)
        (s, kept_same met level, is, let up : slice_index level root ≤ 0 = s.upper root is in omega (arith, up))
    by false is =
        let e = fresh is in
        let here : slice_index (set level root 0) root ≡ 0 = get_or-set_same level root 0 0 (rw s.level_len l) in
        rw (e.0, e.1, e.2, e.3) (
          search_met g roots w [] met level from next 0 root (0, 0) s l is
              (let most : unmarked met ≤ length met = unmarked_upto met in
              let len = s.met_len in
              omega (arith, most, len))
              (inl (record { among = among; begins = begins; first = here })),
          kept_fresh met level root 0 is,
          met_here met root (rw s.met_len l),
          here,
        )

-- a kept link of the first node in hand
pub link_met : (g : Links) (roots : List ℕ) (w : Without) (node : ℕ) (rest : List ℕ) (met : List Bool)
    (level : List ℕ) (from : List Link) (next : List ℕ) (depth place further : ℕ) (targets : List ℕ) (met2 : List Bool)
    (level2 : List ℕ) (from2 : List Link) (next2 : List ℕ)
    → AreWithin g → IsSearch g roots w (node ∷ rest) met level from next depth → targets ≡ links_of g node
    → place < length targets → further ≡ slice_index level node + 1
    → keeps w g (node, place) ≡ true
    → (is_met met (slice_index targets place) ≡ true
    → (met2 ≡ met) × (level2 ≡ level) × (from2 ≡ from) × (next2 ≡ next))
    → (is_met met (slice_index targets place) ≡ false
    → (met2 ≡ set met (slice_index targets place) true) × (level2 ≡ set level (slice_index targets place) further)
    × (from2 ≡ set from (slice_index targets place) (node, place)) × (next2 ≡ next ++ slice_index targets place ∷ []))
    → IsSearch g roots w (node ∷ rest) met2 level2 from2 next2 depth × IsKept met level met2 level2
    × (unmarked met2 + length next2 ≤ unmarked met + length next) × IsFollowed g met2 level2 (node, place)
link_met g roots w node rest met level from next depth place further targets met2 level2 from2 next2 within s
    targets_is l
    further_is keep stays fresh =
    by (is_met met (slice_index targets place)) refl
  where
    t_is : slice_index targets place ≡ target g (node, place)
    t_is = ap (λ (ts : List ℕ). slice_index ts place) targets_is

    link : place < length (links_of g node)
    link = subst (λ (ts : List ℕ). place < length ts) targets_is l

    t_node : slice_index targets place < length g
    t_node =
        subst (λ (x : ℕ). x < length g) (sym t_is)
        (all_at (λ x. x < length g) (links_of g node) place (within node) link)

    deep : further ≡ depth
    deep = further_is ∙ (s.in_hand node (by_left (node == node) (has rest node) (itself node))).1

    fewer : (t : ℕ) → is_met met t ≡ false → t < length g
        → unmarked (set met t true) + length (next ++ t ∷ []) ≤ unmarked met + length next
    fewer t is l =
        let less = fewer_unmarked met t (rw s.met_len l) is in
        let one = length-append next (t ∷ []) in
        omega (arith, less, one)

    by : (b : Bool) → is_met met (slice_index targets place) ≡ b
        → IsSearch g roots w (node ∷ rest) met2 level2 from2 next2 depth × IsKept met level met2 level2
        × (unmarked met2 + length next2 ≤ unmarked met + length next) × IsFollowed g met2 level2 (node, place)
    by true is =
        let e = stays is in
        rw (e.0, e.1, e.2, e.3) (
          s,
          kept_same met level,
          omega arith,
          followed_met g roots w node rest met level from next depth place s
              (subst (λ (x : ℕ). is_met met x ≡ true) t_is is),
        )
    by false is =
        let e = fresh is in
        rw (e.0, e.1, e.2, e.3, deep) (
          link_fresh g roots w node rest met level from next depth place (slice_index targets place) t_is t_node s link
              keep
              is,
          kept_fresh met level (slice_index targets place) depth is,
          fewer (slice_index targets place) is t_node,
          followed_fresh g roots w node rest met level from next depth place (slice_index targets place) t_is t_node s
              is,
        )

pub last_or : (a b : ℕ) → a < b + 1 → (a ≡ b) ⊎ (a < b)
last_or a b h = grind arith

pub drop_next : (xs : List ℕ) (n : ℕ) → n < length xs → drop n xs ≡ slice_index xs n ∷ drop (n + 1) xs
drop_next xs n l = drop_suc xs n l ∙ ap (λ k. slice_index xs n ∷ drop k xs) (sym (add-one n))
  where
    drop_suc : (xs : List ℕ) (n : ℕ) → n < length xs → drop n xs ≡ slice_index xs n ∷ drop (suc n) xs
    drop_suc [] n l = absurd (omega arith)
    drop_suc (x ∷ xs) zero l = refl
    drop_suc (x ∷ xs) (suc n) l = drop_suc xs n (omega arith)

pub drop_all : (xs : List ℕ) (n : ℕ) → length xs ≤ n → drop n xs ≡ []
drop_all [] zero l = refl
drop_all [] (suc n) l = refl
drop_all (x ∷ xs) zero l = absurd (omega (arith, l))
drop_all (x ∷ xs) (suc n) l = drop_all xs n (omega (arith, l))

pub has_at : (xs : List ℕ) (k : ℕ) → k < length xs → has xs (slice_index xs k) ≡ true
has_at [] k l = absurd (omega arith)
has_at (x ∷ xs) zero l = by_left (x == x) (has xs x) (itself x)
has_at (x ∷ xs) (suc k) l = by_right (slice_index xs k == x) (has xs (slice_index xs k)) (has_at xs k (omega arith))

pub place_in : (xs : List ℕ) (x : ℕ) → has xs x ≡ true → (k : ℕ) × (k < length xs) × (slice_index xs k ≡ x)
place_in [] x h = absurd (false≢true h)
place_in (y ∷ ys) x h = by (x == y) refl h (place_in ys x)
  where
    by : (b : Bool) → (x == y) ≡ b → (b || has ys x) ≡ true
        → (has ys x ≡ true → (k : ℕ) × (k < length ys) × (slice_index ys k ≡ x))
        → (k : ℕ) × (k < length (y ∷ ys)) × (slice_index (y ∷ ys) k ≡ x)
    by true is h rest = (zero, omega arith, sym (same x y is))
    by false is h rest = let (k, l, at) = rest h in (suc k, omega (arith, l), at)
