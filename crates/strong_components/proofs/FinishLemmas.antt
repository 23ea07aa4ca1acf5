-- The depth-first walk.
use Rattle.std.proofs.Common.{◌≡◌, ◌≤◌, ◌<◌, ◌+◌, ◌⊎◌, inl, inr, ℕ, Bool, true, false, List, [], ◌∷◌, ◌++◌, length, set, replicate, refl, sym, ◌∙◌, ap, subst, arith, Option, Some, None, MatchOption}
use Rattle.std.specs.Prelude.{◌||◌, ◌==◌, slice_index, slice_index_or}
use Rattle.std.specs.List.{AllByRecursion}
use Rattle.std.proofs.lemmas.Bool.{false≢true}
use Rattle.std.proofs.lemmas.List.{length-set, get_or-set_same, get_or-set_other, length-replicate, length-append}
use Rattle.topological_order.specs.Order.{Links, Link, links_of, has, AreWithin, target, IsChain, EachBehind}
use Rattle.topological_order.proofs.OrderLemmas.{has-push, has_more, has_last, all_at, each_more}
use Rattle.strong_components.specs.Components.{Reaches}
use Rattle.strong_components.specs.Finish.{AreOver, ReachesBack, AllReach, IsFinishOrder, IsWalk, steps_left}
use Rattle.strong_components.proofs.BasicLemmas.{same, differ, either, by_right, or_false, or_moved, place_in, has_at, marked_within, mark_here, mark_there, mark_kept, none_marked, all_zero, fewer_unmarked, each_last, reaches_on, reaches_link}

-- ---- chains over finished nodes

-- one over these and one more node goes over these alone, or its first part does, to that node
pub first_at : (g : Links) (front : List ℕ) (u v w : ℕ) (path : List Link) → IsChain g v path w
    → AreOver (front ++ u ∷ []) path
    → AreOver front path ⊎ ((first : List Link) × IsChain g v first u × AreOver front first)
first_at g front u v w [] h all = inl tt
first_at g front u v w (e ∷ path) h all =
    by (has front e.0) refl (e.0 == u) refl (sym (has-push front u e.0) ∙ all.0)
    (first_at g front u (target g e) w path h.2 all.1)
  where
    by : (a : Bool) → has front e.0 ≡ a → (b : Bool) → (e.0 == u) ≡ b → (a || b) ≡ true
        → AreOver front path ⊎ ((first : List Link) × IsChain g (target g e) first u × AreOver front first)
        → AreOver front (e ∷ path) ⊎ ((first : List Link) × IsChain g v first u × AreOver front first)
    by true is b eq any (inl rest) = inl (is, rest)
    by true is b eq any (inr (first, chain, rest)) = inr (e ∷ first, (h.0, h.1, chain), (is, rest))
    by false is true eq any rest = inr ([], sym h.0 ∙ same e.0 u eq, tt)
    by false is false eq any rest = absurd (false≢true any)

-- a node reaches those from which links lead to it over these and one more, if it reaches that one
pub back_more : (g : Links) (front : List ℕ) (u v : ℕ) → ReachesBack g front v → ReachesBack g front u → Reaches g v u
    → ReachesBack g (front ++ u ∷ []) v
back_more g front u v here there r =
    record { back = λ w path chain all. by w path chain all (first_at g front u w v path chain all) }
  where
    by : (w : ℕ) (path : List Link) → IsChain g w path v → AreOver (front ++ u ∷ []) path
        → AreOver front path ⊎ ((first : List Link) × IsChain g w first u × AreOver front first) → Reaches g v w
    by w path chain all (inl over) = here.back w path chain over
    by w path chain all (inr (first, leads, over)) = reaches_on g v u w r (there.back w first leads over)

-- links of these lead to nodes that are met
abbrev pub AreDone : Links → List ℕ → List Bool → Type 0
AreDone g front met =
    (v t : ℕ) → has front v ≡ true → has (links_of g v) t ≡ true → slice_index_or met t false ≡ true

met_end : (g : Links) (front : List ℕ) (met : List Bool) → AreDone g front met → (v w : ℕ) (path : List Link)
    → IsChain g v path w → AreOver front path → slice_index_or met v false ≡ true → slice_index_or met w false ≡ true
met_end g front met done v w [] h all m = subst (λ (x : ℕ). slice_index_or met x false ≡ true) h m
met_end g front met done v w (e ∷ path) h all m =
    met_end g front met done (target g e) w path h.2 all.1
    (done e.0 (target g e) all.0 (has_at (links_of g e.0) e.1 h.1))

-- none of them leads to a node that isn't
fresh_back : (g : Links) (front : List ℕ) (met : List Bool) (w : ℕ) → AreDone g front met
    → slice_index_or met w false ≡ false → ReachesBack g front w
fresh_back g front met w done fresh = record { back = by }
  where
    by : (u : ℕ) (path : List Link) → IsChain g u path w → AreOver front path → Reaches g w u
    by u [] chain all = record { path = []; leads = sym chain }
    by u (e ∷ path) chain all =
        absurd (false≢true (sym fresh
        ∙ met_end g front met done (target g e) w path chain.2 all.1
        (done e.0 (target g e) all.0 (has_at (links_of g e.0) e.1 chain.1))))

-- ---- the walk

pub walk_begun : (g : Links) → IsWalk g [] (replicate (length g) false) (replicate (length g) 0) []
walk_begun g = record {
  met_len = length-replicate (length g) false;
  cursor_len = length-replicate (length g) 0;
  marks = λ v. none_marked (length g) v;
  within = λ v. rw (all_zero (length g) v) (omega arith);
  passed = λ v k l. absurd (no k (subst (λ (x : ℕ). k < x) (all_zero (length g) v) l));
  done = λ v t h k. absurd (false≢true h);
  each = tt;
  backs = λ v h. absurd (false≢true h);
  line = tt;
}
  where
    no : (k : ℕ) → k < 0 → ⊥
    no k l = omega arith

-- the stack's nodes are nodes
pub on_stack : (g : Links) (finished : List ℕ) (met : List Bool) (cursor stack : List ℕ) (v : ℕ)
    → IsWalk g finished met cursor stack → has stack v ≡ true → v < length g
on_stack g finished met cursor stack v w h =
    subst (λ (n : ℕ). v < n) w.met_len
    (marked_within met v (w.marks v ∙ by_right (has finished v) (has stack v) h))

-- a node that isn't met is put on the stack
pub walk_more : (g : Links) (finished : List ℕ) (met : List Bool) (cursor stack : List ℕ) (node : ℕ)
    → IsWalk g finished met cursor stack → node < length g → slice_index_or met node false ≡ false
    → AllReach g stack node
    → IsWalk g finished (set met node true) cursor (stack ++ node ∷ [])
walk_more g finished met cursor stack node w l fresh reach = record {
  met_len = length-set met node true ∙ w.met_len;
  cursor_len = w.cursor_len;
  marks = λ v. marks_at v (v == node) refl;
  within = w.within;
  passed = λ v k below. mark_kept met node (slice_index (links_of g v) k) (w.passed v k below);
  done = λ v t h there. mark_kept met node t (w.done v t h there);
  each = w.each;
  backs = λ v h. backs_at v (either (has stack v) (v == node) (sym (has-push stack node v) ∙ h));
  line = each_more (AllReach g) [] stack node w.line reach;
}
  where
    marks_at : (v : ℕ) (b : Bool) → (v == node) ≡ b
        → slice_index_or (set met node true) v false ≡ (has finished v || has (stack ++ node ∷ []) v)
    marks_at v true is =
        subst (λ (x : ℕ). slice_index_or (set met node true) x false ≡ (has finished x || has (stack ++ node ∷ []) x))
        (sym (same v node is))
        (mark_here met node (rw w.met_len l)
        ∙ sym (by_right (has finished node) (has (stack ++ node ∷ []) node) (has_last stack node)))
    marks_at v false is =
        mark_there met node v is ∙ w.marks v
        ∙ ap (λ b. has finished v || b) (sym (has-push stack node v ∙ rw is (or_false (has stack v))))

    backs_at : (v : ℕ) → (has stack v ≡ true) ⊎ ((v == node) ≡ true) → ReachesBack g finished v
    backs_at v (inl h) = w.backs v h
    backs_at v (inr is) =
        subst (λ (x : ℕ). ReachesBack g finished x) (sym (same v node is)) (fresh_back g finished met node w.done fresh)

-- a node's links up to a place lead to nodes that are met
pub walk_moved : (g : Links) (finished : List ℕ) (met : List Bool) (cursor stack : List ℕ) (node place : ℕ)
    → IsWalk g finished met cursor stack → node < length g → place ≤ length (links_of g node)
    → ((j : ℕ) → j < place → slice_index_or met (slice_index (links_of g node) j) false ≡ true)
    → IsWalk g finished met (set cursor node place) stack
walk_moved g finished met cursor stack node place w l le passed = record {
  met_len = w.met_len;
  cursor_len = length-set cursor node place ∙ w.cursor_len;
  marks = w.marks;
  within = λ v. within_at v (v == node) refl;
  passed = λ v k. passed_at v k (v == node) refl;
  done = w.done;
  each = w.each;
  backs = w.backs;
  line = w.line;
}
  where
    here : slice_index (set cursor node place) node ≡ place
    here = get_or-set_same cursor node place 0 (rw w.cursor_len l)

    there : (v : ℕ) → (v == node) ≡ false → slice_index (set cursor node place) v ≡ slice_index cursor v
    there v is = get_or-set_other cursor node v place 0 (differ v node is)

    within_at : (v : ℕ) (b : Bool) → (v == node) ≡ b → slice_index (set cursor node place) v ≤ length (links_of g v)
    within_at v true is = rw (same v node is, here) le
    within_at v false is = rw (there v is) (w.within v)

    passed_at : (v k : ℕ) (b : Bool) → (v == node) ≡ b → k < slice_index (set cursor node place) v
        → slice_index_or met (slice_index (links_of g v) k) false ≡ true
    passed_at v k true is below =
        subst (λ (x : ℕ). slice_index_or met (slice_index (links_of g x) k) false ≡ true) (sym (same v node is))
        (passed k (subst (λ (x : ℕ). k < x) (ap (λ x. slice_index (set cursor node place) x) (same v node is) ∙ here)
        below))
    passed_at v k false is below = w.passed v k (subst (λ (x : ℕ). k < x) (there v is) below)

-- the stack's last node is finished
pub walk_finished : (g : Links) (finished : List ℕ) (met : List Bool) (cursor stack : List ℕ) (node : ℕ)
    → IsWalk g finished met cursor (stack ++ node ∷ [])
    → ((t : ℕ) → has (links_of g node) t ≡ true → slice_index_or met t false ≡ true)
    → IsWalk g (finished ++ node ∷ []) met cursor stack
walk_finished g finished met cursor stack node w all = record {
  met_len = w.met_len;
  cursor_len = w.cursor_len;
  marks = λ v.
      w.marks v
      ∙ ap (λ b. has finished v || b) (has-push stack node v)
      ∙ or_moved (has finished v) (has stack v) (v == node)
      ∙ ap (λ b. b || has stack v) (sym (has-push finished node v));
  within = w.within;
  passed = w.passed;
  done = λ v t h there. done_at v t there (either (has finished v) (v == node) (sym (has-push finished node v) ∙ h));
  each = each_more (ReachesBack g) [] finished node w.each last;
  backs = λ v h. back_more g finished node v (w.backs v (has_more stack node v h)) last (line.1 v h);
  line = line.0;
}
  where
    last : ReachesBack g finished node
    last = w.backs node (has_last stack node)

    line : EachBehind (AllReach g) [] stack × AllReach g stack node
    line = each_last (AllReach g) [] stack node w.line

    done_at : (v t : ℕ) → has (links_of g v) t ≡ true → (has finished v ≡ true) ⊎ ((v == node) ≡ true)
        → slice_index_or met t false ≡ true
    done_at v t there (inl h) = w.done v t h there
    done_at v t there (inr is) = all t (subst (λ (x : ℕ). has (links_of g x) t ≡ true) (same v node is) there)

-- a step to a node that isn't met
pub walk_down : (g : Links) (finished : List ℕ) (met : List Bool) (cursor stack : List ℕ) (node place : ℕ)
    → AreWithin g → IsWalk g finished met cursor (stack ++ node ∷ []) → place < length (links_of g node)
    → ((j : ℕ) → j < place → slice_index_or met (slice_index (links_of g node) j) false ≡ true)
    → slice_index_or met (slice_index (links_of g node) place) false ≡ false
    → IsWalk g finished (set met (slice_index (links_of g node) place) true) (set cursor node place)
    ((stack ++ node ∷ []) ++ slice_index (links_of g node) place ∷ [])
walk_down g finished met cursor stack node place within w l passed fresh =
    walk_more g finished met (set cursor node place) (stack ++ node ∷ []) (slice_index (links_of g node) place)
    (walk_moved g finished met cursor (stack ++ node ∷ []) node place w
    (on_stack g finished met cursor (stack ++ node ∷ []) node w (has_last stack node)) (omega (arith, l)) passed)
    (all_at (λ t. t < length g) (links_of g node) place (within node) l) fresh
    (λ u h. reach u (either (has stack u) (u == node) (sym (has-push stack node u) ∙ h)))
  where
    step : Reaches g node (slice_index (links_of g node) place)
    step = reaches_link g node (slice_index (links_of g node) place) (has_at (links_of g node) place l)

    reach : (u : ℕ) → (has stack u ≡ true) ⊎ ((u == node) ≡ true) → Reaches g u (slice_index (links_of g node) place)
    reach u (inl h) =
        reaches_on g u node (slice_index (links_of g node) place)
        ((each_last (AllReach g) [] stack node w.line).1 u h) step
    reach u (inr is) =
        subst (λ (x : ℕ). Reaches g x (slice_index (links_of g node) place)) (sym (same u node is)) step

-- all nodes are finished
pub walk_done : (g : Links) (finished : List ℕ) (met : List Bool) (cursor stack : List ℕ)
    → IsWalk g finished met cursor stack → stack ≡ []
    → ((v : ℕ) → v < length g → slice_index_or met v false ≡ true) → IsFinishOrder g finished
walk_done g finished met cursor stack w empty all = record {
  nodes = λ v h. subst (λ (n : ℕ). v < n) w.met_len (marked_within met v (marks v ∙ h));
  all = λ v l. sym (marks v) ∙ all v l;
  each = w.each;
}
  where
    marks : (v : ℕ) → slice_index_or met v false ≡ has finished v
    marks v =
        w.marks v ∙ ap (λ (xs : List ℕ). has finished v || has xs v) empty ∙ or_false (has finished v)

-- ---- the same, over what was read

-- targets up to a place are met
passed_upto : (g : Links) (finished : List ℕ) (met : List Bool) (cursor stack : List ℕ) (node : ℕ)
    → IsWalk g finished met cursor stack → (met2 : List Bool) → met2 ≡ met → (cursor2 : List ℕ) → cursor2 ≡ cursor
    → (targets : List ℕ) → targets ≡ links_of g node → (place : ℕ)
    → ((j : ℕ) → slice_index cursor2 node ≤ j → j < place → slice_index_or met2 (slice_index targets j) false ≡ true)
    → (j : ℕ) → j < place → slice_index_or met (slice_index (links_of g node) j) false ≡ true
passed_upto g finished met cursor stack node w met2 met_is cursor2 cursor_is targets targets_is place passed j l =
    by (le_or j (slice_index cursor2 node))
  where
    le_or : (j i : ℕ) → (j < i) ⊎ (i ≤ j)
    le_or j i = grind arith

    by : (j < slice_index cursor2 node) ⊎ (slice_index cursor2 node ≤ j)
        → slice_index_or met (slice_index (links_of g node) j) false ≡ true
    by (inl before) = w.passed node j (subst (λ (xs : List ℕ). j < slice_index xs node) cursor_is before)
    by (inr behind) =
        subst (λ (ms : List Bool). slice_index_or ms (slice_index (links_of g node) j) false ≡ true) met_is
        (subst (λ (ts : List ℕ). slice_index_or met2 (slice_index ts j) false ≡ true) targets_is
        (passed j behind l))

-- all targets are met: the node is finished
pub step_up : (g : Links) (finished : List ℕ) (met : List Bool) (cursor stack : List ℕ) (node : ℕ)
    → IsWalk g finished met cursor (stack ++ node ∷ []) → (met2 : List Bool) → met2 ≡ met → (cursor2 : List ℕ)
    → cursor2 ≡ cursor → (targets : List ℕ) → targets ≡ links_of g node → (place : ℕ)
    → ((j : ℕ) → slice_index cursor2 node ≤ j → j < place → slice_index_or met2 (slice_index targets j) false ≡ true)
    → place ≡ length targets → IsWalk g (finished ++ node ∷ []) met cursor stack
step_up g finished met cursor stack node w met2 met_is cursor2 cursor_is targets targets_is place passed all =
    walk_finished g finished met cursor stack node w
    (λ t h.
    let (k, l, at) = place_in (links_of g node) t h in
    subst (λ (x : ℕ). slice_index_or met x false ≡ true) at
    (passed_upto g finished met cursor (stack ++ node ∷ []) node w met2 met_is cursor2 cursor_is targets targets_is
    place
    passed k (subst (λ (n : ℕ). k < n) (sym (all ∙ ap (λ (xs : List ℕ). length xs) targets_is)) l)))

-- the first one that isn't is put on the stack
pub step_down : (g : Links) (finished : List ℕ) (met : List Bool) (cursor stack : List ℕ) (node : ℕ) → AreWithin g
    → IsWalk g finished met cursor (stack ++ node ∷ []) → (met2 : List Bool) → met2 ≡ met → (cursor2 : List ℕ)
    → cursor2 ≡ cursor → (targets : List ℕ) → targets ≡ links_of g node → (place : ℕ)
    → ((j : ℕ) → slice_index cursor2 node ≤ j → j < place → slice_index_or met2 (slice_index targets j) false ≡ true)
    → place < length targets → slice_index_or met2 (slice_index targets place) false ≡ false
    → IsWalk g finished (set met (slice_index targets place) true) (set cursor node place)
    ((stack ++ node ∷ []) ++ slice_index targets place ∷ [])
step_down g finished met cursor stack node within w met2 met_is cursor2 cursor_is targets targets_is place passed l
    fresh =
    subst (λ (ts : List ℕ). IsWalk g finished (set met (slice_index ts place) true) (set cursor node place)
    ((stack ++ node ∷ []) ++ slice_index ts place ∷ [])) (sym targets_is)
    (walk_down g finished met cursor stack node place within w
    (subst (λ (ts : List ℕ). place < length ts) targets_is l)
    (passed_upto g finished met cursor (stack ++ node ∷ []) node w met2 met_is cursor2 cursor_is targets targets_is
    place
    passed)
    (subst (λ (ms : List Bool). slice_index_or ms (slice_index (links_of g node) place) false ≡ false) met_is
    (subst (λ (ts : List ℕ). slice_index_or met2 (slice_index ts place) false ≡ false) targets_is fresh)))

-- fewer steps are left
pub step_smaller : (g : Links) (met : List Bool) (stack : List ℕ) (node : ℕ) → AreWithin g → length met ≡ length g
    → (met2 : List Bool) → met2 ≡ met → (targets : List ℕ) → targets ≡ links_of g node → (place : ℕ)
    → place < length targets → slice_index_or met2 (slice_index targets place) false ≡ false
    → steps_left (set met (slice_index targets place) true) ((stack ++ node ∷ []) ++ slice_index targets place ∷ [])
    < steps_left met stack + 1
step_smaller g met stack node within len met2 met_is targets targets_is place l fresh =
    let less = fewer_unmarked met (slice_index targets place)
    (rw len
    (all_at (λ t. t < length g) targets place
    (subst (λ (ts : List ℕ). AllByRecursion (λ t. t < length g) ts) (sym targets_is) (within node)) l))
    (subst (λ (ms : List Bool). slice_index_or ms (slice_index targets place) false ≡ false) met_is fresh) in
    let one = length-append stack (node ∷ []) in
    let two = length-append (stack ++ node ∷ []) (slice_index targets place ∷ []) in
    omega (arith, less, one, two)

-- what a call answers, for what it was called with
pub walk_same : (g : Links) (finished finished2 : List ℕ) (met met2 : List Bool)
    (cursor cursor2 stack stack2 pushed : List ℕ) (t : ℕ) → finished2 ≡ finished → met2 ≡ met → cursor2 ≡ cursor
    → pushed ≡ stack → stack2 ≡ pushed ++ t ∷ [] → IsWalk g finished met cursor (stack ++ t ∷ [])
    → IsWalk g finished2 met2 cursor2 stack2
walk_same g finished finished2 met met2 cursor cursor2 stack stack2 pushed t a b c d e w = rw (a, b, c, e, d) w

pub steps_same : (met met2 : List Bool) (stack stack2 pushed : List ℕ) (t bound : ℕ) → met2 ≡ met → pushed ≡ stack
    → stack2 ≡ pushed ++ t ∷ [] → steps_left met (stack ++ t ∷ []) < bound → steps_left met2 stack2 < bound
steps_same met met2 stack stack2 pushed t bound a d e h = rw (a, e, d) h

pub match_none : {T : Type 0} (r : Option T) (A : Type 0) (B : T → Type 0) → r ≡ None → MatchOption r A B → A
match_none None A B is h = h
match_none (Some x) A B is h = absurd cc
