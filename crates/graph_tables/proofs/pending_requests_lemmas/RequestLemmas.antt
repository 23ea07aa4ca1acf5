-- Marks and the map to the first open requests.
use Rattle.std.proofs.Common.{zero, suc, ◌≡◌, ◌≤◌, ◌<◌, ◌+◌, ◌-◌, ℕ, Bool, true, false, cond, List, [], ◌∷◌, ◌++◌, length, take, drop, set, get_or, refl, sym, ◌∙◌, ap, subst, arith, Some, None, Option}
use Rattle.std.specs.Prelude.{bytes_eq, is_some, ◌&&◌, ◌||◌, slice_get, IfSome}
use Rattle.std.specs.Option.{option_map}
use Rattle.std.specs.List.{list_any}
use Rattle.std.specs.Map.{lookup}
use Rattle.std.specs.Cmp.Lexicographic.{nat_list_eq_equiv}
use Rattle.std.proofs.lemmas.List.{drop_more, drop_all, length-set, length-append, length-drop}
use Rattle.url.specs.Parts.{Parts, serialize}
use Rattle.graph_tables.specs.declared.pending_requests.requests.First.{First}
use Rattle.graph_tables.specs.pending_requests.Requests.{waits_for, settled, oldest}
use Rattle.graph_tables.specs.pending_requests.Inside.{is_same, marked, found, found_from, at_url, IsPassed, IsNext, IsIndex, IsKept}

-- ---- URLs with one text

same_swap : (p q : Parts) → is_same p q ≡ is_same q p
same_swap p q = nat_list_eq_equiv.symm (serialize p) (serialize q)

-- a third one is the same as both or as none
same_both : (u p q : Parts) → is_same p q ≡ true → is_same u p ≡ is_same u q
same_both u p q h =
    same_swap u p ∙ nat_list_eq_equiv.congr (serialize p) (serialize q) (serialize u) h ∙ same_swap q u

-- ---- marks

pub marked_more : (bs : List Bool) (us : List Parts) (u : Parts) → length bs ≡ length us
    → marked (bs ++ true ∷ []) (us ++ u ∷ []) ≡ marked bs us ++ u ∷ []
marked_more [] [] u h = refl
marked_more [] (v ∷ us) u h = absurd (omega (arith, h))
marked_more (b ∷ bs) [] u h = absurd (omega (arith, h))
marked_more (true ∷ bs) (v ∷ us) u h = ap (λ (l : List Parts). v ∷ l) (marked_more bs us u (omega (arith, h)))
marked_more (false ∷ bs) (v ∷ us) u h = marked_more bs us u (omega (arith, h))

-- a request more is found where none was before
pub found_more : (bs : List Bool) (us : List Parts) (u q : Parts) → length bs ≡ length us
    → found (bs ++ true ∷ []) (us ++ u ∷ []) q
    ≡ cond (is_some (found bs us q)) (found bs us q) (cond (is_same u q) (Some (length bs)) None)
found_more [] [] u q h = refl
found_more [] (v ∷ us) u q h = absurd (omega (arith, h))
found_more (b ∷ bs) [] u q h = absurd (omega (arith, h))
found_more (b ∷ bs) (v ∷ us) u q h =
    by (b && is_same v q) (found bs us q) (is_same u q) (found_more bs us u q (omega (arith, h)))
  where
    by : (t : Bool) (f : Option ℕ) (s : Bool)
        → found (bs ++ true ∷ []) (us ++ u ∷ []) q ≡ cond (is_some f) f (cond s (Some (length bs)) None)
        → cond t (Some 0) (option_map suc (found (bs ++ true ∷ []) (us ++ u ∷ []) q))
        ≡ cond (is_some (cond t (Some 0) (option_map suc f))) (cond t (Some 0) (option_map suc f))
        (cond s (Some (suc (length bs))) None)
    by true f s k = refl
    by false None true k = ap (option_map suc) k
    by false None false k = ap (option_map suc) k
    by false (Some n) s k = ap (option_map suc) k

-- URLs with one text are found at one place
found_same : (bs : List Bool) (us : List Parts) (p q : Parts) → is_same p q ≡ true → found bs us p ≡ found bs us q
found_same [] us p q h = refl
found_same (b ∷ bs) [] p q h = refl
found_same (b ∷ bs) (u ∷ us) p q h = rw (same_both u p q h, found_same bs us p q h) refl

-- what is found is one of them
found_within : (bs : List Bool) (us : List Parts) (q : Parts) (k : ℕ) → found bs us q ≡ Some k → k < length bs
found_within [] us q k h = absurd cc
found_within (b ∷ bs) [] q k h = absurd cc
found_within (b ∷ bs) (u ∷ us) q k h = by (b && is_same u q) (found bs us q) (λ n is. found_within bs us q n is) h
  where
    by : (t : Bool) (f : Option ℕ) → ((n : ℕ) → f ≡ Some n → n < length bs)
        → cond t (Some 0) (option_map suc f) ≡ Some k → k < suc (length bs)
    by true f below is = let none : 0 ≡ k = cc in omega arith
    by false None below is = absurd cc
    by false (Some n) below is = let one : suc n ≡ k = cc in let lt : n < length bs = below n refl in omega arith

-- a URL waits exactly if it is found
pub found_waits : (bs : List Bool) (us : List Parts) (q : Parts)
    → is_some (found bs us q) ≡ waits_for serialize (marked bs us) q
found_waits [] us q = refl
found_waits (b ∷ bs) [] q = refl
found_waits (false ∷ bs) (u ∷ us) q = some_suc (found bs us q) ∙ found_waits bs us q
  where
    some_suc : (f : Option ℕ) → is_some (option_map suc f) ≡ is_some f
    some_suc None = refl
    some_suc (Some n) = refl
found_waits (true ∷ bs) (u ∷ us) q = by (is_same u q) (found bs us q) (found_waits bs us q)
  where
    by : (s : Bool) (f : Option ℕ) → is_some f ≡ waits_for serialize (marked bs us) q
        → is_some (cond s (Some 0) (option_map suc f)) ≡ (s || waits_for serialize (marked bs us) q)
    by true f k = refl
    by false None k = k
    by false (Some n) k = k

-- and exactly if the map has it
pub index_waits : (bs : List Bool) (us : List Parts) (firsts : List (Parts × First)) (q : Parts) → IsIndex bs us firsts
    → is_some (at_url firsts q) ≡ waits_for serialize (marked bs us) q
index_waits bs us firsts q index = some_at (at_url firsts q) ∙ ap is_some (index.first q) ∙ found_waits bs us q
  where
    some_at : (f : Option First) → is_some f ≡ is_some (option_map (λ f. f.at) f)
    some_at None = refl
    some_at (Some f) = refl

-- where none waits, nothing is settled
settled_none : (ws : List Parts) (q : Parts) → waits_for serialize ws q ≡ false → settled serialize ws q ≡ ws
settled_none [] q h = refl
settled_none (w ∷ ws) q h = by (is_same w q) (λ is. settled_none ws q is) h
  where
    by : (s : Bool) → (waits_for serialize ws q ≡ false → settled serialize ws q ≡ ws)
        → (s || waits_for serialize ws q) ≡ false → cond s ws (w ∷ settled serialize ws q) ≡ w ∷ ws
    by true later is = absurd cc
    by false later is = ap (λ (l : List Parts). w ∷ l) (later is)

pub unfound : (bs : List Bool) (us : List Parts) (firsts : List (Parts × First)) (q : Parts) → IsIndex bs us firsts
    → at_url firsts q ≡ None → settled serialize (marked bs us) q ≡ marked bs us
unfound bs us firsts q index none =
    settled_none (marked bs us) q (sym (index_waits bs us firsts q index) ∙ ap is_some none)

-- the first one is one of them
pub first_within : (bs : List Bool) (us : List Parts) (firsts : List (Parts × First)) (q : Parts) (f : First)
    → IsIndex bs us firsts → at_url firsts q ≡ Some f → f.at < length bs
first_within bs us firsts q f index is =
    found_within bs us q f.at (sym (index.first q) ∙ ap (option_map (λ (x : First). x.at)) is)

-- ---- a mark is taken away

-- that of the first one for a URL settles it
pub marked_set : (bs : List Bool) (us : List Parts) (q : Parts) (k : ℕ) → found bs us q ≡ Some k
    → marked (set bs k false) us ≡ settled serialize (marked bs us) q
marked_set [] us q k h = absurd cc
marked_set (b ∷ bs) [] q k h = absurd cc
marked_set (false ∷ bs) (u ∷ us) q k h = by (found bs us q) k (λ n is. marked_set bs us q n is) h
  where
    by : (f : Option ℕ) (k : ℕ)
        → ((n : ℕ) → f ≡ Some n → marked (set bs n false) us ≡ settled serialize (marked bs us) q)
        → option_map suc f ≡ Some k → marked (set (false ∷ bs) k false) (u ∷ us) ≡ settled serialize (marked bs us) q
    by None k later is = absurd cc
    by (Some n) k later is = let one : suc n ≡ k = cc in rw (← one) (later n refl)
marked_set (true ∷ bs) (u ∷ us) q k h = by (is_same u q) (found bs us q) k (λ n is. marked_set bs us q n is) h
  where
    by : (s : Bool) (f : Option ℕ) (k : ℕ)
        → ((n : ℕ) → f ≡ Some n → marked (set bs n false) us ≡ settled serialize (marked bs us) q)
        → cond s (Some 0) (option_map suc f) ≡ Some k
        → marked (set (true ∷ bs) k false) (u ∷ us) ≡ cond s (marked bs us) (u ∷ settled serialize (marked bs us) q)
    by true f k later is = let none : 0 ≡ k = cc in rw (← none) refl
    by false None k later is = absurd cc
    by false (Some n) k later is =
        let one : suc n ≡ k = cc in rw (← one) (ap (λ (l : List Parts). u ∷ l) (later n refl))

left : (a b : Bool) → a && b ≡ true → a ≡ true
left true b h = refl
left false b h = absurd cc

right : (a b : Bool) → a && b ≡ true → b ≡ true
right true b h = h
right false b h = absurd cc

and_false : (a : Bool) → a && false ≡ false
and_false true = refl
and_false false = refl

-- the same as one of two is the same as the other one where these are the same
third : (u p q : Parts) → is_same u p ≡ true → is_same u q ≡ is_same p q
third u p q h = nat_list_eq_equiv.congr (serialize u) (serialize p) (serialize q) h

-- then the next one for the URL is found, and others where they were
found_set : (bs : List Bool) (us : List Parts) (p q : Parts) (k : ℕ) → found bs us p ≡ Some k
    → found (set bs k false) us q ≡ cond (is_same p q) (found_from (k + 1) bs us q) (found bs us q)
found_set [] us p q k h = absurd cc
found_set (b ∷ bs) [] p q k h = absurd cc
found_set (b ∷ bs) (u ∷ us) p q k h =
    by (b && is_same u p) refl (found bs us p) k (λ n is. found_set bs us p q n is) h
  where
    by : (t : Bool) → (b && is_same u p) ≡ t → (f : Option ℕ) (k : ℕ)
        → ((n : ℕ) → f ≡ Some n
        → found (set bs n false) us q ≡ cond (is_same p q) (found_from (n + 1) bs us q) (found bs us q))
        → cond t (Some 0) (option_map suc f) ≡ Some k
        → found (set (b ∷ bs) k false) (u ∷ us) q
        ≡ cond (is_same p q) (found_from (k + 1) (b ∷ bs) (u ∷ us) q) (found (b ∷ bs) (u ∷ us) q)
    by true h f k later is =
        let none : 0 ≡ k = cc in
        let there : b ≡ true = left b (is_same u p) h in
        let same : is_same u p ≡ true = right b (is_same u p) h in
        rw (← none) (here (is_same p q) (is_same u q) refl (third u p q same) (found bs us q))
      where
        here : (s w : Bool) → is_same u q ≡ w → w ≡ s → (f : Option ℕ)
            → option_map suc f ≡ cond s (option_map (λ n. 1 + n) f) (cond (b && w) (Some 0) (option_map suc f))
        here true w i j None = refl
        here true w i j (Some n) = ap Some (omega arith)
        here false w i j f = rw (j, and_false b) refl
    by false h None k later is = absurd cc
    by false h (Some n) k later is =
        let one : suc n ≡ k = cc in
        rw (← one, later n refl) (there (is_same p q) refl)
      where
        two : suc n + 1 ≡ suc (n + 1)
        two = omega arith

        shift : (f : Option ℕ) → option_map suc (option_map (λ m. n + 1 + m) f) ≡ option_map (λ m. suc (n + 1) + m) f
        shift None = refl
        shift (Some m) = ap Some (omega arith)

        there : (s : Bool) → is_same p q ≡ s
            → cond (b && is_same u q) (Some 0) (option_map suc (cond s (found_from (n + 1) bs us q) (found bs us q)))
            ≡ cond s (found_from (suc n + 1) (b ∷ bs) (u ∷ us) q)
            (cond (b && is_same u q) (Some 0) (option_map suc (found bs us q)))
        there true i = rw (← same_both u p q i, h, two) (shift (found (drop (n + 1) bs) (drop (n + 1) us) q))
        there false i = refl

-- where none is found there is none then
none_set : (bs : List Bool) (us : List Parts) (q : Parts) (k : ℕ) → found bs us q ≡ None
    → found (set bs k false) us q ≡ None
none_set [] us q k h = refl
none_set (b ∷ bs) [] q zero h = refl
none_set (b ∷ bs) [] q (suc k) h = refl
none_set (b ∷ bs) (u ∷ us) q zero h = by (b && is_same u q) (found bs us q) h
  where
    by : (t : Bool) (f : Option ℕ) → cond t (Some 0) (option_map suc f) ≡ None → option_map suc f ≡ None
    by true f is = absurd cc
    by false f is = is
none_set (b ∷ bs) (u ∷ us) q (suc k) h = by (b && is_same u q) (found bs us q) (λ is. none_set bs us q k is) h
  where
    by : (t : Bool) (f : Option ℕ) → (f ≡ None → found (set bs k false) us q ≡ None)
        → cond t (Some 0) (option_map suc f) ≡ None
        → cond t (Some 0) (option_map suc (found (set bs k false) us q)) ≡ None
    by true f later is = absurd cc
    by false None later is = rw (later refl) refl
    by false (Some n) later is = absurd cc

-- nor from a place on
none_set_from : (m : ℕ) (bs : List Bool) (us : List Parts) (q : Parts) (k : ℕ) → found (drop m bs) (drop m us) q ≡ None
    → found (drop m (set bs k false)) (drop m us) q ≡ None
none_set_from zero bs us q k h = none_set bs us q k h
none_set_from (suc m) [] us q k h = h
none_set_from (suc m) (b ∷ bs) [] q k h = empty (drop (suc m) (set (b ∷ bs) k false))
  where
    empty : (cs : List Bool) → found cs [] q ≡ None
    empty [] = refl
    empty (c ∷ cs) = refl
none_set_from (suc m) (b ∷ bs) (u ∷ us) q zero h = h
none_set_from (suc m) (b ∷ bs) (u ∷ us) q (suc k) h = none_set_from m bs us q k h

-- ---- the front

passed_suc : (n : ℕ) (bs : List Bool) (d : Bool) → IsPassed n bs → n < length bs → get_or bs n d ≡ false
    → IsPassed (suc n) bs
passed_suc zero [] d p lt is = absurd (omega arith)
passed_suc zero (b ∷ bs) d p lt is = (is, tt)
passed_suc (suc n) [] d p lt is = absurd (omega arith)
passed_suc (suc n) (b ∷ bs) d p lt is = (p.0, passed_suc n bs d p.1 (omega (arith, lt)) is)

-- one more is passed that isn't marked
pub passed_more : (n : ℕ) (bs : List Bool) (d : Bool) → IsPassed n bs → n < length bs → get_or bs n d ≡ false
    → IsPassed (n + 1) bs
passed_more n bs d p lt is = let one : suc n ≡ n + 1 = omega arith in
    subst (λ (m : ℕ). IsPassed m bs) one (passed_suc n bs d p lt is)

pub passed_set : (n : ℕ) (bs : List Bool) (k : ℕ) → IsPassed n bs → IsPassed n (set bs k false)
passed_set zero bs k p = tt
passed_set (suc n) [] k p = tt
passed_set (suc n) (b ∷ bs) zero p = (refl, p.1)
passed_set (suc n) (b ∷ bs) (suc k) p = (p.0, passed_set n bs k p.1)

passed_end : (n : ℕ) (bs cs : List Bool) → n ≤ length bs → IsPassed n bs → IsPassed n (bs ++ cs)
passed_end zero bs cs le p = tt
passed_end (suc n) [] cs le p = absurd (omega arith)
passed_end (suc n) (b ∷ bs) cs le p = (p.0, passed_end n bs cs (omega (arith, le)) p.1)

-- what is passed isn't among the marked ones
marked_passed : (n : ℕ) (bs : List Bool) (us : List Parts) → IsPassed n bs
    → marked bs us ≡ marked (drop n bs) (drop n us)
marked_passed zero bs us p = refl
marked_passed (suc n) [] us p = refl
marked_passed (suc n) (b ∷ bs) [] p = empty (drop n bs)
  where
    empty : (cs : List Bool) → [] ≡ marked cs []
    empty [] = refl
    empty (c ∷ cs) = refl
marked_passed (suc n) (true ∷ bs) (u ∷ us) p = absurd (let no = p.0 in cc)
marked_passed (suc n) (false ∷ bs) (u ∷ us) p = marked_passed n bs us p.1

-- the oldest marked one is the next
pub oldest_next : (n : ℕ) (bs : List Bool) (us : List Parts) → length bs ≡ length us → IsPassed n bs
    → IsNext (drop n bs)
    → slice_get us n ≡ oldest (marked bs us)
oldest_next n [] [] h p x = refl
oldest_next n [] (u ∷ us) h p x = absurd (omega (arith, h))
oldest_next n (b ∷ bs) [] h p x = absurd (omega (arith, h))
oldest_next zero (true ∷ bs) (u ∷ us) h p x = refl
oldest_next zero (false ∷ bs) (u ∷ us) h p x = absurd cc
oldest_next (suc n) (true ∷ bs) (u ∷ us) h p x = absurd (let no = p.0 in cc)
oldest_next (suc n) (false ∷ bs) (u ∷ us) h p x = oldest_next n bs us (omega (arith, h)) p.1 x

-- at a mark the next is here
pub next_here : (n : ℕ) (bs : List Bool) (d : Bool) → n < length bs → get_or bs n d ≡ true → IsNext (drop n bs)
next_here n bs d lt is = rw (drop_more bs n d lt) is

-- at the end there is none
pub next_none : (n : ℕ) (bs : List Bool) → length bs ≤ n → IsNext (drop n bs)
next_none n bs le = rw (drop_all n bs le) tt

-- ---- the search from a place on

shift_from : (at : ℕ) (f : Option ℕ) → option_map (λ k. at + k) (option_map suc f) ≡ option_map (λ k. at + 1 + k) f
shift_from at None = refl
shift_from at (Some k) = ap Some (omega arith)

-- past what isn't marked
pub from_unmarked : (bs : List Bool) (us : List Parts) (q : Parts) (at : ℕ) (d : Bool) → at < length bs → at < length us
    → get_or bs at d ≡ false → found_from at bs us q ≡ found_from (at + 1) bs us q
from_unmarked bs [] q at d lt lts off = absurd (omega (arith, lts))
from_unmarked bs (v ∷ us) q at d lt lts off =
    rw (drop_more bs at d lt, drop_more (v ∷ us) at v lts, off)
    (shift_from at (found (drop (at + 1) bs) (drop (at + 1) (v ∷ us)) q))

module _ (bs : List Bool) (us : List Parts) (q : Parts) (at : ℕ) where
  pub from_end : length bs ≤ at → found_from at bs us q ≡ None
  from_end le = rw (drop_all at bs le) refl

  module _ (b : Bool) (u : Parts) (lt : at < length bs) (lts : at < length us) (isb : b ≡ get_or bs at b)
      (isu : u ≡ get_or us at u) where
    pub from_here : b ≡ true → is_same u q ≡ true → found_from at bs us q ≡ Some at
    from_here on same = rw (drop_more bs at b lt, drop_more us at u lts, ← isb, ← isu, on, same) (ap Some (omega arith))

    pub from_other : is_same u q ≡ false → found_from at bs us q ≡ found_from (at + 1) bs us q
    from_other other =
        rw (drop_more bs at b lt, drop_more us at u lts, ← isb, ← isu, other, and_false b)
        (shift_from at (found (drop (at + 1) bs) (drop (at + 1) us) q))

-- ---- what holds at all times

next_end : (n : ℕ) (bs : List Bool) → n ≤ length bs → IsNext (drop n bs) → IsNext (drop n (bs ++ true ∷ []))
next_end zero [] le x = refl
next_end zero (b ∷ bs) le x = x
next_end (suc n) [] le x = absurd (omega arith)
next_end (suc n) (b ∷ bs) le x = next_end n bs (omega (arith, le)) x

drop_end : (n : ℕ) (A : Type 0) (xs : List A) (x : A) → n ≤ length xs → drop n (xs ++ x ∷ []) ≡ drop n xs ++ x ∷ []
drop_end zero A xs x le = refl
drop_end (suc n) A [] x le = absurd (omega arith)
drop_end (suc n) A (y ∷ xs) x le = drop_end n A xs x (omega (arith, le))

-- one request more
module _ (us : List Parts) (bs : List Bool) (passed : ℕ) (firsts now : List (Parts × First)) (u : Parts) (first : First)
    (kept : IsKept us bs passed firsts)
    (put : (q : Parts) → at_url now q ≡ cond (is_same u q) (Some first) (at_url firsts q))
    (known : IfSome (at_url firsts u) (λ f. (first.at ≡ f.at) × (first.more ≡ true)))
    (new : at_url firsts u ≡ None → (first.at ≡ length us) × (first.more ≡ false)) where
  first_more : (q : Parts) → option_map (λ f. f.at) (at_url now q) ≡ found (bs ++ true ∷ []) (us ++ u ∷ []) q
  first_more q = rw (put q, found_more bs us u q kept.even) (by (is_same u q) refl)
    where
      here : (m : Option First) → option_map (λ f. f.at) m ≡ found bs us q
          → IfSome m (λ f. (first.at ≡ f.at) × (first.more ≡ true))
          → (m ≡ None → (first.at ≡ length us) × (first.more ≡ false))
          → Some first.at ≡ cond (is_some (found bs us q)) (found bs us q) (Some (length bs))
      here (Some f) is old none = rw (← is) (ap Some old.0)
      here None is old none = rw (← is) (ap Some ((none refl).0 ∙ sym kept.even))

      else_none : (f : Option ℕ) → f ≡ cond (is_some f) f None
      else_none None = refl
      else_none (Some n) = refl

      by : (s : Bool) → is_same u q ≡ s
          → option_map (λ f. f.at) (cond s (Some first) (at_url firsts q))
          ≡ cond (is_some (found bs us q)) (found bs us q) (cond s (Some (length bs)) None)
      by true same = here (at_url firsts u) (kept.index.first u ∙ found_same bs us u q same) known new
      by false same = kept.index.first q ∙ else_none (found bs us q)

  alone_more : (q : Parts) (f : First) → at_url now q ≡ Some f → f.more ≡ false
      → found (drop (f.at + 1) (bs ++ true ∷ [])) (drop (f.at + 1) (us ++ u ∷ [])) q ≡ None
  alone_more q f is lone = by (is_same u q) refl (sym (put q) ∙ is)
    where
      here : (m : Option First) → at_url firsts u ≡ m → first ≡ f
          → found (drop (f.at + 1) (bs ++ true ∷ [])) (drop (f.at + 1) (us ++ u ∷ [])) q ≡ None
      here (Some old) same one =
          let old_more : first.more ≡ true =
          (subst (λ (o : Option First). IfSome o (λ f. (first.at ≡ f.at) × (first.more ≡ true))) same known).1 in
          let no : first.more ≡ false = ap (λ (x : First). x.more) one ∙ lone in absurd cc
      here None same one =
          let at : f.at ≡ length us = ap (λ (x : First). x.at) (sym one) ∙ (new same).0 in
          let behind : drop (f.at + 1) (bs ++ true ∷ []) ≡ [] =
          drop_all (f.at + 1) (bs ++ true ∷ []) (omega (arith, at, kept.even, length-append bs (true ∷ []))) in
          rw behind refl

      none_more : (f : Option ℕ) (n : ℕ) → f ≡ None → cond (is_some f) f (cond false (Some n) None) ≡ None
      none_more None n h = refl
      none_more (Some m) n h = absurd cc

      by : (s : Bool) → is_same u q ≡ s → cond s (Some first) (at_url firsts q) ≡ Some f
          → found (drop (f.at + 1) (bs ++ true ∷ [])) (drop (f.at + 1) (us ++ u ∷ [])) q ≡ None
      by true same there = here (at_url firsts u) refl (let one : first ≡ f = cc in one)
      by false same there =
          let below : f.at < length bs =
          found_within bs us q f.at (sym (kept.index.first q) ∙ ap (option_map (λ (x : First). x.at)) there) in
          let even : length (drop (f.at + 1) bs) ≡ length (drop (f.at + 1) us) =
          length-drop (f.at + 1) bs ∙ ap (λ (n : ℕ). n - (f.at + 1)) kept.even ∙ sym (length-drop (f.at + 1) us) in
          rw (
            drop_end (f.at + 1) Bool bs true (omega arith),
            drop_end (f.at + 1) Parts us u (omega (arith, below, kept.even)),
            found_more (drop (f.at + 1) bs) (drop (f.at + 1) us) u q even,
            same,
          )
          (none_more (found (drop (f.at + 1) bs) (drop (f.at + 1) us) q) (length (drop (f.at + 1) bs))
          (kept.index.alone q f there lone))

  pub kept_more : IsKept (us ++ u ∷ []) (bs ++ true ∷ []) passed now
  kept_more = record {
    even = omega (arith, kept.even, length-append bs (true ∷ []), length-append us (u ∷ []));
    index = record { first = first_more; alone = alone_more };
    within = omega (arith, kept.within, length-append bs (true ∷ []));
    passed = passed_end passed bs (true ∷ []) kept.within kept.passed;
    next = next_end passed bs kept.within kept.next;
  }

-- one is settled
module _ (us : List Parts) (bs : List Bool) (passed : ℕ) (firsts now : List (Parts × First)) (url : Parts)
    (first : First)
    (later : Option ℕ)
    (kept : IsKept us bs passed firsts)
    (is : at_url firsts url ≡ Some first)
    (behind : later ≡ found_from (first.at + 1) bs us url)
    (put : (q : Parts) → at_url now q
    ≡ cond (is_same url q) (option_map (λ n. record { at = n; more = true }) later) (at_url firsts q)) where
  pub found_first : found bs us url ≡ Some first.at
  found_first = sym (kept.index.first url) ∙ ap (option_map (λ (f : First). f.at)) is

  first_less : (q : Parts) → option_map (λ f. f.at) (at_url now q) ≡ found (set bs first.at false) us q
  first_less q = rw (put q, found_set bs us url q first.at found_first) (by (is_same url q) refl)
    where
      number : (l : Option ℕ)
          → option_map (λ (f : First). f.at) (option_map (λ n. record { at = n; more = true }) l) ≡ l
      number None = refl
      number (Some n) = refl

      by : (s : Bool) → is_same url q ≡ s
          → option_map (λ f. f.at) (cond s (option_map (λ n. record { at = n; more = true }) later) (at_url firsts q))
          ≡ cond s (found_from (first.at + 1) bs us q) (found bs us q)
      by true same = number later ∙ behind
          ∙ ap (option_map (λ k. first.at + 1 + k))
          (found_same (drop (first.at + 1) bs) (drop (first.at + 1) us) url q same)
      by false same = kept.index.first q

  alone_less : (q : Parts) (f : First) → at_url now q ≡ Some f → f.more ≡ false
      → found (drop (f.at + 1) (set bs first.at false)) (drop (f.at + 1) us) q ≡ None
  alone_less q f there lone = by (is_same url q) (sym (put q) ∙ there)
    where
      never : (l : Option ℕ) → option_map (λ n. record { at = n; more = true }) l ≡ Some f → ⊥
      never None h = cc
      never (Some n) h = let more : true ≡ f.more =
          ap (λ (x : First). x.more) (let one : record { at = n; more = true } ≡ f = cc in one) in cc

      by : (s : Bool) → cond s (option_map (λ n. record { at = n; more = true }) later) (at_url firsts q) ≡ Some f
          → found (drop (f.at + 1) (set bs first.at false)) (drop (f.at + 1) us) q ≡ None
      by true h = absurd (never later h)
      by false h = none_set_from (f.at + 1) bs us q first.at (kept.index.alone q f h lone)

  pub kept_less : (next : ℕ) → next ≤ length (set bs first.at false) → IsPassed next (set bs first.at false)
      → IsNext (drop next (set bs first.at false)) → IsKept us (set bs first.at false) next now
  kept_less next within passes opens = record {
    even = length-set bs first.at false ∙ kept.even;
    index = record { first = first_less; alone = alone_less };
    within = within;
    passed = passes;
    next = opens;
  }
