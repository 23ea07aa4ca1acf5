-- A builder with answers in hand: they are taken, and get their entries.
use Rattle.std.proofs.Common.{◌≡◌, ◌⊎◌, inl, inr, ◌≤◌, ◌<◌, ◌-◌, ℕ, zero, suc, ◌+◌, Bool, true, false, List, [], ◌∷◌, ◌++◌, length, map, take, drop, get_or, refl, sym, ◌∙◌, ap, subst, arith, Option, Some, None, Result, Ok, Err, append-nil, append_assoc, length-append}
use Rattle.std.specs.Prelude.{bytes_eq, ◌||◌, is_some, IsSome}
use Rattle.std.specs.List.{IsDistinct, AllByRecursion, AllZip}
use Rattle.std.specs.Map.{keys_of}
use Rattle.std.specs.declared.alloc.AllocError.{AllocError}
use Rattle.std.specs.Cmp.Lexicographic.{nat_list_eq_equiv}
use Rattle.std.proofs.lemmas.Map.Made.{is_some-lookup}
use Rattle.std.proofs.lemmas.List.{take_all, map-append, take-append-le, take-append-drop, length-map}
use Rattle.url.specs.Parts.{Parts}
use Rattle.graph_entry.specs.declared.answer.LoadAnswer.{LoadAnswer}
use Rattle.graph_entry.specs.declared.entry.Entry.{Entry}
use Rattle.graph_entry.specs.Specifier.{text_of, loadable}
use Rattle.graph_builder.specs.declared.error.BuildError.{BuildError}
use Rattle.graph_builder.specs.declared.error.BuildError.TheVariants as error
use Rattle.graph_builder.specs.declared.loader.LoaderPoll.TheVariants.{Pending, Answer}
use Rattle.graph_builder.specs.declared.slot.Slot.{Slot}
use Rattle.graph_builder.specs.declared.slot.Slot.TheVariants.{Queued, Asked, Done}
use Rattle.graph_builder.specs.declared.reaching.Reaching.{Reaching}
use Rattle.graph_builder.specs.declared.following.Following.{Following}
use Rattle.graph_builder.specs.declared.reaching.GrowError.{GrowError}
use Rattle.graph_builder.specs.declared.reaching.GrowError.TheVariants as grow
use Rattle.graph_builder.specs.Rules.{Means, targets, rules_by}
use Rattle.graph_builder.specs.Reach.{Specifier, Log, Rules, answer_to, has, IsEntry, IsReached, Leads, IsFunctional}
use Rattle.graph_builder.specs.Graph.{texts}
use Rattle.graph_builder.specs.Events.{Event, Answered, asked_of, log_of, IsOutstanding, IsTimely, requests, answers}
use Rattle.graph_builder.specs.Loader.{LoaderData, HasPolled, NeverRises, Falls, HasRisen}
use Rattle.graph_builder.specs.Builder.{last_of, before_last, IsTooMany, IsUnawaitedOver, SomeOutstanding, IsOrderly, IsInTime, CameInTime}
use Rattle.graph_builder.specs.Slots.{IsOverfull}
use Rattle.graph_builder.specs.Building.{IsBuilding}
use Rattle.graph_builder.specs.Reaching.{slots_of, todo_of, IsMarked, IsFilled, Fills}
use Rattle.graph_builder.specs.ByText.{keys_at}
use Rattle.graph_builder.specs.Progress.{At, at, IsLive, HasFirst, starts_at, own_count, own_events, own_asked, own_log, asked_before, log_before, slots_at, todo_at, IsKeptAt, GoesOnAt, OnlyAsks, Takes, HasWaited, IsPaused, IsUnasked, Turns}
use Rattle.graph_builder.specs.Batch.{Hand, logged, log_in, in_hand, IsMeant, AreMeant, IsHolding, IsTaking, HasCome, FillsAll, Enters}
use Rattle.graph_builder.proofs.EventsLemmas.{asked_of-append, log_of-append, asked_of-answer, log_of-answer, timely_asked, timely_answer}
use Rattle.graph_builder.proofs.BuilderLemmas.{last_of-push, before_last-last, before_last-push}
use Rattle.graph_builder.proofs.ReachLemmas.{reached_least, entry_once, entry_grows, answer_here, answer_kept, reached_on}
use Rattle.graph_builder.proofs.SlotsLemmas.{has_append, has_left, has_right, has_one, has_same}
use Rattle.graph_builder.proofs.BuildingLemmas.{text_same, false_from, written_here, written_there, written_some, apart_first, building_taken, building_answered}
use Rattle.graph_builder.proofs.ReachingLemmas.{goes_on_same, todo_marked}
use Rattle.graph_builder.proofs.ProgressLemmas.{kept_answered, first_later, filled_some, building_entry_by, too_many, distinct_log, one_open, own_after, before_after, log_after_asks, own_answered, falls_after, too_many_asked}

-- ---- lists that belong together, by halves

pub zip_halves : {A B : Type 0} (R : A → B → Type 0) (n : ℕ) (xs : List A) (ys zs : List B)
    → AllZip R (take n xs) ys → AllZip R (drop n xs) zs → AllZip R xs (ys ++ zs)
zip_halves R zero [] [] zs h g = g
zip_halves R zero (x ∷ xs) [] zs h g = g
zip_halves R zero [] (y ∷ ys) zs h g = absurd h
zip_halves R zero (x ∷ xs) (y ∷ ys) zs h g = absurd h
zip_halves R (suc n) [] [] zs h g = g
zip_halves R (suc n) [] (y ∷ ys) zs h g = absurd h
zip_halves R (suc n) (x ∷ xs) [] zs h g = absurd h
zip_halves R (suc n) (x ∷ xs) (y ∷ ys) zs h g = (h.0, zip_halves R n xs ys zs h.1 g)

-- one more of a list by its places
zip_take : {A B : Type 0} (R : A → B → Type 0) (xs : List A) (ys : List B) (i : ℕ) (x : A) (y : B)
    → AllZip R (take i xs) ys → i < length xs → x ≡ get_or xs i x → R x y
    → AllZip R (take (suc i) xs) (ys ++ y ∷ [])
zip_take R [] ys i x y h within is r = absurd (omega arith)
zip_take R (z ∷ xs) [] zero x y h within is r = (subst (λ a. R a y) is r, h)
zip_take R (z ∷ xs) (w ∷ ys) zero x y h within is r = absurd h
zip_take R (z ∷ xs) [] (suc i) x y h within is r = absurd h
zip_take R (z ∷ xs) (w ∷ ys) (suc i) x y h within is r =
    (h.0, zip_take R xs ys i x y h.1 (omega arith) is r)

pub zip_more : {A B : Type 0} (R : A → B → Type 0) (xs : List A) (ys : List B) (i : ℕ) (x : A) (y : B)
    → AllZip R (take i xs) ys → i < length xs → x ≡ get_or xs i x → R x y
    → AllZip R (take (i + 1) xs) (ys ++ y ∷ [])
zip_more R xs ys i x y h within is r =
    let on : suc i ≡ i + 1 = omega arith in
    subst (λ (n : ℕ). AllZip R (take n xs) (ys ++ y ∷ [])) on (zip_take R xs ys i x y h within is r)

-- ---- the answers in hand

keys-push : (hand : Hand) (p : Parts × LoadAnswer)
    → keys_of (log_in (hand ++ p ∷ [])) ≡ keys_of (log_in hand) ++ text_of p.0 ∷ []
keys-push hand p = ap keys_of (map-append logged hand (p ∷ []))
    ∙ map-append (λ (e : Specifier × LoadAnswer). e.0) (log_in hand) (logged p ∷ [])

in_either : (hand : Hand) (p : Parts × LoadAnswer) (t : Specifier) → in_hand (hand ++ p ∷ []) t ≡ true
    → (in_hand hand t ≡ true) ⊎ (bytes_eq t (text_of p.0) ≡ true)
in_either hand p t h =
    by (has_append (keys_of (log_in hand)) (text_of p.0 ∷ []) t
    (ap (λ (l : List Specifier). has l t) (sym (keys-push hand p)) ∙ h))
  where
    by : (has (keys_of (log_in hand)) t ≡ true) ⊎ (has (text_of p.0 ∷ []) t ≡ true)
        → (in_hand hand t ≡ true) ⊎ (bytes_eq t (text_of p.0) ≡ true)
    by (inl g) = inl g
    by (inr g) = inr (sym (has_one (text_of p.0) t) ∙ g)

in_first : (hand : Hand) (p : Parts × LoadAnswer) (t : Specifier) → in_hand hand t ≡ true
    → in_hand (hand ++ p ∷ []) t ≡ true
in_first hand p t h = ap (λ (l : List Specifier). has l t) (keys-push hand p)
    ∙ has_left (keys_of (log_in hand)) (text_of p.0 ∷ []) t h

in_last : (hand : Hand) (p : Parts × LoadAnswer) (t : Specifier) → bytes_eq t (text_of p.0) ≡ true
    → in_hand (hand ++ p ∷ []) t ≡ true
in_last hand p t h = ap (λ (l : List Specifier). has l t) (keys-push hand p)
    ∙ has_right (keys_of (log_in hand)) (text_of p.0 ∷ []) t (has_one (text_of p.0) t ∙ h)

-- what isn't in a longer hand isn't in a shorter one
in_apart : (hand : Hand) (p : Parts × LoadAnswer) (t : Specifier) → in_hand (hand ++ p ∷ []) t ≡ false
    → (in_hand hand t ≡ false) × (bytes_eq t (text_of p.0) ≡ false)
in_apart hand p t out = (
  false_from (in_hand hand t) (λ h. let g = in_first hand p t h in cc),
  false_from (bytes_eq t (text_of p.0)) (λ h. let g = in_last hand p t h in cc),
)

in_neither : (hand : Hand) (p : Parts × LoadAnswer) (t : Specifier) → in_hand hand t ≡ false
    → bytes_eq t (text_of p.0) ≡ false → in_hand (hand ++ p ∷ []) t ≡ false
in_neither hand p t out other = false_from (in_hand (hand ++ p ∷ []) t) (λ h. by (in_either hand p t h))
  where
    by : (in_hand hand t ≡ true) ⊎ (bytes_eq t (text_of p.0) ≡ true) → ⊥
    by (inl g) = cc
    by (inr g) = cc

all_push : {A : Type 0} (P : A → Type 0) (xs : List A) (x : A) → AllByRecursion P xs → P x
    → AllByRecursion P (xs ++ x ∷ [])
all_push P [] x h g = (g, tt)
all_push P (y ∷ xs) x h g = (h.0, all_push P xs x h.1 g)

all_map : {A : Type 0} (P Q : A → Type 0) → ((x : A) → P x → Q x) → (xs : List A) → AllByRecursion P xs
    → AllByRecursion Q xs
all_map P Q f [] h = tt
all_map P Q f (x ∷ xs) h = (f x h.0, all_map P Q f xs h.1)

-- of two lists without repeats what is in the second isn't in the first
distinct_apart : (xs ys : List Specifier) (t : Specifier) → IsDistinct bytes_eq (xs ++ ys) → has ys t ≡ true
    → has xs t ≡ false
unfolding IsDistinct
distinct_apart [] ys t once h = refl
distinct_apart (x ∷ xs) ys t once h =
    rw (first (bytes_eq t x) refl, distinct_apart xs ys t once.1 h) refl
  where
    first : (b : Bool) → bytes_eq t x ≡ b → bytes_eq t x ≡ false
    first true e =
        let out : has (xs ++ ys) x ≡ false = apart_first x (xs ++ ys) once.0 in
        let there : has (xs ++ ys) t ≡ true = has_right xs ys t h in
        let same : has (xs ++ ys) t ≡ has (xs ++ ys) x = has_same (xs ++ ys) x t e in absurd cc
    first false e = e

none_of : (o : Option LoadAnswer) → is_some o ≡ false → o ≡ None
none_of None h = refl
none_of (Some a) h = absurd cc

some_of : (o : Option LoadAnswer) → is_some o ≡ true → (a : LoadAnswer) × (o ≡ Some a)
some_of None h = absurd cc
some_of (Some a) h = (a, refl)

-- ---- nothing is in hand

pub holding_none : {rules : Rules} → (x : At) → IsLive rules x → IsHolding rules x []
holding_none {rules} x v = record {
  kept = v.kept;
  behind = v.behind;
  counted = v.counted;
  room = v.room;
  building = v.building;
  timely = v.timely;
  rooted = v.rooted;
  first = v.first;
  held = tt;
}

pub live_again : {rules : Rules} → (x : At) → IsHolding rules x [] → IsLive rules x
live_again {rules} x v = record {
  kept = v.kept;
  behind = v.behind;
  counted = v.counted;
  room = v.room;
  building = v.building;
  timely = v.timely;
  rooted = v.rooted;
  first = v.first;
}

pub taking_none : {rules : Rules} → (x : At) → IsLive rules x → todo_at x ≡ [] → x.progress.begun ≡ true
    → IsTaking rules x []
taking_none {rules} x v empty begun = record {
  holding = holding_none x v;
  asked_all = empty;
  begun = begun;
  before = own_log x;
  last = sym (append-nil (own_log x));
  once = λ t h. absurd cc;
}

-- ---- an answer is taken in hand

module _ {rules : Rules} (x : At) (url : Parts) (a : LoadAnswer) (now : LoaderData) (new : Reaching) (hand : Hand)
    (t : IsTaking rules x hand) (fewer : x.progress.taken < x.progress.asked)
    (polled : HasPolled x.loader now (Ok (Answer url a))) (waits : slots_at x (text_of url) ≡ Some Asked)
    (marked : IsMarked (text_of url) Queued x.progress.reaching new)
    (same : new.limit ≡ x.progress.reaching.limit) where
  abbrev after : At
  after = at now (record {
    starts = x.progress.starts;
    reaching = new;
    asked = x.progress.asked;
    taken = x.progress.taken + 1;
    begun = x.progress.begun;
  })

  abbrev s : Specifier
  s = text_of url

  free : in_hand hand s ≡ false
  free = false_from (in_hand hand s) (λ h. t.once s h waits)

  is_open : IsOutstanding (own_asked x) (own_log x) s
  is_open = t.holding.building.outstanding s free waits

  later : last_of (x.progress.asked + (x.progress.taken + 1)) now.events ≡ own_events x ++ Answered s a ∷ []
  later = ap (λ (l : List Event). last_of (x.progress.asked + (x.progress.taken + 1)) l) polled.events
      ∙ last_of-push (own_count x) (x.progress.asked + (x.progress.taken + 1)) x.loader.events (Answered s a)
      t.holding.kept.fits (omega arith)

  logs : log_of (last_of (x.progress.asked + (x.progress.taken + 1)) now.events) ≡ own_log x ++ (s, a) ∷ []
  logs = ap log_of later ∙ log_of-answer (own_events x) s a

  pub holding_taken : IsHolding rules (at now (record {
    starts = x.progress.starts;
    reaching = new;
    asked = x.progress.asked;
    taken = x.progress.taken + 1;
    begun = x.progress.begun;
  })) (hand ++ (url, a) ∷ [])
  holding_taken = record {
    kept = rw (polled.events, polled.told)
        (kept_answered rules (starts_at x) x.loader.events x.loader.told x.progress.asked x.progress.taken s a
        t.holding.kept t.holding.behind polled.as_told);
    behind = omega (arith, fewer);
    counted = rw (marked.counted, todo_marked s Queued x.progress.reaching new marked) t.holding.counted;
    room = record {
      within = omega (arith, t.holding.room.within, marked.next, marked.counted);
      room = omega (arith, t.holding.room.room, marked.counted, same);
    };
    building = subst (λ (l : List Event). IsBuilding rules (starts_at x) (in_hand (hand ++ (url, a) ∷ []))
        (asked_of l) (log_of l) (slots_of new) (todo_of new)) (sym later)
        (rw (
          asked_of-answer (own_events x) s a,
          log_of-answer (own_events x) s a,
          todo_marked s Queued x.progress.reaching new marked,
        )
        (building_taken rules (starts_at x) (own_asked x) (own_log x) (slots_at x) (slots_of new) (todo_at x)
        (in_hand hand) (in_hand (hand ++ (url, a) ∷ [])) s a t.holding.building waits free
        (t.holding.kept.own.asking.loads s is_open.0) marked.written
        (in_apart hand (url, a)) (in_either hand (url, a)) (in_neither hand (url, a))));
    timely = subst IsTimely (sym later) (timely_answer (own_events x) s a t.holding.timely is_open);
    rooted = λ b u h. written_some (slots_at x) (slots_of new) s u Queued marked.written (t.holding.rooted b u h);
    first = first_later x after s Asked t.holding.first waits refl refl
        (goes_on_same (keys_at x.progress.reaching.reached) (keys_at new.reached) marked.keys);
    held = all_push (λ p. answer_to (own_log after) (text_of p.0) ≡ Some p.1) hand (url, a)
        (all_map (λ p. answer_to (own_log x) (text_of p.0) ≡ Some p.1)
        (λ p. answer_to (own_log after) (text_of p.0) ≡ Some p.1)
        (λ p h. ap (λ (l : Log). answer_to l (text_of p.0)) logs
        ∙ answer_kept (own_log x) ((s, a) ∷ []) (text_of p.0) p.1 h) hand t.holding.held)
        (ap (λ (l : Log). answer_to l s) logs ∙ answer_here (own_log x) s a is_open.1);
  }

  once_more : (u : Specifier) → (in_hand hand u ≡ true) ⊎ (bytes_eq u s ≡ true) → (b : Bool) → bytes_eq u s ≡ b
      → slots_of new u ≡ Some Asked → ⊥
  once_more u h true e d = let q = written_here (slots_at x) (slots_of new) s u Queued marked.written e in cc
  once_more u (inl h) false e d =
      t.once u h (sym (written_there (slots_at x) (slots_of new) s u Queued marked.written e) ∙ d)
  once_more u (inr h) false e d = cc

  pub taking_more : IsTaking rules (at now (record {
    starts = x.progress.starts;
    reaching = new;
    asked = x.progress.asked;
    taken = x.progress.taken + 1;
    begun = x.progress.begun;
  })) (hand ++ (url, a) ∷ [])
  taking_more = record {
    holding = holding_taken;
    asked_all = todo_marked s Queued x.progress.reaching new marked ∙ t.asked_all;
    begun = t.begun;
    before = t.before;
    last = logs ∙ ap (λ (l : Log). l ++ (s, a) ∷ []) t.last ∙ append_assoc t.before (log_in hand) ((s, a) ∷ [])
        ∙ ap (λ (l : Log). t.before ++ l) (sym (map-append logged hand ((url, a) ∷ [])));
    once = λ u h. once_more u (in_either hand (url, a) u h) (bytes_eq u s) refl;
  }

-- what holds at all times, after an answer
pub kept_held : {rules : Rules} → (x y : At) (hand : Hand) (url : Parts) (a : LoadAnswer) → IsHolding rules x hand
    → HasPolled x.loader y.loader (Ok (Answer url a))
    → y.progress.starts ≡ x.progress.starts → y.progress.asked ≡ x.progress.asked
    → y.progress.taken ≡ x.progress.taken + 1 → IsKeptAt rules y
kept_held {rules} x y hand url a v polled starts asked taken =
    rw (starts, asked, taken, polled.events, polled.told)
    (kept_answered rules (starts_at x) x.loader.events x.loader.told x.progress.asked x.progress.taken (text_of url) a
    v.kept v.behind polled.as_told)

-- the loader had nothing to give
pub taking_still : {rules : Rules} → (x : At) (now : LoaderData) (hand : Hand) → IsTaking rules x hand
    → now.events ≡ x.loader.events → now.told ≡ x.loader.told → IsTaking rules (at now x.progress) hand
taking_still {rules} x now hand t events told = record {
  holding = record {
    kept = rw (events, told) t.holding.kept;
    behind = t.holding.behind;
    counted = t.holding.counted;
    room = t.holding.room;
    building = rw events t.holding.building;
    timely = rw events t.holding.timely;
    rooted = t.holding.rooted;
    first = record { before = t.holding.first.before; after = t.holding.first.after };
    held = rw events t.holding.held;
  };
  asked_all = t.asked_all;
  begun = t.begun;
  before = t.before;
  last = rw events t.last;
  once = t.once;
}

-- ---- an answer in hand has its entry

module _ {rules : Rules} (x : At) (p : Parts × LoadAnswer) (hand : Hand) (e : Entry)
    (v : IsHolding rules x (p ∷ hand)) (means : rules.means (text_of p.0) (Some p.1) e) where
  abbrev head : Specifier
  head = text_of p.0

  here : in_hand (p ∷ hand) head ≡ true
  here = ap (λ (b : Bool). b || in_hand hand head) (nat_list_eq_equiv.refl head)

  -- it has a slot
  pub held_slot : slots_at x (text_of p.0) ≡ None → ⊥
  held_slot = v.building.holds head here

  reached_in : IsReached rules (starts_at x) (answer_to (own_log x)) head
  reached_in = by (slots_at x head) refl
    where
      by : (o : Option Slot) → slots_at x head ≡ o → IsReached rules (starts_at x) (answer_to (own_log x)) head
      by None d = absurd (held_slot d)
      by (Some y) d = v.building.sound head y d

  entry_in : IsEntry rules (answer_to (own_log x)) head e
  entry_in = inl (record {
    loads = v.kept.own.asking.loads head (v.building.answered head p.1 v.held.0);
    answer = p.1;
    given = v.held.0;
    means = means;
  })

  pub too_many_held : (limit seen : ℕ) → IsOverfull (targets rules e) (slots_at x) limit seen
      → IsTooMany rules (starts_at x) (own_log x) limit seen
  too_many_held limit seen full =
      too_many rules (starts_at x) (targets rules e) (own_log x) (slots_at x) limit seen full v.building.sound
      (λ t h. reached_on rules (starts_at x) (answer_to (own_log x)) head t reached_in
      (record { entry = e; is_entry = entry_in; among = h }))

  pub holding_filled : (new : Reaching) → IsFilled rules (text_of p.0) e x.progress.reaching new
      → IsHolding rules (at x.loader (record {
        starts = x.progress.starts;
        reaching = new;
        asked = x.progress.asked;
        taken = x.progress.taken;
        begun = x.progress.begun;
      })) hand
  holding_filled new f = record {
    kept = v.kept;
    behind = v.behind;
    counted = omega (arith, v.counted, f.counted);
    room = f.room;
    building = building_entry_by rules (starts_at x) (own_asked x) (own_log x) (in_hand (p ∷ hand)) (in_hand hand) head
        e x.progress.reaching new v.building reached_in entry_in f
        (λ t h. apart (bytes_eq t head) (in_hand hand t) h) (λ t h. still (bytes_eq t head) (in_hand hand t) h)
        (λ t d h. out (bytes_eq t head) (in_hand hand t) d h);
    timely = v.timely;
    rooted = λ b t h. filled_some head t e x.progress.reaching new f (v.rooted b t h);
    first = first (slots_at x head) refl;
    held = v.held.1;
  }
    where
      apart : (b c : Bool) → (b || c) ≡ false → (b ≡ false) × (c ≡ false)
      apart true c h = absurd cc
      apart false c h = (refl, h)

      still : (b c : Bool) → c ≡ true → (b || c) ≡ true
      still true c h = refl
      still false c h = h

      out : (b c : Bool) → b ≡ false → c ≡ false → (b || c) ≡ false
      out true c d h = d
      out false c d h = h

      first : (o : Option Slot) → slots_at x head ≡ o → HasFirst (at x.loader (record {
        starts = x.progress.starts;
        reaching = new;
        asked = x.progress.asked;
        taken = x.progress.taken;
        begun = x.progress.begun;
      }))
      first None d = absurd (held_slot d)
      first (Some y) d = first_later x _ head y v.first d refl refl f.keys

-- the first of the entries to come is that of the first answer in hand
pub meant_first : (means : Means) (hand : Hand) (made rest : List (Parts × Entry)) (m : Parts × Entry)
    → AreMeant means hand made → made ≡ m ∷ rest
    → (p : Parts × LoadAnswer) × (later : Hand) × (hand ≡ p ∷ later) × IsMeant means p m × AreMeant means later rest
meant_first means hand made rest m all is = by hand (subst (AreMeant means hand) is all)
  where
    by : (hs : Hand) → AreMeant means hs (m ∷ rest)
        → (p : Parts × LoadAnswer) × (later : Hand) × (hs ≡ p ∷ later) × IsMeant means p m × AreMeant means later rest
    by [] h = absurd h
    by (p ∷ later) h = (p, later, refl, h.0, h.1)

module _ (means : Means) (following : Following) (x : At) (hand : Hand) (made rest : List (Parts × Entry)) (url : Parts)
    (entry : Entry) (v : IsHolding (rules_by means following) x hand) (all : AreMeant means hand made)
    (is : made ≡ (url, entry) ∷ rest) where
  pub first_slot : slots_at x (text_of url) ≡ None → ⊥
  first_slot none =
      let f = meant_first means hand made rest (url, entry) all is in
      let w : IsHolding (rules_by means following) x (f.0 ∷ f.1) =
      subst (IsHolding (rules_by means following) x) f.2 v in
      w.building.holds (text_of f.0.0)
      (ap (λ (b : Bool). b || in_hand f.1 (text_of f.0.0)) (nat_list_eq_equiv.refl (text_of f.0.0)))
      (ap (λ (u : Parts). slots_at x (text_of u)) (sym f.3.0) ∙ none)

  pub filled_more : (new : Reaching) → IsFilled (rules_by means following) (text_of url) entry x.progress.reaching new
      → (later : Hand) × IsHolding (rules_by means following) (at x.loader (record {
        starts = x.progress.starts;
        reaching = new;
        asked = x.progress.asked;
        taken = x.progress.taken;
        begun = x.progress.begun;
      })) later × AreMeant means later rest
  filled_more new f =
      let m = meant_first means hand made rest (url, entry) all is in (
        m.1,
        holding_filled x m.0 m.1 entry (subst (IsHolding (rules_by means following) x) m.2 v) m.3.1 new
            (subst (λ (u : Parts). IsFilled (rules_by means following) (text_of u) entry x.progress.reaching new) m.3.0
            f),
        m.4,
      )

  pub too_many_more : (limit seen : ℕ) → IsOverfull (targets (rules_by means following) entry) (slots_at x) limit seen
      → IsTooMany (rules_by means following) (starts_at x) (own_log x) limit seen
  too_many_more limit seen full =
      let m = meant_first means hand made rest (url, entry) all is in
      too_many_held x m.0 m.1 entry (subst (IsHolding (rules_by means following) x) m.2 v) m.3.1 limit seen full

  -- why the entries didn't all fill their slots, told from an earlier state
  pub fills_err : (o y : At) (new : Reaching) (e : GrowError) → IsKeptAt (rules_by means following) o → OnlyAsks o x
      → Fills (rules_by means following) (text_of url) entry x.progress.reaching new (Err e)
      → FillsAll (rules_by means following) o y (Err e)
  fills_err o y new (grow.TooMany seen) k a full =
      too_many_asked o x o.progress.reaching.limit seen k a
      (subst (λ (n : ℕ). IsTooMany (rules_by means following) (starts_at x) (own_log x) n seen) a.goes.limit
      (too_many_more x.progress.reaching.limit seen full))
  fills_err o y new grow.OutOfMemory k a full = tt

-- all of them have their entries
pub live_at_end : {rules : Rules} → (means : Means) (x : At) (hand : Hand) (made : List (Parts × Entry))
    → IsHolding rules x hand → AreMeant means hand made → length made ≡ 0 → IsLive rules x
live_at_end {rules} means x hand made v all none = by hand made v all none
  where
    by : (hs : Hand) (ms : List (Parts × Entry)) → IsHolding rules x hs → AreMeant means hs ms → length ms ≡ 0
        → IsLive rules x
    by [] ms w h z = live_again x w
    by (p ∷ hs) [] w h z = absurd h
    by (p ∷ hs) (m ∷ ms) w h z = absurd (omega (arith, z))

-- ---- an answer that isn't awaited

module _ (rules : Rules) (x : At) (hand : Hand) (t : IsTaking rules x hand) where
  keys-last : keys_of (own_log x) ≡ keys_of t.before ++ keys_of (log_in hand)
  keys-last = ap keys_of t.last ∙ map-append (λ (e : Specifier × LoadAnswer). e.0) t.before (log_in hand)

  -- what is in hand is answered
  hand_answered : (r : Specifier) → in_hand hand r ≡ true → is_some (answer_to (own_log x) r) ≡ true
  hand_answered r h = is_some-lookup (bytes_eq r) (own_log x)
      ∙ ap (λ (l : List Specifier). has l r) keys-last
      ∙ has_right (keys_of t.before) (keys_of (log_in hand)) r h

  -- but not before
  hand_apart : (r : Specifier) → in_hand hand r ≡ true → answer_to t.before r ≡ None
  hand_apart r h = none_of (answer_to t.before r) (is_some-lookup (bytes_eq r) t.before
      ∙ distinct_apart (keys_of t.before) (keys_of (log_in hand)) r
      (subst (IsDistinct bytes_eq) keys-last
      (distinct_log rules (starts_at x) (own_log x) t.holding.building.orderly)) h)

  not_queued : (r : Specifier) → in_hand hand r ≡ false → slots_at x r ≡ Some Queued → ⊥
  not_queued r out q =
      let h = (t.holding.building.queued r out q).0 in let none =
      ap (λ (l : List Specifier). has l r) t.asked_all in cc

  -- over a front of the log before
  module _ (once : IsFunctional rules) (front more : Log) (splits : t.before ≡ front ++ more) where
    in_before : (r : Specifier) (a : LoadAnswer) → answer_to front r ≡ Some a → answer_to t.before r ≡ Some a
    in_before r a h = subst (λ (l : Log). answer_to l r ≡ Some a) (sym splits) (answer_kept front more r a h)

    in_whole : (r : Specifier) (a : LoadAnswer) → answer_to front r ≡ Some a → answer_to (own_log x) r ≡ Some a
    in_whole r a h =
        subst (λ (l : Log). answer_to l r ≡ Some a) (sym t.last)
        (answer_kept t.before (log_in hand) r a (in_before r a h))

    no_entry : (r : Specifier) (e : Entry) → loadable r ≡ true
        → ((a : LoadAnswer) → answer_to front r ≡ Some a → ⊥) → IsEntry rules (answer_to front) r e → ⊥
    no_entry r e loads none (inl a) = none a.answer a.given
    no_entry r e loads none (inr u) = let g = u.0 in cc

    loads_in : (r : Specifier) → in_hand hand r ≡ true → loadable r ≡ true
    loads_in r h =
        let some = some_of (answer_to (own_log x) r) (hand_answered r h) in
        t.holding.kept.own.asking.loads r (t.holding.building.answered r some.0 some.1)

    from : (r s : Specifier) → Leads rules (answer_to front) r s → (b : Bool) → in_hand hand r ≡ b
        → (o : Option Slot) → slots_at x r ≡ o → (slots_at x r ≡ None → ⊥) → slots_at x s ≡ None → ⊥
    from r s leads true h o d there =
        absurd (no_entry r leads.entry (loads_in r h)
        (λ a g. let some = in_before r a g in let none = hand_apart r h in cc) leads.is_entry)
    from r s leads false h None d there = absurd (there d)
    from r s leads false h (Some Queued) d there = absurd (not_queued r h d)
    from r s leads false h (Some Asked) d there =
        let w = t.holding.building.outstanding r h d in
        absurd (no_entry r leads.entry (t.holding.kept.own.asking.loads r w.0)
        (λ a g. let some = in_whole r a g in let none = w.1 in cc) leads.is_entry)
    from r s leads false h (Some (Done e)) d there =
        let same : leads.entry ≡ e =
        entry_once rules once (answer_to (own_log x)) r leads.entry e
        (entry_grows rules (answer_to front) (answer_to (own_log x)) in_whole r leads.entry leads.is_entry)
        (t.holding.building.done r e d) in
        t.holding.building.closed r s e d
        (ap (λ (f : Entry). has (targets rules f) s) (sym same) ∙ leads.among)

    -- whatever is reached has a slot
    way_over : (r : Specifier) → IsReached rules (starts_at x) (answer_to front) r → slots_at x r ≡ None → ⊥
    way_over =
        reached_least rules (starts_at x) (answer_to front) (λ r. slots_at x r ≡ None → ⊥)
        (t.holding.rooted t.begun)
        (λ r s there leads. from r s leads (in_hand hand r) refl (slots_at x r) refl there)

  -- what has no waiting slot isn't awaited, while fewer than a batch are in hand
  pub unawaited_now : IsFunctional rules → (batch : ℕ) → length hand < batch → (s : Specifier)
      → (slots_at x s ≡ Some Asked → ⊥) → IsUnawaitedOver rules batch (starts_at x) (own_log x) s
  unawaited_now once batch few s not_asked = by (slots_at x s) refl (in_hand hand s) refl
    where
      n : ℕ
      n = length (own_log x) - (batch - 1)

      long : n ≤ length t.before
      long = omega (arith, ap length t.last, length-append t.before (log_in hand), length-map hand logged, few)

      whole : take n (own_log x) ≡ take n t.before
      whole = ap (take n) t.last ∙ take-append-le n t.before (log_in hand) long

      entered : (e : Entry) → IsEntry rules (answer_to (own_log x)) s e
          → IsUnawaitedOver rules batch (starts_at x) (own_log x) s
      entered e (inl a) = inl (rw a.given refl)
      entered e (inr u) = inr (λ r loads. let g = u.0 in cc)

      by : (o : Option Slot) → slots_at x s ≡ o → (b : Bool) → in_hand hand s ≡ b
          → IsUnawaitedOver rules batch (starts_at x) (own_log x) s
      by None d b h = inr (λ r loads.
          way_over once (take n t.before) (drop n t.before) (sym (take-append-drop n t.before)) s
          (subst (λ (l : Log). IsReached rules (starts_at x) (answer_to l) s) whole r) d)
      by (Some Queued) d true h = inl (hand_answered s h)
      by (Some Queued) d false h = absurd (not_queued s h d)
      by (Some Asked) d b h = absurd (not_asked d)
      by (Some (Done e)) d b h = entered e (t.holding.building.done s e d)

  -- nor is it outstanding
  pub settled_now : (s : Specifier) → (slots_at x s ≡ Some Asked → ⊥)
      → IsOutstanding (own_asked x) (own_log x) s → ⊥
  settled_now s not_asked is_open = by (slots_at x s) refl (in_hand hand s) refl
    where
      entered : (e : Entry) → IsEntry rules (answer_to (own_log x)) s e → ⊥
      entered e (inl a) = let g = a.given in let n = is_open.1 in cc
      entered e (inr u) = let g = u.0 in let l = t.holding.kept.own.asking.loads s is_open.0 in cc

      by : (o : Option Slot) → slots_at x s ≡ o → (b : Bool) → in_hand hand s ≡ b → ⊥
      by None d b h = t.holding.building.asked_slot s is_open.0 d
      by (Some Queued) d true h =
          let some = hand_answered s h in let none = ap is_some is_open.1 in cc
      by (Some Queued) d false h = let g = (t.holding.building.queued s h d).1 in let k = is_open.0 in cc
      by (Some Asked) d b h = not_asked d
      by (Some (Done e)) d b h = entered e (t.holding.building.done s e d)

-- the answers and requests of one list are those of an equal one
same_counts : (s : Specifier) (xs ys : List Event) → xs ≡ ys → answers xs s < requests xs s
    → answers ys s < requests ys s
same_counts s xs ys is = subst (λ (l : List Event). answers l s < requests l s) is

-- it is refused
pub unasked_here : {rules : Rules} → (batch : ℕ) (x y : At) (hand : Hand) (url : Parts) (a : LoadAnswer)
    → IsTaking rules x hand → length hand < batch → x.progress.taken < x.progress.asked
    → (slots_at x (text_of url) ≡ Some Asked → ⊥) → HasPolled x.loader y.loader (Ok (Answer url a))
    → y.progress.asked ≡ x.progress.asked → y.progress.taken ≡ x.progress.taken + 1
    → IsUnasked rules batch x y (text_of url)
unasked_here {rules} batch x y hand url a t few fewer waits polled asked taken =
    let last : own_events y ≡ own_events x ++ Answered (text_of url) a ∷ [] =
    own_answered x y url a t.holding.kept polled asked taken in
    let asks : own_asked y ≡ own_asked x = ap asked_of last ∙ asked_of-answer (own_events x) (text_of url) a in record {
      before = own_events x;
      answer = a;
      last = last;
      goes_on = ([], sym (append-nil (own_events x)));
      orderly = t.holding.building.orderly;
      outstanding = rw asks (one_open (own_asked x) (own_log x) t.holding.kept.own.asking.once
          (omega (arith, t.holding.kept.own.asked_counted, t.holding.kept.own.taken_counted, fewer)));
      settled = rw asks (settled_now rules x hand t (text_of url) waits);
      unawaited = λ once. unawaited_now rules x hand t once batch few (text_of url) waits;
      pending = polled.pending;
      fair = λ f. same_counts (text_of url) x.loader.events
          (before_last (own_count y) y.loader.events ++ own_events x) whole (polled.fair f).1;
    }
  where
    first : before_last (own_count y) y.loader.events ≡ before_last (own_count x) x.loader.events
    first = ap (λ (l : List Event). before_last (own_count y) l) polled.events
        ∙ before_last-push (own_count x) (own_count y) x.loader.events (Answered (text_of url) a) t.holding.kept.fits
        (omega (arith, asked, taken))

    whole : x.loader.events ≡ before_last (own_count y) y.loader.events ++ own_events x
    whole = sym (ap (λ (l : List Event). l ++ own_events x) first ∙ before_last-last (own_count x) x.loader.events)

-- one answer alone is taken, and refused
pub turns_refused : {rules : Rules} → (x y : At) (url : Parts) (a : LoadAnswer) (new : Reaching) (e : BuildError)
    → IsLive rules x → x.progress.begun ≡ true → todo_at x ≡ [] → x.progress.taken < x.progress.asked
    → Takes rules url a x.progress.reaching new (Err e) → HasPolled x.loader y.loader (Ok (Answer url a))
    → y.progress.asked ≡ x.progress.asked → y.progress.taken ≡ x.progress.taken + 1
    → Turns rules 1 x y (Err e)
turns_refused {rules} x y url a new (error.TooManyModules seen) v begun empty fewer refused polled asked taken =
    let s : Specifier = text_of url in
    let is_open = v.building.outstanding s refl refused.0 in
    let loads : loadable s ≡ true = v.kept.own.asking.loads s is_open.0 in
    let later = building_answered rules (starts_at x) (own_asked x) (own_log x) (slots_at x) (todo_at x) s a v.building
    refused.0 loads in
    subst (λ (l : Log). IsTooMany rules (starts_at x) l x.progress.reaching.limit seen)
    (sym (ap log_of (own_answered x y url a v.kept polled asked taken) ∙ log_of-answer (own_events x) s a))
    (too_many rules (starts_at x) (targets rules refused.1.0) (own_log x ++ (s, a) ∷ []) (slots_at x)
    x.progress.reaching.limit seen refused.1.2 later.sound
    (λ t h. reached_on rules (starts_at x) (answer_to (own_log x ++ (s, a) ∷ [])) s t (later.sound s Asked refused.0)
    (record {
      entry = refused.1.0;
      is_entry = inl (record
          { loads = loads; answer = a; given = answer_here (own_log x) s a is_open.1; means = refused.1.1 });
      among = h;
    })))
turns_refused {rules} x y url a new (error.UnaskedAnswer other) v begun empty fewer refused polled asked taken =
    subst (IsUnasked rules 1 x y) (sym (ap text_of refused.0))
    (unasked_here 1 x y [] url a (taking_none x v empty begun) (omega arith) fewer refused.1 polled asked taken)
turns_refused {rules} x y url a new error.OutOfMemory v begun empty fewer refused polled asked taken = tt
turns_refused {rules} x y url a new error.NotYet v begun empty fewer refused polled asked taken = absurd refused
turns_refused {rules} x y url a new error.Finished v begun empty fewer refused polled asked taken = absurd refused

-- ---- the loader has nothing to give

-- at a poll
pub has_waited : (x : At) (now : LoaderData) → HasPolled x.loader now (Ok Pending) → HasWaited x (at now x.progress)
has_waited x now polled = record {
  counted = polled.pending;
  standing = polled.standing ∙ ap (λ (l : List Event). (length (asked_of l), length (log_of l))) (sym polled.events);
  patience = λ fewer. polled.patience.falls refl
      (subst (λ (l : List Event). length (log_of l) < length (asked_of l)) polled.events fewer);
}

-- told from an earlier state
pub waited_after : (x y z : At) → GoesOnAt x y → y.loader.pending ≡ x.loader.pending → HasWaited y z → HasWaited x z
waited_after x y z g same h = record {
  counted = rw (← same) h.counted;
  standing = h.standing;
  patience = λ fewer. falls_after x.loader.patience y.loader.patience z.loader.patience g.patience (h.patience fewer);
}

falls_before : (a b c : Option ℕ) → Falls a b → NeverRises b c → Falls a c
falls_before None None None g h = tt
falls_before (Some x) (Some y) (Some z) g h = omega arith
falls_before None (Some y) c g h = absurd g
falls_before (Some x) None c g h = absurd g
falls_before None None (Some z) g h = absurd h
falls_before (Some x) (Some y) None g h = absurd h

-- and was only asked afterwards
pub paused : {rules : Rules} → (x z w : At) → IsKeptAt rules z → z.progress.taken < z.progress.asked → HasWaited x z
    → OnlyAsks z w → IsLive rules w → todo_at w ≡ [] → w.progress.begun ≡ true → IsPaused rules x w
paused {rules} x z w k fewer h a v empty begun = record {
  live = v;
  asked_all = empty;
  begun = begun;
  open_yet = omega (arith, fewer, a.taken, a.goes.events.asked_counted);
  counted = subst (HasRisen x.loader.pending) (sym a.pending) h.counted;
  stands = ap (λ (s : ℕ × ℕ). s.1) (a.standing ∙ h.standing) ∙ ap length (sym log_same);
  stood_open = subst (λ (l : List Specifier). SomeOutstanding l (own_log w)) (sym first_asked)
      (subst (SomeOutstanding (own_asked z)) (sym (log_after_asks z w k a)) open_then);
  patience = λ even. falls_before x.loader.patience z.loader.patience w.loader.patience (h.patience (behind even))
      a.goes.patience;
}
  where
    log_same : log_of w.loader.events ≡ log_of z.loader.events
    log_same = ap log_of a.goes.events.is ∙ log_of-append z.loader.events a.goes.events.more
        ∙ ap (λ (l : Log). log_of z.loader.events ++ l) a.none ∙ append-nil (log_of z.loader.events)

    open_then : SomeOutstanding (own_asked z) (own_log z)
    open_then = one_open (own_asked z) (own_log z) k.own.asking.once
        (omega (arith, k.own.asked_counted, k.own.taken_counted, fewer))

    asks : asked_before z ++ own_asked z ≡ asked_of z.loader.events
    asks = sym (asked_of-append (before_last (own_count z) z.loader.events) (own_events z))
        ∙ ap asked_of (before_last-last (own_count z) z.loader.events)

    logs : log_before z ++ own_log z ≡ log_of z.loader.events
    logs = sym (log_of-append (before_last (own_count z) z.loader.events) (own_events z))
        ∙ ap log_of (before_last-last (own_count z) z.loader.events)

    early : before_last (own_count w) w.loader.events ≡ before_last (own_count z) z.loader.events
    early = before_after z w k a.goes

    asked_even : length (asked_before w) ≡ length (asked_before z)
    asked_even = ap (λ (l : List Event). length (asked_of l)) early

    log_even : length (log_before w) ≡ length (log_before z)
    log_even = ap (λ (l : List Event). length (log_of l)) early

    so_many : w.loader.standing.0 - length (asked_before w) ≡ length (own_asked z)
    so_many = omega (
      arith,
      ap (λ (s : ℕ × ℕ). s.0) (a.standing ∙ h.standing),
      ap length asks,
      length-append (asked_before z) (own_asked z),
      asked_even,
    )

    first_asked : take (w.loader.standing.0 - length (asked_before w)) (own_asked w) ≡ own_asked z
    first_asked =
        ap (λ (n : ℕ). take n (own_asked w)) so_many
        ∙ ap (take (length (own_asked z))) (ap asked_of (own_after z w k a.goes)
        ∙ asked_of-append (own_events z) a.goes.events.more)
        ∙ take-append-le (length (own_asked z)) (own_asked z) (asked_of a.goes.events.more) (omega arith)
        ∙ take_all (length (own_asked z)) (own_asked z) (omega arith)

    behind : length (asked_before w) ≡ length (log_before w)
        → length (log_of z.loader.events) < length (asked_of z.loader.events)
    behind even = omega (
      arith,
      even,
      asked_even,
      log_even,
      ap length asks,
      ap length logs,
      length-append (asked_before z) (own_asked z),
      length-append (log_before z) (own_log z),
      k.own.asked_counted,
      k.own.taken_counted,
      fewer,
    )

-- ---- in time

pub holding_in_time : {rules : Rules} → (x : At) (hand : Hand) → IsHolding rules x hand
    → IsInTime rules (starts_at x) (own_events x)
holding_in_time {rules} x hand v = record { orderly = v.building.orderly; timely = v.timely }

pub held_in_time : {rules : Rules} → (x y : At) (hand : Hand) → IsHolding rules x hand → OnlyAsks x y
    → IsInTime rules (starts_at x) (own_events y)
held_in_time {rules} x y hand v a = record {
  orderly = subst (IsOrderly rules (starts_at x)) (sym (log_after_asks x y v.kept a)) v.building.orderly;
  timely = subst IsTimely (sym (own_after x y v.kept a.goes))
      (timely_asked (own_events x) a.goes.events.more v.timely a.none);
}

-- whatever comes of answers in hand, they came in time
pub entered_in_time : {rules : Rules} → (x y : At) (hand : Hand) (waits : Bool) (r : Result Bool BuildError)
    → IsHolding rules x hand → OnlyAsks x y → Enters rules waits x y r
    → CameInTime rules (starts_at x) (own_events y) r
entered_in_time {rules} x y hand waits (Ok more) v a e = held_in_time x y hand v a
entered_in_time {rules} x y hand waits (Err error.NotYet) v a e = held_in_time x y hand v a
entered_in_time {rules} x y hand waits (Err (error.TooManyModules seen)) v a e = held_in_time x y hand v a
entered_in_time {rules} x y hand waits (Err error.OutOfMemory) v a e = held_in_time x y hand v a
entered_in_time {rules} x y hand waits (Err (error.UnaskedAnswer url)) v a e = absurd e
entered_in_time {rules} x y hand waits (Err error.Finished) v a e = absurd e

-- ---- a turn with a batch

-- the answers that were taken have their entries
pub turns_entered : {rules : Rules} → (batch : ℕ) (x z w : At) (hand : Hand) (waits : Bool)
    (r : Result Bool BuildError)
    → IsTaking rules z hand → HasCome waits x z → GoesOnAt x z → OnlyAsks z w → Enters rules waits z w r
    → Turns rules batch x w r
turns_entered {rules} batch x z w hand true (Ok more) t came g a e = absurd (let h = e.0 in cc)
turns_entered {rules} batch x z w hand false (Ok true) t came g a e = (
  e.2,
  a.begun ∙ t.begun,
  omega (arith, came.1, a.taken),
  a.pending ∙ came.0,
)
turns_entered {rules} batch x z w hand false (Ok false) t came g a e = absurd (let h = e.1 in cc)
turns_entered {rules} batch x z w hand true (Err error.NotYet) t came g a e =
    paused x z w t.holding.kept came.1 came.0 a e.1 e.2 (a.begun ∙ t.begun)
turns_entered {rules} batch x z w hand false (Err error.NotYet) t came g a e = absurd (let h = e.0 in cc)
turns_entered {rules} batch x z w hand waits (Err (error.TooManyModules seen)) t came g a e =
    subst (λ (l : Log). IsTooMany rules (starts_at x) l x.progress.reaching.limit seen)
    (sym (log_after_asks z w t.holding.kept a)) (rw (← ap texts g.starts, ← g.limit) e)
turns_entered {rules} batch x z w hand waits (Err error.OutOfMemory) t came g a e = tt
turns_entered {rules} batch x z w hand waits (Err (error.UnaskedAnswer url)) t came g a e = absurd e
turns_entered {rules} batch x z w hand waits (Err error.Finished) t came g a e = absurd e

-- too much was reached after the loader was only asked, told from before
pub too_many_before : {rules : Rules} → (x y : At) (seen : ℕ) → IsKeptAt rules x → OnlyAsks x y
    → IsTooMany rules (starts_at y) (own_log y) y.progress.reaching.limit seen
    → IsTooMany rules (starts_at x) (own_log x) x.progress.reaching.limit seen
too_many_before {rules} x y seen k a h =
    too_many_asked x y x.progress.reaching.limit seen k a
    (subst (λ (n : ℕ). IsTooMany rules (starts_at y) (own_log y) n seen) a.goes.limit h)
