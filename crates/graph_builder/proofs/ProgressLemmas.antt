-- The steps of a builder beside its loader's data.
use Rattle.std.proofs.Common.{◌≡◌, ◌⊎◌, inl, inr, ◌≤◌, ◌<◌, ◌-◌, ℕ, ◌+◌, Bool, true, false, cond, List, [], ◌∷◌, ◌++◌, length, take, slice_get, refl, sym, ◌∙◌, ap, subst, arith, Option, Some, None, Result, Ok, Err, append-nil, append_assoc, length-append}
use Rattle.std.specs.Prelude.{bytes_eq, ◌||◌, is_some, IsSome, fold}
use Rattle.std.specs.List.{IsDistinct, list_any}
use Rattle.std.proofs.lemmas.Map.Made.{length-le_from_is_member, is_some-lookup}
use Rattle.std.proofs.lemmas.Map.Entries.{length-keys_of}
use Rattle.std.proofs.lemmas.List.{take_all}
use Rattle.graph_builder.specs.declared.error.BuildError.{BuildError}
use Rattle.graph_builder.specs.declared.error.BuildError.TheVariants as error
use Rattle.std.specs.Map.{keys_of}
use Rattle.std.specs.Cmp.Lexicographic.{nat_list_eq_equiv}
use Rattle.std.proofs.lemmas.List.{map-append}
use Rattle.std.proofs.lemmas.Map.Keys.{IsDistinct-push, IsDistinct-cons}
use Rattle.std.specs.declared.alloc.AllocError.{AllocError}
use Rattle.graph_builder.specs.declared.progress.Progress.{Progress}
use Rattle.url.specs.Parts.{Parts}
use Rattle.graph_entry.specs.declared.answer.LoadAnswer.{LoadAnswer}
use Rattle.graph_entry.specs.declared.entry.Entry.{Entry}
use Rattle.graph_entry.specs.Specifier.{text_of, loadable}
use Rattle.graph_builder.specs.declared.slot.Slot.{Slot}
use Rattle.graph_builder.specs.declared.slot.Slot.TheVariants.{Queued, Asked, Done}
use Rattle.graph_builder.specs.declared.reaching.Reaching.{Reaching}
use Rattle.graph_builder.specs.Rules.{targets}
use Rattle.graph_builder.specs.Reach.{Specifier, Log, Answers, Rules, answer_to, has, IsEntry, IsReached, Leads, IsFunctional}
use Rattle.graph_builder.specs.Graph.{texts, with_one, different}
use Rattle.graph_builder.specs.Builder.{last_of, before_last, GoesOn, IsOwn, IsKept, IsToldLog, IsTooMany, SomeOutstanding, EachAnswered, IsOrderly, IsOrderlyAfter, IsUnawaitedOver, IsInTime, CameInTime}
use Rattle.graph_builder.specs.Events.{Event, Requested, Answered, asked_of, log_of, IsOutstanding, IsTimely, requests, answers}
use Rattle.graph_builder.specs.declared.loader.LoaderPoll.TheVariants.{Answer}
use Rattle.graph_builder.proofs.EventsLemmas.{asked_of-append, log_of-append, asked_of-request, log_of-request, asked_of-answer, log_of-answer, length-events, timely_asked, timely_answer}
use Rattle.graph_builder.proofs.BuilderLemmas.{last_of-more, last_of-push, before_last-last, before_last-more, before_last-push, own_of}
use Rattle.graph_builder.specs.Slots.{Slots, IsOverfull}
use Rattle.graph_builder.specs.Building.{IsBuilding, no_one, this_one}
use Rattle.graph_builder.specs.ByText.{value_at, keys_at}
use Rattle.graph_builder.specs.Reaching.{slots_of, todo_of, IsMarked, IsFilled, HasReached, Grows, TakesNext}
use Rattle.graph_builder.proofs.ReachingLemmas.{goes_on_more, goes_on_same, todo_marked}
use Rattle.graph_builder.specs.declared.reaching.GrowError.{GrowError}
use Rattle.graph_builder.specs.declared.reaching.GrowError.TheVariants.{TooMany, OutOfMemory}
use Rattle.graph_builder.specs.Loader.{LoaderData, HasStarted, HasPolled, NeverRises, Falls}
use Rattle.graph_builder.specs.Progress.{At, at, IsLive, HasFirst, IsInHand, IsInHandAt, starts_at, own_count, own_events, own_asked, own_log, slots_at, todo_at, IsKeptAt, Deals, GoOn, GoesOnAt, OnlyAsks, FillsUnasked, Takes, Turns, Runs, Begins, AsksNext, AsksAll}
use Rattle.graph_builder.proofs.ReachLemmas.{reached_least, entry_once, answer_here, reached_start, reached_on, reached_grows, answer_kept, answer_later}
use Rattle.graph_builder.proofs.SlotsLemmas.{has_append, has_one, has_same, none_equal}
use Rattle.graph_builder.proofs.BuildingLemmas.{text_same, written_some, building_popped, popped_slot, building_asked, building_answered, building_grown, building_filled_by}

-- ---- what holds at all times

-- one more request
pub kept_asked : (rules : Rules) (starts : List Specifier) (events : List Event) (told : Answers) (n m : ℕ)
    (s : Specifier)
    → IsKept rules starts events told n m → loadable s ≡ true → has (asked_of (last_of (n + m) events)) s ≡ false
    → IsReached rules starts (answer_to (log_of (last_of (n + m) events))) s
    → IsKept rules starts (events ++ Requested s ∷ []) told (n + 1) m
kept_asked rules starts events told n m s k loads fresh reached = record {
  fits = omega (arith, k.fits, length-append events (Requested s ∷ []));
  own = subst (λ (l : List Event). IsOwn rules starts l told (n + 1) m)
      (sym (last_of-push (n + m) ((n + 1) + m) events (Requested s) k.fits (omega arith))) grown;
}
  where
    own : List Event
    own = last_of (n + m) events

    loaded : (t : Specifier) → (has (asked_of own) t ≡ true) ⊎ (has (s ∷ []) t ≡ true) → loadable t ≡ true
    loaded t (inl h) = k.own.asking.loads t h
    loaded t (inr h) = ap loadable (text_same s t (sym (has_one s t) ∙ h)) ∙ loads

    there : (t : Specifier) → (has (asked_of own) t ≡ true) ⊎ (has (s ∷ []) t ≡ true)
        → IsReached rules starts (answer_to (log_of own)) t
    there t (inl h) = k.own.asking.reached t h
    there t (inr h) = subst (IsReached rules starts (answer_to (log_of own)))
        (sym (text_same s t (sym (has_one s t) ∙ h))) reached

    grown : IsOwn rules starts (own ++ Requested s ∷ []) told (n + 1) m
    grown = own_of rules starts (own ++ Requested s ∷ []) told (asked_of own ++ s ∷ []) (log_of own) (n + 1) m
        (asked_of-request own s) (log_of-request own s)
        (omega (arith, k.own.asked_counted, length-append (asked_of own) (s ∷ []))) k.own.taken_counted
        (omega (arith, k.own.behind))
        (record {
          once = IsDistinct-push nat_list_eq_equiv (asked_of own) s k.own.asking.once fresh;
          loads = λ t h. loaded t (has_append (asked_of own) (s ∷ []) t h);
          reached = λ t h. there t (has_append (asked_of own) (s ∷ []) t h);
        }) k.own.as_told

-- one more answer, as it was told
pub told_push : (told : Answers) (log : Log) (s : Specifier) (a : LoadAnswer) → IsToldLog told log
    → ((b : LoadAnswer) → told s ≡ Some b → a ≡ b) → IsToldLog told (log ++ (s, a) ∷ [])
told_push told log s a h as_told t c b given is = by (answer_to log t) refl
  where
    some_one : (x y : LoadAnswer) → Some x ≡ Some y → x ≡ y
    some_one x y e = cc

    last : (d : Bool) → bytes_eq t s ≡ d → cond d (Some a) None ≡ Some c → c ≡ b
    last true e g = sym (some_one a c g) ∙ as_told b (ap told (sym (text_same s t e)) ∙ is)
    last false e g = absurd cc

    by : (o : Option LoadAnswer) → answer_to log t ≡ o → c ≡ b
    by (Some d) e = sym (some_one d c (sym (answer_kept log ((s, a) ∷ []) t d e) ∙ given)) ∙ h t d b e is
    by None e = last (bytes_eq t s) refl (sym (answer_later log ((s, a) ∷ []) t e) ∙ given)

pub kept_answered : (rules : Rules) (starts : List Specifier) (events : List Event) (told : Answers) (n m : ℕ)
    (s : Specifier) (a : LoadAnswer)
    → IsKept rules starts events told n m → m ≤ n → ((b : LoadAnswer) → told s ≡ Some b → a ≡ b)
    → IsKept rules starts (events ++ Answered s a ∷ []) told n (m + 1)
kept_answered rules starts events told n m s a k le as_told = record {
  fits = omega (arith, k.fits, length-append events (Answered s a ∷ []));
  own = subst (λ (l : List Event). IsOwn rules starts l told n (m + 1))
      (sym (last_of-push (n + m) (n + (m + 1)) events (Answered s a) k.fits (omega arith))) grown;
}
  where
    own : List Event
    own = last_of (n + m) events

    grown : IsOwn rules starts (own ++ Answered s a ∷ []) told n (m + 1)
    grown = own_of rules starts (own ++ Answered s a ∷ []) told (asked_of own) (log_of own ++ (s, a) ∷ []) n (m + 1)
        (asked_of-answer own s a)
        (log_of-answer own s a) k.own.asked_counted
        (omega (arith, k.own.taken_counted, length-append (log_of own) ((s, a) ∷ []))) (omega arith)
        (record {
          once = k.own.asking.once;
          loads = k.own.asking.loads;
          reached = λ t h. reached_grows rules starts (answer_to (log_of own)) (answer_to (log_of own ++ (s, a) ∷ []))
              (answer_kept (log_of own) ((s, a) ∷ [])) t (k.own.asking.reached t h);
        }) (told_push told (log_of own) s a k.own.as_told as_told)

-- ---- a specifier is taken in hand and asked for

pub live_taken : (rules : Rules) (x : At) (new : Reaching) (n : ℕ) → IsLive rules x
    → TakesNext x.progress.reaching new (Some n)
    → IsInHandAt rules (at x.loader (record {
      starts = x.progress.starts;
      reaching = new;
      asked = x.progress.asked;
      taken = x.progress.taken;
      begun = x.progress.begun;
    })) n
live_taken rules x new n v t =
    let s : Specifier = t.0 in
    let building : IsBuilding rules (starts_at x) no_one (own_asked x) (own_log x) (slots_at x) (s ∷ todo_of new) =
    subst (IsBuilding rules (starts_at x) no_one (own_asked x) (own_log x) (slots_at x)) t.1 v.building in
    let known = popped_slot rules (starts_at x) (own_asked x) (own_log x) (slots_at x) (todo_of new) s building in
    let same : slots_at x ≡ slots_of new = ap value_at (sym t.3) in
    let even : length new.reached ≡ length x.progress.reaching.reached = ap length t.3 in
    let long : length (todo_at x) ≡ length (todo_of new) + 1 = ap length t.1 ∙ omega arith in (
      s,
      t.2,
      record {
        kept = v.kept;
        behind = v.behind;
        counted = omega (arith, v.counted, long, even);
        room = record { within = t.5; room = omega (arith, v.room.room, even, t.4) };
        building = subst (λ (f : Slots). IsBuilding rules (starts_at x) (this_one s) (own_asked x) (own_log x) f
            (todo_of new))
            same (building_popped rules (starts_at x) (own_asked x) (own_log x) (slots_at x) (todo_of new) s building);
        queued = ap (λ (f : Slots). f s) (sym same) ∙ known.0;
        fresh = known.1;
        timely = v.timely;
        rooted = subst (λ (f : Slots). x.progress.begun ≡ true → (t : Specifier) → has (starts_at x) t ≡ true
            → f t ≡ None → ⊥)
            same v.rooted;
        first = record {
          before = λ b. t.3 ∙ v.first.before b;
          after = λ b. rw t.3 (v.first.after b);
        };
      },
    )

-- where something has a slot, the builder has begun
has_begun : (x : At) (s : Specifier) (o : Slot) → slots_at x s ≡ Some o → HasFirst x → x.progress.begun ≡ false → ⊥
has_begun x s o some f b =
    let none : slots_at x s ≡ None = ap (λ (es : List (Parts × Slot)). value_at es s) (f.before b) in cc

-- the first numbers stay when others come
pub first_later : (x y : At) (s : Specifier) (o : Slot) → HasFirst x → slots_at x s ≡ Some o
    → y.progress.begun ≡ x.progress.begun → starts_at y ≡ starts_at x
    → GoesOn (keys_at x.progress.reaching.reached) (keys_at y.progress.reaching.reached) → HasFirst y
first_later x y s o f some begun starts goes = record {
  before = λ b. absurd (has_begun x s o some f (sym begun ∙ b));
  after = λ b. rw starts
      (goes_on_more (different (starts_at x)) (keys_at x.progress.reaching.reached)
      (keys_at y.progress.reaching.reached)
      (f.after (sym begun ∙ b)) goes);
}

-- the one in hand with a number is the one that stands there
pub in_hand_here : (rules : Rules) (x : At) (n : ℕ) (s : Specifier) → IsInHandAt rules x n
    → slice_get (keys_at x.progress.reaching.reached) n ≡ Some s → IsInHand rules x s
in_hand_here rules x n s h at = subst (IsInHand rules x) (one h.0 s (sym h.1 ∙ at)) h.2
  where
    one : (t u : Specifier) → Some t ≡ Some u → t ≡ u
    one t u e = cc

pub live_asked : (rules : Rules) (x : At) (s : Specifier) (now : LoaderData) (new : Reaching)
    → IsInHand rules x s → loadable s ≡ true → HasStarted s x.loader now (Ok tt)
    → IsMarked s Asked x.progress.reaching new
    → new.limit ≡ x.progress.reaching.limit
    → IsLive rules (at now (record {
      starts = x.progress.starts;
      reaching = new;
      asked = x.progress.asked + 1;
      taken = x.progress.taken;
      begun = x.progress.begun;
    }))
live_asked rules x s now new v loads started marked same = record {
  kept = rw (started.events, started.told)
      (kept_asked rules (starts_at x) x.loader.events x.loader.told x.progress.asked x.progress.taken s v.kept loads
      v.fresh
      (v.building.sound s Queued v.queued));
  behind = omega (arith, v.behind);
  counted = rw (marked.counted, todo_marked s Asked x.progress.reaching new marked) (omega (arith, v.counted));
  room = record {
    within = omega (arith, v.room.within, marked.next, marked.counted);
    room = omega (arith, v.room.room, marked.counted, same);
  };
  building = subst (λ (l : List Event). IsBuilding rules (starts_at x) no_one (asked_of l) (log_of l) (slots_of new)
      (todo_of new)) (sym later)
      (rw (
        asked_of-request (own_events x) s,
        log_of-request (own_events x) s,
        todo_marked s Asked x.progress.reaching new marked,
      )
      (building_asked rules (starts_at x) (own_asked x) (own_log x) (slots_at x) (slots_of new) (todo_at x) s
      v.building v.queued v.fresh marked.written));
  timely = subst IsTimely (sym later) (timely_asked (own_events x) (Requested s ∷ []) v.timely refl);
  rooted = λ b t h. written_some (slots_at x) (slots_of new) s t Asked marked.written (v.rooted b t h);
  first = first_later x _ s Queued v.first v.queued refl refl
      (goes_on_same (keys_at x.progress.reaching.reached) (keys_at new.reached) marked.keys);
}
  where
    later : last_of ((x.progress.asked + 1) + x.progress.taken) now.events ≡ own_events x ++ Requested s ∷ []
    later = ap (λ (l : List Event). last_of ((x.progress.asked + 1) + x.progress.taken) l) started.events
        ∙ last_of-push (own_count x) ((x.progress.asked + 1) + x.progress.taken) x.loader.events (Requested s)
        v.kept.fits (omega arith)

-- ---- too much is reached

pub too_many : (rules : Rules) (starts come : List Specifier) (log : Log) (slots : Slots) (limit seen : ℕ)
    → IsOverfull come slots limit seen
    → ((t : Specifier) (x : Slot) → slots t ≡ Some x → IsReached rules starts (answer_to log) t)
    → ((t : Specifier) → has come t ≡ true → IsReached rules starts (answer_to log) t)
    → IsTooMany rules starts log limit seen
too_many rules starts come log slots limit seen full sound reached = record {
  above = full.above;
  members = full.members;
  counted = full.counted;
  once = full.once;
  reached = λ t h. there t (full.each t h);
}
  where
    from : (t : Specifier) (o : Option Slot) → slots t ≡ o → (slots t ≡ None → ⊥)
        → IsReached rules starts (answer_to log) t
    from t None e h = absurd (h e)
    from t (Some x) e h = sound t x e

    there : (t : Specifier) → (slots t ≡ None → ⊥) ⊎ (has come t ≡ true) → IsReached rules starts (answer_to log) t
    there t (inl h) = from t (slots t) refl h
    there t (inr h) = reached t h

-- ---- the specifier in hand has its entry

-- what came keeps a slot through both steps
pub filled_some : {rules : Rules} → (s t : Specifier) (e : Entry) (old new : Reaching) → IsFilled rules s e old new
    → (slots_of old t ≡ None → ⊥) → slots_of new t ≡ None → ⊥
filled_some {rules} s t e old new f h =
    written_some f.between (slots_of new) s t (Done e) f.written (between (slots_of old t) refl)
  where
    between : (o : Option Slot) → slots_of old t ≡ o → f.between t ≡ None → ⊥
    between None d n = h d
    between (Some x) d n = let k = f.grown.kept t x d in cc

-- the entry of a specifier in hand fills its slot
pub building_entry_by : (rules : Rules) (starts asked : List Specifier) (log : Log) (held later : Specifier → Bool)
    (s : Specifier) (e : Entry) (old new : Reaching)
    → IsBuilding rules starts held asked log (slots_of old) (todo_of old)
    → IsReached rules starts (answer_to log) s
    → IsEntry rules (answer_to log) s e → IsFilled rules s e old new
    → ((t : Specifier) → held t ≡ false → (bytes_eq t s ≡ false) × (later t ≡ false))
    → ((t : Specifier) → later t ≡ true → held t ≡ true)
    → ((t : Specifier) → bytes_eq t s ≡ false → later t ≡ false → held t ≡ false)
    → IsBuilding rules starts later asked log (slots_of new) (todo_of new)
building_entry_by rules starts asked log held later s e old new b reached is_entry f apart still out =
    building_filled_by rules starts asked log f.between (slots_of new) (todo_of new) held later s e
    (building_grown rules starts held asked log (slots_of old) f.between (todo_of old) (todo_of new)
    (targets rules e) b f.grown
    (λ t h. reached_on rules starts (answer_to log) s t reached (record { entry = e; is_entry = is_entry; among = h })))
    reached is_entry f.grown.came f.written apart still out

-- of the only one in hand
pub building_entry : (rules : Rules) (starts asked : List Specifier) (log : Log) (s : Specifier) (e : Entry)
    (old new : Reaching)
    → IsBuilding rules starts (this_one s) asked log (slots_of old) (todo_of old)
    → IsReached rules starts (answer_to log) s
    → IsEntry rules (answer_to log) s e → IsFilled rules s e old new
    → IsBuilding rules starts no_one asked log (slots_of new) (todo_of new)
building_entry rules starts asked log s e old new b reached is_entry f =
    building_entry_by rules starts asked log (this_one s) no_one s e old new b reached is_entry f
    (λ t h. (h, refl)) (λ t h. absurd cc) (λ t d h. d)

pub live_alone : (rules : Rules) (x : At) (s : Specifier) (e : Entry) (new : Reaching) → IsInHand rules x s
    → loadable s ≡ false
    → rules.means s None e → IsFilled rules s e x.progress.reaching new
    → IsLive rules (at x.loader (record {
      starts = x.progress.starts;
      reaching = new;
      asked = x.progress.asked;
      taken = x.progress.taken;
      begun = x.progress.begun;
    }))
live_alone rules x s e new v alone means f = record {
  kept = v.kept;
  behind = v.behind;
  counted = omega (arith, v.counted, f.counted);
  room = f.room;
  building = building_entry rules (starts_at x) (own_asked x) (own_log x) s e x.progress.reaching new v.building
      (v.building.sound s Queued v.queued) (inr (alone, means)) f;
  timely = v.timely;
  rooted = λ b t h. filled_some s t e x.progress.reaching new f (v.rooted b t h);
  first = first_later x _ s Queued v.first v.queued refl refl f.keys;
}

pub too_many_alone : (rules : Rules) (x : At) (s : Specifier) (e : Entry) (limit seen : ℕ) → IsInHand rules x s
    → loadable s ≡ false
    → rules.means s None e → IsOverfull (targets rules e) (slots_at x) limit seen
    → IsTooMany rules (starts_at x) (own_log x) limit seen
too_many_alone rules x s e limit seen v alone means full =
    too_many rules (starts_at x) (targets rules e) (own_log x) (slots_at x) limit seen full v.building.sound
    (λ t h. reached_on rules (starts_at x) (answer_to (own_log x)) s t (v.building.sound s Queued v.queued)
    (record { entry = e; is_entry = inr (alone, means); among = h }))

-- dealing with one that no loader is asked for
pub deals_alone : {rules : Rules} → (x : At) (s : Specifier) (new : Reaching) (r : Result (Unit {0}) GrowError)
    → IsInHand rules x s → loadable s ≡ false
    → FillsUnasked rules s x.progress.reaching new r → new.limit ≡ x.progress.reaching.limit
    → Deals rules x (at x.loader (record {
      starts = x.progress.starts;
      reaching = new;
      asked = x.progress.asked;
      taken = x.progress.taken;
      begun = x.progress.begun;
    })) r
deals_alone {rules} x s new (Ok done) v alone f same = (live_alone rules x s f.0 new v alone f.1 f.2, f.2.counted)
deals_alone {rules} x s new (Err (TooMany seen)) v alone full same =
    too_many_alone rules x s full.0 x.progress.reaching.limit seen v alone full.1 full.2
deals_alone {rules} x s new (Err OutOfMemory) v alone f same = tt

-- ---- one step after another

pub go_on_none : (events : List Event) (n m : ℕ) → GoOn events events n m n m
go_on_none events n m =
    record { more = []; is = sym (append-nil events); asked_counted = omega arith; taken_counted = omega arith }

pub go_on_more : (xs ys zs : List Event) (n m n1 m1 n2 m2 : ℕ) → GoOn xs ys n m n1 m1 → GoOn ys zs n1 m1 n2 m2
    → GoOn xs zs n m n2 m2
go_on_more xs ys zs n m n1 m1 n2 m2 a b =
    let asks : length (asked_of (a.more ++ b.more)) ≡ length (asked_of a.more) + length (asked_of b.more) =
    ap length (asked_of-append a.more b.more) ∙ length-append (asked_of a.more) (asked_of b.more) in
    let gave : length (log_of (a.more ++ b.more)) ≡ length (log_of a.more) + length (log_of b.more) =
    ap length (log_of-append a.more b.more) ∙ length-append (log_of a.more) (log_of b.more) in record {
      more = a.more ++ b.more;
      is = b.is ∙ ap (λ w. w ++ b.more) a.is ∙ append_assoc xs a.more b.more;
      asked_counted = omega (arith, a.asked_counted, b.asked_counted, asks);
      taken_counted = omega (arith, a.taken_counted, b.taken_counted, gave);
    }

pub never_rises_same : (a : Option ℕ) → NeverRises a a
never_rises_same None = tt
never_rises_same (Some n) = omega arith

pub never_rises_more : (a b c : Option ℕ) → NeverRises a b → NeverRises b c → NeverRises a c
never_rises_more None None None g h = tt
never_rises_more (Some x) (Some y) (Some z) g h = omega arith
never_rises_more None (Some y) c g h = absurd g
never_rises_more (Some x) None c g h = absurd g
never_rises_more None None (Some z) g h = absurd h
never_rises_more (Some x) (Some y) None g h = absurd h

pub falls_after : (a b c : Option ℕ) → NeverRises a b → Falls b c → Falls a c
falls_after None None None g h = tt
falls_after (Some x) (Some y) (Some z) g h = omega arith
falls_after None (Some y) c g h = absurd g
falls_after (Some x) None c g h = absurd g
falls_after None None (Some z) g h = absurd h
falls_after (Some x) (Some y) None g h = absurd h

pub goes_same : (x : At) → GoesOnAt x x
goes_same x = record {
  starts = refl;
  limit = refl;
  events = go_on_none x.loader.events x.progress.asked x.progress.taken;
  told = refl;
  pending = omega arith;
  patience = never_rises_same x.loader.patience;
  fair = λ h. h;
}

pub goes_more : (x y z : At) → GoesOnAt x y → GoesOnAt y z → GoesOnAt x z
goes_more x y z g h = record {
  starts = h.starts ∙ g.starts;
  limit = h.limit ∙ g.limit;
  events = go_on_more x.loader.events y.loader.events z.loader.events x.progress.asked x.progress.taken
      y.progress.asked y.progress.taken
      z.progress.asked z.progress.taken g.events h.events;
  told = h.told ∙ g.told;
  pending = omega (arith, g.pending, h.pending);
  patience = never_rises_more x.loader.patience y.loader.patience z.loader.patience g.patience h.patience;
  fair = λ f. h.fair (g.fair f);
}

pub only_asks_same : (x : At) → OnlyAsks x x
unfolding goes_same go_on_none
only_asks_same x = record
    { goes = goes_same x; none = refl; taken = refl; begun = refl; pending = refl; standing = refl }

pub only_asks_more : (x y z : At) → OnlyAsks x y → OnlyAsks y z → OnlyAsks x z
unfolding goes_more go_on_more
only_asks_more x y z g h = record {
  goes = goes_more x y z g.goes h.goes;
  none = log_of-append g.goes.events.more h.goes.events.more ∙ ap (λ (l : Log). l ++ log_of h.goes.events.more) g.none
      ∙ h.none;
  taken = h.taken ∙ g.taken;
  begun = h.begun ∙ g.begun;
  pending = h.pending ∙ g.pending;
  standing = h.standing ∙ g.standing;
}

-- nothing happened to the loader
pub asks_still : (x : At) (new : Progress) → new.starts ≡ x.progress.starts
    → new.reaching.limit ≡ x.progress.reaching.limit
    → new.asked ≡ x.progress.asked → new.taken ≡ x.progress.taken → new.begun ≡ x.progress.begun
    → OnlyAsks x (at x.loader new)
asks_still x new starts limit asked taken begun = record {
  goes = record {
    starts = starts;
    limit = limit;
    events = record {
      more = [];
      is = sym (append-nil x.loader.events);
      asked_counted =
          omega (arith, asked);
      taken_counted = omega (arith, taken);
    };
    told = refl;
    pending = omega arith;
    patience = never_rises_same x.loader.patience;
    fair = λ h. h;
  };
  none = refl;
  taken = taken;
  begun = begun;
  pending = refl;
  standing = refl;
}

-- a request is asked, and nothing else
pub asks_one : (x : At) (s : Specifier) (now : LoaderData) (new : Progress) → HasStarted s x.loader now (Ok tt)
    → new.starts ≡ x.progress.starts → new.reaching.limit ≡ x.progress.reaching.limit → new.asked ≡ x.progress.asked + 1
    → new.taken ≡ x.progress.taken
    → new.begun ≡ x.progress.begun → OnlyAsks x (at now new)
asks_one x s now new h starts limit asked taken begun = record {
  goes = record {
    starts = starts;
    limit = limit;
    events = record {
      more = Requested s ∷ [];
      is = h.events;
      asked_counted = asked;
      taken_counted =
          omega (arith, taken);
    };
    told = h.told;
    pending = omega (arith, h.pending);
    patience = h.patience;
    fair = h.fair;
  };
  none = refl;
  taken = taken;
  begun = begun;
  pending = h.pending;
  standing = h.standing;
}

-- a request was refused, and nothing changed but what the loader tells
pub asks_none : (x : At) (s : Specifier) (now : LoaderData) (e : AllocError) → HasStarted s x.loader now (Err e)
    → OnlyAsks x (at now x.progress)
asks_none x s now e h = record {
  goes = record {
    starts = refl;
    limit = refl;
    events = record {
      more = [];
      is = h.events ∙ sym (append-nil x.loader.events);
      asked_counted =
          omega arith;
      taken_counted = omega arith;
    };
    told = h.told;
    pending = omega (arith, h.pending);
    patience = h.patience;
    fair = h.fair;
  };
  none = refl;
  taken = refl;
  begun = refl;
  pending = h.pending;
  standing = h.standing;
}

-- a builder's own events, after some steps
pub own_after : {rules : Rules} → (x y : At) → IsKeptAt rules x → (g : GoesOnAt x y)
    → own_events y ≡ own_events x ++ g.events.more
own_after {rules} x y k g =
    ap (λ (n : ℕ). last_of n y.loader.events)
    (omega (arith, g.events.asked_counted, g.events.taken_counted, length-events g.events.more))
    ∙ ap (λ (l : List Event). last_of (own_count x + length g.events.more) l) g.events.is
    ∙ last_of-more (own_count x) x.loader.events g.events.more k.fits

-- and what happened to the loader before, which stays
pub before_after : {rules : Rules} → (x y : At) → IsKeptAt rules x → (g : GoesOnAt x y)
    → before_last (own_count y) y.loader.events ≡ before_last (own_count x) x.loader.events
before_after {rules} x y k g =
    ap (λ (n : ℕ). before_last n y.loader.events)
    (omega (arith, g.events.asked_counted, g.events.taken_counted, length-events g.events.more))
    ∙ ap (λ (l : List Event). before_last (own_count x + length g.events.more) l) g.events.is
    ∙ before_last-more (own_count x) x.loader.events g.events.more k.fits

-- and its own answers, where the loader was only asked
pub log_after_asks : {rules : Rules} → (x y : At) → IsKeptAt rules x → OnlyAsks x y → own_log y ≡ own_log x
log_after_asks {rules} x y k a =
    ap log_of (own_after x y k a.goes) ∙ log_of-append (own_events x) a.goes.events.more
    ∙ ap (λ (l : Log). own_log x ++ l) a.none ∙ append-nil (own_log x)

-- too much was reached before the loader was asked
pub too_many_asked : {rules : Rules} → (x y : At) (limit seen : ℕ) → IsKeptAt rules x → OnlyAsks x y
    → IsTooMany rules (starts_at y) (own_log y) limit seen → IsTooMany rules (starts_at x) (own_log x) limit seen
too_many_asked {rules} x y limit seen k a h =
    subst (λ (l : Log). IsTooMany rules (starts_at x) l limit seen) (log_after_asks x y k a)
    (subst (λ (ss : List Specifier). IsTooMany rules ss (own_log y) limit seen) (ap texts a.goes.starts) h)

pub too_many_later : {rules : Rules} → (x y : At) (limit seen : ℕ) → IsKeptAt rules x → OnlyAsks x y
    → IsTooMany rules (starts_at x) (own_log x) limit seen → IsTooMany rules (starts_at x) (own_log y) limit seen
too_many_later {rules} x y limit seen k a h =
    subst (λ (l : Log). IsTooMany rules (starts_at x) l limit seen) (sym (log_after_asks x y k a)) h

-- why the worklist wasn't emptied, told from an earlier state
pub asks_all_err : {rules : Rules} → (x y z : At) (e : GrowError) → IsKeptAt rules x → OnlyAsks x y
    → AsksNext rules y z (Err e) → AsksAll rules x z (Err e)
asks_all_err {rules} x y z (TooMany seen) k a h =
    too_many_asked x y x.progress.reaching.limit seen k a
    (subst (λ (n : ℕ). IsTooMany rules (starts_at y) (own_log y) n seen) a.goes.limit h)
asks_all_err {rules} x y z OutOfMemory k a h = tt

-- ---- in time

-- a builder that goes on
pub live_in_time : {rules : Rules} → (x : At) → IsLive rules x → IsInTime rules (starts_at x) (own_events x)
live_in_time {rules} x v = record { orderly = v.building.orderly; timely = v.timely }

-- and after its loader was only asked
pub asked_in_time : {rules : Rules} → (x y : At) → IsLive rules x → OnlyAsks x y
    → IsInTime rules (starts_at x) (own_events y)
asked_in_time {rules} x y v a = record {
  orderly = subst (IsOrderly rules (starts_at x)) (sym (log_after_asks x y v.kept a)) v.building.orderly;
  timely = subst IsTimely (sym (own_after x y v.kept a.goes))
      (timely_asked (own_events x) a.goes.events.more v.timely a.none);
}

-- told from an earlier state
pub in_time_after : {A : Type 0} (rules : Rules) (x y : At) (r : Result A BuildError) (events : List Event)
    → GoesOnAt x y
    → CameInTime rules (starts_at y) events r → CameInTime rules (starts_at x) events r
in_time_after rules x y r events g h =
    subst (λ (ss : List Specifier). CameInTime rules ss events r) (ap texts g.starts) h

-- an error of one result is that of another
pub in_time_err : (rules : Rules) (A B : Type 0) (starts : List Specifier) (events : List Event) (e : BuildError)
    → CameInTime {A = A} rules starts events (Err e) → CameInTime {A = B} rules starts events (Err e)
in_time_err rules A B starts events error.NotYet h = h
in_time_err rules A B starts events (error.TooManyModules seen) h = h
in_time_err rules A B starts events (error.UnaskedAnswer url) h = h
in_time_err rules A B starts events error.Finished h = h
in_time_err rules A B starts events error.OutOfMemory h = h

-- ---- an answer is taken

-- the loader answers one that waits
pub live_answered : {rules : Rules}
    → (x : At) (url : Parts) (a : LoadAnswer) (e : Entry) (now : LoaderData) (new : Reaching)
    → IsLive rules x → x.progress.taken < x.progress.asked → HasPolled x.loader now (Ok (Answer url a))
    → slots_at x (text_of url) ≡ Some Asked
    → rules.means (text_of url) (Some a) e → IsFilled rules (text_of url) e x.progress.reaching new
    → IsLive rules (at now (record {
      starts = x.progress.starts;
      reaching = new;
      asked = x.progress.asked;
      taken = x.progress.taken + 1;
      begun = x.progress.begun;
    }))
live_answered {rules} x url a e now new v fewer polled open_slot means f = record {
  kept = rw (polled.events, polled.told)
      (kept_answered rules (starts_at x) x.loader.events x.loader.told x.progress.asked x.progress.taken s a v.kept
      v.behind polled.as_told);
  behind = omega arith;
  counted = omega (arith, v.counted, f.counted);
  room = f.room;
  building = subst (λ (l : List Event). IsBuilding rules (starts_at x) no_one (asked_of l) (log_of l) (slots_of new)
      (todo_of new)) (sym later)
      (rw (asked_of-answer (own_events x) s a, log_of-answer (own_events x) s a)
      (building_entry rules (starts_at x) (own_asked x) (own_log x ++ (s, a) ∷ []) s e x.progress.reaching new built
      (built.sound s Asked open_slot)
      (inl (record { loads = loads; answer = a; given = answer_here (own_log x) s a is_open.1; means = means })) f));
  timely = subst IsTimely (sym later) (timely_answer (own_events x) s a v.timely is_open);
  rooted = λ b t h. filled_some s t e x.progress.reaching new f (v.rooted b t h);
  first = first_later x _ s Asked v.first open_slot refl refl f.keys;
}
  where
    s : Specifier
    s = text_of url

    is_open : IsOutstanding (own_asked x) (own_log x) s
    is_open = v.building.outstanding s refl open_slot

    loads : loadable s ≡ true
    loads = v.kept.own.asking.loads s is_open.0

    built : IsBuilding rules (starts_at x) (this_one s) (own_asked x) (own_log x ++ (s, a) ∷ []) (slots_at x)
        (todo_at x)
    built = building_answered rules (starts_at x) (own_asked x) (own_log x) (slots_at x) (todo_at x) s a v.building
        open_slot loads

    later : last_of (x.progress.asked + (x.progress.taken + 1)) now.events ≡ own_events x ++ Answered s a ∷ []
    later = ap (λ (l : List Event). last_of (x.progress.asked + (x.progress.taken + 1)) l) polled.events
        ∙ last_of-push (own_count x) (x.progress.asked + (x.progress.taken + 1)) x.loader.events (Answered s a)
        v.kept.fits (omega arith)

-- ---- what is outstanding

-- whatever is reached has a slot, where the worklist is empty
pub way_in : (rules : Rules) → IsFunctional rules → (x : At) → IsLive rules x → x.progress.begun ≡ true
    → todo_at x ≡ []
    → (t : Specifier) → IsReached rules (starts_at x) (answer_to (own_log x)) t → slots_at x t ≡ None → ⊥
way_in rules once x v begun empty =
    reached_least rules (starts_at x) (answer_to (own_log x)) (λ t. slots_at x t ≡ None → ⊥)
    (v.rooted begun)
    (λ r s there leads. from r s leads (slots_at x r) refl there)
  where
    not_queued : (t : Specifier) → slots_at x t ≡ Some Queued → ⊥
    not_queued t q = let h = (v.building.queued t refl q).0 in let none =
        ap (λ (l : List Specifier). has l t) empty in cc

    no_answer : (r : Specifier) (e : Entry) → answer_to (own_log x) r ≡ None → loadable r ≡ true
        → IsEntry rules (answer_to (own_log x)) r e → ⊥
    no_answer r e none loads (inl a) = let g = a.given in cc
    no_answer r e none loads (inr u) = let g = u.0 in cc

    from : (r s : Specifier) → Leads rules (answer_to (own_log x)) r s → (o : Option Slot) → slots_at x r ≡ o
        → (slots_at x r ≡ None → ⊥) → slots_at x s ≡ None → ⊥
    from r s leads None d there = absurd (there d)
    from r s leads (Some Queued) d there = absurd (not_queued r d)
    from r s leads (Some Asked) d there =
        let w = v.building.outstanding r refl d in
        absurd (no_answer r leads.entry w.1 (v.kept.own.asking.loads r w.0) leads.is_entry)
    from r s leads (Some (Done e)) d there =
        let same : leads.entry ≡ e =
        entry_once rules once (answer_to (own_log x)) r leads.entry e leads.is_entry (v.building.done r e d) in
        v.building.closed r s e d (ap (λ (f : Entry). has (targets rules f) s) (sym same) ∙ leads.among)

-- some specifier of a list has no answer, or each has one
search_open : (log : Log) (xs : List Specifier)
    → SomeOutstanding xs log ⊎ ((s : Specifier) → has xs s ≡ true → is_some (answer_to log s) ≡ true)
search_open log [] = inr (λ s h. absurd cc)
search_open log (x ∷ xs) = by (answer_to log x) refl (search_open log xs)
  where
    or_true : (a b : Bool) → b ≡ true → (a || b) ≡ true
    or_true true b h = refl
    or_true false b h = h

    all : (a : LoadAnswer) → answer_to log x ≡ Some a
        → ((s : Specifier) → has xs s ≡ true → is_some (answer_to log s) ≡ true)
        → (s : Specifier) (d : Bool) → bytes_eq s x ≡ d → (d || has xs s) ≡ true → is_some (answer_to log s) ≡ true
    all a e rest s true f h = ap (λ t. is_some (answer_to log t)) (text_same x s f) ∙ ap is_some e
    all a e rest s false f h = rest s h

    by : (o : Option LoadAnswer) → answer_to log x ≡ o
        → SomeOutstanding xs log ⊎ ((s : Specifier) → has xs s ≡ true → is_some (answer_to log s) ≡ true)
        → SomeOutstanding (x ∷ xs) log ⊎ ((s : Specifier) → has (x ∷ xs) s ≡ true → is_some (answer_to log s) ≡ true)
    by None e rest = inl (x, (rw (nat_list_eq_equiv.refl x) refl, e))
    by (Some a) e (inl r) = inl (r.0, (or_true (bytes_eq r.0 x) (has xs r.0) r.1.0, r.1.1))
    by (Some a) e (inr rest) = inr (λ s h. all a e rest s (bytes_eq s x) refl h)

-- one of the asked has no answer, where fewer came
pub one_open : (asked : List Specifier) (log : Log) → IsDistinct bytes_eq asked → length log < length asked
    → SomeOutstanding asked log
one_open asked log once fewer = by (search_open log asked)
  where
    by : SomeOutstanding asked log ⊎ ((s : Specifier) → has asked s ≡ true → is_some (answer_to log s) ≡ true)
        → SomeOutstanding asked log
    by (inl r) = r
    by (inr all) =
        let bound : length asked ≤ length (keys_of log) =
        length-le_from_is_member nat_list_eq_equiv asked (keys_of log) once
        (λ q h. sym (is_some-lookup (bytes_eq q) log) ∙ all q h) in
        absurd (omega (arith, bound, length-keys_of log))

-- answers that were awaited are for different specifiers
distinct_after : (rules : Rules) (starts : List Specifier) (before log : Log) → IsOrderlyAfter rules starts before log
    → IsDistinct bytes_eq (keys_of before) → IsDistinct bytes_eq (keys_of (before ++ log))
distinct_after rules starts before [] h once = rw append-nil once
distinct_after rules starts before (x ∷ log) h once =
    let apart : list_any (bytes_eq x.0) (keys_of before) ≡ false =
    sym (is_some-lookup (bytes_eq x.0) before) ∙ ap is_some h.0.open_yet in
    let longer : IsDistinct bytes_eq (keys_of (before ++ x ∷ [])) =
    rw (map-append (λ (e : Specifier × LoadAnswer). e.0) before (x ∷ []))
    (IsDistinct-push nat_list_eq_equiv (keys_of before) x.0 once apart) in
    rw (sym (append_assoc before (x ∷ []) log)) (distinct_after rules starts (before ++ x ∷ []) log h.1 longer)

pub distinct_log : (rules : Rules) (starts : List Specifier) (log : Log) → IsOrderly rules starts log
    → IsDistinct bytes_eq (keys_of log)
unfolding IsDistinct
distinct_log rules starts log h = distinct_after rules starts [] log h tt

-- all asked are answered, where as many came
pub all_answered : (asked : List Specifier) (log : Log) → IsDistinct bytes_eq (keys_of log)
    → ((t : Specifier) (a : LoadAnswer) → answer_to log t ≡ Some a → has asked t ≡ true) → length asked ≤ length log
    → EachAnswered asked log
all_answered asked log once answered fits s h = by (answer_to log s) refl
  where
    asked_for : (q : Specifier) (o : Option LoadAnswer) → answer_to log q ≡ o → is_some o ≡ true → has asked q ≡ true
    asked_for q (Some a) e f = answered q a e
    asked_for q None e f = absurd cc

    each : (q : Specifier) (d : Bool) → bytes_eq q s ≡ d → (d || has (keys_of log) q) ≡ true → has asked q ≡ true
    each q true e f = has_same asked s q e ∙ h
    each q false e f = asked_for q (answer_to log q) refl (is_some-lookup (bytes_eq q) log ∙ f)

    by : (o : Option LoadAnswer) → answer_to log s ≡ o → IsSome o
    by (Some a) e = refl
    by None e =
        let apart : has (keys_of log) s ≡ false = sym (is_some-lookup (bytes_eq s) log) ∙ ap is_some e in
        let longer : length (s ∷ keys_of log) ≤ length asked =
        length-le_from_is_member nat_list_eq_equiv (s ∷ keys_of log) asked
        (IsDistinct-cons bytes_eq s (keys_of log) (none_equal s (keys_of log) apart) once)
        (λ q f. each q (bytes_eq q s) refl f) in
        absurd (omega (arith, longer, length-keys_of log))

-- ---- an answer that isn't awaited

-- a builder after an answer was taken: its own events
pub own_answered : {rules : Rules} → (x y : At) (url : Parts) (a : LoadAnswer) → IsKeptAt rules x
    → HasPolled x.loader y.loader (Ok (Answer url a))
    → y.progress.asked ≡ x.progress.asked → y.progress.taken ≡ x.progress.taken + 1
    → own_events y ≡ own_events x ++ Answered (text_of url) a ∷ []
own_answered {rules} x y url a k polled asked taken =
    ap (λ (l : List Event). last_of (own_count y) l) polled.events
    ∙ last_of-push (own_count x) (own_count y) x.loader.events (Answered (text_of url) a) k.fits
    (omega (arith, asked, taken))

-- an answer that was awaited came in time
pub answered_in_time : {rules : Rules} → (x y : At) (url : Parts) (a : LoadAnswer) → IsLive rules x
    → slots_at x (text_of url) ≡ Some Asked
    → HasPolled x.loader y.loader (Ok (Answer url a)) → y.progress.asked ≡ x.progress.asked
    → y.progress.taken ≡ x.progress.taken + 1
    → IsInTime rules (starts_at x) (own_events y)
answered_in_time {rules} x y url a v open_slot polled asked taken =
    let s : Specifier = text_of url in
    let is_open = v.building.outstanding s refl open_slot in
    let loads : loadable s ≡ true = v.kept.own.asking.loads s is_open.0 in
    let later = building_answered rules (starts_at x) (own_asked x) (own_log x) (slots_at x) (todo_at x) s a v.building
    open_slot loads in
    subst (IsInTime rules (starts_at x)) (sym (own_answered x y url a v.kept polled asked taken)) (record {
      orderly = rw (log_of-answer (own_events x) s a) later.orderly;
      timely = timely_answer (own_events x) s a v.timely is_open;
    })

-- whatever came of the answer, it came in time, or it is the one that is told
pub taken_in_time : {rules : Rules}
    → (A : Type 0) (x y : At) (url : Parts) (a : LoadAnswer) (new : Reaching) (e : BuildError)
    → IsLive rules x → Takes rules url a x.progress.reaching new (Err e)
    → HasPolled x.loader y.loader (Ok (Answer url a))
    → y.progress.asked ≡ x.progress.asked → y.progress.taken ≡ x.progress.taken + 1
    → CameInTime {A = A} rules (starts_at x) (own_events y) (Err e)
taken_in_time {rules} A x y url a new (error.TooManyModules seen) v took polled asked taken =
    answered_in_time x y url a v took.0 polled asked taken
taken_in_time {rules} A x y url a new error.OutOfMemory v took polled asked taken =
    answered_in_time x y url a v took polled asked taken
taken_in_time {rules} A x y url a new (error.UnaskedAnswer other) v took polled asked taken = (
  own_events x,
  a,
  own_answered x y url a v.kept polled asked taken
      ∙ ap (λ (s : Specifier). own_events x ++ Answered s a ∷ []) (sym (ap text_of took.0)),
  live_in_time x v,
)
taken_in_time {rules} A x y url a new error.NotYet v took polled asked taken = absurd took
taken_in_time {rules} A x y url a new error.Finished v took polled asked taken = absurd took

-- what holds at all times, after an answer
pub kept_polled : {rules : Rules} → (x y : At) (url : Parts) (a : LoadAnswer) → IsLive rules x
    → HasPolled x.loader y.loader (Ok (Answer url a))
    → y.progress.starts ≡ x.progress.starts → y.progress.asked ≡ x.progress.asked
    → y.progress.taken ≡ x.progress.taken + 1 → IsKeptAt rules y
kept_polled {rules} x y url a v polled starts asked taken =
    rw (starts, asked, taken, polled.events, polled.told)
    (kept_answered rules (starts_at x) x.loader.events x.loader.told x.progress.asked x.progress.taken (text_of url) a
    v.kept v.behind polled.as_told)

-- and after a request
pub kept_started : {rules : Rules} → (x y : At) (s : Specifier) → IsInHand rules x s → loadable s ≡ true
    → HasStarted s x.loader y.loader (Ok tt)
    → y.progress.starts ≡ x.progress.starts → y.progress.asked ≡ x.progress.asked + 1
    → y.progress.taken ≡ x.progress.taken → IsKeptAt rules y
kept_started {rules} x y s v loads started starts asked taken =
    rw (starts, asked, taken, started.events, started.told)
    (kept_asked rules (starts_at x) x.loader.events x.loader.told x.progress.asked x.progress.taken s v.kept loads
    v.fresh
    (v.building.sound s Queued v.queued))

-- an answer is one event more
pub goes_polled : (x y : At) (url : Parts) (a : LoadAnswer) → HasPolled x.loader y.loader (Ok (Answer url a))
    → y.progress.starts ≡ x.progress.starts → y.progress.reaching.limit ≡ x.progress.reaching.limit
    → y.progress.asked ≡ x.progress.asked
    → y.progress.taken ≡ x.progress.taken + 1 → GoesOnAt x y
goes_polled x y url a polled starts limit asked taken = record {
  starts = starts;
  limit = limit;
  events = record {
    more = Answered (text_of url) a ∷ [];
    is = polled.events;
    asked_counted =
        omega (arith, asked);
    taken_counted = taken;
  };
  told = polled.told;
  pending = omega (arith, polled.pending);
  patience = polled.patience.no_more;
  fair = λ f. (polled.fair f).0;
}

-- ---- turn after turn

-- why a turn ends, told from an earlier state
pub errs_after : {rules : Rules} → (batch : ℕ) (x y z : At) (e : BuildError) → IsKeptAt rules x → GoesOnAt x y
    → y.loader.pending ≡ x.loader.pending → Turns rules batch y z (Err e)
    → Turns rules batch x z (Err e)
errs_after {rules} batch x y z error.NotYet k g same t = record {
  live = t.live;
  asked_all = t.asked_all;
  begun = t.begun;
  open_yet = t.open_yet;
  counted = rw (← same) t.counted;
  stands = t.stands;
  stood_open = t.stood_open;
  patience = λ even. falls_after x.loader.patience y.loader.patience z.loader.patience g.patience (t.patience even);
}
errs_after {rules} batch x y z (error.TooManyModules seen) k g same t = rw (← ap texts g.starts, ← g.limit) t
errs_after {rules} batch x y z (error.UnaskedAnswer url) k g same t = record {
  before = t.before;
  answer = t.answer;
  last = t.last;
  goes_on = (
    g.events.more ++ t.goes_on.0,
    t.goes_on.1 ∙ ap (λ w. w ++ t.goes_on.0) (own_after x y k g)
        ∙ append_assoc (own_events x) g.events.more t.goes_on.0,
  );
  orderly = rw (← ap texts g.starts) t.orderly;
  outstanding = t.outstanding;
  settled = t.settled;
  unawaited = λ once. rw (← ap texts g.starts) (t.unawaited once);
  pending = t.pending ∙ same;
  fair = λ f. t.fair (g.fair f);
}
errs_after {rules} batch x y z error.OutOfMemory k g same t = tt
errs_after {rules} batch x y z error.Finished k g same t = absurd t

-- a turn after the loader was only asked
pub turns_after : {rules : Rules} → (batch : ℕ) (x y z : At) (r : Result Bool BuildError) → IsKeptAt rules x → OnlyAsks x y
    → GoesOnAt y z → Turns rules batch y z r → Turns rules batch x z r
turns_after {rules} batch x y z (Ok true) k a g t = (t.0, t.1, omega (arith, t.2, a.taken), t.3 ∙ a.pending)
turns_after {rules} batch x y z (Ok false) k a g t =
    record {
      live = t.live;
      asked_all = t.asked_all;
      begun = t.begun;
      all_taken = t.all_taken;
      pending =
          t.pending ∙ a.pending;
    }
turns_after {rules} batch x y z (Err e) k a g t = errs_after batch x y z e k a.goes a.pending t

-- a run ends as its last turn does
pub runs_err : (rules : Rules) (batch : ℕ) (x z : At) (e : BuildError) → Turns rules batch x z (Err e)
    → Runs rules batch x z (Err e)
runs_err rules batch x z error.NotYet t = t
runs_err rules batch x z (error.TooManyModules seen) t = t
runs_err rules batch x z (error.UnaskedAnswer url) t = t
runs_err rules batch x z error.OutOfMemory t = t
runs_err rules batch x z error.Finished t = t

-- ---- the starts are reached

pub live_begun : (rules : Rules) (x : At) (new : Reaching) → IsLive rules x → x.progress.begun ≡ false
    → HasReached (starts_at x) x.progress.reaching new
    → IsLive rules (at x.loader (record {
      starts = x.progress.starts;
      reaching = new;
      asked = x.progress.asked;
      taken = x.progress.taken;
      begun = true;
    }))
live_begun rules x new v b r = record {
  kept = v.kept;
  behind = v.behind;
  counted = omega (arith, v.counted, r.counted);
  room = r.room;
  building = building_grown rules (starts_at x) no_one (own_asked x) (own_log x) (slots_at x) (slots_of new)
      (todo_at x) (todo_of new) (starts_at x)
      v.building r.grown (reached_start rules (starts_at x) (answer_to (own_log x)));
  timely = v.timely;
  rooted = λ c t h. r.grown.came t h;
  first = record {
    before = λ c. absurd cc;
    after = λ c. goes_on_same (different (starts_at x)) (keys_at new.reached)
        (r.all ∙ ap (λ (es : List (Parts × Slot)). fold with_one (keys_at es) (starts_at x)) (v.first.before b));
  };
}

pub begins_err : (rules : Rules) (x : At) (e : GrowError) (new : Reaching) → IsLive rules x
    → Grows (starts_at x) x.progress.reaching new (Err e)
    → (y : At) → Begins rules x y (Err e)
begins_err rules x (TooMany seen) new v full y =
    too_many rules (starts_at x) (starts_at x) (own_log x) (slots_at x) x.progress.reaching.limit seen full
    v.building.sound
    (reached_start rules (starts_at x) (answer_to (own_log x)))
begins_err rules x OutOfMemory new v full y = tt
