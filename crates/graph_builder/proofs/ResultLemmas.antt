-- What a builder has when a run ends.
use Rattle.std.proofs.Common.{◌≡◌, inl, inr, ◌≤◌, ◌<◌, ◌-◌, ℕ, ◌+◌, Bool, true, false, List, [], ◌∷◌, ◌++◌, length, map, take, drop, refl, sym, ◌∙◌, ap, subst, arith, Option, Some, None, Result, Err, append-nil, append_assoc, length-append}
use Rattle.std.specs.Prelude.{bytes_eq, is_some, option_map}
use Rattle.std.specs.List.{IsDistinct, flat_map}
use Rattle.std.proofs.lemmas.List.Sums.{fold-append}
use Rattle.std.specs.Map.{keys_of}
use Rattle.std.proofs.lemmas.List.{take_all, length-map, map-append}
use Rattle.std.proofs.Common.{length-take-le}
use Rattle.std.proofs.lemmas.Map.Made.{lookup-map_values, length-le_from_is_member}
use Rattle.url.specs.Parts.{Parts}
use Rattle.graph_entry.specs.declared.answer.LoadAnswer.{LoadAnswer}
use Rattle.graph_entry.specs.declared.entry.Entry.{Entry}
use Rattle.graph_entry.specs.declared.referrer.ReferrerImports.{ReferrerImports}
use Rattle.graph_entry.specs.Resolution.{Resolves}
use Rattle.graph_entry.specs.Referrer.{starts_by, led_from}
use Rattle.graph_entry.specs.Specifier.{text_of, loadable}
use Rattle.graph_builder.specs.declared.slot.Slot.{Slot}
use Rattle.graph_builder.specs.declared.slot.Slot.TheVariants.{Queued, Asked, Done}
use Rattle.graph_builder.specs.Reach.{Specifier, Log, Rules, answer_to, has, IsEntry, IsReached, IsReach, IsFunctional}
use Rattle.graph_builder.specs.Graph.{GraphData, texts, with_one, different, members_of, entry_of, IsGraph, IsAscending}
use Rattle.graph_builder.specs.ByText.{value_at, keys_at}
use Rattle.graph_builder.specs.Events.{Event, asked_of, log_of, IsOutstanding, IsTimely, IsSettled, times, requests, answers}
use Rattle.graph_builder.specs.Building.{IsBuilding, no_one}
use Rattle.graph_builder.specs.Builder.{last_of, before_last, GoesOn, SomeOutstanding, IsFairly, IsAskedFor, EachAnswered, ReachesAtMost, IsOrderly, IsOrderlyAfter, IsAwaited, IsAwaitedBy, IsOrderlyByAfter, IsOrderlyBy, IsUnawaited, IsUnawaitedOver, IsNotYet, IsTooMany, BuildingBy, starts, HasHistory}
use Rattle.graph_builder.specs.declared.error.BuildError.{BuildError}
use Rattle.graph_builder.specs.declared.error.BuildError.TheVariants as error
use Rattle.graph_builder.specs.Progress.{At, IsLive, starts_at, own_count, own_events, own_asked, own_log, slots_at, todo_at, IsThrough, IsPaused, IsUnasked, GoesOnAt, IsKeptAt}
use Rattle.graph_builder.specs.Inside.{IsInside, all_done, AreDone, HaveEntries, seen_of}
use Rattle.graph_builder.specs.Settling.{settled, finals_of, AreSettled}
use Rattle.graph_tables.specs.specifier_table.Numbers.{at_numbers, IsByBytes}
use Rattle.graph_builder.proofs.GraphLemmas.{ascending_numbered, entry_numbered}
use Rattle.graph_builder.proofs.FinalLemmas.{graph_settled}
use Rattle.std.specs.Cmp.Lexicographic.{nat_list_eq_equiv}
use Rattle.graph_builder.proofs.ByTextLemmas.{has-keys_at, length-keys_at}
use Rattle.graph_builder.proofs.ReachingLemmas.{goes_on_with, goes_on_more}
use Rattle.graph_builder.proofs.EventsLemmas.{asked_of-append, log_of-append, asked_of-answer, log_of-answer, times-append, is_outstanding, not_among}
use Rattle.graph_builder.proofs.BuilderLemmas.{last_of-zero, before_last-last, kept_new}
use Rattle.graph_builder.proofs.ProgressLemmas.{way_in, distinct_log, all_answered, one_open, own_after, before_after}

-- ---- what is reached

module _ (rules : Rules) (once : IsFunctional rules) (x : At) (v : IsLive rules x)
    (begun : x.progress.begun ≡ true) (empty : todo_at x ≡ []) where
  -- the specifiers with a slot are the reached ones
  pub reach_now : IsDistinct bytes_eq (keys_at x.progress.reaching.reached)
      → IsReach rules (starts_at x) (answer_to (own_log x)) (keys_at x.progress.reaching.reached)
  reach_now distinct = record {
    once = distinct;
    reached = λ t h. reached t (slots_at x t) refl (sym (has-keys_at x.progress.reaching.reached t) ∙ h);
    all = λ t r. has-keys_at x.progress.reaching.reached t
        ∙ some (slots_at x t) (way_in rules once x v begun empty t r);
  }
    where
      reached : (t : Specifier) (o : Option Slot) → slots_at x t ≡ o → is_some (slots_at x t) ≡ true
          → IsReached rules (starts_at x) (answer_to (own_log x)) t
      reached t (Some y) e h = v.building.sound t y e
      reached t None e h = absurd (let n = ap is_some e in cc)

      some : (o : Option Slot) → (o ≡ None → ⊥) → is_some o ≡ true
      some (Some y) h = refl
      some None h = absurd (h refl)

  pub within_now : IsDistinct bytes_eq (keys_at x.progress.reaching.reached)
      → ReachesAtMost rules (starts_at x) (answer_to (own_log x)) x.progress.reaching.limit
  within_now distinct = (
    keys_at x.progress.reaching.reached,
    reach_now distinct,
    rw (length-keys_at x.progress.reaching.reached) v.room.room,
  )

  -- the loadable ones of them are asked for
  pub asked_now : IsAskedFor rules (starts_at x) (own_asked x) (own_log x)
  asked_now = record { asking = v.kept.own.asking; all = λ t r loads. by t (slots_at x t) refl r loads }
    where
      from : (t : Specifier) (e : Entry) → IsEntry rules (answer_to (own_log x)) t e → loadable t ≡ true
          → has (own_asked x) t ≡ true
      from t e (inl a) loads = v.building.answered t a.answer a.given
      from t e (inr u) loads = absurd (let g = u.0 in cc)

      by : (t : Specifier) (o : Option Slot) → slots_at x t ≡ o
          → IsReached rules (starts_at x) (answer_to (own_log x)) t → loadable t ≡ true → has (own_asked x) t ≡ true
      by t None d r loads = absurd (way_in rules once x v begun empty t r d)
      by t (Some Queued) d r loads =
          absurd (let h = (v.building.queued t refl d).0 in let none =
          ap (λ (l : List Specifier). has l t) empty in cc)
      by t (Some Asked) d r loads = (v.building.outstanding t refl d).0
      by t (Some (Done e)) d r loads = from t e (v.building.done t e d) loads

  -- ---- the graph

  -- what the entries of finished slots become, in the order of bytes
  pub graph_now : (firsts entries : List (Parts × Entry))
      → IsDistinct bytes_eq (keys_at x.progress.reaching.reached)
      → x.progress.reaching.reached ≡ map (λ e. (e.0, Done e.1)) firsts
      → IsAscending entries → ((t : Specifier) → entry_of entries t ≡ entry_of (finals_of rules firsts) t)
      → IsGraph rules (starts_at x) (answer_to (own_log x)) entries
  graph_now firsts entries distinct is ascending alike =
      graph_settled rules (starts_at x) (answer_to (own_log x)) firsts (rw (← same) (reach_now distinct)) once
      (λ s e h. v.building.done s e (ap (λ (es : List (Parts × Slot)). value_at es s) is
      ∙ lookup-map_values Done (λ url. bytes_eq s (text_of url)) firsts ∙ ap (option_map Done) h))
      entries ascending alike
    where
      marked : (es : List (Parts × Entry)) → keys_at (map (λ e. (e.0, Done e.1)) es) ≡ members_of es
      marked [] = refl
      marked (e ∷ es) = rw (marked es) refl

      same : keys_at x.progress.reaching.reached ≡ members_of firsts
      same = ap keys_at is ∙ marked firsts

-- all that was asked is answered, where as many answers were taken
pub answered_now : (rules : Rules) (x : At) → IsLive rules x → x.progress.taken ≡ x.progress.asked
    → EachAnswered (own_asked x) (own_log x)
answered_now rules x v all =
    all_answered (own_asked x) (own_log x) (distinct_log rules (starts_at x) (own_log x) v.building.orderly)
    v.building.answered
    (omega (arith, v.kept.own.asked_counted, v.kept.own.taken_counted, all))

-- a slot that waits for nothing has an entry
done_of : (y : Slot) → (y ≡ Queued → ⊥) × (y ≡ Asked → ⊥) → (e : Entry) × (y ≡ Done e)
done_of Queued h = absurd (h.0 refl)
done_of Asked h = absurd (h.1 refl)
done_of (Done e) h = (e, refl)

-- slots that wait for nothing all have their entries
pub done_from : (slots : List (Parts × Slot)) → IsDistinct bytes_eq (keys_at slots)
    → HaveEntries slots → AreDone slots
unfolding IsDistinct
done_from [] once each = record { entries = []; is = refl }
done_from (x ∷ xs) once each =
    let d = done_of x.1 (each (text_of x.0) x.1 (rw (nat_list_eq_equiv.refl (text_of x.0)) refl)) in
    let rest = done_from xs once.1 (λ t y h. by t y (bytes_eq t (text_of x.0)) refl h) in record {
      entries = (x.0, d.0) ∷ rest.entries;
      is = subst (λ (y : Slot). x ∷ xs ≡ (x.0, y) ∷ all_done rest.entries) d.1
          (ap (λ (l : List (Parts × Slot)). x ∷ l) rest.is);
    }
  where
    by : (t : Specifier) (y : Slot) (b : Bool) → bytes_eq t (text_of x.0) ≡ b → value_at xs t ≡ Some y
        → (y ≡ Queued → ⊥) × (y ≡ Asked → ⊥)
    by t y true e h =
        let out : has (keys_at xs) t ≡ false = not_among t (text_of x.0) (keys_at xs) e once.0 in
        let among : has (keys_at xs) t ≡ true = has-keys_at xs t ∙ ap is_some h in absurd cc
    by t y false e h = each t y (rw e h)

-- so no slot waits for its entry
pub none_open : {rules : Rules} → (x : At) → IsLive rules x → x.progress.taken ≡ x.progress.asked
    → todo_at x ≡ []
    → HaveEntries x.progress.reaching.reached
none_open {rules} x v all empty t y d = (
  λ q. let h = (v.building.queued t refl (d ∙ ap Some q)).0 in let none =
      ap (λ (l : List Specifier). has l t) empty in cc,
  λ a. let w = v.building.outstanding t refl (d ∙ ap Some a) in
      let some = answered_now rules x v all t w.0 in let none = ap is_some w.1 in cc,
)

-- ---- the order of bytes

pub settled_graph : (rules : Rules) (slots : List (Parts × Slot)) (firsts entries : List (Parts × Entry))
    (order : List ℕ)
    (graph : GraphData) → slots ≡ all_done firsts → entries ≡ finals_of rules firsts → IsByBytes entries order
    → graph.entries ≡ at_numbers entries order → graph.numbered ≡ map (λ (e : Parts × Entry). e.0) entries
    → AreSettled rules slots graph
settled_graph rules slots firsts entries order graph done finals by_bytes is numbered = record {
  firsts = firsts;
  done = done;
  ascending = rw is (ascending_numbered entries order by_bytes);
  is = λ t. ap (λ (es : List (Parts × Entry)). entry_of es t) is ∙ entry_numbered entries order by_bytes t
      ∙ ap (λ (es : List (Parts × Entry)). entry_of es t) finals;
  counted = ap length is ∙ by_bytes.counted ∙ ap length finals
      ∙ length-map firsts (λ (e : Parts × Entry). (e.0, settled rules firsts e.1));
  numbered = ap texts (numbered ∙ ap (map (λ (e : Parts × Entry). e.0)) finals) ∙ each (settled rules firsts) firsts
      ∙ sym (ap keys_at done ∙ marked firsts);
}
  where
    each : (f : Entry → Entry) (es : List (Parts × Entry))
        → texts (map (λ (e : Parts × Entry). e.0) (map (λ (e : Parts × Entry). (e.0, f e.1)) es)) ≡ members_of es
    each f [] = refl
    each f (e ∷ es) = ap (λ ts. text_of e.0 ∷ ts) (each f es)

    marked : (es : List (Parts × Entry)) → keys_at (all_done es) ≡ members_of es
    marked [] = refl
    marked (e ∷ es) = ap (λ ts. text_of e.0 ∷ ts) (marked es)

-- ---- what `poll` answers

-- what stood before the last so many
pub length-before_last : {A : Type 0} (n : ℕ) (xs : List A) → length (before_last n xs) ≡ length xs - n
length-before_last n xs = length-take-le (length xs - n) xs (omega arith)

pub result_graph : {rules : Rules} → IsFunctional rules
    → (x y : At) (slots : List (Parts × Slot)) (graph : GraphData)
    → IsThrough rules x y → GoesOnAt x y → slots ≡ y.progress.reaching.reached
    → IsDistinct bytes_eq (keys_at slots)
    → AreSettled rules slots graph → IsGraph rules (starts_at x) (answer_to (own_log y)) graph.entries
result_graph {rules} once x y slots graph t g is distinct all =
    subst (λ (ss : List Specifier). IsGraph rules ss (answer_to (own_log y)) graph.entries) (ap texts g.starts)
    (graph_now rules once y t.live t.begun t.asked_all all.firsts graph.entries (rw (← is) distinct)
    (sym is ∙ all.done) all.ascending all.is)

pub result_limit : {rules : Rules} → (x y : At) (slots : List (Parts × Slot)) (graph : GraphData)
    → IsThrough rules x y → GoesOnAt x y
    → slots ≡ y.progress.reaching.reached → AreSettled rules slots graph
    → length graph.entries ≤ x.progress.reaching.limit
result_limit {rules} x y slots graph t g is all =
    let long : length (all_done all.firsts) ≡ length all.firsts =
    length-map all.firsts (λ (e : Parts × Entry). (e.0, Done e.1)) in
    let same : length slots ≡ length (all_done all.firsts) = ap length all.done in
    let held : length slots ≡ length y.progress.reaching.reached = ap length is in
    omega (arith, all.counted, long, same, held, t.live.room.room, g.limit)

-- the different roots have the first numbers, since the starts begin with the roots
pub result_firsts : {rules : Rules}
    → (resolves : Resolves) (roots : List Parts) (outside : List ReferrerImports) (x y : At)
    (slots : List (Parts × Slot)) (graph : GraphData) → starts_at x ≡ starts_by resolves roots outside
    → IsThrough rules x y → GoesOnAt x y → slots ≡ y.progress.reaching.reached → AreSettled rules slots graph
    → GoesOn (different (texts roots)) (texts graph.numbered)
result_firsts {rules} resolves roots outside x y slots graph starting t g is all =
    goes_on_more (different (texts roots)) (different (starts_at y)) (texts graph.numbered)
    (subst (λ (ss : List Specifier). GoesOn (different (texts roots)) (different ss))
    (sym (ap texts g.starts ∙ starting))
    (subst (GoesOn (different (texts roots))) (sym (fold-append with_one [] (texts roots) more))
    (goes_on_with (different (texts roots)) more)))
    (subst (GoesOn (different (starts_at y))) (sym (all.numbered ∙ ap keys_at is)) (t.live.first.after t.begun))
  where
    more : List Specifier
    more = flat_map (led_from resolves) outside

pub result_asked : {rules : Rules} → IsFunctional rules → (x y : At) → IsThrough rules x y → GoesOnAt x y
    → IsAskedFor rules (starts_at x) (own_asked y) (own_log y)
result_asked {rules} once x y t g =
    subst (λ (ss : List Specifier). IsAskedFor rules ss (own_asked y) (own_log y)) (ap texts g.starts)
    (asked_now rules once y t.live t.begun t.asked_all)

pub result_not_yet : {rules : Rules} → IsFunctional rules
    → {L W : Type 0} (l m : L) (w : W) (rs : List Parts) (os : List ReferrerImports) (x y : At) (f g1 : Bool)
    → IsPaused rules x y → GoesOnAt x y → IsKeptAt rules x
    → IsDistinct bytes_eq (keys_at y.progress.reaching.reached)
    → IsNotYet rules (seen_of l w rs os x f) (seen_of m w rs os y g1)
result_not_yet {rules} once l m w rs os x y f g1 p g k sorted = record {
  orderly = from (λ ss. IsOrderly rules ss (own_log y)) p.live.building.orderly;
  asked = from (λ ss. IsAskedFor rules ss (own_asked y) (own_log y))
      (asked_now rules once y p.live p.begun p.asked_all);
  within = subst (λ (n : ℕ). ReachesAtMost rules (starts_at x) (answer_to (own_log y)) n) g.limit
      (from (λ ss. ReachesAtMost rules ss (answer_to (own_log y)) y.progress.reaching.limit)
      (within_now rules once y p.live p.begun p.asked_all sorted));
  outstanding = open_now;
  counted = p.counted;
  stands = p.stands ∙ ap length (sym logs) ∙ length-append logs_before (own_log y);
  stood_open = p.stood_open;
  patience = λ even. p.patience (ap (λ (l : List Event). length (asked_of l)) earlier_same ∙ even
      ∙ sym (ap (λ (l : List Event). length (log_of l)) earlier_same));
}
  where
    from : (P : List Specifier → Type 0) → P (starts_at y) → P (starts_at x)
    from P h = subst P (ap texts g.starts) h

    logs_before : Log
    logs_before = log_of (before_last (own_count y) y.loader.events)

    logs : logs_before ++ own_log y ≡ log_of y.loader.events
    logs = sym (log_of-append (before_last (own_count y) y.loader.events) (own_events y))
        ∙ ap log_of (before_last-last (own_count y) y.loader.events)

    open_now : SomeOutstanding (own_asked y) (own_log y)
    open_now = one_open (own_asked y) (own_log y) p.live.kept.own.asking.once
        (omega (arith, p.live.kept.own.asked_counted, p.live.kept.own.taken_counted, p.open_yet))

    earlier_same : before_last (own_count y) y.loader.events ≡ before_last (own_count x) x.loader.events
    earlier_same = before_after x y k g

pub result_unasked : {rules : Rules} → IsFunctional rules
    → {L W : Type 0} (batch : ℕ) (l m : L) (w : W) (rs : List Parts) (os : List ReferrerImports) (x y : At)
    (f g1 : Bool)
    (s : Specifier)
    → IsUnasked rules batch x y s → IsUnawaited rules batch (seen_of l w rs os x f) (seen_of m w rs os y g1) s
result_unasked {rules} once batch l m w rs os x y f g1 s u = record {
  before = log_of u.before;
  answer = u.answer;
  last = ap log_of u.last ∙ log_of-answer u.before s u.answer;
  goes_on = (log_of u.goes_on.0, ap log_of u.goes_on.1 ∙ log_of-append (own_events x) u.goes_on.0);
  orderly = u.orderly;
  outstanding = u.outstanding;
  settled = u.settled;
  unawaited = u.unawaited once;
}

-- of a loader that answers open requests alone no answer is unasked, where none was open before
pub fairly : {rules : Rules} → (batch : ℕ) (x y : At) (s : Specifier) → IsKeptAt rules x → IsKeptAt rules y
    → GoesOnAt x y
    → IsUnasked rules batch x y s → x.loader.fair ≡ true
    → IsSettled (before_last (own_count x) x.loader.events) → ⊥
fairly {rules} batch x y s kx ky g u fair none_open =
    u.settled (subst (λ (l : List Specifier). IsOutstanding l (log_of u.before) s) (sym asks)
    (is_outstanding u.before s (subst (IsDistinct bytes_eq) asks ky.own.asking.once)
    (omega (arith, more, le, length_requests, length_answers))))
  where
    first : List Event
    first = before_last (own_count y) y.loader.events

    asks : own_asked y ≡ asked_of u.before
    asks = ap asked_of u.last ∙ asked_of-answer u.before s u.answer

    more : answers (first ++ u.before) s < requests (first ++ u.before) s
    more = u.fair fair

    le : requests first s ≤ answers first s
    le = subst (λ (l : List Event). requests l s ≤ answers l s) (sym (before_after x y kx g)) (none_open s)

    length_requests : requests (first ++ u.before) s ≡ requests first s + requests u.before s
    length_requests = ap (times s) (asked_of-append first u.before)
        ∙ times-append s (asked_of first) (asked_of u.before)

    length_answers : answers (first ++ u.before) s ≡ answers first s + answers u.before s
    length_answers = ap (λ (l : Log). times s (keys_of l)) (log_of-append first u.before)
        ∙ ap (times s) (map-append (λ (e : Specifier × LoadAnswer). e.0) (log_of first) (log_of u.before))
        ∙ times-append s (keys_of (log_of first)) (keys_of (log_of u.before))

-- as `poll` says it
pub result_fair : {rules : Rules}
    → {L W A : Type 0} (batch : ℕ) (l : L) (w : W) (rs : List Parts) (os : List ReferrerImports) (x y : At) (f : Bool)
    (url : Parts)
    → IsKeptAt rules x → IsKeptAt rules y → GoesOnAt x y
    → IsUnasked rules batch x y (text_of url)
    → IsFairly {A = A} x.loader (seen_of l w rs os x f) (Err (error.UnaskedAnswer url))
result_fair {rules} batch l w rs os x y f url kx ky g u =
    λ fair none_open s same. fairly batch x y (text_of url) kx ky g u fair none_open

-- more than are reached aren't reached
pub too_many_none : (rules : Rules) (starts0 : List Specifier) (log : Log) (limit seen : ℕ)
    → IsTooMany rules starts0 log limit seen → ReachesAtMost rules starts0 (answer_to log) limit → ⊥
too_many_none rules starts0 log limit seen t r =
    let bound : length t.members ≤ length r.0 =
    length-le_from_is_member nat_list_eq_equiv t.members r.0 t.once (λ q h. r.1.all q (t.reached q h)) in
    omega (arith, bound, r.2, t.above, t.counted)

-- the last of awaited answers was awaited
orderly_last : (rules : Rules) (starts0 : List Specifier) (before log : Log) (s : Specifier) (a : LoadAnswer)
    → IsOrderlyAfter rules starts0 before (log ++ (s, a) ∷ []) → IsAwaited rules starts0 (before ++ log) s
orderly_last rules starts0 before [] s a h = rw append-nil h.0
orderly_last rules starts0 before (x ∷ log) s a h =
    rw (sym (append_assoc before (x ∷ []) log)) (orderly_last rules starts0 (before ++ x ∷ []) log s a h.1)

pub unawaited_none : (rules : Rules) {L W : Type 0} (old new : BuildingBy L W) (s : Specifier)
    → IsUnawaited rules 1 old new s
    → IsOrderly rules (starts old) new.log → ⊥
unawaited_none rules old new s u h = by u.unawaited
  where
    awaited : IsAwaited rules (starts old) u.before s
    awaited = orderly_last rules (starts old) [] u.before s u.answer (subst (IsOrderly rules (starts old)) u.last h)

    whole : take (length u.before - 0) u.before ≡ u.before
    whole = take_all (length u.before - 0) u.before (omega arith)

    by : IsUnawaitedOver rules 1 (starts old) u.before s → ⊥
    by (inl some) = let none = ap is_some awaited.open_yet in cc
    by (inr never) = never
        (subst (λ (l : Log). IsReached rules (starts old) (answer_to l) s) (sym whole) awaited.reached) awaited.loads

orderly_last_by : (rules : Rules) (batch : ℕ) (starts0 : List Specifier) (before log : Log) (s : Specifier)
    (a : LoadAnswer)
    → IsOrderlyByAfter rules batch starts0 before (log ++ (s, a) ∷ [])
    → IsAwaitedBy rules batch starts0 (before ++ log) s
orderly_last_by rules batch starts0 before [] s a h = rw append-nil h.0
orderly_last_by rules batch starts0 before (x ∷ log) s a h =
    rw (sym (append_assoc before (x ∷ []) log)) (orderly_last_by rules batch starts0 (before ++ x ∷ []) log s a h.1)

pub unawaited_none_by : (rules : Rules) (batch : ℕ) {L W : Type 0} (old new : BuildingBy L W) (s : Specifier)
    → IsUnawaited rules batch old new s
    → IsOrderlyBy rules batch (starts old) new.log → ⊥
unawaited_none_by rules batch old new s u h = by u.unawaited
  where
    awaited : IsAwaitedBy rules batch (starts old) u.before s
    awaited = orderly_last_by rules batch (starts old) [] u.before s u.answer
        (subst (IsOrderlyBy rules batch (starts old)) u.last h)

    by : IsUnawaitedOver rules batch (starts old) u.before s → ⊥
    by (inl some) = let none = ap is_some awaited.open_yet in cc
    by (inr never) = never awaited.reached awaited.loads

-- a builder that begins has nothing
pub inside_new : (rules : Rules) (resolves : Resolves) (rs : List Parts) (os : List ReferrerImports) (x : At)
    → starts_at x ≡ starts_by resolves rs os → x.progress.asked ≡ 0 → x.progress.taken ≡ 0 → x.progress.begun ≡ false
    → x.progress.reaching.reached ≡ [] → x.progress.reaching.next ≡ 0 → IsInside rules resolves rs os x false
unfolding IsDistinct
inside_new rules resolves rs os x starting a t b r d = record {
  starting = starting;
  kept = kept;
  live = λ e. record {
    kept = kept;
    behind = omega arith;
    counted = rw (empty, r) (omega arith);
    room = record { within = omega (arith, d); room = rw r (omega arith) };
    building = subst (λ (l : List Event). IsBuilding rules (starts_at x) no_one (asked_of l) (log_of l) (slots_at x)
        (todo_at x)) (sym nothing) (record {
          sound = λ u y h. absurd (let n = none u in cc);
          done = λ u e h. absurd (let n = none u in cc);
          closed = λ u w e h. absurd (let n = none u in cc);
          outstanding = λ u out h. absurd (let n = none u in cc);
          queued = λ u out h. absurd (let n = none u in cc);
          listed = λ u h. absurd (let n = ap (λ (l : List Specifier). has l u) empty in cc);
          holds = λ u h. absurd cc;
          todo_once = rw empty tt;
          asked_slot = λ u h. absurd cc;
          answered = λ u c h. absurd cc;
          orderly = tt;
        });
    timely = subst IsTimely (sym nothing) tt;
    rooted = λ e. absurd cc;
    first = record { before = λ e. r; after = λ e. absurd cc };
  };
}
  where
    empty : todo_at x ≡ []
    empty = ap (λ (n : ℕ). drop n (keys_at x.progress.reaching.reached)) d
        ∙ ap (λ (es : List (Parts × Slot)). drop 0 (keys_at es)) r

    kept : IsKeptAt rules x
    kept = rw (a, t) (kept_new rules (starts_at x) x.loader.events x.loader.told)

    none : (u : Specifier) → slots_at x u ≡ None
    none u = ap (λ (es : List (Parts × Slot)). value_at es u) r

    nothing : own_events x ≡ []
    nothing = ap (λ (n : ℕ). last_of n x.loader.events) (omega (arith, a, t)) ∙ last_of-zero x.loader.events

-- ---- history

pub result_history : {rules : Rules}
    → {L W : Type 0} (l m : L) (w : W) (rs : List Parts) (os : List ReferrerImports) (x y : At) (f g1 : Bool)
    → GoesOnAt x y
    → IsKeptAt rules x → IsKeptAt rules y
    → HasHistory (seen_of l w rs os x f) (seen_of m w rs os y g1)
result_history {rules} l m w rs os x y f g1 g k j = record {
  following = refl;
  roots = refl;
  imports = refl;
  starting = ap texts g.starts;
  limit = g.limit;
  events_before = before_after x y k g;
  events = (g.events.more, own_after x y k g);
  asked_before = ap asked_of (before_after x y k g);
  log_before = ap log_of (before_after x y k g);
  asked = (asked_of g.events.more, ap asked_of (own_after x y k g) ∙ asked_of-append (own_events x) g.events.more);
  log = (log_of g.events.more, ap log_of (own_after x y k g) ∙ log_of-append (own_events x) g.events.more);
  pending = g.pending;
  patience = g.patience;
  answers = omega (arith, j.own.behind, j.own.asked_counted, j.own.taken_counted);
}

pub result_too_many : {rules : Rules} → (x : At) (log : Log) (seen : ℕ)
    → IsTooMany rules (starts_at x) log x.progress.reaching.limit seen
    → ReachesAtMost rules (starts_at x) (answer_to log) x.progress.reaching.limit → ⊥
result_too_many {rules} x log seen t r = too_many_none rules (starts_at x) log x.progress.reaching.limit seen t r

-- one unasked answer is another only for the same specifier
pub unasked_same : {A : Type 0} (s t : Parts)
    → ◌≡◌ {A = Result A BuildError} (Err (error.UnaskedAnswer s)) (Err (error.UnaskedAnswer t)) → text_of s ≡ text_of t
unasked_same s t h = let e : s ≡ t = cc in ap text_of e
