-- What a poll of a session, and an answer to it, leave.
use Rattle.std.proofs.Common.{zero, suc, ◌≡◌, ◌⊎◌, inl, inr, ◌∙◌, ◌≤◌, ◌+◌, ◌-◌, ℕ, Bool, true, false, List, [], ◌∷◌, ◌++◌, length, take, drop, refl, sym, ap, subst, arith, slice_get, IsSome, Some, None, Ok, Err, Result}
use Rattle.std.specs.Prelude.{Option, ◌↔◌, IfOk, OnOk, bytes_eq, ◌||◌, map, option_map, if◌then◌else◌}
use Rattle.std.specs.declared.alloc.AllocError.{AllocError}
use Rattle.std.specs.Map.{keys_of}
use Rattle.std.specs.List.{IsDistinct}
use Rattle.std.specs.Cmp.Lexicographic.{nat_list_eq_equiv}
use Rattle.std.proofs.lemmas.List.{take-append-drop, map-append, append_assoc, append-nil}
use Rattle.url.specs.Parts.{Parts}
use Rattle.graph_entry.specs.Specifier.{text_of}
use Rattle.graph_entry.specs.declared.answer.LoadAnswer.{LoadAnswer}
use Rattle.graph_entry.specs.declared.answer.LoadAnswer.TheVariants.{Content}
use Rattle.graph_entry.specs.declared.referrer.ReferrerImports.{ReferrerImports}
use Rattle.graph_entry.specs.Reading.{Reading}
use Rattle.graph_entry.specs.Referrer.{referred_by}
use Rattle.graph_entry.specs.Resolution.{Resolves}
use Rattle.graph_builder.specs.declared.error.BuildError.{BuildError}
use Rattle.graph_builder.specs.declared.error.BuildError.TheVariants as error
use Rattle.graph_builder.specs.declared.progress.Progress.{Progress}
use Rattle.graph_builder.specs.Rules.{Rules}
use Rattle.graph_builder.specs.Reach.{Specifier, Log, answer_to, has}
use Rattle.graph_builder.specs.Reach.{Answers as AnswersTo}
use Rattle.graph_builder.specs.Graph.{GraphData, IsGraph, texts, different}
use Rattle.graph_builder.specs.Events.{Event, asked_of, log_of, times}
use Rattle.graph_builder.specs.Loader.{LoaderData, HasRisen}
use Rattle.graph_builder.specs.Builder.{BuildingBy, starts, GoesOn, HasHistory, IsAskedFor, IsOrderly, EachAnswered, SomeOutstanding, IsNotYet, IsTooMany, IsFairly, IsToldLog, IsKept, last_of, before_last}
use Rattle.graph_builder.specs.Progress.{at, own_count, own_events, IsKeptAt, IsLive}
use Rattle.graph_builder.specs.Inside.{IsInside, seen_of}
use Rattle.graph_builder.proofs.EventsLemmas.{times-append, times_once, times_none, unanswered, log_of-append}
use Rattle.graph_session.specs.declared.loader.Given.{Given}
use Rattle.graph_session.specs.declared.session.Session.{Session}
use Rattle.graph_session.specs.Asking.{Asking, log_by, answers_given, only_answer, if_one, told_by, data_of, events_of, closed, first_open, IsGiven, IsKeptAsking}
use Rattle.graph_session.specs.Session.{SessionBuild, rules_with, resolves_by, HasNewLoader, IsHeard, HasTakenAll, TakesAll, Ends, PollsBuild, Polls, PollsWith, AnswersIn, IsKnown}
use Rattle.graph_session.proofs.TextLemmas.{has_text}
use Rattle.graph_session.proofs.AskingLemmas.{closed_at, closed_within, has_mark, first_counts, then_counts, none_counted, only_counts, one_for}

-- ---- what a builder keeps of its loader

-- the events of a builder whose loader was new are all that happened
own_all : (n : ℕ) (events : List Event) → before_last n events ≡ [] → last_of n events ≡ events
own_all n events none =
    ap (λ (front : List Event). front ++ last_of n events) (sym none) ∙ take-append-drop (length events - n) events

pub own_asked : (n : ℕ) (events : List Event) → before_last n events ≡ []
    → asked_of (last_of n events) ≡ asked_of events
own_asked n events none = ap asked_of (own_all n events none)

pub own_log : (n : ℕ) (events : List Event) → before_last n events ≡ [] → log_of (last_of n events) ≡ log_of events
own_log n events none = ap log_of (own_all n events none)

-- ---- what a poll leaves of the calls before it

-- no specifier is empty
none_empty : (given : List (Parts × LoadAnswer)) → times [] (keys_of (log_by given)) ≡ 0
none_empty [] = refl
none_empty (e ∷ given) = by (text_of e.0) refl (none_empty given)
  where
    by : (s : Specifier) → text_of e.0 ≡ s → times [] (keys_of (log_by given)) ≡ 0
        → (if bytes_eq [] s then 1 else 0) + times [] (keys_of (log_by given)) ≡ 0
    by [] is rest = absurd (has_text e.0 is)
    by (b ∷ s) is rest = omega (arith, rest)

-- each specifier was answered once, where each was asked once
given_once : (l : Asking) → IsKeptAsking l → (s : Specifier) → times s (texts l.asked) ≤ 1
    → times s (keys_of (log_by l.given)) ≤ 1
given_once l k s once =
    let counted = k.closes s in
    let within = closed_within s l.open_ones l.asked in
    omega (arith, once, counted, within)

-- what is told beforehand says when, and what was given
same_since : (one two : Log) (m n : ℕ) → told_by one m ≡ told_by two n → m ≡ n
same_since one two m n same =
    let e : Some (Content [] (m ∷ [])) ≡ Some (Content [] (n ∷ [])) = ap (λ (told : AnswersTo). told []) same in cc

same_given : (one two : Asking) → IsKeptAsking one → IsKeptAsking two
    → ((s : Specifier) → times s (texts one.asked) ≤ 1) → ((s : Specifier) → times s (texts two.asked) ≤ 1)
    → told_by (log_by one.given) one.since ≡ told_by (log_by two.given) two.since
    → (s : Specifier) → answers_given one s ≡ answers_given two s
same_given one two k h once_one once_two same [] =
    unanswered [] (log_by one.given) (none_empty one.given)
    ∙ sym (unanswered [] (log_by two.given) (none_empty two.given))
same_given one two k h once_one once_two same (b ∷ s) =
    sym (only_counts (log_by one.given) (b ∷ s) (given_once one k (b ∷ s) (once_one (b ∷ s))))
    ∙ ap (λ (told : AnswersTo). told (b ∷ s)) same
    ∙ only_counts (log_by two.given) (b ∷ s) (given_once two h (b ∷ s) (once_two (b ∷ s)))

-- a request is open where none was given for it
wanted_where : (l : Asking) → IsKeptAsking l → ((s : Specifier) → times s (texts l.asked) ≤ 1)
    → (n : ℕ) (url : Parts) → slice_get l.asked n ≡ Some url
    → (slice_get l.open_ones n ≡ Some true) ↔ (answers_given l (text_of url) ≡ None)
wanted_where l k once n url here = (
  λ mark.
      let none = closed_at l.open_ones l.asked n url true mark here (once (text_of url)) in
      unanswered (text_of url) (log_by l.given) (sym (k.closes (text_of url)) ∙ none),
  λ none. by (slice_get l.open_ones n) refl none,
)
  where
    by : (mark : Option Bool) → slice_get l.open_ones n ≡ mark → answers_given l (text_of url) ≡ None → mark ≡ Some true
    by None e none = absurd (has_mark l.open_ones l.asked n url k.even here e)
    by (Some true) e none = refl
    by (Some false) e none =
        let one = closed_at l.open_ones l.asked n url false e here (once (text_of url)) in
        let no = none_counted (log_by l.given) (text_of url) none in
        let counted = k.closes (text_of url) in
        absurd (omega (arith, one, no, counted))

module _ {W : Type 0} (old new : BuildingBy Asking W) (fresh : HasNewLoader old) (before : IsKnown old)
    (after : IsKnown new)
    (history : HasHistory old new) where
  fresh_new : HasNewLoader new
  fresh_new = history.events_before ∙ fresh

  -- the requests are what was asked
  pub asked_is : texts new.loader.asked ≡ new.asked
  asked_is = sym after.kept.all ∙ sym (after.asked fresh_new)

  asked_was : texts old.loader.asked ≡ old.asked
  asked_was = sym before.kept.all ∙ sym (before.asked fresh)

  -- the builder's answers and those that wait are those that were given
  log_is : new.log ++ log_by new.loader.ready ≡ log_by new.loader.given
  log_is = ap (λ (l : Log). l ++ log_by new.loader.ready) (after.log fresh_new) ∙ after.kept.in_order

  once_now : IsDistinct bytes_eq new.asked → (s : Specifier) → times s (texts new.loader.asked) ≤ 1
  once_now once s = subst (λ (l : List Specifier). times s l ≤ 1) (sym asked_is) (times_once s new.asked once)

  once_then : IsDistinct bytes_eq new.asked → (s : Specifier) → times s (texts old.loader.asked) ≤ 1
  once_then once s =
      let most = times_once s new.asked once in
      let grown : times s new.asked ≡ times s old.asked + times s history.asked.0 =
      ap (times s) history.asked.1 ∙ times-append s old.asked history.asked.0 in
      let was : times s (texts old.loader.asked) ≡ times s old.asked = ap (times s) asked_was in
      omega (arith, most, grown, was)

  pub heard : IsDistinct bytes_eq new.asked → (data_of new.loader).told ≡ (data_of old.loader).told → IsHeard old new
  heard once same = record {
    given = same_given new.loader old.loader after.kept before.kept (once_now once) (once_then once) same;
    asked = asked_is;
    wanted = wanted_where new.loader after.kept (once_now once);
    taken = λ s a is.
        ap (λ (l : Log). answer_to l s) (sym log_is) ∙ first_counts new.log (log_by new.loader.ready) s a is;
  }

  -- where no answer waits, all were taken
  all_taken : new.loader.ready ≡ [] → HasTakenAll new
  all_taken none s =
      ap (λ (l : Log). answer_to l s)
      (sym (append-nil new.log) ∙ ap (λ (r : List (Parts × LoadAnswer)). new.log ++ log_by r) (sym none) ∙ log_is)

  -- nothing had come, since the last answer was given
  none_waits : HasRisen old.pending new.pending → (data_of new.loader).told ≡ (data_of old.loader).told
      → new.loader.ready ≡ []
  none_waits risen same = by after.kept.fresh risen
    where
      since : new.loader.since ≡ old.loader.since
      since = same_since (log_by new.loader.given) (log_by old.loader.given) new.loader.since old.loader.since same

      by : (new.loader.ready ≡ []) ⊎ (new.loader.since ≡ new.loader.waits) → HasRisen old.pending new.pending
          → new.loader.ready ≡ []
      by (inl none) risen = none
      by (inr e) (inl more) =
          let p = before.pending in
          let q = after.pending in
          let le = before.kept.past in
          let s = since in
          absurd (omega (arith, e, more, p, q, le, s))
      by (inr e) (inr (high, stays)) = let p = before.pending in absurd (omega (arith, high, p))

  -- some request is open, where one has no answer
  some_open : (marks : List Bool) (asked : List Parts) (s : Specifier) → length marks ≡ length asked
      → has (texts asked) s ≡ true → times s (closed marks asked) ≡ 0 → IsSome (first_open marks)
  some_open [] [] s even there none = absurd cc
  some_open [] (u ∷ asked) s even there none = absurd cc
  some_open (m ∷ marks) [] s even there none = absurd cc
  some_open (true ∷ marks) (u ∷ asked) s even there none = refl
  some_open (false ∷ marks) (u ∷ asked) s even there none =
      by (bytes_eq s (text_of u)) there none (some_open marks asked s (omega (arith, even)))
    where
      more : (o : Option ℕ) → IsSome o → IsSome (option_map suc o)
      more None h = absurd cc
      more (Some n) h = refl

      by : (b : Bool) → (b || has (texts asked) s) ≡ true → (if b then 1 else 0) + times s (closed marks asked) ≡ 0
          → (has (texts asked) s ≡ true → times s (closed marks asked) ≡ 0 → IsSome (first_open marks))
          → IsSome (option_map suc (first_open marks))
      by true h none rest = absurd (omega (arith, none))
      by false h none rest = more (first_open marks) (rest h (omega (arith, none)))

  pub takes_not_yet : HasRisen old.pending new.pending → (data_of new.loader).told ≡ (data_of old.loader).told
      → SomeOutstanding new.asked new.log → HasTakenAll new × IsSome (first_open new.loader.open_ones)
  takes_not_yet risen same (s, out) =
      let all = all_taken (none_waits risen same) in
      let none : answers_given new.loader s ≡ None = sym (all s) ∙ out.1 in (
        all,
        some_open new.loader.open_ones new.loader.asked s after.kept.even
            (ap (λ (l : List Specifier). has l s) asked_is ∙ out.0)
            (after.kept.closes s ∙ none_counted (log_by new.loader.given) s none),
      )

  -- where each request has its answer, none waits
  pub takes_all : IsDistinct bytes_eq new.asked → EachAnswered new.asked new.log → HasTakenAll new
  takes_all once each = all_taken (by new.loader.ready refl)
    where
      by : (ready : List (Parts × LoadAnswer)) → new.loader.ready ≡ ready → ready ≡ []
      by [] is = refl
      by (e ∷ rest) is =
          let s : Specifier = text_of e.0 in
          let all : times s (keys_of (log_by new.loader.given))
          ≡ times s (keys_of new.log) + (one_for s s + times s (keys_of (log_by rest))) =
          ap (λ (l : Log). times s (keys_of l)) (sym log_is)
          ∙ ap (λ (r : List (Parts × LoadAnswer)). times s (keys_of (new.log ++ log_by r))) is
          ∙ ap (times s) (map-append (λ (x : Specifier × LoadAnswer). x.0) new.log (log_by (e ∷ rest)))
          ∙ times-append s (keys_of new.log) (s ∷ keys_of (log_by rest)) in
          let one : one_for s s ≡ 1 = rw (nat_list_eq_equiv.refl s) refl in
          let counted = after.kept.closes s in
          let within = closed_within s new.loader.open_ones new.loader.asked in
          let most = once_now once s in
          let none : times s (keys_of new.log) ≡ 0 = omega (arith, all, one, counted, within, most) in
          let there : has new.asked s ≡ true =
          asked_for (has new.asked s) refl (omega (arith, all, one, counted, within)) in
          absurd (answered (answer_to new.log s) (each s there) (unanswered s new.log none))
        where
          asked_for : (b : Bool) → has new.asked (text_of e.0) ≡ b → 1 ≤ times (text_of e.0) (texts new.loader.asked)
              → b ≡ true
          asked_for true h some = refl
          asked_for false h some =
              let no = times_none (text_of e.0) new.asked h in
              let same : times (text_of e.0) (texts new.loader.asked) ≡ times (text_of e.0) new.asked =
              ap (times (text_of e.0)) asked_is in
              absurd (omega (arith, some, no, same))

          answered : (o : Option LoadAnswer) → IsSome o → o ≡ None → ⊥
          answered None some none = absurd cc
          answered (Some a) some none = absurd cc

  pub takes : (result : Result GraphData BuildError) → IsDistinct bytes_eq new.asked
      → (data_of new.loader).told ≡ (data_of old.loader).told → OnOk result (EachAnswered new.asked new.log)
      → (result ≡ Err error.NotYet → HasRisen old.pending new.pending × SomeOutstanding new.asked new.log)
      → TakesAll new result
  takes (Ok graph) once same each not_yet = takes_all once each
  takes (Err error.NotYet) once same each not_yet = takes_not_yet (not_yet refl).0 same (not_yet refl).1
  takes (Err (error.TooManyModules seen)) once same each not_yet = tt
  takes (Err (error.UnaskedAnswer url)) once same each not_yet = tt
  takes (Err error.Finished) once same each not_yet = tt
  takes (Err error.OutOfMemory) once same each not_yet = tt

-- ---- why a poll ended so

module _ {M : Type 0} (reads : M → Reading) where
  pub ends : (old new : SessionBuild M) (result : Result GraphData BuildError)
      → IfOk result (λ g. IsGraph (rules_with reads old.following) (starts old) (answer_to new.log) g.entries)
      → IfOk result (λ g. g.roots ≡ old.roots)
      → IfOk result (λ g. g.imports ≡ map (referred_by (resolves_by old.following)) old.imports)
      → IfOk result (λ g. GoesOn (different (texts old.roots)) (texts g.numbered))
      → OnOk result (IsOrderly (rules_with reads old.following) (starts old) new.log)
      → OnOk result (IsAskedFor (rules_with reads old.following) (starts old) new.asked new.log)
      → OnOk result (EachAnswered new.asked new.log)
      → IfOk result (λ g. length g.entries ≤ old.limit)
      → (result ≡ Err error.NotYet → IsNotYet (rules_with reads old.following) old new)
      → ((seen : ℕ) → result ≡ Err (error.TooManyModules seen)
      → IsTooMany (rules_with reads old.following) (starts old) new.log old.limit seen)
      → IsFairly (data_of old.loader) old result
      → ((result ≡ Err error.Finished) ↔ (old.finished ≡ true)) → (old.finished ≡ true → new ≡ old)
      → Ends reads old new result
  ends old new (Ok graph) is_graph roots imports firsts orderly asked answered within not_yet many fair finished idle =
      record {
        is_graph = is_graph;
        roots = roots;
        imports = imports;
        firsts = firsts;
        orderly = orderly;
        asked = asked;
        answered = answered;
        within = within;
      }
  ends old new (Err error.NotYet) is_graph roots imports firsts orderly asked answered within not_yet many fair
      finished idle =
      not_yet refl
  ends old new (Err (error.TooManyModules seen)) is_graph roots imports firsts orderly asked answered within not_yet
      many fair
      finished idle = many seen refl
  ends old new (Err (error.UnaskedAnswer url)) is_graph roots imports firsts orderly asked answered within not_yet many
      fair
      finished idle = λ fresh. fair refl (λ s. rw fresh (omega arith)) url refl
  ends old new (Err error.Finished) is_graph roots imports firsts orderly asked answered within not_yet many fair
      finished idle =
      idle (finished.0 refl)
  ends old new (Err error.OutOfMemory) is_graph roots imports firsts orderly asked answered within not_yet many fair
      finished
      idle = tt

  -- a session with a graph stays
  pub stays : (old : Session M) → IsSome old.graph → Polls reads old old (Ok tt)
  stays old some = by old.graph some
    where
      by : (o : Option GraphData) → IsSome o → PollsWith reads o old old (Ok tt)
      by None h = absurd cc
      by (Some graph) h = (refl, refl)

  -- one without a graph polls its builder
  pub has_built : (old new : Session M) (graph : GraphData) → old.graph ≡ None
      → PollsBuild reads old.build new.build (Ok graph) → new.graph ≡ Some graph → Polls reads old new (Ok tt)
  has_built old new graph none polled kept =
      subst (λ (o : Option GraphData). PollsWith reads o old new (Ok tt)) (sym none) (Ok graph, polled, kept, refl)

  pub has_none : (old new : Session M) (e : BuildError) → old.graph ≡ None
      → PollsBuild reads old.build new.build (Err e) → new.graph ≡ None → Polls reads old new (Err e)
  has_none old new e none polled kept =
      subst (λ (o : Option GraphData). PollsWith reads o old new (Err e)) (sym none) (Err e, polled, kept, refl)

-- ---- an answer

-- what is told beforehand, against a part of what was given
told_part : (before own rest : Log) (s : Specifier) (a b : LoadAnswer) → answer_to own s ≡ Some a
    → only_answer (before ++ (own ++ rest)) s ≡ Some b → a ≡ b
told_part before own rest s a b is told = by (times s (keys_of (before ++ (own ++ rest)))) refl told
  where
    counted : times s (keys_of (before ++ (own ++ rest)))
        ≡ times s (keys_of before) + (times s (keys_of own) + times s (keys_of rest))
    counted =
        ap (times s) (map-append (λ (e : Specifier × LoadAnswer). e.0) before (own ++ rest))
        ∙ times-append s (keys_of before) (keys_of (own ++ rest))
        ∙ ap (λ (n : ℕ). times s (keys_of before) + n)
        (ap (times s) (map-append (λ (e : Specifier × LoadAnswer). e.0) own rest)
        ∙ times-append s (keys_of own) (keys_of rest))

    there : times s (keys_of own) ≡ 0 → ⊥
    there none = let e : Some a ≡ None = sym is ∙ unanswered s own none in absurd cc

    some : (n : ℕ) → times s (keys_of own) ≡ n → 1 ≤ times s (keys_of own)
    some zero e = absurd (there e)
    some (suc n) e = omega (arith, e)

    by : (n : ℕ) → times s (keys_of (before ++ (own ++ rest))) ≡ n
        → if_one n (answer_to (before ++ (own ++ rest)) s) ≡ Some b → a ≡ b
    by zero e h = absurd cc
    by (suc zero) e h =
        let sum = counted in
        let own_one = some (times s (keys_of own)) refl in
        let none : times s (keys_of before) ≡ 0 = omega (arith, e, sum, own_one) in
        let is_own : answer_to (before ++ (own ++ rest)) s ≡ Some a =
        then_counts before (own ++ rest) s (unanswered s before none) ∙ first_counts own rest s a is in
        let same : Some a ≡ Some b = sym is_own ∙ h in
        cc
    by (suc (suc n)) e h = absurd cc

-- the answers that a builder took are told
told_log : (l : Asking) → IsKeptAsking l → (n : ℕ) → IsToldLog (data_of l).told (log_of (last_of n (events_of l.noted)))
told_log l k n s a b is told =
    told_part (log_of (before_last n events)) (log_of (last_of n events)) (log_by l.ready) s a b is
    (ap (λ (g : Log). only_answer g s) whole ∙ sym (text (log_by l.given) l.since s not_empty) ∙ told)
  where
    events : List Event
    events = events_of l.noted

    parts : log_of (before_last n events) ++ log_of (last_of n events) ≡ log_of events
    parts =
        sym (log_of-append (before_last n events) (last_of n events))
        ∙ ap log_of (take-append-drop (length events - n) events)

    whole : log_of (before_last n events) ++ (log_of (last_of n events) ++ log_by l.ready) ≡ log_by l.given
    whole =
        sym (append_assoc (log_of (before_last n events)) (log_of (last_of n events)) (log_by l.ready))
        ∙ ap (λ (g : Log). g ++ log_by l.ready) parts ∙ k.in_order

    empty : answer_to (log_of (last_of n events)) [] ≡ None
    empty =
        let all : times [] (keys_of (log_by l.given)) ≡ times [] (keys_of (log_of (before_last n events)))
        + (times [] (keys_of (log_of (last_of n events))) + times [] (keys_of (log_by l.ready))) =
        ap (λ (g : Log). times [] (keys_of g)) (sym whole)
        ∙ ap (times [])
        (map-append (λ (e : Specifier × LoadAnswer). e.0) (log_of (before_last n events))
        (log_of (last_of n events) ++ log_by l.ready))
        ∙ times-append [] (keys_of (log_of (before_last n events)))
        (keys_of (log_of (last_of n events) ++ log_by l.ready))
        ∙ ap (λ (m : ℕ). times [] (keys_of (log_of (before_last n events))) + m)
        (ap (times []) (map-append (λ (e : Specifier × LoadAnswer). e.0) (log_of (last_of n events)) (log_by l.ready))
        ∙ times-append [] (keys_of (log_of (last_of n events))) (keys_of (log_by l.ready))) in
        let none = none_empty l.given in
        unanswered [] (log_of (last_of n events)) (omega (arith, all, none))

    not_empty : s ≡ [] → ⊥
    not_empty e =
        let one : Some a ≡ None = sym is ∙ ap (λ (t : Specifier). answer_to (log_of (last_of n events)) t) e ∙ empty in
        absurd cc

    text : (log : Log) (since : ℕ) (t : Specifier) → (t ≡ [] → ⊥) → told_by log since t ≡ only_answer log t
    text log since [] some = absurd (some refl)
    text log since (c ∷ t) some = refl

-- what an answer leaves of what a builder keeps: it is told beforehand from then on
pub told_inside : (rules : Rules) (resolves : Resolves) (roots : List Parts) (outside : List ReferrerImports)
    (before after : LoaderData) (progress : Progress) (finished : Bool) (told : AnswersTo)
    → after ≡ record before { told = told }
    → IsToldLog told (log_of (own_events (at before progress)))
    → IsInside rules resolves roots outside (at before progress) finished
    → IsInside rules resolves roots outside (at after progress) finished
told_inside rules resolves roots outside before after progress finished told is so inside =
    subst (λ (l : LoaderData). IsInside rules resolves roots outside (at l progress) finished) (sym is) record {
      starting = inside.starting;
      kept = kept inside.kept;
      live = λ h. live (inside.live h);
    }
  where
    kept : IsKeptAt rules (at before progress) → IsKeptAt rules (at (record before { told = told }) progress)
    kept k = record {
      fits = k.fits;
      own = record {
        asked_counted = k.own.asked_counted;
        taken_counted = k.own.taken_counted;
        behind = k.own.behind;
        asking = k.own.asking;
        as_told = so;
      };
    }

    live : IsLive rules (at before progress) → IsLive rules (at (record before { told = told }) progress)
    live v = record {
      kept = kept v.kept;
      behind = v.behind;
      counted = v.counted;
      room = v.room;
      building = v.building;
      timely = v.timely;
      rooted = v.rooted;
      first = record { before = v.first.before; after = v.first.after };
    }

-- an answer leaves such a builder
pub answered_inside : (rules : Rules) (resolves : Resolves) (roots : List Parts) (outside : List ReferrerImports)
    (old new : Asking) (progress : Progress) (finished : Bool)
    → data_of new ≡ record (data_of old) { told = told_by (log_by new.given) new.since } → IsKeptAsking new
    → IsInside rules resolves roots outside (at (data_of old) progress) finished
    → IsInside rules resolves roots outside (at (data_of new) progress) finished
answered_inside rules resolves roots outside old new progress finished is k inside =
    told_inside rules resolves roots outside (data_of old) (data_of new) progress finished
    (told_by (log_by new.given) new.since) is told inside
  where
    same : events_of new.noted ≡ events_of old.noted
    same = ap (λ (l : LoaderData). l.events) is

    told : IsToldLog (told_by (log_by new.given) new.since) (log_of (own_events (at (data_of old) progress)))
    told =
        subst (λ (events : List Event). IsToldLog (told_by (log_by new.given) new.since)
        (log_of (last_of (own_count (at (data_of old) progress)) events))) same
        (told_log new k (own_count (at (data_of old) progress)))

-- what contracts see of such a builder after an answer
seen_after : {W : Type 0} (ways : W) (roots : List Parts) (outside : List ReferrerImports) (progress : Progress)
    (finished : Bool) (old new : Asking)
    → data_of new ≡ record (data_of old) { told = told_by (log_by new.given) new.since }
    → seen_of new ways roots outside (at (data_of new) progress) finished
    ≡ record (seen_of old ways roots outside (at (data_of old) progress) finished) { loader = new }
seen_after ways roots outside progress finished old new is =
    ap (λ (l : LoaderData). seen_of new ways roots outside (at l progress) finished) is

pub answers_after : {W : Type 0} (result : Result Given AllocError) (n : ℕ) (answer : LoadAnswer) (ways : W)
    (roots : List Parts) (outside : List ReferrerImports) (progress : Progress) (finished : Bool) (old new : Asking)
    → IfOk result (IsGiven n answer old new)
    → data_of new ≡ record (data_of old) { told = told_by (log_by new.given) new.since }
    → IfOk result (AnswersIn n answer (seen_of old ways roots outside (at (data_of old) progress) finished)
    (seen_of new ways roots outside (at (data_of new) progress) finished))
answers_after (Ok given) n answer ways roots outside progress finished old new is same =
    (new, is, seen_after ways roots outside progress finished old new same)
answers_after (Err e) n answer ways roots outside progress finished old new is same = tt
