-- A loader that is answered by calls: what its calls keep, and what contracts of any loader see of them.
use Rattle.std.proofs.Common.{Bor, suc, zero, slice_get, ◌≡◌, ◌⊎◌, inl, inr, ◌≤◌, ◌<◌, ◌+◌, ℕ, Bool, true, false, List, [], ◌∷◌, ◌++◌, length, drop, get_or, refl, sym, ◌∙◌, ap, subst, arith, Some, None, Ok}
use Rattle.std.specs.Prelude.{bytes_eq, Option, option_map, map, slice_set, cond, if◌then◌else◌, is_some}
use Rattle.std.specs.Map.{keys_of}
use Rattle.std.specs.Cmp.Lexicographic.{nat_list_eq_equiv}
use Rattle.std.proofs.lemmas.List.{drop_more, drop_all, map-append, length-append, append_assoc}
use Rattle.std.proofs.lemmas.Map.Made.{is_some-lookup}
use Rattle.std.proofs.lemmas.Option.{slice_get_read}
use Rattle.std.specs.Slice.{IsItemAt}
use Rattle.url.specs.Parts.{Parts}
use Rattle.graph_entry.specs.Specifier.{text_of}
use Rattle.graph_entry.specs.declared.answer.LoadAnswer.{LoadAnswer}
use Rattle.graph_builder.specs.Reach.{Specifier, Log, answer_to, has}
use Rattle.graph_builder.specs.Graph.{texts}
use Rattle.graph_builder.specs.declared.loader.LoaderPoll.TheVariants.{Pending, Answer}
use Rattle.graph_builder.specs.Events.{asked_of, log_of, times, requests, answers}
use Rattle.graph_builder.specs.Loader.{HasStarted, HasPolled}
use Rattle.graph_builder.proofs.EventsLemmas.{asked_of-request, log_of-request, asked_of-answer, log_of-answer, times-append, times_none, unanswered}
use Rattle.graph_session.specs.Asking.{Asking, new_asking, event, events_of, log_by, only_answer, if_one, told_by, data_of, closed, first_open, first_open_from, IsStarted, IsTakenFor, IsKeptAsking}
use Rattle.graph_session.proofs.TextLemmas.{has_text}

-- what a look-up in a list found
pub item_at : {X : Type 0} (xs : List X) (i : ℕ) (x : Bor X) → IsItemAt xs i (Some x) → slice_get xs i ≡ Some x.now
item_at xs i x found = slice_get_read xs (length xs) i x.now refl found.3.0 found.1

-- ---- what was noted

events_more : (noted : List (Parts × Option LoadAnswer)) (x : Parts × Option LoadAnswer)
    → events_of (noted ++ x ∷ []) ≡ events_of noted ++ event x.0 x.1 ∷ []
events_more noted x = map-append (λ (e : Parts × Option LoadAnswer). event e.0 e.1) noted (x ∷ [])

log_more : (given : List (Parts × LoadAnswer)) (x : Parts × LoadAnswer)
    → log_by (given ++ x ∷ []) ≡ log_by given ++ (text_of x.0, x.1) ∷ []
log_more given x = map-append (λ (e : Parts × LoadAnswer). (text_of e.0, e.1)) given (x ∷ [])

keys_more : (log : Log) (s : Specifier) (a : LoadAnswer) → keys_of (log ++ (s, a) ∷ []) ≡ keys_of log ++ s ∷ []
keys_more log s a = map-append (λ (e : Specifier × LoadAnswer). e.0) log ((s, a) ∷ [])

-- ---- which requests are open

-- a new one is open
closed_push : (marks : List Bool) (asked : List Parts) (url : Parts) → length marks ≡ length asked
    → closed (marks ++ true ∷ []) (asked ++ url ∷ []) ≡ closed marks asked
closed_push [] [] url even = refl
closed_push [] (u ∷ asked) url even = absurd cc
closed_push (b ∷ marks) [] url even = absurd cc
closed_push (true ∷ marks) (u ∷ asked) url even = closed_push marks asked url (omega (arith, even))
closed_push (false ∷ marks) (u ∷ asked) url even =
    ap (λ (l : List Specifier). text_of u ∷ l) (closed_push marks asked url (omega (arith, even)))

-- how often the specifier is this one
abbrev pub one_for : Specifier → Specifier → ℕ
one_for s t = if bytes_eq s t then 1 else 0

-- one is closed
closed_more : (s : Specifier) (marks : List Bool) (asked : List Parts) (n : ℕ) (url : Parts)
    → slice_get marks n ≡ Some true → slice_get asked n ≡ Some url
    → times s (closed (slice_set marks n false) asked) ≡ times s (closed marks asked) + one_for s (text_of url)
closed_more s [] asked n url is here = absurd cc
closed_more s (b ∷ marks) [] n url is here = absurd cc
closed_more s (false ∷ marks) (u ∷ asked) zero url is here = absurd cc
closed_more s (true ∷ marks) (u ∷ asked) zero url is here =
    let same : u ≡ url = cc in
    let one : one_for s (text_of u) ≡ one_for s (text_of url) = ap (λ (p : Parts). one_for s (text_of p)) same in
    omega (arith, one)
closed_more s (true ∷ marks) (u ∷ asked) (suc n) url is here = closed_more s marks asked n url is here
closed_more s (false ∷ marks) (u ∷ asked) (suc n) url is here =
    let rest = closed_more s marks asked n url is here in omega (arith, rest)

-- none is closed that wasn't asked for
pub closed_within : (s : Specifier) (marks : List Bool) (asked : List Parts)
    → times s (closed marks asked) ≤ times s (texts asked)
closed_within s [] asked = omega arith
closed_within s (b ∷ marks) [] = omega arith
closed_within s (true ∷ marks) (u ∷ asked) = let rest = closed_within s marks asked in omega (arith, rest)
closed_within s (false ∷ marks) (u ∷ asked) = let rest = closed_within s marks asked in omega (arith, rest)

length-set : (marks : List Bool) (n : ℕ) (b : Bool) → length (slice_set marks n b) ≡ length marks
length-set [] n b = refl
length-set (m ∷ marks) zero b = refl
length-set (m ∷ marks) (suc n) b = let rest = length-set marks n b in omega (arith, rest)

-- how often a request that isn't open is counted
abbrev pub if_closed : Bool → ℕ
if_closed true = 0
if_closed false = 1

one_self : (s : Specifier) → one_for s s ≡ 1
one_self s = rw (nat_list_eq_equiv.refl s) refl

-- what was asked for is counted
asked_once : (asked : List Parts) (n : ℕ) (url : Parts) → slice_get asked n ≡ Some url
    → 1 ≤ times (text_of url) (texts asked)
asked_once [] n url here = absurd cc
asked_once (u ∷ asked) zero url here =
    let same : u ≡ url = cc in
    let one : one_for (text_of url) (text_of u) ≡ 1 = rw same (one_self (text_of url)) in
    omega (arith, one)
asked_once (u ∷ asked) (suc n) url here = let rest = asked_once asked n url here in omega (arith, rest)

-- of what was asked for once, a request is open or counted
pub closed_at : (marks : List Bool) (asked : List Parts) (n : ℕ) (url : Parts) (b : Bool)
    → slice_get marks n ≡ Some b → slice_get asked n ≡ Some url → times (text_of url) (texts asked) ≤ 1
    → times (text_of url) (closed marks asked) ≡ if_closed b
closed_at [] asked n url b is here once = absurd cc
closed_at (m ∷ marks) [] n url b is here once = absurd cc
closed_at (m ∷ marks) (u ∷ asked) zero url b is here once =
    let same : u ≡ url = cc in
    let mark : m ≡ b = cc in
    let one : one_for (text_of url) (text_of u) ≡ 1 = rw same (one_self (text_of url)) in
    let within = closed_within (text_of url) marks asked in
    by m b mark one (omega (arith, one, once, within))
  where
    by : (m b : Bool) → m ≡ b → one_for (text_of url) (text_of u) ≡ 1 → times (text_of url) (closed marks asked) ≡ 0
        → times (text_of url) (closed (m ∷ marks) (u ∷ asked)) ≡ if_closed b
    by true true is one none = none
    by false false is one none = omega (arith, one, none)
    by true false is one none = absurd cc
    by false true is one none = absurd cc
closed_at (m ∷ marks) (u ∷ asked) (suc n) url b is here once =
    let more = asked_once asked n url here in
    let other : one_for (text_of url) (text_of u) ≡ 0 = omega (arith, once, more) in
    let rest = closed_at marks asked n url b is here (omega (arith, once, more)) in
    by m other rest
  where
    by : (m : Bool) → one_for (text_of url) (text_of u) ≡ 0 → times (text_of url) (closed marks asked) ≡ if_closed b
        → times (text_of url) (closed (m ∷ marks) (u ∷ asked)) ≡ if_closed b
    by true other rest = rest
    by false other rest = omega (arith, other, rest)

-- each request has a mark
pub has_mark : (marks : List Bool) (asked : List Parts) (n : ℕ) (url : Parts) → length marks ≡ length asked
    → slice_get asked n ≡ Some url → slice_get marks n ≡ None → ⊥
has_mark [] [] n url even here none = absurd cc
has_mark [] (u ∷ asked) n url even here none = absurd cc
has_mark (m ∷ marks) [] n url even here none = absurd cc
has_mark (m ∷ marks) (u ∷ asked) zero url even here none = absurd cc
has_mark (m ∷ marks) (u ∷ asked) (suc n) url even here none = has_mark marks asked n url (omega (arith, even)) here none

-- ---- answers

-- of two logs the first counts
pub first_counts : (xs ys : Log) (s : Specifier) (a : LoadAnswer) → answer_to xs s ≡ Some a
    → answer_to (xs ++ ys) s ≡ Some a
first_counts [] ys s a is = absurd cc
first_counts (x ∷ xs) ys s a is = by (bytes_eq s x.0) is (first_counts xs ys s a)
  where
    by : (b : Bool) → cond b (Some x.1) (answer_to xs s) ≡ Some a
        → (answer_to xs s ≡ Some a → answer_to (xs ++ ys) s ≡ Some a)
        → cond b (Some x.1) (answer_to (xs ++ ys) s) ≡ Some a
    by true h rest = h
    by false h rest = rest h

-- where it has none, the second does
pub then_counts : (xs ys : Log) (s : Specifier) → answer_to xs s ≡ None → answer_to (xs ++ ys) s ≡ answer_to ys s
then_counts [] ys s none = refl
then_counts (x ∷ xs) ys s none = by (bytes_eq s x.0) none (then_counts xs ys s)
  where
    by : (b : Bool) → cond b (Some x.1) (answer_to xs s) ≡ None
        → (answer_to xs s ≡ None → answer_to (xs ++ ys) s ≡ answer_to ys s)
        → cond b (Some x.1) (answer_to (xs ++ ys) s) ≡ answer_to ys s
    by true h rest = absurd cc
    by false h rest = rest h

front : (s : Specifier) (a : LoadAnswer) (rest : Log) → answer_to ((s, a) ∷ rest) s ≡ Some a
front s a rest = rw (nat_list_eq_equiv.refl s) refl

-- what has no answer isn't counted
pub none_counted : (log : Log) (s : Specifier) → answer_to log s ≡ None → times s (keys_of log) ≡ 0
none_counted log s none =
    times_none s (keys_of log) (sym (is_some-lookup (bytes_eq s) log) ∙ ap is_some none)

-- of what was answered at most once, the only answer is the answer
pub only_counts : (log : Log) (s : Specifier) → times s (keys_of log) ≤ 1 → only_answer log s ≡ answer_to log s
only_counts log s once = by (times s (keys_of log)) refl once
  where
    by : (n : ℕ) → times s (keys_of log) ≡ n → n ≤ 1 → if_one n (answer_to log s) ≡ answer_to log s
    by zero e le = sym (unanswered s log e)
    by (suc zero) e le = refl
    by (suc (suc n)) e le = absurd (omega (arith, le))

-- the only answer is any answer
only_is : (before rest : Log) (s : Specifier) (a b : LoadAnswer) → only_answer (before ++ (s, a) ∷ rest) s ≡ Some b
    → a ≡ b
only_is before rest s a b is = by (times s (keys_of (before ++ (s, a) ∷ rest))) refl is
  where
    counted : times s (keys_of (before ++ (s, a) ∷ rest))
        ≡ times s (keys_of before) + (one_for s s + times s (keys_of rest))
    counted =
        ap (times s) (map-append (λ (e : Specifier × LoadAnswer). e.0) before ((s, a) ∷ rest))
        ∙ times-append s (keys_of before) (s ∷ keys_of rest)

    by : (n : ℕ) → times s (keys_of (before ++ (s, a) ∷ rest)) ≡ n
        → if_one n (answer_to (before ++ (s, a) ∷ rest) s) ≡ Some b → a ≡ b
    by zero e h = absurd cc
    by (suc zero) e h =
        let one = one_self s in
        let sum = counted in
        let none : times s (keys_of before) ≡ 0 = omega (arith, e, sum, one) in
        let is_front : answer_to (before ++ (s, a) ∷ rest) s ≡ Some a =
        then_counts before ((s, a) ∷ rest) s (unanswered s before none) ∙ front s a rest in
        let same : Some a ≡ Some b = sym is_front ∙ h in
        cc
    by (suc (suc n)) e h = absurd cc

-- of a specifier it tells the only answer
pub told_text : (log : Log) (since : ℕ) (s : Specifier) → (s ≡ [] → ⊥) → told_by log since s ≡ only_answer log s
told_text log since [] some = absurd (some refl)
told_text log since (b ∷ s) some = refl

-- ---- what holds at all times

-- a loader that was asked nothing
pub kept_new : IsKeptAsking new_asking
kept_new = record { even = refl; all = refl; closes = λ s. refl; in_order = refl; fresh = inl refl; past = omega arith }

-- one request more
pub kept_started : (old new : Asking) (url : Parts) → IsKeptAsking old → IsStarted url old new (Ok tt)
    → IsKeptAsking new
kept_started old new url k is = subst (λ (l : Asking). IsKeptAsking l) (sym is) record {
  even =
      let a = length-append old.open_ones (true ∷ []) in
      let b = length-append old.asked (url ∷ []) in
      let c = k.even in
      omega (arith, a, b, c);
  all = ap asked_of (events_more old.noted (url, None)) ∙ asked_of-request (events_of old.noted) (text_of url)
      ∙ ap (λ (l : List Specifier). l ++ text_of url ∷ []) k.all ∙ sym (map-append text_of old.asked (url ∷ []));
  closes = λ s. ap (times s) (closed_push old.open_ones old.asked url k.even) ∙ k.closes s;
  in_order = ap (λ (l : Log). l ++ log_by old.ready)
      (ap log_of (events_more old.noted (url, None)) ∙ log_of-request (events_of old.noted) (text_of url)) ∙ k.in_order;
  fresh = k.fresh;
  past = k.past;
}

-- the first of the answers is taken
pub kept_taken : (old new : Asking) (url : Parts) (answer : LoadAnswer) (rest : List (Parts × LoadAnswer))
    → IsKeptAsking old → old.ready ≡ (url, answer) ∷ rest
    → new ≡ record old { ready = rest; noted = old.noted ++ (url, Some answer) ∷ [] } → IsKeptAsking new
kept_taken old new url answer rest k first is = subst (λ (l : Asking). IsKeptAsking l) (sym is) record {
  even = k.even;
  all = ap asked_of (events_more old.noted (url, Some answer))
      ∙ asked_of-answer (events_of old.noted) (text_of url) answer ∙ k.all;
  closes = k.closes;
  in_order = ap (λ (l : Log). l ++ log_by rest)
      (ap log_of (events_more old.noted (url, Some answer)) ∙ log_of-answer (events_of old.noted) (text_of url) answer)
      ∙ append_assoc (log_of (events_of old.noted)) ((text_of url, answer) ∷ []) (log_by rest)
      ∙ ap (λ (l : List (Parts × LoadAnswer)). log_of (events_of old.noted) ++ log_by l) (sym first) ∙ k.in_order;
  fresh = by k.fresh;
  past = k.past;
}
  where
    by : (old.ready ≡ []) ⊎ (old.since ≡ old.waits) → (rest ≡ []) ⊎ (old.since ≡ old.waits)
    by (inl none) = absurd cc
    by (inr e) = inr e

-- nothing has come
pub kept_waited : (old new : Asking) → IsKeptAsking old → old.ready ≡ []
    → new ≡ record old { waits = old.waits + 1; stood = old.noted } → IsKeptAsking new
kept_waited old new k none is = subst (λ (l : Asking). IsKeptAsking l) (sym is) record {
  even = k.even;
  all = k.all;
  closes = k.closes;
  in_order = k.in_order;
  fresh = inl none;
  past = let le = k.past in omega (arith, le);
}

-- an open request is answered
pub kept_given : (old new : Asking) (n : ℕ) (url : Parts) (answer : LoadAnswer)
    → IsKeptAsking old → slice_get old.open_ones n ≡ Some true → slice_get old.asked n ≡ Some url
    → new ≡ record old {
      open_ones = slice_set old.open_ones n false;
      given = old.given ++ (url, answer) ∷ [];
      ready = old.ready ++ (url, answer) ∷ [];
      since = old.waits;
    } → IsKeptAsking new
kept_given old new n url answer k is here changed = subst (λ (l : Asking). IsKeptAsking l) (sym changed) record {
  even = length-set old.open_ones n false ∙ k.even;
  all = k.all;
  closes = λ s.
      let before = k.closes s in
      let less = closed_more s old.open_ones old.asked n url is here in
      let more : times s (keys_of (log_by (old.given ++ (url, answer) ∷ [])))
      ≡ times s (keys_of (log_by old.given)) + times s (text_of url ∷ []) =
      ap (λ (l : Log). times s (keys_of l)) (log_more old.given (url, answer))
      ∙ ap (times s) (keys_more (log_by old.given) (text_of url) answer)
      ∙ times-append s (keys_of (log_by old.given)) (text_of url ∷ []) in
      omega (arith, before, less, more);
  in_order = ap (λ (l : Log). log_of (events_of old.noted) ++ l) (log_more old.ready (url, answer))
      ∙ sym (append_assoc (log_of (events_of old.noted)) (log_by old.ready) ((text_of url, answer) ∷ []))
      ∙ ap (λ (l : Log). l ++ (text_of url, answer) ∷ []) k.in_order ∙ sym (log_more old.given (url, answer));
  fresh = inr refl;
  past = omega arith;
}

-- what an answer for an open request leaves
pub taken_for : (old new : Asking) (n : ℕ) (url : Parts) (answer : LoadAnswer) → slice_get old.asked n ≡ Some url
    → new ≡ record old {
      open_ones = slice_set old.open_ones n false;
      given = old.given ++ (url, answer) ∷ [];
      ready = old.ready ++ (url, answer) ∷ [];
      since = old.waits;
    } → IsTakenFor (slice_get old.asked n) n answer old new
taken_for old new n url answer here is = rw here is

-- ---- what contracts of any loader see

-- a request
pub started : (old new : Asking) (url : Parts) → IsStarted url old new (Ok tt)
    → HasStarted (text_of url) (data_of old) (data_of new) (Ok tt)
started old new url is =
    subst (λ (l : Asking). HasStarted (text_of url) (data_of old) (data_of l) (Ok tt)) (sym is) record {
      events = events_more old.noted (url, None);
      pending = refl;
      standing = refl;
      patience = tt;
      told = refl;
      fair = λ h. refl;
    }

-- an answer
pub gave : (old new : Asking) (url : Parts) (answer : LoadAnswer) (rest : List (Parts × LoadAnswer))
    → IsKeptAsking old → old.ready ≡ (url, answer) ∷ rest
    → new ≡ record old { ready = rest; noted = old.noted ++ (url, Some answer) ∷ [] }
    → HasPolled (data_of old) (data_of new) (Ok (Answer url answer))
gave old new url answer rest k first is =
    let s : Specifier = text_of url in
    let order : log_of (events_of old.noted) ++ (s, answer) ∷ log_by rest ≡ log_by old.given =
    ap (λ (l : List (Parts × LoadAnswer)). log_of (events_of old.noted) ++ log_by l) (sym first) ∙ k.in_order in
    let before = k.closes s in
    let within = closed_within s old.open_ones old.asked in
    let asks : times s (asked_of (events_of old.noted)) ≡ times s (texts old.asked) = ap (times s) k.all in
    let one = one_self s in
    let all : times s (keys_of (log_by old.given))
    ≡ times s (keys_of (log_of (events_of old.noted))) + (one_for s s + times s (keys_of (log_by rest))) =
    ap (λ (l : Log). times s (keys_of l)) (sym order)
    ∙ ap (times s)
    (map-append (λ (e : Specifier × LoadAnswer). e.0) (log_of (events_of old.noted)) ((s, answer) ∷ log_by rest))
    ∙ times-append s (keys_of (log_of (events_of old.noted))) (s ∷ keys_of (log_by rest)) in
    subst (λ (l : Asking). HasPolled (data_of old) (data_of l) (Ok (Answer url answer))) (sym is) record {
      events = events_more old.noted (url, Some answer);
      pending = refl;
      standing = refl;
      patience = record { no_more = tt; falls = λ h more. absurd cc };
      told = refl;
      as_told = λ b told.
          only_is (log_of (events_of old.noted)) (log_by rest) s answer b
          (ap (λ (l : Log). only_answer l s) order ∙ sym (told_text (log_by old.given) old.since s (has_text url))
          ∙ told);
      fair = λ h. (refl, omega (arith, before, within, asks, one, all));
    }

-- nothing has come
pub waited : (old new : Asking) → new ≡ record old { waits = old.waits + 1; stood = old.noted }
    → HasPolled (data_of old) (data_of new) (Ok Pending)
waited old new is = subst (λ (l : Asking). HasPolled (data_of old) (data_of l) (Ok Pending)) (sym is) record {
  events = refl;
  pending = inl (omega arith);
  standing = refl;
  patience = record { no_more = tt; falls = λ h more. tt };
  told = refl;
  as_told = tt;
  fair = λ h. (refl, tt);
}

-- ---- the first open one

shift : (at : ℕ) (f : Option ℕ) → option_map (λ k. at + k) (option_map suc f) ≡ option_map (λ k. at + 1 + k) f
shift at None = refl
shift at (Some k) = ap Some (omega arith)

-- none is open from the end on
pub from_end : (marks : List Bool) (at : ℕ) → length marks ≤ at → first_open_from at marks ≡ None
from_end marks at le = rw (drop_all at marks le) refl

-- an open one is the first from its place on
pub from_open : (marks : List Bool) (at : ℕ) → at < length marks → get_or marks at false ≡ true
    → first_open_from at marks ≡ Some at
from_open marks at lt on = rw (drop_more marks at false lt, on) (ap Some (omega arith))

-- a closed one makes no difference
pub from_closed : (marks : List Bool) (at : ℕ) → at < length marks → get_or marks at false ≡ false
    → first_open_from at marks ≡ first_open_from (at + 1) marks
from_closed marks at lt off = rw (drop_more marks at false lt, off) (shift at (first_open (drop (at + 1) marks)))
