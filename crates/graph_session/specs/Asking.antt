-- A loader that is answered by calls: what it was asked for, and what has no answer yet.
use Rattle.std.specs.Prelude.{◌≡◌, ◌⊎◌, ℕ, zero, suc, ◌+◌, ◌≤◌, Bool, true, false, List, [], ◌∷◌, ◌++◌, length, drop, map, slice_get, slice_set, Option, Some, None, option_map, Result, Ok, Err}
use Rattle.std.specs.Map.{keys_of}
use Rattle.std.specs.declared.alloc.AllocError.{AllocError}
use Rattle.url.specs.Parts.{Parts}
use Rattle.graph_entry.specs.Specifier.{text_of}
use Rattle.graph_entry.specs.declared.answer.LoadAnswer.{LoadAnswer}
use Rattle.graph_entry.specs.declared.answer.LoadAnswer.TheVariants.{Content}
use Rattle.graph_builder.specs.declared.loader.LoaderPoll.{LoaderPoll}
use Rattle.graph_builder.specs.declared.loader.LoaderPoll.TheVariants.{Pending, Answer}
use Rattle.graph_builder.specs.Reach.{Specifier, Log, Answers, answer_to}
use Rattle.graph_builder.specs.Graph.{texts}
use Rattle.graph_builder.specs.Events.{Event, Requested, Answered, asked_of, log_of, times}
use Rattle.graph_builder.specs.Loader.{LoaderData, last_count}
use Rattle.graph_session.specs.declared.loader.Given.{Given}
use Rattle.graph_session.specs.declared.loader.Given.TheVariants.{Taken, NotAsked, Answered as AnsweredBefore}

-- What contracts see of it.
pub record Asking : Type 0 where
  -- its requests by their numbers, and which of these are open, having no answer yet
  pub asked : List Parts
  pub open_ones : List Bool
  -- the answers that it was given, and those of them that no poll has taken yet
  pub given : List (Parts × LoadAnswer)
  pub ready : List (Parts × LoadAnswer)
  -- what happened to it, where a request has no answer beside it; the same up to when nothing had come for the last time
  pub noted : List (Parts × Option LoadAnswer)
  pub stood : List (Parts × Option LoadAnswer)
  -- how often nothing had come, and how often that was when it was given the last answer
  pub waits : ℕ
  pub since : ℕ

-- nothing happened yet
abbrev pub new_asking : Asking
new_asking = record { asked = []; open_ones = []; given = []; ready = []; noted = []; stood = []; waits = 0; since = 0 }

-- what was noted, as contracts of any loader see it
abbrev pub event : Parts → Option LoadAnswer → Event
event url None = Requested (text_of url)
event url (Some answer) = Answered (text_of url) answer

abbrev pub events_of : List (Parts × Option LoadAnswer) → List Event
events_of noted = map (λ e. event e.0 e.1) noted

-- answers by the texts of their specifiers
abbrev pub log_by : List (Parts × LoadAnswer) → Log
log_by given = map (λ e. (text_of e.0, e.1)) given

-- the answer that a session was given for a specifier: the first, where there were several
abbrev pub answers_given : Asking → Answers
answers_given l = answer_to (log_by l.given)

-- the answer of a specifier that has exactly one: it has so many
abbrev pub if_one : ℕ → Option LoadAnswer → Option LoadAnswer
if_one zero answer = None
if_one (suc zero) answer = answer
if_one (suc (suc n)) answer = None

abbrev pub only_answer : Log → Answers
only_answer log s = if_one (times s (keys_of log)) (answer_to log s)

-- What it says beforehand (`told` of a loader's data): of a specifier that was answered once, its answer; and of the empty
-- text, which no specifier has, how often nothing had come when it was given the last answer.
abbrev pub told_by : Log → ℕ → Answers
told_by log since [] = Some (Content [] (since ∷ []))
told_by log since (b ∷ s) = only_answer log (b ∷ s)

-- What contracts of any loader see of it: it answers open requests alone. Its count of times when nothing had come begins above
-- the highest of other loaders, so that it always rises.
abbrev pub data_of : Asking → LoaderData
data_of l = record {
  events = events_of l.noted;
  pending = last_count + 1 + l.waits;
  standing = (length (asked_of (events_of l.stood)), length (log_of (events_of l.stood)));
  patience = None;
  told = told_by (log_by l.given) l.since;
  fair = true;
}

-- ---- what its calls do

-- a request is open
abbrev pub IsStarted : Parts → Asking → Asking → Result (Unit {0}) AllocError → Type 0
IsStarted url old new (Ok done) = new ≡ record old {
  asked = old.asked ++ url ∷ [];
  open_ones = old.open_ones ++ true ∷ [];
  noted = old.noted ++ (url, None) ∷ [];
}
IsStarted url old new (Err e) = new ≡ old

-- a poll takes the first of the answers that wait; where there is none, nothing has come
abbrev pub IsPolledOf : List (Parts × LoadAnswer) → Asking → Asking → Result LoaderPoll AllocError → Type 0
IsPolledOf [] old new result = (result ≡ Ok Pending)
    × (new ≡ record old { waits = old.waits + 1; stood = old.noted })
IsPolledOf (e ∷ rest) old new result = (result ≡ Ok (Answer e.0 e.1))
    × (new ≡ record old { ready = rest; noted = old.noted ++ (e.0, Some e.1) ∷ [] })

abbrev pub IsPolled : Asking → Asking → Result LoaderPoll AllocError → Type 0
IsPolled old new result = IsPolledOf old.ready old new result

-- ---- which requests are open

-- the first place that has `true`, and the first from a place on
abbrev pub first_open : List Bool → Option ℕ
first_open [] = None
first_open (true ∷ bs) = Some 0
first_open (false ∷ bs) = option_map suc (first_open bs)

abbrev pub first_open_from : ℕ → List Bool → Option ℕ
first_open_from n bs = option_map (λ k. n + k) (first_open (drop n bs))

-- an answer for an open request of this specifier closes it, and polls will take it last
abbrev pub IsTakenFor : Option Parts → ℕ → LoadAnswer → Asking → Asking → Type 0
IsTakenFor (Some url) n answer old new = new ≡ record old {
  open_ones = slice_set old.open_ones n false;
  given = old.given ++ (url, answer) ∷ [];
  ready = old.ready ++ (url, answer) ∷ [];
  since = old.waits;
}
IsTakenFor None n answer old new = ⊥

-- what an answer for a request leaves: an open one is closed; else the loader stays as it was
abbrev pub IsGiven : ℕ → LoadAnswer → Asking → Asking → Given → Type 0
IsGiven n answer old new Taken =
    (slice_get old.open_ones n ≡ Some true) × IsTakenFor (slice_get old.asked n) n answer old new
IsGiven n answer old new NotAsked = (length old.asked ≤ n) × (new ≡ old)
IsGiven n answer old new AnsweredBefore = (slice_get old.open_ones n ≡ Some false) × (new ≡ old)

-- ---- what it keeps

-- the requests that aren't open
abbrev pub closed : List Bool → List Parts → List Specifier
closed [] asked = []
closed (b ∷ open_ones) [] = []
closed (true ∷ open_ones) (url ∷ asked) = closed open_ones asked
closed (false ∷ open_ones) (url ∷ asked) = text_of url ∷ closed open_ones asked

-- what holds of it at all times
pub record IsKeptAsking (l : Asking) : Type 0 where
  -- each request is noted and has a mark
  pub even : length l.open_ones ≡ length l.asked
  pub all : asked_of (events_of l.noted) ≡ texts l.asked
  -- those that aren't open are those that were answered
  pub closes : (s : Specifier) → times s (closed l.open_ones l.asked) ≡ times s (keys_of (log_by l.given))
  -- polls take the answers in their order
  pub in_order : log_of (events_of l.noted) ++ log_by l.ready ≡ log_by l.given
  -- what no poll has taken yet came after nothing had come for the last time
  pub fresh : (l.ready ≡ []) ⊎ (l.since ≡ l.waits)
  pub past : l.since ≤ l.waits
