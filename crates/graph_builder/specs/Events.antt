-- What happened to a loader, in time: it was asked for specifiers, and it answered.
use Rattle.std.specs.Prelude.{◌≡◌, ℕ, ◌+◌, ◌≤◌, Bool, true, List, [], ◌∷◌, ◌++◌, bytes_eq, Option, None, if◌then◌else◌}
use Rattle.std.specs.Map.{keys_of}
use Rattle.graph_entry.specs.declared.answer.LoadAnswer.{LoadAnswer}
use Rattle.graph_builder.specs.Reach.{Specifier, Log, answer_to, has}

-- it was asked for a specifier, or it answered one
pub data Event : Type 0 where
  Requested : Specifier → Event
  Answered : Specifier → LoadAnswer → Event

-- the specifiers that it was asked for
abbrev pub asked_of : List Event → List Specifier
asked_of [] = []
asked_of (Requested s ∷ events) = s ∷ asked_of events
asked_of (Answered s answer ∷ events) = asked_of events

-- the answers that it gave
abbrev pub log_of : List Event → Log
log_of [] = []
log_of (Requested s ∷ events) = log_of events
log_of (Answered s answer ∷ events) = (s, answer) ∷ log_of events

-- the specifier is asked and has no answer yet
abbrev pub IsOutstanding : List Specifier → Log → Specifier → Type 0
IsOutstanding asked log s = (has asked s ≡ true) × (answer_to log s ≡ None)

-- after the events so far, whatever was answered was outstanding when its answer came
abbrev pub IsTimelyAfter : List Event → List Event → Type 0
IsTimelyAfter before [] = Unit {0}
IsTimelyAfter before (Requested s ∷ events) = IsTimelyAfter (before ++ Requested s ∷ []) events
IsTimelyAfter before (Answered s answer ∷ events) =
    IsOutstanding (asked_of before) (log_of before) s × IsTimelyAfter (before ++ Answered s answer ∷ []) events

-- whatever was answered was outstanding when its answer came
abbrev pub IsTimely : List Event → Type 0
IsTimely events = IsTimelyAfter [] events

-- how often a list holds the specifier
abbrev pub times : Specifier → List Specifier → ℕ
times s [] = 0
times s (t ∷ more) = (if bytes_eq s t then 1 else 0) + times s more

-- how often the specifier was asked for, and how often it was answered
abbrev pub requests : List Event → Specifier → ℕ
requests events s = times s (asked_of events)

abbrev pub answers : List Event → Specifier → ℕ
answers events s = times s (keys_of (log_of events))

-- no request is open: each specifier was answered as often as it was asked for, or more often
abbrev pub IsSettled : List Event → Type 0
IsSettled events = (s : Specifier) → requests events s ≤ answers events s
