-- What contracts see of a loader, and what its calls do to it.
use Rattle.std.specs.Prelude.{◌≡◌, ◌⊎◌, ℕ, ◌≤◌, ◌<◌, Bool, true, List, [], ◌∷◌, ◌++◌, length, Option, Some, None, Result, Ok, Err}
use Rattle.std.specs.declared.alloc.AllocError.{AllocError}
use Rattle.graph_entry.specs.Specifier.{text_of}
use Rattle.graph_entry.specs.declared.answer.LoadAnswer.{LoadAnswer}
use Rattle.graph_builder.specs.declared.loader.LoaderPoll.{LoaderPoll}
use Rattle.graph_builder.specs.declared.loader.LoaderPoll.TheVariants.{Pending, Answer}
use Rattle.graph_builder.specs.Reach.{Specifier, Log, Answers}
use Rattle.graph_builder.specs.Events.{Event, Requested, Answered, asked_of, log_of, requests, answers}

-- What contracts see of a loader: what happened to it; how often nothing had come; how many were asked and answered when nothing
-- had come for the last time; how often nothing will come yet while something is asked for, where that is told; the answer
-- that it will give for a specifier, where that is told; and whether it tells that it answers open requests alone.
pub record LoaderData : Type 0 where
  pub events : List Event
  pub pending : ℕ
  pub standing : ℕ × ℕ
  pub patience : Option ℕ
  pub told : Answers
  pub fair : Bool

-- the highest pending count, at which it stays
abbrev pub last_count : ℕ
last_count = 18446744073709551615

-- the pending count rose, or stands at its last value
abbrev pub HasRisen : ℕ → ℕ → Type 0
HasRisen old new = (old < new) ⊎ ((old ≡ last_count) × (new ≡ last_count))

-- a number that is told stays told and doesn't rise
abbrev pub NeverRises : Option ℕ → Option ℕ → Type 0
NeverRises None None = Unit {0}
NeverRises (Some m) (Some n) = n ≤ m
NeverRises _ _ = ⊥

-- a number that is told falls
abbrev pub Falls : Option ℕ → Option ℕ → Type 0
Falls None None = Unit {0}
Falls (Some m) (Some n) = n < m
Falls _ _ = ⊥

-- the events gain the request, where it is taken
abbrev pub events_asked : List Event → Specifier → Result (Unit {0}) AllocError → List Event
events_asked events s (Ok done) = events ++ Requested s ∷ []
events_asked events s (Err _) = events

-- what asking for a specifier does
pub record HasStarted (s : Specifier) (old new : LoaderData) (result : Result (Unit {0}) AllocError) : Type 0 where
  pub events : new.events ≡ events_asked old.events s result
  pub pending : new.pending ≡ old.pending
  pub standing : new.standing ≡ old.standing
  pub patience : NeverRises old.patience new.patience
  pub told : new.told ≡ old.told
  pub fair : old.fair ≡ true → new.fair ≡ true

-- the events gain exactly the answer that is given
abbrev pub events_after : List Event → Result LoaderPoll AllocError → List Event
events_after events (Ok (Answer s answer)) = events ++ Answered (text_of s) answer ∷ []
events_after events (Ok Pending) = events
events_after events (Err _) = events

-- the count stays at an answer and rises at `Pending`, and it never falls
abbrev pub IsCounted : ℕ → ℕ → Result LoaderPoll AllocError → Type 0
IsCounted old new (Ok (Answer s answer)) = new ≡ old
IsCounted old new (Ok Pending) = HasRisen old new
IsCounted old new (Err _) = old ≤ new

-- the standing is how many were asked and answered at the last `Pending`
abbrev pub standing_after : List Event → ℕ × ℕ → Result LoaderPoll AllocError → ℕ × ℕ
standing_after events standing (Ok (Answer s answer)) = standing
standing_after events standing (Ok Pending) = (length (asked_of events), length (log_of events))
standing_after events standing (Err _) = standing

-- the patience falls at a `Pending` given while more was asked than answered
pub record IsPatient (events : List Event) (old new : Option ℕ) (result : Result LoaderPoll AllocError) : Type 0 where
  pub no_more : NeverRises old new
  pub falls : result ≡ Ok Pending → length (log_of events) < length (asked_of events) → Falls old new

-- an answer is the one that the loader tells beforehand, where it tells one
abbrev pub IsAsTold : Answers → Result LoaderPoll AllocError → Type 0
IsAsTold told (Ok (Answer s answer)) = (b : LoadAnswer) → told (text_of s) ≡ Some b → answer ≡ b
IsAsTold told (Ok Pending) = Unit {0}
IsAsTold told (Err _) = Unit {0}

-- an answer is for a specifier that was asked for more often than answered
abbrev pub IsOfRequest : List Event → Result LoaderPoll AllocError → Type 0
IsOfRequest events (Ok (Answer s answer)) = answers events (text_of s) < requests events (text_of s)
IsOfRequest events (Ok Pending) = Unit {0}
IsOfRequest events (Err _) = Unit {0}

-- what a poll does
pub record HasPolled (old new : LoaderData) (result : Result LoaderPoll AllocError) : Type 0 where
  pub events : new.events ≡ events_after old.events result
  pub pending : IsCounted old.pending new.pending result
  pub standing : new.standing ≡ standing_after old.events old.standing result
  pub patience : IsPatient old.events old.patience new.patience result
  pub told : new.told ≡ old.told
  pub as_told : IsAsTold old.told result
  pub fair : old.fair ≡ true → (new.fair ≡ true) × IsOfRequest old.events result
