-- A batch of answers in hand: they were taken, and have no entries yet.
use Rattle.std.specs.Prelude.{◌≡◌, ◌≤◌, ◌<◌, ◌+◌, ℕ, Bool, true, false, List, [], ◌++◌, length, map, Some, Result, Ok, Err}
use Rattle.std.specs.List.{AllByRecursion, AllZip}
use Rattle.std.specs.Map.{keys_of}
use Rattle.url.specs.Parts.{Parts}
use Rattle.graph_entry.specs.declared.answer.LoadAnswer.{LoadAnswer}
use Rattle.graph_entry.specs.declared.entry.Entry.{Entry}
use Rattle.graph_entry.specs.Specifier.{text_of}
use Rattle.graph_builder.specs.declared.error.BuildError.{BuildError}
use Rattle.graph_builder.specs.declared.error.BuildError.TheVariants as error
use Rattle.graph_builder.specs.declared.batched.Taken.{Taken}
use Rattle.graph_builder.specs.declared.reaching.GrowError.{GrowError}
use Rattle.graph_builder.specs.declared.reaching.GrowError.TheVariants as grow
use Rattle.graph_builder.specs.declared.slot.Slot.TheVariants.{Asked}
use Rattle.graph_builder.specs.Rules.{Means}
use Rattle.graph_builder.specs.Reach.{Specifier, Log, Rules, answer_to, has}
use Rattle.graph_builder.specs.Events.{IsTimely}
use Rattle.graph_builder.specs.Builder.{IsTooMany}
use Rattle.graph_builder.specs.Building.{IsBuilding}
use Rattle.graph_builder.specs.Reaching.{HasRoom}
use Rattle.graph_builder.specs.Progress.{At, starts_at, own_events, own_asked, own_log, slots_at, todo_at, IsKeptAt, IsRooted, HasFirst, IsLive, HasWaited, IsUnasked}

-- the answers, in the order in which they came
abbrev pub Hand : Type 0
Hand = List (Parts × LoadAnswer)

-- as the log has them
abbrev pub logged : Parts × LoadAnswer → Specifier × LoadAnswer
logged p = (text_of p.0, p.1)

abbrev pub log_in : Hand → Log
log_in hand = map logged hand

-- an answer for the specifier is in hand
abbrev pub in_hand : Hand → Specifier → Bool
in_hand hand t = has (keys_of (log_in hand)) t

-- the entry stands beside the answer's specifier and is what the answer means
abbrev pub IsMeant : Means → Parts × LoadAnswer → Parts × Entry → Type 0
IsMeant means answer made = (made.0 ≡ answer.0) × means (text_of answer.0) (Some answer.1) made.1

-- the same of each, in order
abbrev pub AreMeant : Means → Hand → List (Parts × Entry) → Type 0
AreMeant means hand made = AllZip (IsMeant means) hand made

-- what holds of a builder with these answers in hand
pub record IsHolding (rules : Rules) (x : At) (hand : Hand) : Type 0 where
  pub kept : IsKeptAt rules x
  pub behind : x.progress.taken ≤ x.progress.asked
  pub counted : x.progress.asked + length (todo_at x) ≤ length x.progress.reaching.reached
  pub room : HasRoom x.progress.reaching
  pub building : IsBuilding rules (starts_at x) (in_hand hand) (own_asked x) (own_log x) (slots_at x) (todo_at x)
  pub timely : IsTimely (own_events x)
  pub rooted : IsRooted x
  pub first : HasFirst x
  pub held : AllByRecursion (λ p. answer_to (own_log x) (text_of p.0) ≡ Some p.1) hand

-- the same while more of the batch is taken: the answers in hand are the last ones, and none of them is waited for any more
pub record IsTaking (rules : Rules) (x : At) (hand : Hand) : Type 0 where
  pub holding : IsHolding rules x hand
  pub asked_all : todo_at x ≡ []
  pub begun : x.progress.begun ≡ true
  pub before : Log
  pub last : own_log x ≡ before ++ log_in hand
  pub once : (t : Specifier) → in_hand hand t ≡ true → slots_at x t ≡ Some Asked → ⊥

-- some answers were taken, or the loader had nothing to give after those that were
abbrev pub HasCome : Bool → At → At → Type 0
HasCome true old new = HasWaited old new × (new.progress.taken < new.progress.asked)
HasCome false old new = (new.loader.pending ≡ old.loader.pending) × (old.progress.taken < new.progress.taken)

-- answers are taken in hand, or one is refused
abbrev pub TakesSome : Rules → ℕ → At → At → Result Taken BuildError → Type 0
TakesSome rules batch old new (Ok taken) = IsTaking rules new taken.answers.items × HasCome taken.waits old new
TakesSome rules batch old new (Err (error.UnaskedAnswer url)) = IsUnasked rules batch old new (text_of url)
TakesSome rules batch old new (Err error.OutOfMemory) = Unit {0}
TakesSome rules batch old new (Err (error.TooManyModules seen)) = ⊥
TakesSome rules batch old new (Err error.NotYet) = ⊥
TakesSome rules batch old new (Err error.Finished) = ⊥

-- the answers in hand have their entries
abbrev pub FillsAll : Rules → At → At → Result (Unit {0}) GrowError → Type 0
FillsAll rules old new (Ok done) = IsLive rules new
FillsAll rules old new (Err (grow.TooMany seen)) =
    IsTooMany rules (starts_at old) (own_log old) old.progress.reaching.limit seen
FillsAll rules old new (Err grow.OutOfMemory) = Unit {0}

-- the same, and where the loader waits all that is reached is asked for
abbrev pub Enters : Rules → Bool → At → At → Result Bool BuildError → Type 0
Enters rules waits old new (Ok more) = (waits ≡ false) × (more ≡ true) × IsLive rules new
Enters rules waits old new (Err error.NotYet) = (waits ≡ true) × IsLive rules new × (todo_at new ≡ [])
Enters rules waits old new (Err (error.TooManyModules seen)) =
    IsTooMany rules (starts_at old) (own_log old) old.progress.reaching.limit seen
Enters rules waits old new (Err error.OutOfMemory) = Unit {0}
Enters rules waits old new (Err (error.UnaskedAnswer url)) = ⊥
Enters rules waits old new (Err error.Finished) = ⊥
