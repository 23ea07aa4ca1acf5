-- What holds of a builder that goes on, beside its loader's data.
use Rattle.std.specs.Prelude.{◌≡◌, ◌≤◌, ◌<◌, ◌+◌, ◌-◌, ℕ, Bool, true, false, List, [], ◌∷◌, ◌++◌, length, take, slice_get, Some, None, Result, Ok, Err}
use Rattle.url.specs.Parts.{Parts}
use Rattle.graph_entry.specs.declared.answer.LoadAnswer.{LoadAnswer}
use Rattle.graph_entry.specs.declared.entry.Entry.{Entry}
use Rattle.graph_entry.specs.Specifier.{text_of}
use Rattle.graph_builder.specs.declared.error.BuildError.{BuildError}
use Rattle.graph_builder.specs.declared.error.BuildError.TheVariants as error
use Rattle.graph_builder.specs.declared.slot.Slot.TheVariants.{Queued, Asked}
use Rattle.graph_builder.specs.declared.reaching.GrowError.{GrowError}
use Rattle.graph_builder.specs.declared.reaching.GrowError.TheVariants as grow
use Rattle.graph_builder.specs.declared.reaching.Reaching.{Reaching}
use Rattle.graph_builder.specs.declared.progress.Progress.{Progress}
use Rattle.graph_builder.specs.Rules.{targets}
use Rattle.graph_builder.specs.Reach.{Specifier, Log, Rules, has, IsFunctional}
use Rattle.graph_builder.specs.Graph.{texts, different}
use Rattle.graph_builder.specs.ByText.{keys_at}
use Rattle.graph_builder.specs.Events.{Event, Answered, asked_of, log_of, IsOutstanding, IsTimely, requests, answers}
use Rattle.graph_builder.specs.Loader.{LoaderData, HasRisen, NeverRises, Falls}
use Rattle.graph_builder.specs.Builder.{last_of, before_last, GoesOn, IsKept, IsOrderly, IsTooMany, IsUnawaitedOver, SomeOutstanding}
use Rattle.graph_builder.specs.Slots.{Slots, IsOverfull}
use Rattle.graph_builder.specs.Building.{IsBuilding, no_one, this_one}
use Rattle.graph_builder.specs.Reaching.{slots_of, todo_of, HasRoom, IsFilled}

-- a loader's data, and how far the builder is
pub record At : Type 0 where
  pub loader : LoaderData
  pub progress : Progress

abbrev pub at : LoaderData → Progress → At
at loader0 progress0 = record { loader = loader0; progress = progress0 }

-- the starts, and what happened to the loader since this builder was made: what it asked and was answered
abbrev pub starts_at : At → List Specifier
starts_at x = texts x.progress.starts

abbrev pub own_count : At → ℕ
own_count x = x.progress.asked + x.progress.taken

abbrev pub own_events : At → List Event
own_events x = last_of (own_count x) x.loader.events

abbrev pub own_asked : At → List Specifier
own_asked x = asked_of (own_events x)

abbrev pub own_log : At → Log
own_log x = log_of (own_events x)

-- what the loader was asked and answered before
abbrev pub asked_before : At → List Specifier
asked_before x = asked_of (before_last (own_count x) x.loader.events)

abbrev pub log_before : At → Log
log_before x = log_of (before_last (own_count x) x.loader.events)

-- the slots and the worklist
abbrev pub slots_at : At → Slots
slots_at x = slots_of x.progress.reaching

abbrev pub todo_at : At → List Specifier
todo_at x = todo_of x.progress.reaching

-- what holds at all times
abbrev pub IsKeptAt : Rules → At → Type 0
IsKeptAt rules x = IsKept rules (starts_at x) x.loader.events x.loader.told x.progress.asked x.progress.taken

-- the starts are reached once the builder has begun
abbrev pub IsRooted : At → Type 0
IsRooted x = x.progress.begun ≡ true → (t : Specifier) → has (starts_at x) t ≡ true → slots_at x t ≡ None → ⊥

-- the different starts have the first numbers once the builder has begun, and nothing has one before
pub record HasFirst (x : At) : Type 0 where
  pub before : x.progress.begun ≡ false → x.progress.reaching.reached ≡ []
  pub after : x.progress.begun ≡ true → GoesOn (different (starts_at x)) (keys_at x.progress.reaching.reached)

-- what holds while the builder goes on
pub record IsLive (rules : Rules) (x : At) : Type 0 where
  pub kept : IsKeptAt rules x
  pub behind : x.progress.taken ≤ x.progress.asked
  pub counted : x.progress.asked + length (todo_at x) ≤ length x.progress.reaching.reached
  pub room : HasRoom x.progress.reaching
  pub building : IsBuilding rules (starts_at x) no_one (own_asked x) (own_log x) (slots_at x) (todo_at x)
  pub timely : IsTimely (own_events x)
  pub rooted : IsRooted x
  pub first : HasFirst x

-- the same with one specifier in hand, which was taken from the worklist
pub record IsInHand (rules : Rules) (x : At) (s : Specifier) : Type 0 where
  pub kept : IsKeptAt rules x
  pub behind : x.progress.taken ≤ x.progress.asked
  pub counted : x.progress.asked + length (todo_at x) + 1 ≤ length x.progress.reaching.reached
  pub room : HasRoom x.progress.reaching
  pub building : IsBuilding rules (starts_at x) (this_one s) (own_asked x) (own_log x) (slots_at x) (todo_at x)
  pub queued : slots_at x s ≡ Some Queued
  pub fresh : has (own_asked x) s ≡ false
  pub timely : IsTimely (own_events x)
  pub rooted : IsRooted x
  pub first : HasFirst x

-- the one in hand has this number
abbrev pub IsInHandAt : Rules → At → ℕ → Type 0
IsInHandAt rules x n = (s : Specifier) × (slice_get (keys_at x.progress.reaching.reached) n ≡ Some s) × IsInHand rules x s

-- the events go on, and requests and answers are counted
pub record GoOn (old new : List Event) (asked taken asked_now taken_now : ℕ) : Type 0 where
  pub more : List Event
  pub is : new ≡ old ++ more
  pub asked_counted : asked_now ≡ asked + length (asked_of more)
  pub taken_counted : taken_now ≡ taken + length (log_of more)

-- what every step keeps
pub record GoesOnAt (old new : At) : Type 0 where
  pub starts : new.progress.starts ≡ old.progress.starts
  pub limit : new.progress.reaching.limit ≡ old.progress.reaching.limit
  pub events : GoOn old.loader.events new.loader.events old.progress.asked old.progress.taken new.progress.asked new.progress.taken
  pub told : new.loader.told ≡ old.loader.told
  pub pending : old.loader.pending ≤ new.loader.pending
  pub patience : NeverRises old.loader.patience new.loader.patience
  pub fair : old.loader.fair ≡ true → new.loader.fair ≡ true

-- the loader was only asked
pub record OnlyAsks (old new : At) : Type 0 where
  pub goes : GoesOnAt old new
  pub none : log_of goes.events.more ≡ []
  pub taken : new.progress.taken ≡ old.progress.taken
  pub begun : new.progress.begun ≡ old.progress.begun
  pub pending : new.loader.pending ≡ old.loader.pending
  pub standing : new.loader.standing ≡ old.loader.standing

-- the next specifier of the worklist is dealt with, which makes the work less
pub record IsOneOn (rules : Rules) (old new : At) : Type 0 where
  pub live : IsLive rules new
  pub less : length new.progress.reaching.reached + length (todo_at old)
      ≡ length old.progress.reaching.reached + length (todo_at new) + 1

-- the starts are reached
abbrev pub Begins : Rules → At → At → Result (Unit {0}) GrowError → Type 0
Begins rules old new (Ok done) = IsLive rules new × (new.progress.begun ≡ true)
Begins rules old new (Err (grow.TooMany seen)) =
    IsTooMany rules (starts_at old) (own_log old) old.progress.reaching.limit seen
Begins rules old new (Err grow.OutOfMemory) = Unit {0}

-- one specifier is in hand, and then it is dealt with
abbrev pub Deals : Rules → At → At → Result (Unit {0}) GrowError → Type 0
Deals rules old new (Ok done) = IsLive rules new
    × (length new.progress.reaching.reached + length (todo_at old)
    ≡ length old.progress.reaching.reached + length (todo_at new))
Deals rules old new (Err (grow.TooMany seen)) =
    IsTooMany rules (starts_at old) (own_log old) old.progress.reaching.limit seen
Deals rules old new (Err grow.OutOfMemory) = Unit {0}

-- the worklist has a next specifier or is empty
abbrev pub AsksNext : Rules → At → At → Result Bool GrowError → Type 0
AsksNext rules old new (Ok true) = IsOneOn rules old new
AsksNext rules old new (Ok false) = IsLive rules new × (todo_at new ≡ [])
AsksNext rules old new (Err (grow.TooMany seen)) =
    IsTooMany rules (starts_at old) (own_log old) old.progress.reaching.limit seen
AsksNext rules old new (Err grow.OutOfMemory) = Unit {0}

-- the worklist is empty
abbrev pub AsksAll : Rules → At → At → Result (Unit {0}) GrowError → Type 0
AsksAll rules old new (Ok done) = IsLive rules new × (todo_at new ≡ [])
AsksAll rules old new (Err (grow.TooMany seen)) =
    IsTooMany rules (starts_at old) (own_log old) old.progress.reaching.limit seen
AsksAll rules old new (Err grow.OutOfMemory) = Unit {0}

-- a specifier that no loader is asked for has its entry
abbrev pub FillsUnasked : Rules → Specifier → Reaching → Reaching → Result (Unit {0}) GrowError → Type 0
FillsUnasked rules s old new (Ok done) = (entry : Entry) × rules.means s None entry × IsFilled rules s entry old new
FillsUnasked rules s old new (Err (grow.TooMany seen)) =
    (entry : Entry) × rules.means s None entry × IsOverfull (targets rules entry) (slots_of old) old.limit seen
FillsUnasked rules s old new (Err grow.OutOfMemory) = Unit {0}

-- an answer for a specifier that waits becomes its entry
abbrev pub Takes : Rules → Parts → LoadAnswer → Reaching → Reaching → Result (Unit {0}) BuildError → Type 0
Takes rules url answer old new (Ok done) = (slots_of old (text_of url) ≡ Some Asked)
    × ((entry : Entry) × rules.means (text_of url) (Some answer) entry × IsFilled rules (text_of url) entry old new)
Takes rules url answer old new (Err (error.TooManyModules seen)) = (slots_of old (text_of url) ≡ Some Asked)
    × ((entry : Entry) × rules.means (text_of url) (Some answer) entry × IsOverfull (targets rules entry) (slots_of old) old.limit seen)
Takes rules url answer old new (Err (error.UnaskedAnswer other)) =
    (other ≡ url) × (slots_of old (text_of url) ≡ Some Asked → ⊥)
Takes rules url answer old new (Err error.OutOfMemory) = slots_of old (text_of url) ≡ Some Asked
Takes rules url answer old new (Err error.NotYet) = ⊥
Takes rules url answer old new (Err error.Finished) = ⊥

-- the loader had nothing to give
pub record HasWaited (old new : At) : Type 0 where
  pub counted : HasRisen old.loader.pending new.loader.pending
  pub standing : new.loader.standing ≡ (length (asked_of new.loader.events), length (log_of new.loader.events))
  pub patience : length (log_of new.loader.events) < length (asked_of new.loader.events) → Falls old.loader.patience new.loader.patience

-- the builder waits for its loader
pub record IsPaused (rules : Rules) (old new : At) : Type 0 where
  pub live : IsLive rules new
  pub asked_all : todo_at new ≡ []
  pub begun : new.progress.begun ≡ true
  pub open_yet : new.progress.taken < new.progress.asked
  pub counted : HasRisen old.loader.pending new.loader.pending
  -- the last `Pending` came after the last answer
  pub stands : new.loader.standing.1 ≡ length (log_of new.loader.events)
  -- and while a request of this builder was outstanding
  pub stood_open : SomeOutstanding (take (new.loader.standing.0 - length (asked_before new)) (own_asked new)) (own_log new)
  pub patience : length (asked_before new) ≡ length (log_before new) → Falls old.loader.patience new.loader.patience

-- the last answer wasn't awaited; `batch` answers are taken before any of them is analysed
pub record IsUnasked (rules : Rules) (batch : ℕ) (old new : At) (s : Specifier) : Type 0 where
  pub before : List Event
  pub answer : LoadAnswer
  pub last : own_events new ≡ before ++ Answered s answer ∷ []
  pub goes_on : (more : List Event) × (before ≡ own_events old ++ more)
  pub orderly : IsOrderly rules (starts_at old) (log_of before)
  pub outstanding : SomeOutstanding (own_asked new) (log_of before)
  pub settled : IsOutstanding (own_asked new) (log_of before) s → ⊥
  pub unawaited : IsFunctional rules → IsUnawaitedOver rules batch (starts_at old) (log_of before) s
  pub pending : new.loader.pending ≡ old.loader.pending
  -- and a loader that answers open requests alone had one
  pub fair : old.loader.fair ≡ true
      → answers (before_last (own_count new) new.loader.events ++ before) s < requests (before_last (own_count new) new.loader.events ++ before) s

-- all is asked for and answered
pub record IsThrough (rules : Rules) (old new : At) : Type 0 where
  pub live : IsLive rules new
  pub asked_all : todo_at new ≡ []
  pub begun : new.progress.begun ≡ true
  pub all_taken : new.progress.taken ≡ new.progress.asked
  pub pending : new.loader.pending ≡ old.loader.pending

-- why a run ends
abbrev pub Runs : Rules → ℕ → At → At → Result (Unit {0}) BuildError → Type 0
Runs rules batch old new (Ok done) = IsThrough rules old new
Runs rules batch old new (Err error.NotYet) = IsPaused rules old new
Runs rules batch old new (Err (error.TooManyModules seen)) =
    IsTooMany rules (starts_at old) (own_log new) old.progress.reaching.limit seen
Runs rules batch old new (Err (error.UnaskedAnswer url)) = IsUnasked rules batch old new (text_of url)
Runs rules batch old new (Err error.Finished) = ⊥
Runs rules batch old new (Err error.OutOfMemory) = Unit {0}

-- one turn of a run: it is through, or it goes on with more answers
abbrev pub Turns : Rules → ℕ → At → At → Result Bool BuildError → Type 0
Turns rules batch old new (Ok true) = IsLive rules new × (new.progress.begun ≡ true)
    × (old.progress.taken < new.progress.taken) × (new.loader.pending ≡ old.loader.pending)
Turns rules batch old new (Ok false) = IsThrough rules old new
Turns rules batch old new (Err error.NotYet) = IsPaused rules old new
Turns rules batch old new (Err (error.TooManyModules seen)) =
    IsTooMany rules (starts_at old) (own_log new) old.progress.reaching.limit seen
Turns rules batch old new (Err (error.UnaskedAnswer url)) = IsUnasked rules batch old new (text_of url)
Turns rules batch old new (Err error.Finished) = ⊥
Turns rules batch old new (Err error.OutOfMemory) = Unit {0}
