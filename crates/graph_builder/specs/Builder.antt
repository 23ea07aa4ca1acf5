-- A graph under construction, and what `poll` answers of it.
use Rattle.std.specs.Prelude.{◌≡◌, ◌⊎◌, ℕ, ◌+◌, ◌-◌, ◌≤◌, Bool, true, false, List, [], ◌∷◌, ◌++◌, length, take, drop, bytes_eq, Option, Some, None, IsSome, IsOkUnless, Result, Ok, Err}
use Rattle.std.specs.List.{IsDistinct}
use Rattle.url.specs.Parts.{Parts}
use Rattle.graph_entry.specs.declared.answer.LoadAnswer.{LoadAnswer}
use Rattle.graph_entry.specs.declared.referrer.ReferrerImports.{ReferrerImports}
use Rattle.graph_entry.specs.Specifier.{text_of, loadable}
use Rattle.graph_entry.specs.Resolution.{Resolves, resolve}
use Rattle.graph_entry.specs.Referrer.{starts_by}
use Rattle.graph_builder.specs.declared.options.BuildOptions.{BuildOptions}
use Rattle.graph_builder.specs.declared.following.Following.{Following}
use Rattle.graph_builder.specs.declared.error.BuildError.{BuildError}
use Rattle.graph_builder.specs.declared.error.BuildError.TheVariants.{NotYet, TooManyModules, UnaskedAnswer, Finished, OutOfMemory}
use Rattle.graph_builder.specs.Rules.{rules_of}
use Rattle.graph_builder.specs.Reach.{Specifier, Log, Answers, Rules, answer_to, has, IsReached, IsReach}
use Rattle.graph_builder.specs.Events.{Event, Answered, asked_of, log_of, IsOutstanding, IsTimely, IsSettled}
use Rattle.graph_builder.specs.Loader.{LoaderData, HasRisen, NeverRises, Falls}

-- What contracts see of a builder. `following` says which edges are followed, and for a builder with a caller's own resolver
-- or analyser which these are. `events` is what happened to its loader since the builder was made; `asked` and `log` are the
-- requests and the answers of it.
pub record BuildingBy (L W : Type 0) : Type 0 where
  pub loader : L
  pub following : W
  pub roots : List Parts
  -- what places outside the graph import
  pub imports : List ReferrerImports
  -- where reach starts
  pub starting : List Specifier
  pub limit : ℕ
  pub events : List Event
  pub events_before : List Event
  pub asked : List Specifier
  pub log : Log
  pub asked_before : List Specifier
  pub log_before : Log
  pub pending : ℕ
  pub standing : ℕ × ℕ
  pub patience : Option ℕ
  pub finished : Bool

-- one without
abbrev pub Building : Type 0 → Type 0
Building L = BuildingBy L Following

-- the rules of its graph
abbrev pub graph_rules : {L : Type 0} → Building L → Rules
graph_rules b = rules_of b.following

-- the starts of reach: the roots, and where the referrer imports lead (`poll`, the clause `starts`)
abbrev pub starts : {L W : Type 0} → BuildingBy L W → List Specifier
starts b = b.starting

-- ---- the list asked and the log

-- the specifier is reached and loadable, and has no answer yet
pub record IsAwaited (rules : Rules) (starts : List Specifier) (log : Log) (s : Specifier) : Type 0 where
  pub reached : IsReached rules starts (answer_to log) s
  pub loads : loadable s ≡ true
  pub open_yet : answer_to log s ≡ None

-- after the answers so far, each further one was awaited when it came
abbrev pub IsOrderlyAfter : Rules → List Specifier → Log → Log → Type 0
IsOrderlyAfter rules starts before [] = Unit {0}
IsOrderlyAfter rules starts before (x ∷ rest) =
    IsAwaited rules starts before x.0 × IsOrderlyAfter rules starts (before ++ x ∷ []) rest

-- each answer was awaited when it came
abbrev pub IsOrderly : Rules → List Specifier → Log → Type 0
IsOrderly rules starts log = IsOrderlyAfter rules starts [] log

-- the same where an answer may have come in one batch of so many with those before it: it is reached over the answers before
-- it, less the last that may be of its batch
pub record IsAwaitedBy (rules : Rules) (batch : ℕ) (starts : List Specifier) (log : Log) (s : Specifier) : Type 0 where
  pub reached : IsReached rules starts (answer_to (take (length log - (batch - 1)) log)) s
  pub loads : loadable s ≡ true
  pub open_yet : answer_to log s ≡ None

abbrev pub IsOrderlyByAfter : Rules → ℕ → List Specifier → Log → Log → Type 0
IsOrderlyByAfter rules batch starts before [] = Unit {0}
IsOrderlyByAfter rules batch starts before (x ∷ rest) =
    IsAwaitedBy rules batch starts before x.0 × IsOrderlyByAfter rules batch starts (before ++ x ∷ []) rest

-- each answer was awaited before any answer of its batch was analysed
abbrev pub IsOrderlyBy : Rules → ℕ → List Specifier → Log → Type 0
IsOrderlyBy rules batch starts log = IsOrderlyByAfter rules batch starts [] log

-- in time: each answer was awaited, and outstanding, when it came
pub record IsInTime (rules : Rules) (starts : List Specifier) (events : List Event) : Type 0 where
  pub orderly : IsOrderly rules starts (log_of events)
  pub timely : IsTimely events

-- whatever is asked is reached and loadable, and is asked once
pub record IsAsking (rules : Rules) (starts : List Specifier) (asked : List Specifier) (log : Log) : Type 0 where
  pub once : IsDistinct bytes_eq asked
  pub loads : (s : Specifier) → has asked s ≡ true → loadable s ≡ true
  pub reached : (s : Specifier) → has asked s ≡ true → IsReached rules starts (answer_to log) s

-- the loadable specifiers that are reached are asked, each once, and nothing else
pub record IsAskedFor (rules : Rules) (starts : List Specifier) (asked : List Specifier) (log : Log) : Type 0 where
  pub asking : IsAsking rules starts asked log
  pub all : (s : Specifier) → IsReached rules starts (answer_to log) s → loadable s ≡ true → has asked s ≡ true

-- whatever is asked is answered
abbrev pub EachAnswered : List Specifier → Log → Type 0
EachAnswered asked log = (s : Specifier) → has asked s ≡ true → IsSome (answer_to log s)

-- some specifier is outstanding
abbrev pub SomeOutstanding : List Specifier → Log → Type 0
SomeOutstanding asked log = (s : Specifier) × IsOutstanding asked log s

-- at most so many specifiers are reached
abbrev pub ReachesAtMost : Rules → List Specifier → Answers → ℕ → Type 0
ReachesAtMost rules starts answers limit = (members : List Specifier) × IsReach rules starts answers members × (length members ≤ limit)

-- the answers are those that were told, where any was
abbrev pub IsToldLog : Answers → Log → Type 0
IsToldLog told log = (s : Specifier) (a b : LoadAnswer) → answer_to log s ≡ Some a → told s ≡ Some b → a ≡ b

-- ---- what a call does

-- the last of a list, so many
abbrev pub last_of : {A : Type 0} → ℕ → List A → List A
last_of n xs = drop (length xs - n) xs

-- what stands before the last so many
abbrev pub before_last : {A : Type 0} → ℕ → List A → List A
before_last n xs = take (length xs - n) xs

-- what holds of the builder's own events: requests and answers are counted, and what is reached is asked for
pub record IsOwn (rules : Rules) (starts : List Specifier) (own : List Event) (told : Answers) (own_asked own_taken : ℕ) : Type 0 where
  pub asked_counted : length (asked_of own) ≡ own_asked
  pub taken_counted : length (log_of own) ≡ own_taken
  pub behind : own_taken ≤ own_asked + 1
  pub asking : IsAsking rules starts (asked_of own) (log_of own)
  pub as_told : IsToldLog told (log_of own)

-- what holds of a builder at all times: so many of its loader's last events are its own
pub record IsKept (rules : Rules) (starts : List Specifier) (events : List Event) (told : Answers) (own_asked own_taken : ℕ) : Type 0 where
  pub fits : own_asked + own_taken ≤ length events
  pub own : IsOwn rules starts (last_of (own_asked + own_taken) events) told own_asked own_taken

-- which edges the options let a graph follow
abbrev pub following_of : BuildOptions → Following
following_of options = record {
  kind = options.kind;
  skip_dynamic_deps = options.skip_dynamic_deps;
  json_without_attribute = false;
}

-- the same, where an import without an attribute may be of JSON, or may not
abbrev pub json_allowed : Bool → Following → Following
json_allowed is_allowed following = record {
  kind = following.kind;
  skip_dynamic_deps = following.skip_dynamic_deps;
  json_without_attribute = is_allowed;
}

-- a new builder over a loader: nothing is asked yet, and the loader's events count from now on
abbrev pub new_building_by : {L W : Type 0} → W → Resolves → List Parts → List ReferrerImports → ℕ → L → LoaderData
    → BuildingBy L W
new_building_by ways resolves given_roots outside bound given seen = record {
  loader = given;
  following = ways;
  roots = given_roots;
  imports = outside;
  starting = starts_by resolves given_roots outside;
  limit = bound;
  events = [];
  events_before = seen.events;
  asked = [];
  log = [];
  asked_before = asked_of seen.events;
  log_before = log_of seen.events;
  pending = seen.pending;
  standing = seen.standing;
  patience = seen.patience;
  finished = false;
}

abbrev pub new_building : {L : Type 0} → List Parts → BuildOptions → L → LoaderData → Building L
new_building given_roots options given seen =
    new_building_by (following_of options) resolve given_roots options.imports options.limit given seen

-- the list gained something at its end, or nothing
abbrev pub GoesOn : {A : Type 0} → List A → List A → Type 0
GoesOn {A} old new = (more : List A) × (new ≡ old ++ more)

-- what every call keeps: the lists go on, the counts go one way, and all else stays
pub record HasHistory {L W : Type 0} (old new : BuildingBy L W) : Type 0 where
  pub following : new.following ≡ old.following
  pub roots : new.roots ≡ old.roots
  pub imports : new.imports ≡ old.imports
  pub starting : new.starting ≡ old.starting
  pub limit : new.limit ≡ old.limit
  pub events_before : new.events_before ≡ old.events_before
  pub events : GoesOn old.events new.events
  pub asked_before : new.asked_before ≡ old.asked_before
  pub log_before : new.log_before ≡ old.log_before
  pub asked : GoesOn old.asked new.asked
  pub log : GoesOn old.log new.log
  pub pending : old.pending ≤ new.pending
  pub patience : NeverRises old.patience new.patience
  pub answers : length new.log ≤ length new.asked + 1

-- On every answer each answer of the loader came in time, but the last one of `UnaskedAnswer`; and of a builder that was
-- finished nothing is said.
abbrev pub CameInTime : {A : Type 0} → Rules → List Specifier → List Event → Result A BuildError → Type 0
CameInTime rules starts events (Ok graph) = IsInTime rules starts events
CameInTime rules starts events (Err NotYet) = IsInTime rules starts events
CameInTime rules starts events (Err (TooManyModules seen)) = IsInTime rules starts events
CameInTime rules starts events (Err (UnaskedAnswer url)) =
    (before : List Event) × (answer : LoadAnswer) × (events ≡ before ++ Answered (text_of url) answer ∷ []) × IsInTime rules starts before
CameInTime rules starts events (Err Finished) = Unit {0}
CameInTime rules starts events (Err OutOfMemory) = IsInTime rules starts events

-- ---- the causes of the errors

-- why the graph isn't there yet
pub record IsNotYet (rules : Rules) {L W : Type 0} (old new : BuildingBy L W) : Type 0 where
  pub orderly : IsOrderly rules (starts old) new.log
  pub asked : IsAskedFor rules (starts old) new.asked new.log
  pub within : ReachesAtMost rules (starts old) (answer_to new.log) old.limit
  pub outstanding : SomeOutstanding new.asked new.log
  pub counted : HasRisen old.pending new.pending
  -- the last `Pending` came after the last answer
  pub stands : new.standing.1 ≡ length new.log_before + length new.log
  -- and while a request of this builder was outstanding
  pub stood_open : SomeOutstanding (take (new.standing.0 - length new.asked_before) new.asked) new.log
  pub patience : length old.asked_before ≡ length old.log_before → Falls old.patience new.patience

-- no answer for the specifier was awaited: it had one, or it isn't a loadable specifier that is reached
abbrev pub IsUnawaitedOver : Rules → ℕ → List Specifier → Log → Specifier → Type 0
IsUnawaitedOver rules batch starts before s =
    IsSome (answer_to before s)
    ⊎ (IsReached rules starts (answer_to (take (length before - (batch - 1)) before)) s → loadable s ≡ true → ⊥)

-- the last answer wasn't awaited when it came; `batch` answers were taken before any of them was analysed
pub record IsUnawaited (rules : Rules) (batch : ℕ) {L W : Type 0} (old new : BuildingBy L W) (s : Specifier) : Type 0 where
  pub before : Log
  pub answer : LoadAnswer
  pub last : new.log ≡ before ++ (s, answer) ∷ []
  pub goes_on : GoesOn old.log before
  pub orderly : IsOrderly rules (starts old) before
  pub outstanding : SomeOutstanding new.asked before
  -- but not this specifier
  pub settled : IsOutstanding new.asked before s → ⊥
  pub unawaited : IsUnawaitedOver rules batch (starts old) before s

-- counting stopped at the first reached specifier above the limit
pub record IsTooMany (rules : Rules) (starts : List Specifier) (log : Log) (limit seen : ℕ) : Type 0 where
  pub above : seen ≡ limit + 1
  pub members : List Specifier
  pub counted : length members ≡ seen
  pub once : IsDistinct bytes_eq members
  pub reached : (s : Specifier) → has members s ≡ true → IsReached rules starts (answer_to log) s

-- no answer is unasked of a loader that tells that it answers open requests alone, where none was open when the builder was made
abbrev pub IsFairly : {L W A : Type 0} → LoaderData → BuildingBy L W → Result A BuildError → Type 0
IsFairly seen old result = seen.fair ≡ true → IsSettled old.events_before → (s : Parts) → result ≡ Err (UnaskedAnswer s) → ⊥

-- ---- and when there is none

-- A live builder gives the graph, unless memory runs out: where at most `limit` specifiers are reached, each answer was
-- awaited, and the pending count neither rose nor stands at its last value.
abbrev pub IsComplete : Rules → {L W A : Type 0} → BuildingBy L W → BuildingBy L W → Result A BuildError → Type 0
IsComplete rules old new result =
    old.finished ≡ false
    → ReachesAtMost rules (starts old) (answer_to new.log) old.limit
    → IsOrderly rules (starts old) new.log
    → (HasRisen old.pending new.pending → ⊥)
    → IsOkUnless result OutOfMemory

-- the same of a builder that takes so many answers before it analyses any of them
abbrev pub IsCompleteBy : Rules → ℕ → {L W A : Type 0} → BuildingBy L W → BuildingBy L W → Result A BuildError → Type 0
IsCompleteBy rules batch old new result =
    old.finished ≡ false
    → ReachesAtMost rules (starts old) (answer_to new.log) old.limit
    → IsOrderlyBy rules batch (starts old) new.log
    → (HasRisen old.pending new.pending → ⊥)
    → IsOkUnless result OutOfMemory
