-- A loader in memory: what it answers, and in which order.
use Rattle.std.specs.Prelude.{◌≡◌, ℕ, ◌+◌, min, Bool, true, false, List, [], ◌∷◌, ◌++◌, length, ◌≤◌, not, map, count_by, drop, bytes_eq, Option, Some, None, unwrap_or, Result, Ok, Err, if◌then◌else◌}
use Rattle.std.specs.List.{list_any}
use Rattle.std.specs.Map.{lookup, keys_of}
use Rattle.std.specs.declared.alloc.AllocError.{AllocError}
use Rattle.url.specs.Parts.{Parts}
use Rattle.graph_tables.specs.pending_requests.Requests as requests
use Rattle.graph_entry.specs.Specifier.{text_of}
use Rattle.graph_entry.specs.declared.answer.LoadAnswer.{LoadAnswer}
use Rattle.graph_entry.specs.declared.answer.LoadAnswer.TheVariants.{Absent}
use Rattle.graph_builder.specs.declared.memory_loader.Arrival.{Arrival}
use Rattle.graph_builder.specs.declared.memory_loader.Arrival.TheVariants as arrival
use Rattle.graph_builder.specs.declared.loader.LoaderPoll.{LoaderPoll}
use Rattle.graph_builder.specs.declared.loader.LoaderPoll.TheVariants.{Pending, Answer}
use Rattle.graph_builder.specs.Reach.{Specifier, Log, Answers}
use Rattle.graph_builder.specs.ByText.{value_at}
use Rattle.graph_builder.specs.Graph.{texts}
use Rattle.graph_builder.specs.Events.{Event, Requested, Answered, times}
use Rattle.graph_builder.specs.Loader.{LoaderData, last_count}

-- What contracts see of a loader in memory. `order` tells which came first: it has `true` for each request and `false` for
-- each answer. `waiting` are the requests that are outstanding, the oldest first. `forced` tells whether an answer was ever
-- to come in any case.
pub record Memory : Type 0 where
  pub modules : List (Parts × LoadAnswer)
  pub arrival : List Arrival
  pub order : List Bool
  pub asked : List Parts
  pub log : List (Parts × LoadAnswer)
  pub waiting : List Parts
  pub pending : ℕ
  pub standing : ℕ × ℕ
  pub forced : Bool

-- an item of the arrival list answers in any case
abbrev pub is_forced : Arrival → Bool
is_forced (arrival.Answer url) = false
is_forced arrival.Pending = false
is_forced (arrival.Force url) = true

-- whether an item of the arrival list says that nothing has come
abbrev pub is_pending : Arrival → Bool
is_pending (arrival.Answer url) = false
is_pending arrival.Pending = true
is_pending (arrival.Force url) = false

-- a new one: nothing was asked
abbrev pub new_memory : List (Parts × LoadAnswer) → List Arrival → Memory
new_memory given items = record {
  modules = given;
  arrival = items;
  order = [];
  asked = [];
  log = [];
  waiting = [];
  pending = 0;
  standing = (0, 0);
  forced = list_any is_forced items;
}

-- the answer for a specifier: that of the first module with it, or `Absent`
abbrev pub module_answer : List (Parts × LoadAnswer) → Specifier → LoadAnswer
module_answer modules s = unwrap_or (lookup (λ url. bytes_eq s (text_of url)) modules) Absent

-- it tells each answer beforehand
abbrev pub tells : List (Parts × LoadAnswer) → Answers
tells modules s = Some (module_answer modules s)

-- a log by the specifiers' texts
abbrev pub text_log : List (Parts × LoadAnswer) → Log
text_log log = map (λ e. (text_of e.0, e.1)) log

-- requests and answers in the order in which they came
abbrev pub woven : List Bool → List Specifier → Log → List Event
woven [] asked log = []
woven (true ∷ order) [] log = []
woven (true ∷ order) (s ∷ asked) log = Requested s ∷ woven order asked log
woven (false ∷ order) asked [] = []
woven (false ∷ order) asked (x ∷ log) = Answered x.0 x.1 ∷ woven order asked log

-- what contracts of any loader see of it
abbrev pub data_of : Memory → LoaderData
data_of m = record {
  events = woven m.order (texts m.asked) (text_log m.log);
  pending = m.pending;
  standing = m.standing;
  patience = Some (count_by is_pending m.arrival);
  told = tells m.modules;
  fair = not m.forced;
}

-- a request for the specifier is outstanding
abbrev pub waits_for : List Parts → Parts → Bool
waits_for = requests.waits_for text_of

-- without the oldest request for the specifier
abbrev pub settled : List Parts → Parts → List Parts
settled = requests.settled text_of

-- the oldest request
abbrev pub oldest : List Parts → Option Parts
oldest = requests.oldest

-- which specifier is answered next, if any, and what is left of the arrival list then
abbrev pub next_answered : List Parts → List Arrival → Option Parts × List Arrival
next_answered waiting [] = (oldest waiting, [])
next_answered waiting (arrival.Pending ∷ rest) = (None, rest)
next_answered waiting (arrival.Force url ∷ rest) = (Some url, rest)
next_answered waiting (arrival.Answer url ∷ rest) =
    if waits_for waiting url then (Some url, rest) else next_answered waiting rest

-- what a request leaves: it is asked for, and outstanding
abbrev pub IsStarted : Memory → Parts → Result Unit AllocError → Memory → Type 0
IsStarted old url (Ok done) new = new ≡ record old {
  order = old.order ++ true ∷ [];
  asked = old.asked ++ url ∷ [];
  waiting = old.waiting ++ url ∷ [];
}
IsStarted old url (Err e) new = new ≡ old

-- what a poll answers, and what it leaves
abbrev pub IsPolled : Memory → Result LoaderPoll AllocError → Memory → Type 0
IsPolled old (Ok (Answer url answer)) new =
    ((next_answered old.waiting old.arrival).0 ≡ Some url)
    × (answer ≡ module_answer old.modules (text_of url))
    × (new ≡ record old {
      arrival = (next_answered old.waiting old.arrival).1;
      order = old.order ++ false ∷ [];
      log = old.log ++ (url, answer) ∷ [];
      waiting = settled old.waiting url;
    })
IsPolled old (Ok Pending) new =
    ((next_answered old.waiting old.arrival).0 ≡ None)
    × (new ≡ record old {
      arrival = (next_answered old.waiting old.arrival).1;
      pending = min (old.pending + 1) last_count;
      standing = (length old.asked, length old.log);
    })
IsPolled old (Err e) new = new ≡ old

-- ---- how a module is found

-- some modules have the first answer of all of them for each specifier
abbrev pub HasFirsts : List (Parts × LoadAnswer) → List (Parts × LoadAnswer) → Type 0
HasFirsts modules firsts = (s : Specifier) → value_at firsts s ≡ value_at modules s

-- whatever modules they had the first answers of, the new ones have those of them and one more
abbrev pub GainsFirst : List (Parts × LoadAnswer) → List (Parts × LoadAnswer) → Parts → LoadAnswer → Type 0
GainsFirst old new url answer =
    (modules : List (Parts × LoadAnswer)) → HasFirsts modules old → HasFirsts (modules ++ (url, answer) ∷ []) new

-- ---- what it keeps

-- what was noted, with nothing beside it
abbrev pub noted : {A : Type 0} → List (A × Unit {0}) → List A
noted items = map (λ e. e.0) items

-- the order is one of so many requests and so many answers
abbrev pub IsOrderOf : List Bool → List Specifier → Log → Type 0
IsOrderOf [] [] [] = Unit {0}
IsOrderOf [] [] (x ∷ log) = ⊥
IsOrderOf [] (s ∷ asked) log = ⊥
IsOrderOf (true ∷ order) [] log = ⊥
IsOrderOf (true ∷ order) (s ∷ asked) log = IsOrderOf order asked log
IsOrderOf (false ∷ order) asked [] = ⊥
IsOrderOf (false ∷ order) asked (x ∷ log) = IsOrderOf order asked log

-- what holds of a loader in memory at all times
pub record IsKeptMemory (modules firsts : List (Parts × LoadAnswer)) (arrival : List Arrival) (order : List Bool)
    (asked : List Parts) (log : List (Parts × LoadAnswer)) (waiting : List Parts) : Type 0 where
  pub index : HasFirsts modules firsts
  pub ordered : IsOrderOf order (texts asked) (text_log log)
  -- a request is answered or outstanding
  pub open_requests : length asked ≤ length log + length waiting
  -- and no more are outstanding than that, where no answer is forced
  pub each_open : list_any is_forced arrival ≡ false
      → (s : Specifier) → times s (keys_of (text_log log)) + times s (texts waiting) ≡ times s (texts asked)

-- ---- an item of the arrival list

-- whether it is dropped: it answers a specifier that isn't outstanding
abbrev pub is_dropped : List Parts → Arrival → Bool
is_dropped waiting (arrival.Answer url) = not (waits_for waiting url)
is_dropped waiting arrival.Pending = false
is_dropped waiting (arrival.Force url) = false

-- the list's first item isn't dropped
abbrev pub IsTaken : List Parts → List Arrival → Type 0
IsTaken waiting [] = Unit {0}
IsTaken waiting (item ∷ rest) = is_dropped waiting item ≡ false

-- the specifier that it answers
abbrev pub named : Arrival → Option Parts
named (arrival.Answer url) = Some url
named arrival.Pending = None
named (arrival.Force url) = Some url
