-- What is reached from given starts, over given answers.
-- A specifier is its text. The rules of the graph are a parameter, and so are the starts.
use Rattle.std.specs.Prelude.{◌≡◌, ◌⊎◌, ℕ, Bool, true, false, List, [], ◌∷◌, bytes_eq, Option, Some, None}
use Rattle.std.specs.List.{list_any, IsDistinct}
use Rattle.std.specs.Map.{lookup}
use Rattle.graph_entry.specs.declared.answer.LoadAnswer.{LoadAnswer}
use Rattle.graph_entry.specs.declared.entry.Entry.{Entry}
use Rattle.graph_entry.specs.Specifier.{loadable}
use Rattle.graph_builder.specs.Rules.{targets}
pub use Rattle.graph_builder.specs.Rules.{Specifier, Rules}

-- which answer a specifier has, where it has one
abbrev pub Answers : Type 0
Answers = Specifier → Option LoadAnswer

-- answers in the order in which they came
abbrev pub Log : Type 0
Log = List (Specifier × LoadAnswer)

-- the first answer that came for a specifier
abbrev pub answer_to : Log → Answers
answer_to log s = lookup (bytes_eq s) log

-- an answer for a specifier means at most one entry
abbrev pub IsFunctional : Rules → Type 0
IsFunctional rules = (s : Specifier) (a : Option LoadAnswer) (e f : Entry) → rules.means s a e → rules.means s a f → e ≡ f

-- the list holds the specifier
abbrev pub has : List Specifier → Specifier → Bool
has members s = list_any (bytes_eq s) members

-- the entry is what the specifier's answer means
pub record IsAnswered (rules : Rules) (answers : Answers) (s : Specifier) (entry : Entry) : Type 0 where
  pub loads : loadable s ≡ true
  pub answer : LoadAnswer
  pub given : answers s ≡ Some answer
  pub means : rules.means s (Some answer) entry

-- the entry of a specifier: what its answer means, or what the specifier itself means where no loader is asked for it
abbrev pub IsEntry : Rules → Answers → Specifier → Entry → Type 0
IsEntry rules answers s entry = IsAnswered rules answers s entry ⊎ ((loadable s ≡ false) × rules.means s None entry)

-- a step leads from a specifier to each target of its entry
pub record Leads (rules : Rules) (answers : Answers) (from to : Specifier) : Type 0 where
  pub entry : Entry
  pub is_entry : IsEntry rules answers from entry
  pub among : has (targets rules entry) to ≡ true

-- a way to a specifier by steps from a start, its newest place first
abbrev pub IsWay : Rules → List Specifier → Answers → List Specifier → Specifier → Type 0
IsWay rules starts answers [] s = has starts s ≡ true
IsWay rules starts answers (r ∷ way) s = IsWay rules starts answers way r × Leads rules answers r s

-- some way leads to the specifier
pub record IsReached (rules : Rules) (starts : List Specifier) (answers : Answers) (s : Specifier) : Type 0 where
  pub way : List Specifier
  pub leads_here : IsWay rules starts answers way s

-- the members are the reached specifiers, each once
pub record IsReach (rules : Rules) (starts : List Specifier) (answers : Answers) (members : List Specifier) : Type 0 where
  pub once : IsDistinct bytes_eq members
  pub reached : (s : Specifier) → has members s ≡ true → IsReached rules starts answers s
  pub all : (s : Specifier) → IsReached rules starts answers s → has members s ≡ true
