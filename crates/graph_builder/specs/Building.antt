-- What holds of the slots and the worklist while a graph is built, over what this builder asked and was answered.
use Rattle.std.specs.Prelude.{◌≡◌, Bool, true, false, cond, List, bytes_eq, Some, None}
use Rattle.std.specs.List.{IsDistinct}
use Rattle.graph_entry.specs.declared.answer.LoadAnswer.{LoadAnswer}
use Rattle.graph_entry.specs.declared.entry.Entry.{Entry}
use Rattle.graph_builder.specs.declared.slot.Slot.{Slot}
use Rattle.graph_builder.specs.declared.slot.Slot.TheVariants.{Queued, Asked, Done}
use Rattle.graph_builder.specs.Rules.{targets}
use Rattle.graph_builder.specs.Reach.{Specifier, Log, Rules, answer_to, has, IsEntry, IsReached}
use Rattle.graph_builder.specs.Slots.{Slots}
use Rattle.graph_builder.specs.Events.{IsOutstanding}
use Rattle.graph_builder.specs.Builder.{IsOrderly}

-- the slots say what was asked and answered, but for those in hand
pub record IsBuilding (rules : Rules) (starts : List Specifier) (in_hand : Specifier → Bool)
    (asked : List Specifier) (log : Log) (slots : Slots) (todo : List Specifier) : Type 0 where
  pub sound : (t : Specifier) (x : Slot) → slots t ≡ Some x → IsReached rules starts (answer_to log) t
  pub done : (t : Specifier) (e : Entry) → slots t ≡ Some (Done e) → IsEntry rules (answer_to log) t e
  pub closed : (t u : Specifier) (e : Entry) → slots t ≡ Some (Done e) → has (targets rules e) u ≡ true → slots u ≡ None → ⊥
  pub outstanding : (t : Specifier) → in_hand t ≡ false → slots t ≡ Some Asked → IsOutstanding asked log t
  pub queued : (t : Specifier) → in_hand t ≡ false → slots t ≡ Some Queued → (has todo t ≡ true) × (has asked t ≡ false)
  pub listed : (t : Specifier) → has todo t ≡ true → (slots t ≡ Some Queued) × (in_hand t ≡ false)
  pub holds : (t : Specifier) → in_hand t ≡ true → slots t ≡ None → ⊥
  pub todo_once : IsDistinct bytes_eq todo
  pub asked_slot : (t : Specifier) → has asked t ≡ true → slots t ≡ None → ⊥
  pub answered : (t : Specifier) (a : LoadAnswer) → answer_to log t ≡ Some a → has asked t ≡ true
  pub orderly : IsOrderly rules starts log

-- nothing is in hand
abbrev pub no_one : Specifier → Bool
no_one t = false

-- one specifier is in hand
abbrev pub this_one : Specifier → Specifier → Bool
this_one s t = bytes_eq t s

-- the slot of one specifier was written
abbrev pub IsWritten : Slots → Slots → Specifier → Slot → Type 0
IsWritten old new s x = (t : Specifier) → new t ≡ cond (bytes_eq t s) (Some x) (old t)
