-- How what is reached grows while a graph is built: a slot for each reached specifier, and a worklist.
use Rattle.std.specs.Prelude.{◌≡◌, ◌⊎◌, ℕ, ◌+◌, true, List, map, length, bytes_eq, Option, Some, None}
use Rattle.std.specs.List.{IsDistinct}
use Rattle.url.specs.Parts.{Parts}
use Rattle.graph_entry.specs.declared.entry.Entry.{Entry}
use Rattle.graph_builder.specs.declared.slot.Slot.{Slot}
use Rattle.graph_builder.specs.declared.slot.Slot.TheVariants.{Queued, Done}
use Rattle.graph_builder.specs.Reach.{Specifier, has}

-- the slot of each specifier that was reached so far
abbrev pub Slots : Type 0
Slots = Specifier → Option Slot

-- what came was reached: what is new of it is queued and stands on the worklist, and nothing else changed
pub record HasGrown (come : List Specifier) (old new : Slots) (todo later : List Specifier) : Type 0 where
  pub kept : (t : Specifier) (x : Slot) → old t ≡ Some x → new t ≡ Some x
  pub came : (t : Specifier) → has come t ≡ true → new t ≡ None → ⊥
  pub fresh : (t : Specifier) (x : Slot) → new t ≡ Some x
      → (old t ≡ Some x) ⊎ ((old t ≡ None) × (has come t ≡ true) × (x ≡ Queued))
  pub listed : (t : Specifier) → has later t ≡ true → (has todo t ≡ true) ⊎ ((old t ≡ None) × (new t ≡ Some Queued))
  pub still : (t : Specifier) → has todo t ≡ true → has later t ≡ true
  pub joined : (t : Specifier) → old t ≡ None → new t ≡ Some Queued → has later t ≡ true
  pub once : IsDistinct bytes_eq todo → ((t : Specifier) → has todo t ≡ true → old t ≡ None → ⊥) → IsDistinct bytes_eq later

-- one more than the limit: so many specifiers have a slot or came
pub record IsOverfull (come : List Specifier) (slots : Slots) (limit seen : ℕ) : Type 0 where
  pub above : seen ≡ limit + 1
  pub members : List Specifier
  pub counted : length members ≡ seen
  pub once : IsDistinct bytes_eq members
  pub each : (t : Specifier) → has members t ≡ true → (slots t ≡ None → ⊥) ⊎ (has come t ≡ true)

-- slots that all have an entry
abbrev pub all_done : List (Parts × Entry) → List (Parts × Slot)
all_done entries = map (λ e. (e.0, Done e.1)) entries

-- each slot has an entry
pub record AreDone (slots : List (Parts × Slot)) : Type 0 where
  pub entries : List (Parts × Entry)
  pub is : slots ≡ all_done entries
