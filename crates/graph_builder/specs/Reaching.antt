-- What reaching does to the slots and the worklist, and why it stops. The worklist is what stands behind the queue's cursor.
use Rattle.std.specs.Prelude.{◌≡◌, ◌+◌, ◌≤◌, ℕ, Bool, true, false, List, [], ◌∷◌, length, drop, fold, slice_get, Option, Some, None, Result, Ok, Err}
use Rattle.graph_builder.specs.declared.reaching.Reaching.{Reaching}
use Rattle.graph_builder.specs.declared.reaching.GrowError.{GrowError}
use Rattle.graph_builder.specs.declared.reaching.GrowError.TheVariants.{TooMany, OutOfMemory}
use Rattle.graph_entry.specs.declared.entry.Entry.{Entry}
use Rattle.graph_builder.specs.declared.slot.Slot.{Slot}
use Rattle.graph_builder.specs.declared.slot.Slot.TheVariants.{Queued, Asked, Done}
use Rattle.graph_builder.specs.Building.{IsWritten}
use Rattle.graph_builder.specs.Builder.{GoesOn}
use Rattle.graph_builder.specs.Rules.{Rules, targets}
use Rattle.graph_builder.specs.Reach.{Specifier}
use Rattle.graph_builder.specs.Graph.{with_one}
use Rattle.graph_builder.specs.ByText.{value_at, keys_at}
use Rattle.graph_builder.specs.Slots.{Slots, HasGrown, IsOverfull}

-- what has a slot
abbrev pub slots_of : Reaching → Slots
slots_of r = value_at r.reached

-- what is still to be dealt with: all from the cursor on
abbrev pub todo_of : Reaching → List Specifier
todo_of r = drop r.next (keys_at r.reached)

-- the cursor is within what is reached, and that within the limit
pub record HasRoom (r : Reaching) : Type 0 where
  pub within : r.next ≤ length r.reached
  pub room : length r.reached ≤ r.limit

-- all that came is reached, within the limit; what is new of it has the next numbers
pub record HasReached (come : List Specifier) (old new : Reaching) : Type 0 where
  pub grown : HasGrown come (slots_of old) (slots_of new) (todo_of old) (todo_of new)
  pub counted : length new.reached + length (todo_of old) ≡ length old.reached + length (todo_of new)
  pub room : HasRoom new
  pub next : new.next ≡ old.next
  pub all : keys_at new.reached ≡ fold with_one (keys_at old.reached) come

-- that it was reached, without its number
abbrev pub done_with : {A : Type 0} → Result A GrowError → Result (Unit {0}) GrowError
done_with (Ok x) = Ok tt
done_with (Err e) = Err e

-- all that came is reached, or there is too much of it
abbrev pub Grows : List Specifier → Reaching → Reaching → Result (Unit {0}) GrowError → Type 0
Grows come old new (Ok done) = HasReached come old new
Grows come old new (Err (TooMany seen)) = IsOverfull come (slots_of old) old.limit seen
Grows come old new (Err OutOfMemory) = Unit {0}

-- the slot of a specifier was written, and nothing else changed
pub record IsMarked (s : Specifier) (x : Slot) (old new : Reaching) : Type 0 where
  pub written : IsWritten (slots_of old) (slots_of new) s x
  pub keys : keys_at new.reached ≡ keys_at old.reached
  pub next : new.next ≡ old.next
  pub counted : length new.reached ≡ length old.reached

-- what an entry leads to is reached, and then the entry is there
pub record IsFilled (rules : Rules) (s : Specifier) (entry : Entry) (old new : Reaching) : Type 0 where
  pub between : Slots
  pub grown : HasGrown (targets rules entry) (slots_of old) between (todo_of old) (todo_of new)
  pub written : IsWritten between (slots_of new) s (Done entry)
  pub counted : length new.reached + length (todo_of old) ≡ length old.reached + length (todo_of new)
  pub room : HasRoom new
  pub keys : GoesOn (keys_at old.reached) (keys_at new.reached)

-- an entry is there, or it leads to too much
abbrev pub Fills : Rules → Specifier → Entry → Reaching → Reaching → Result (Unit {0}) GrowError → Type 0
Fills rules s entry old new (Ok done) = IsFilled rules s entry old new
Fills rules s entry old new (Err (TooMany seen)) = IsOverfull (targets rules entry) (slots_of old) old.limit seen
Fills rules s entry old new (Err OutOfMemory) = Unit {0}

-- the next one is taken from the worklist, or there is none
abbrev pub TakesNext : Reaching → Reaching → Option ℕ → Type 0
TakesNext old new None = (todo_of old ≡ []) × (new ≡ old)
TakesNext old new (Some n) = (s : Specifier) × (todo_of old ≡ s ∷ todo_of new) × (slice_get (keys_at new.reached) n ≡ Some s)
    × (new.reached ≡ old.reached) × (new.limit ≡ old.limit) × (new.next ≤ length new.reached)

-- a specifier that waits for its answer waits no more, or it doesn't wait
abbrev pub TakesInHand : Specifier → Reaching → Reaching → Bool → Type 0
TakesInHand s old new true = (slots_of old s ≡ Some Asked) × IsMarked s Queued old new
TakesInHand s old new false = (slots_of old s ≡ Some Asked → ⊥) × (new ≡ old)
