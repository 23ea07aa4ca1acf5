-- What a writer leaves: entries before the entries of their parts; and trees side by side, as their entries.
use Rattle.std.specs.Prelude.{◌≡◌, ℕ, ◌+◌, List, [], ◌∷◌, ◌++◌, length, take, drop, map}
use Rattle.es_token.specs.declared.token.Token.{Token}
use Rattle.es_lowering.specs.Value.{Value}
use Rattle.es_syntax.specs.declared.entry.What.{What}
use Rattle.es_syntax.specs.declared.entry.Entry.{Entry}
use Rattle.es_syntax.specs.Held.{Held, row_of, made, held, parts_of}
use Rattle.es_changed.specs.declared.entry.Form.TheVariants as form
use Rattle.es_changed.specs.declared.entry.Change.{Change}
use Rattle.es_changed.specs.declared.entry.Change.TheVariants as change
use Rattle.es_changed.specs.declared.entry.ChangedEntry.{ChangedEntry}
use Rattle.es_changed.specs.Changed.{with_part, changed}

-- an entry before those of its parts
abbrev pub headed : Change → ℕ → ℕ → List ChangedEntry → List ChangedEntry
headed c from to parts = record { change = c; from = from; to = to; size = length parts } ∷ parts

-- the entries once the node that was opened at a place is closed
unfoldable pub closed : Change → ℕ → ℕ → ℕ → List ChangedEntry → List ChangedEntry
closed c from to at es = take at es ++ headed c from to (drop (at + 1) es)

-- a made name by its number
abbrev pub name_entry : ℕ → ChangedEntry
name_entry number = record { change = change.Form form.MadeName; from = number; to = 0; size = 0 }

-- the entries once what was opened at a place is the made name of this number, before what was written since
unfoldable pub named : ℕ → ℕ → List ChangedEntry → List ChangedEntry
named number at es = take at es ++ name_entry number ∷ drop (at + 1) es

-- what stands in the place of a node that is open
abbrev pub opened : List ChangedEntry
opened = headed change.Gone 0 0 []

-- an entry of the program's row, as it stands
abbrev pub old_entry : Entry → ChangedEntry
old_entry e = record { change = change.Old e.what; from = e.from; to = e.to; size = e.size }

-- trees side by side
pub data Shape : Type 0 where
  none : Shape
  -- what stands there, its first token, the token behind its last one, its parts, and what is behind it
  node : Change → ℕ → ℕ → Shape → Shape → Shape
  -- what stood in the program's row, with its entries as they are, and what is behind it
  kept : What → ℕ → ℕ → List Entry → Shape → Shape

unfoldable pub entries_of : Shape → List ChangedEntry
entries_of none = []
entries_of (kept what from to parts rest) = headed (change.Old what) from to (map old_entry parts) ++ entries_of rest
entries_of (node c from to parts rest) = headed c from to (entries_of parts) ++ entries_of rest

unfoldable pub beside : Shape → Shape → Shape
beside none others = others
beside (kept what from to parts rest) others = kept what from to parts (beside rest others)
beside (node c from to parts rest) others = node c from to parts (beside rest others)

module _ (x : List ℕ) (ts : List Token) where
  unfoldable pub held_of : Shape → List Held
  held_of none = []
  held_of (kept what from to parts rest) =
      (to, made x ts what from to (held x ts parts) (parts_of x ts parts)) ∷ held_of rest
  held_of (node c from to parts rest) =
      with_part c (to, changed x ts c from to (row_of x ts (held_of parts)) (held_of parts)) (held_of rest)

  -- these entries stand behind those that were there, and are these values
  pub record Writes (old new : List ChangedEntry) (vs : List Value) : Type 0 where
    pub shape : Shape
    pub row : new ≡ old ++ entries_of shape
    pub are : map (λ (p : Held). p.1) (held_of shape) ≡ vs
