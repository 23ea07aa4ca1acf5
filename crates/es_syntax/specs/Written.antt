-- What a writer leaves: entries before the entries of their parts.
use Rattle.std.specs.Prelude.{ℕ, ◌+◌, List, [], ◌∷◌, ◌++◌, length, take, drop}
use Rattle.es_syntax.specs.declared.entry.What.{What}
use Rattle.es_syntax.specs.declared.entry.What.TheVariants as vWhat
use Rattle.es_syntax.specs.declared.entry.Entry.{Entry}

-- an entry before those of its parts
abbrev pub headed : What → ℕ → ℕ → List Entry → List Entry
headed what from to parts = record { what = what; from = from; to = to; size = length parts } ∷ parts

-- the entries once the node that was opened at a place is closed
unfoldable pub closed : What → ℕ → ℕ → ℕ → List Entry → List Entry
closed what from to at es = take at es ++ headed what from to (drop (at + 1) es)

-- what stands in the place of a node that is open
abbrev pub opened : List Entry
opened = headed vWhat.Parts 0 0 []
