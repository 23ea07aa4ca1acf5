-- Trees side by side, as a writer puts them into a row: each before its parts.
use Rattle.std.specs.Prelude.{◌≡◌, ℕ, List, [], ◌∷◌, ◌++◌, length, take}
use Rattle.es_syntax.specs.declared.entry.What.{What}
use Rattle.es_syntax.specs.declared.entry.Entry.{Entry}
use Rattle.es_syntax.specs.Trees.{Kept, tree_by}
use Rattle.es_syntax.specs.Written.{headed}

pub data Forest : Type 0 where
  none : Forest
  -- what stands there, its first token, the token behind its last one, its parts, and the trees behind it
  node : What → ℕ → ℕ → Forest → Forest → Forest

-- the entries of these trees
unfoldable pub entries_of : Forest → List Entry
entries_of none = []
entries_of (node what from to parts rest) = headed what from to (entries_of parts) ++ entries_of rest

-- the trees that they are
unfoldable pub kept_of : Forest → List Kept
kept_of none = []
kept_of (node what from to parts rest) = (to, tree_by what from to (kept_of parts)) ∷ kept_of rest

-- some trees, and others behind them
unfoldable pub beside : Forest → Forest → Forest
beside none others = others
beside (node what from to parts rest) others = node what from to parts (beside rest others)

-- what stood in a row stands there still
abbrev pub Keeps : List Entry → List Entry → Type 0
Keeps old new = take (length old) new ≡ old
