-- Entries by specifiers, read by the specifiers' texts.
use Rattle.std.specs.Prelude.{ℕ, List, map, bytes_eq, Option, position}
use Rattle.std.specs.Map.{lookup}
use Rattle.url.specs.Parts.{Parts}
use Rattle.graph_entry.specs.Specifier.{text_of}
use Rattle.graph_builder.specs.Reach.{Specifier}

-- the value at a specifier
abbrev pub value_at : {V : Type 0} → List (Parts × V) → Specifier → Option V
value_at entries s = lookup (λ url. bytes_eq s (text_of url)) entries

-- the specifiers
abbrev pub keys_at : {V : Type 0} → List (Parts × V) → List Specifier
keys_at entries = map (λ e. text_of e.0) entries

-- the number of a specifier, if it has one: its place
abbrev pub number_of : {V : Type 0} → List (Parts × V) → Specifier → Option ℕ
number_of entries s = position (bytes_eq s) (keys_at entries)
