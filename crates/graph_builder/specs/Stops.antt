-- Specifiers with their numbers.
use Rattle.std.specs.Prelude.{◌≡◌, List}
use Rattle.url.specs.Parts.{Parts}
use Rattle.graph_entry.specs.declared.entry.Entry.{Entry}
use Rattle.graph_entry.specs.Specifier.{text_of}
use Rattle.graph_builder.specs.declared.links.Stop.{Stop}
use Rattle.graph_builder.specs.ByText.{number_of}

-- the number is that of the specifier, if it has one
abbrev pub IsStop : List (Parts × Entry) → Stop → Type 0
IsStop entries at = at.number ≡ number_of entries (text_of at.specifier.now)
