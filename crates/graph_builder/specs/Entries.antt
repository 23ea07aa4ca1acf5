-- What an iterator over a graph's entries has still to give.
use Rattle.std.specs.Prelude.{List}
use Rattle.std.specs.Borrow.{Bor}
use Rattle.url.specs.Parts.{Parts}
use Rattle.graph_entry.specs.declared.entry.Entry.{Entry}
use Rattle.graph_tables.specs.specifier_table.Numbers.{at_numbers}
use Rattle.graph_builder.specs.declared.entries.Entries.{Entries}

-- what a specifier and its entry are, behind their references
abbrev pub entry_pair : Bor Parts × Bor Entry → Parts × Entry
entry_pair e = (e.0.now, e.1.now)

-- the entries that are still to come
abbrev pub entries_left : Entries → List (Parts × Entry)
entries_left it = at_numbers it.all.now it.rest.now
