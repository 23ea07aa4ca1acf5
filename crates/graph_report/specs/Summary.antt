-- How many entries, edges and faults a graph has, on a line (this project's profile).
use Rattle.std.specs.Prelude.{ℕ, ◌+◌, Bool, List, ◌++◌, length, codes, decimal, count_by, is_err}
use Rattle.std.specs.List.{sum_by}
use Rattle.url.specs.Parts.{Parts}
use Rattle.graph_entry.specs.declared.entry.Dependency.{Dependency}
use Rattle.graph_entry.specs.declared.entry.Entry.{Entry}
use Rattle.graph_entry.specs.declared.entry.Entry.TheVariants as entry
use Rattle.graph_builder.specs.Graph.{GraphData}
use Rattle.graph_report.specs.Report.{edges_of, line_end}

-- the faults of an entry that is an error
abbrev pub own_faults : Entry → ℕ
own_faults (entry.Redirect target) = 0
own_faults (entry.Module held) = 0
own_faults (entry.Package held) = 0
own_faults entry.External = 0
own_faults (entry.Error e) = 1

-- the edge leads nowhere
abbrev pub is_refused : Dependency → Bool
is_refused d = is_err d.resolution

-- how many edges an entry has
abbrev pub edge_count : Parts × Entry → ℕ
edge_count e = length (edges_of e.1)

-- how many faults an entry has: itself, and each edge that leads nowhere
abbrev pub entry_faults : Entry → ℕ
entry_faults held = own_faults held + count_by is_refused (edges_of held)

abbrev pub fault_count : Parts × Entry → ℕ
fault_count e = entry_faults e.1

-- the line of so many entries, edges and faults
unfoldable pub counts_line : ℕ → ℕ → ℕ → List ℕ
counts_line entries edges faults =
    codes "entries " ++ decimal entries ++ codes " edges " ++ decimal edges ++ codes " faults " ++ decimal faults ++ line_end

-- the line of a graph: its entries, their edges and their faults
abbrev pub summary_of : GraphData → List ℕ
summary_of graph =
    counts_line (length graph.entries) (sum_by edge_count graph.entries) (sum_by fault_count graph.entries)
