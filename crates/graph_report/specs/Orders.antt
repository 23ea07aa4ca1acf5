-- The order of a graph's modules, or a cycle of their static edges, line by line (this project's profile).
use Rattle.std.specs.Prelude.{◌≡◌, ℕ, List, [], ◌++◌, codes, Option, Some, None, option_and_then, slice_get}
use Rattle.std.specs.List.{flat_map}
use Rattle.json.specs.Print.{quoted}
use Rattle.url.specs.Parts.{Parts}
use Rattle.graph_entry.specs.declared.entry.Dependency.{Dependency}
use Rattle.graph_entry.specs.declared.entry.Entry.{Entry}
use Rattle.graph_entry.specs.Specifier.{text_of}
use Rattle.graph_builder.specs.Reach.{Specifier}
use Rattle.graph_builder.specs.Graph.{GraphData, entry_of}
use Rattle.graph_order.specs.declared.found.CycleEdge.{CycleEdge}
use Rattle.graph_order.specs.declared.found.Order.{Order}
use Rattle.graph_order.specs.declared.found.Order.TheVariants.{Sorted, Cycle}
use Rattle.graph_order.specs.Order.{IsFound}
use Rattle.graph_report.specs.Report.{line_end, blank, range_word, edges_of}

-- the line of a module
unfoldable pub order_line : Parts → List ℕ
order_line url = codes "order " ++ text_of url ++ line_end

-- the dependency with this number of the module at a specifier
abbrev pub dependency_at : List (Parts × Entry) → Specifier → ℕ → Option Dependency
dependency_at entries s n = option_and_then (λ e. slice_get (edges_of e) n) (entry_of entries s)

-- where it stands, and its text
abbrev pub place_words : Option Dependency → List ℕ
place_words None = []
place_words (Some d) = range_word d.range ++ blank ++ quoted d.text

-- the line of an edge of a cycle
unfoldable pub cycle_line : GraphData → CycleEdge → List ℕ
cycle_line graph e =
    codes "cycle " ++ text_of e.module ++ blank ++ place_words (dependency_at graph.entries (text_of e.module) e.dependency)
    ++ codes " -> " ++ text_of e.target ++ line_end

-- the lines of what is found
abbrev pub order_text : GraphData → Order → List ℕ
order_text graph (Sorted list) = flat_map order_line list
order_text graph (Cycle cycle) = flat_map (cycle_line graph) cycle

-- the text is that of the graph's order, or of its cycle
abbrev pub IsOrderText : GraphData → List ℕ → Type 0
IsOrderText graph text = (found : Order) × IsFound graph.entries found × (text ≡ order_text graph found)
