-- The groups of a graph's modules, line by line (this project's profile).
use Rattle.std.specs.Prelude.{◌≡◌, ℕ, List, ◌++◌, codes, map}
use Rattle.std.specs.List.{flat_map}
use Rattle.url.specs.Parts.{Parts}
use Rattle.graph_entry.specs.Specifier.{text_of}
use Rattle.graph_builder.specs.Graph.{GraphData, texts}
use Rattle.graph_groups.specs.Groups.{AreGroups}
use Rattle.graph_report.specs.Report.{line_end, blank}

-- a member of a group, after a blank
unfoldable pub member_word : Parts → List ℕ
member_word url = blank ++ text_of url

-- the line of a group
unfoldable pub group_line : List Parts → List ℕ
group_line members = codes "group" ++ flat_map member_word members ++ line_end

-- the text is that of the graph's groups, in their order
abbrev pub IsGroupsText : GraphData → List ℕ → Type 0
IsGroupsText graph text =
    (found : List (List Parts)) × AreGroups graph.entries (map texts found) × (text ≡ flat_map group_line found)
