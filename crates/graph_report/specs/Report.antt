-- The report of a graph, line by line (this project's profile). Places are decimal; texts are JSON strings (RFC 8259, "Strings").
use Rattle.std.specs.Prelude.{ℕ, Bool, true, false, List, [], ◌∷◌, ◌++◌, length, codes, decimal, Option, Some, None, Result, Ok, Err}
use Rattle.std.specs.List.{flat_map}
use Rattle.json.specs.Print.{quoted}
use Rattle.base.specs.declared.range.Range.{Range}
use Rattle.url.specs.Parts.{Parts}
use Rattle.es_site.specs.declared.site.DependencyKind.{DependencyKind}
use Rattle.es_site.specs.declared.site.DependencyKind.TheVariants.{Import, ImportSource, ImportDefer, Export, ImportEquals, Dynamic, DynamicSource, DynamicDefer, ReferencePath, ReferenceTypes, Wasm, Referrer, Require, RequireResolve, TypeImport, Worker, Address}
use Rattle.es_site.specs.declared.site.Attribute.{Attribute}
use Rattle.es_site.specs.declared.site.Attribute.TheVariants.{Absent, Named, Unknown}
use Rattle.package_ref.specs.declared.reference.PackageRef.{PackageRef}
use Rattle.package_ref.specs.declared.reference.PackageKind.{PackageKind}
use Rattle.package_ref.specs.declared.reference.PackageKind.TheVariants.{Npm, Jsr}
use Rattle.graph_entry.specs.declared.entry.Dependency.{Dependency}
use Rattle.graph_entry.specs.declared.entry.Entry.{Entry}
use Rattle.graph_entry.specs.declared.entry.Entry.TheVariants as entry
use Rattle.graph_entry.specs.declared.entry.Module.TheVariants as made
use Rattle.graph_entry.specs.declared.resolution.ResolutionError.{ResolutionError}
use Rattle.graph_entry.specs.Specifier.{text_of}
use Rattle.graph_entry.specs.MediaType.{name_of}
use Rattle.graph_entry.specs.Entry.{name_of_error}
use Rattle.graph_entry.specs.Resolution as resolution
use Rattle.graph_builder.specs.Graph.{GraphData}

-- a line's end, and a blank
abbrev pub line_end : List ℕ
line_end = 10 ∷ []

abbrev pub blank : List ℕ
blank = 32 ∷ []

-- ---- edges

-- the word for a kind of edge; three kinds tell whether the edge is only for types
abbrev pub kind_word : DependencyKind → Bool → List ℕ
kind_word Import false = codes "import"
kind_word Import true = codes "import-type"
kind_word ImportSource type_only = codes "import-source"
kind_word ImportDefer type_only = codes "import-defer"
kind_word Export false = codes "export"
kind_word Export true = codes "export-type"
kind_word ImportEquals false = codes "import-equals"
kind_word ImportEquals true = codes "import-equals-type"
kind_word Dynamic type_only = codes "dynamic"
kind_word DynamicSource type_only = codes "dynamic-source"
kind_word DynamicDefer type_only = codes "dynamic-defer"
kind_word ReferencePath type_only = codes "reference-path"
kind_word ReferenceTypes type_only = codes "reference-types"
kind_word Wasm type_only = codes "wasm"
kind_word Referrer type_only = codes "referrer"
kind_word Require type_only = codes "require"
kind_word RequireResolve type_only = codes "require-resolve"
kind_word TypeImport type_only = codes "type-import"
kind_word Worker type_only = codes "worker"
kind_word Address type_only = codes "address"

-- where the literal stands: from its first byte up to the byte behind it
abbrev pub range_word : Option Range → List ℕ
range_word None = codes "-"
range_word (Some range) = decimal range.start ++ codes "-" ++ decimal range.end

-- the attribute `type`
abbrev pub attribute_word : Attribute → List ℕ
attribute_word Absent = codes "-"
attribute_word (Named text) = quoted text
attribute_word Unknown = codes "?"

-- the target, or why there is none
abbrev pub outcome : Result Parts ResolutionError → List ℕ
outcome (Ok target) = codes "-> " ++ text_of target
outcome (Err fault) = codes "! " ++ resolution.name_of_error fault

-- an edge
unfoldable pub edge_words : Dependency → List ℕ
edge_words d =
    kind_word d.kind d.type_only ++ blank ++ range_word d.range ++ blank ++ quoted d.text ++ blank
    ++ attribute_word d.attribute ++ blank ++ outcome d.resolution

-- the line of an edge of an entry
unfoldable pub edge_line : Dependency → List ℕ
edge_line d = codes "  " ++ edge_words d ++ line_end

-- the line of an edge of a referrer outside
unfoldable pub import_line : Parts → Dependency → List ℕ
import_line referrer d = codes "import " ++ text_of referrer ++ blank ++ edge_words d ++ line_end

-- the lines of a referrer
abbrev pub import_lines : Parts × List Dependency → List ℕ
import_lines r = flat_map (import_line r.0) r.1

-- ---- entries

-- the word for a registry
abbrev pub registry_word : PackageKind → List ℕ
registry_word Npm = codes "npm"
registry_word Jsr = codes "jsr"

-- a part of a package that may be absent
abbrev pub part_word : Option (List ℕ) → List ℕ
part_word None = codes "-"
part_word (Some text) = quoted text

-- a package: its registry, its name, its requirement and its sub path
unfoldable pub package_words : PackageRef → List ℕ
package_words held =
    codes "package " ++ registry_word held.kind ++ blank ++ quoted held.name ++ blank ++ part_word held.requirement ++ blank
    ++ part_word held.sub_path

-- what an entry is
abbrev pub state : Entry → List ℕ
state (entry.Redirect target) = codes "redirect " ++ text_of target
state (entry.Module (made.Js m)) = codes "module " ++ name_of m.media_type ++ blank ++ decimal (length m.text)
state (entry.Module (made.Json m)) = codes "module Json " ++ decimal (length m.text)
state (entry.Module (made.Wasm m)) = codes "module Wasm " ++ decimal (length m.bytes)
state (entry.Package held) = package_words held
state entry.External = codes "external"
state (entry.Error e) = codes "error " ++ name_of_error e

-- an entry's edges
abbrev pub edges_of : Entry → List Dependency
edges_of (entry.Redirect target) = []
edges_of (entry.Module (made.Js m)) = m.dependencies
edges_of (entry.Module (made.Json m)) = []
edges_of (entry.Module (made.Wasm m)) = m.dependencies
edges_of (entry.Package held) = []
edges_of entry.External = []
edges_of (entry.Error e) = []

-- the lines of an entry: its specifier and state, and its edges
unfoldable pub entry_lines : Parts × Entry → List ℕ
entry_lines e = text_of e.0 ++ blank ++ state e.1 ++ line_end ++ flat_map edge_line (edges_of e.1)

-- ---- the whole

-- the line of a root
unfoldable pub root_line : Parts → List ℕ
root_line root = codes "root " ++ text_of root ++ line_end

-- the last line
unfoldable pub count_line : ℕ → List ℕ
count_line n = codes "entries " ++ decimal n ++ line_end

-- the report: the roots as handed in, what places outside import, the entries in their order, and how many there are
unfoldable pub report_of : GraphData → List ℕ
report_of graph =
    flat_map root_line graph.roots ++ flat_map import_lines graph.imports ++ flat_map entry_lines graph.entries ++ count_line (length graph.entries)
