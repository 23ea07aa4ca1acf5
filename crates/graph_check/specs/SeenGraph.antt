-- What rules see of a graph, in the report's order: what places outside import, then each entry and its edges.
use Rattle.std.specs.Prelude.{ℕ, Bool, true, false, List, ◌∷◌, ◌++◌, map, Option, Some, None, option_map}
use Rattle.std.specs.List.{flat_map}
use Rattle.std.specs.Result.{result_ok}
use Rattle.std.proofs.Common.{◌⊎◌, inl, inr}
use Rattle.url.specs.Parts.{Parts, nonempty_host}
use Rattle.url.specs.Host.{host_text}
use Rattle.es_site.specs.declared.site.DependencyKind.{DependencyKind}
use Rattle.es_site.specs.declared.site.DependencyKind.TheVariants.{Dynamic, DynamicSource, DynamicDefer}
use Rattle.graph_entry.specs.declared.entry.Dependency.{Dependency}
use Rattle.graph_entry.specs.declared.entry.Entry.{Entry}
use Rattle.graph_entry.specs.declared.entry.Entry.TheVariants as entry
use Rattle.graph_entry.specs.Specifier.{text_of}
use Rattle.graph_builder.specs.Graph.{GraphData, entry_of}
use Rattle.graph_report.specs.Report.{kind_word, edges_of}
use Rattle.graph_policy.specs.Seen.{ModuleTexts, EdgeTexts, EntryTexts}

-- ---- the things of a graph

-- an entry of a specifier, or an edge of the module (or of the place outside) that has the specifier
pub data Thing : Type 0 where
  held : Parts → Entry → Thing
  edge : Parts → Dependency → Thing

-- the edges of a place outside
abbrev pub outside_things : Parts × List Dependency → List Thing
outside_things place = map (edge place.0) place.1

-- an entry, then its edges
abbrev pub entry_things : Parts × Entry → List Thing
entry_things e = held e.0 e.1 ∷ map (edge e.0) (edges_of e.1)

-- all of them
unfoldable pub things_in : GraphData → List Thing
things_in graph = flat_map outside_things graph.imports ++ flat_map entry_things graph.entries

-- ---- what is seen of one

-- the name of the package that an entry is
abbrev pub name_of_package : Option Entry → Option (List ℕ)
name_of_package (Some (entry.Package reference)) = Some reference.name
name_of_package _ = None

-- a specifier, with what the graph has there
abbrev pub module_seen : Parts → Option Entry → ModuleTexts
module_seen url there = record {
  specifier = text_of url;
  scheme = url.scheme;
  host = option_map host_text (nonempty_host url);
  package_name = name_of_package there;
}

-- a specifier in a graph
abbrev pub module_in : GraphData → Parts → ModuleTexts
module_in graph url = module_seen url (entry_of graph.entries (text_of url))

abbrev pub is_dynamic : DependencyKind → Bool
is_dynamic Dynamic = true
is_dynamic DynamicSource = true
is_dynamic DynamicDefer = true
is_dynamic _ = false

-- an edge of a module, with its own target
abbrev pub edge_seen : GraphData → ModuleTexts → Dependency → EdgeTexts
edge_seen graph from d = record {
  from = from;
  to = option_map (module_in graph) (result_ok d.resolution);
  text = d.text;
  kind = kind_word d.kind d.type_only;
  type_only = d.type_only;
  dynamic = is_dynamic d.kind;
}

-- the edges of an entry that is a module
abbrev pub edges_of_module : Entry → Option (List Dependency)
edges_of_module (entry.Module m) = Some (edges_of (entry.Module m))
edges_of_module _ = None

-- an entry: its specifier, and if it is a module its edges, as they are seen themselves
abbrev pub entry_seen : GraphData → Parts → Entry → EntryTexts
entry_seen graph url there = record {
  own = module_seen url (Some there);
  edges = option_map (map (edge_seen graph (module_in graph url))) (edges_of_module there);
}

abbrev pub seen_of : GraphData → Thing → (EntryTexts ⊎ EdgeTexts)
seen_of graph (held url there) = inl (entry_seen graph url there)
seen_of graph (edge url d) = inr (edge_seen graph (module_in graph url) d)
