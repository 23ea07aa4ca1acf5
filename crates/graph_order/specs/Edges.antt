-- The static edges of a graph: those whose modules run before the module that has them (this project's profile).
use Rattle.std.specs.Prelude.{◌≡◌, ℕ, Bool, true, false, not, ◌&&◌, List, Option, Some, None, is_some, option_and_then, slice_get, if◌then◌else◌}
use Rattle.url.specs.Parts.{Parts}
use Rattle.es_site.specs.declared.site.DependencyKind.{DependencyKind}
use Rattle.es_site.specs.declared.site.DependencyKind.TheVariants.{Import, ImportSource, Export, ImportEquals, Wasm}
use Rattle.graph_entry.specs.declared.entry.Dependency.{Dependency}
use Rattle.graph_entry.specs.declared.entry.Module.{Module}
use Rattle.graph_entry.specs.declared.entry.Entry.{Entry}
use Rattle.graph_entry.specs.declared.entry.Entry.TheVariants as entry
use Rattle.graph_entry.specs.Entry.{edge_target}
use Rattle.graph_builder.specs.Rules.{Specifier, edges_of}
use Rattle.graph_builder.specs.Graph.{entry_of, module_at, resolved}

-- a graph's entries
abbrev pub Entries : Type 0
Entries = List (Parts × Entry)

-- an edge of this kind leads to what runs first
abbrev pub is_static_kind : DependencyKind → Bool
is_static_kind Import = true
is_static_kind ImportSource = true
is_static_kind Export = true
is_static_kind ImportEquals = true
is_static_kind Wasm = true
is_static_kind _ = false

-- an edge for types alone leads to nothing that runs
abbrev pub is_static : Dependency → Bool
is_static d = is_static_kind d.kind && not d.type_only

-- the specifier of the module that a specifier leads to, if it leads to one
abbrev pub module_there : Entries → Specifier → Option Specifier
module_there entries s = if is_some (module_at entries s) then Some (resolved entries s) else None

-- the specifier of the module that an edge leads to, if it is static and leads to one
abbrev pub static_target : Entries → Dependency → Option Specifier
static_target entries d = if is_static d then option_and_then (module_there entries) (edge_target d) else None

-- there is a module at the specifier
abbrev pub IsModule : Entries → Specifier → Type 0
IsModule entries s = (m : Module) × (entry_of entries s ≡ Some (entry.Module m))

-- an edge: from the module at a specifier, by its dependency with this number, to the module at another
pub record Edge : Type 0 where
  pub from : Specifier
  pub place : ℕ
  pub to : Specifier

-- it is a static edge of the graph
pub record IsStaticEdge (entries : Entries) (e : Edge) : Type 0 where
  pub holder : Module
  pub there : entry_of entries e.from ≡ Some (entry.Module holder)
  pub edge : Dependency
  pub at : slice_get (edges_of holder) e.place ≡ Some edge
  pub leads : static_target entries edge ≡ Some e.to
