-- What the functions inside the crate promise each other: sources whose literals can be replaced.
use Rattle.std.specs.Prelude.{◌≡◌, ℕ, ◌+◌, List, [], ◌∷◌, None, String, string_bytes}
use Rattle.std.specs.Global.{Global}
use Rattle.std.specs.List.{AllByRecursion}
use Rattle.es_site.specs.declared.site.Site.{Site}
use Rattle.graph_entry.specs.declared.entry.Dependency.{Dependency}
use Rattle.graph_entry.specs.declared.entry.JsModule.{JsModule}
use Rattle.graph_entry.specs.declared.entry.Module.{Module}
use Rattle.graph_entry.specs.declared.entry.Module.TheVariants.{Js, Json, Wasm}
use Rattle.graph_entry.specs.declared.entry.Entry.{Entry}
use Rattle.graph_entry.specs.declared.entry.Entry.TheVariants as entry
use Rattle.specifier_edits.specs.Sites.{AreSites}
use Rattle.graph_vendor.specs.Names.{Entries, Names}
use Rattle.graph_vendor.specs.Refused.{AreOfSites, edges_cause}
use Rattle.graph_entry.specs.Reading.{Reading}
use Rattle.graph_builder.specs.Graph.{GraphData}
use Rattle.graph_vendor.specs.declared.plan.Planned.{Planned}
use Rattle.graph_vendor.specs.declared.plan.Planned.TheVariants.{Made, Unplanned}
use Rattle.graph_vendor.specs.Plan.{literal_to, IsMade, IsUnnamed, Passes, IsRefusal}

-- the module's edges are those of sites of its text, and all of them can be replaced
pub record CanBeNamed (m : JsModule) : Type 0 where
  pub sites : List Site
  pub of_text : AreSites m.text sites
  pub same : AreOfSites m.dependencies sites
  pub free : edges_cause m.dependencies ≡ None

abbrev pub IsOwnSource : Module → Type 0
IsOwnSource (Js m) = CanBeNamed m
IsOwnSource (Json m) = Unit {0}
IsOwnSource (Wasm m) = Unit {0}

abbrev pub IsOwnEntry : Entry → Type 0
IsOwnEntry (entry.Module m) = IsOwnSource m
IsOwnEntry _ = Unit {0}

abbrev pub AreOwn : Entries → Type 0
AreOwn entries = AllByRecursion (λ e. IsOwnEntry e.1) entries

-- the changes, numbered from here on, are the new literals of these edges
abbrev pub AreLiterals : Entries → Names → ℕ → List Dependency → List (ℕ × String Global) → Type 0
AreLiterals entries names k [] [] = Unit {0}
AreLiterals entries names k (d ∷ ds) (change ∷ changes) =
    (change.0 ≡ k) × (string_bytes change.1 ≡ literal_to entries names d.resolution)
    × AreLiterals entries names (k + 1) ds changes
AreLiterals entries names k _ _ = ⊥

-- what becomes of a graph of which nothing is refused, where the modules get these names
abbrev pub IsNamed : GraphData → Names → Planned → Type 0
IsNamed graph names (Made plan) = IsMade graph names plan
IsNamed graph names (Unplanned cause s) = IsUnnamed graph names cause s

-- what becomes of any graph
abbrev pub IsTold : Reading → GraphData → Names → Planned → Type 0
IsTold reads graph names (Made plan) = Passes reads graph × IsMade graph names plan
IsTold reads graph names (Unplanned cause s) = IsRefusal reads graph names cause s
