-- Whether the new names of modules serve (this project's profile).
use Rattle.std.specs.Prelude.{◌≡◌, ◌⊎◌, Bool, true, false, ◌&&◌, List, [], ◌∷◌, bytes_eq, Option, Some, None, is_none, Ok, Err, if◌then◌else◌}
use Rattle.std.specs.Str.{is_utf8}
use Rattle.url.specs.Parts.{Parts}
use Rattle.graph_entry.specs.declared.entry.Dependency.{Dependency}
use Rattle.graph_entry.specs.declared.entry.Module.{Module}
use Rattle.graph_entry.specs.declared.entry.Entry.{Entry}
use Rattle.graph_entry.specs.declared.entry.Entry.TheVariants as entry
use Rattle.graph_entry.specs.Specifier.{text_of, loadable}
use Rattle.graph_entry.specs.Resolution.{Resolved, resolve}
use Rattle.graph_entry.specs.Analysed.{media_type_at}
use Rattle.graph_builder.specs.Rules.{edges_of}
use Rattle.graph_builder.specs.Reach.{Specifier}
use Rattle.graph_builder.specs.Graph.{entry_of}
use Rattle.graph_vendor.specs.Names.{Entries, Names, media_of, target_at, renamed, literal}

-- ---- names that are free

-- it is the specifier of no entry
abbrev pub is_free_at : Entries → Option Parts → Bool
is_free_at entries (Some target) = is_none (entry_of entries (text_of target))
is_free_at entries None = true

-- the new name of a module is the specifier of no entry
abbrev pub is_free : Entries → Names → Specifier → Entry → Bool
is_free entries names s (entry.Module m) = is_free_at entries (target_at names s)
is_free entries names s _ = true

-- the first module among these entries whose new name isn't
abbrev pub first_taken : Entries → Names → Entries → Option Parts
first_taken entries names [] = None
first_taken entries names (e ∷ es) =
    if is_free entries names (text_of e.0) e.1 then first_taken entries names es else Some e.0

-- ---- names by which modules are found as before

-- what a text leads to is the specifier
abbrev pub leads_by : Resolved → Option Specifier → Bool
leads_by (Ok there) (Some s) = bytes_eq s (text_of there)
leads_by (Ok there) None = false
leads_by (Err e) s = false

-- the new literal for a specifier is a text, which leads from this new name to that one's new name
abbrev pub leads_there : Entries → Names → Specifier → Specifier → Bool
leads_there entries names at to =
    is_utf8 (literal entries names to) && leads_by (resolve at (literal entries names to)) (renamed entries names to)

-- so does the new literal of an edge
abbrev pub keeps_edge : Entries → Names → Specifier → Resolved → Bool
keeps_edge entries names at (Ok to) = leads_there entries names at (text_of to)
keeps_edge entries names at (Err e) = true

-- so do those of all edges
abbrev pub keep_edges : Entries → Names → Specifier → List Dependency → Bool
keep_edges entries names at [] = true
keep_edges entries names at (d ∷ ds) = keeps_edge entries names at d.resolution && keep_edges entries names at ds

-- loaders are asked for the new name, it tells the module's media type, and the new literals lead on from it
pub record Serves (entries : Entries) (names : Names) (m : Module) (target : Parts) : Type 0 where
  pub loads : loadable (text_of target) ≡ true
  pub media : media_type_at (text_of target) [] ≡ media_of m
  pub edges : keep_edges entries names (text_of target) (edges_of m) ≡ true

abbrev pub ServesAt : Entries → Names → Module → Option Parts → Type 0
ServesAt entries names m (Some target) = Serves entries names m target
ServesAt entries names m None = ⊥

-- the module has a new name that serves
abbrev pub IsKept : Entries → Names → Specifier → Entry → Type 0
IsKept entries names s (entry.Module m) = ServesAt entries names m (target_at names s)
IsKept entries names s _ = Unit {0}

-- the first module among these entries without such a name is told, if there is one
abbrev pub IsFirstLost : Entries → Names → Entries → Option Parts → Type 0
IsFirstLost entries names [] found = found ≡ None
IsFirstLost entries names (e ∷ es) found =
    ((IsKept entries names (text_of e.0) e.1 → ⊥) × (found ≡ Some e.0))
    ⊎ (IsKept entries names (text_of e.0) e.1 × IsFirstLost entries names es found)
