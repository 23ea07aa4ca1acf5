-- What can't be vendored among the entries of a graph, and why (this project's profile).
use Rattle.std.specs.Prelude.{◌≡◌, ◌⊎◌, Bool, true, false, List, [], ◌∷◌, codes, Option, Some, None, Ok, Err}
use Rattle.std.specs.Option.{option_or}
use Rattle.url.specs.Parts.{Parts}
use Rattle.es_site.specs.declared.site.Site.{Site}
use Rattle.es_site.specs.declared.site.DependencyKind.{DependencyKind}
use Rattle.es_site.specs.declared.site.DependencyKind.TheVariants as kind
use Rattle.graph_entry.specs.declared.entry.Dependency.{Dependency}
use Rattle.graph_entry.specs.declared.entry.JsModule.{JsModule}
use Rattle.graph_entry.specs.declared.entry.Module.TheVariants.{Js, Wasm}
use Rattle.graph_entry.specs.declared.entry.Entry.{Entry}
use Rattle.graph_entry.specs.declared.entry.Entry.TheVariants as entry
use Rattle.graph_entry.specs.Specifier.{text_of}
use Rattle.graph_entry.specs.Resolution.{Resolved, has_scheme}
use Rattle.graph_entry.specs.Reading.{Reading}
use Rattle.graph_builder.specs.Reach.{Specifier}
use Rattle.graph_vendor.specs.declared.plan.VendorCause.{VendorCause}
use Rattle.graph_vendor.specs.declared.plan.VendorCause.TheVariants.{DataName, EntryError, OtherAnalyser, RefusedEdge, ReferenceComment, WasmImport}
use Rattle.graph_vendor.specs.Names.{Entries}

-- ---- edges

abbrev pub kind_cause : DependencyKind → Option VendorCause
kind_cause kind.ReferencePath = Some ReferenceComment
kind_cause kind.ReferenceTypes = Some ReferenceComment
kind_cause kind.Wasm = Some WasmImport
kind_cause _ = None

-- why an edge can't be vendored: it has no target, or no literal that can be replaced
abbrev pub edge_cause : Resolved → DependencyKind → Option VendorCause
edge_cause (Err e) k = Some RefusedEdge
edge_cause (Ok url) k = kind_cause k

-- that of the first edge that can't
abbrev pub edges_cause : List Dependency → Option VendorCause
edges_cause [] = None
edges_cause (d ∷ ds) = option_or (edge_cause d.resolution d.kind) (edges_cause ds)

-- ---- sources

-- an edge has what a site tells
pub record IsSite (d : Dependency) (site : Site) : Type 0 where
  pub kind : d.kind ≡ site.kind
  pub type_only : d.type_only ≡ site.type_only
  pub range : d.range ≡ Some site.range
  pub text : d.text ≡ site.value
  pub attribute : d.attribute ≡ site.attribute

-- the edges are those of these sites, in their order
abbrev pub AreOfSites : List Dependency → List Site → Type 0
AreOfSites [] [] = Unit {0}
AreOfSites (d ∷ ds) (site ∷ sites) = IsSite d site × AreOfSites ds sites
AreOfSites _ _ = ⊥

-- the module's edges are those of the sites that its text has
pub record IsOwn (reads : Reading) (s : Specifier) (m : JsModule) : Type 0 where
  pub sites : List Site
  pub read : reads s m.media_type m.text (Ok sites)
  pub same : AreOfSites m.dependencies sites

-- why a source can't be vendored, if it can't
pub data OfSource (reads : Reading) (s : Specifier) (m : JsModule) (cause : Option VendorCause) : Type 0 where
  -- its edges are its own
  own : IsOwn reads s m → cause ≡ edges_cause m.dependencies → OfSource reads s m cause
  -- they aren't
  other : ¬ IsOwn reads s m → cause ≡ Some OtherAnalyser → OfSource reads s m cause

-- ---- entries

-- why the entry can't be vendored, if it can't, by whether its specifier is a `data:` URL
abbrev pub HasCause : Reading → Bool → Specifier → Entry → Option VendorCause → Type 0
HasCause reads true s e cause = cause ≡ Some DataName
HasCause reads false s (entry.Error fault) cause = cause ≡ Some EntryError
HasCause reads false s (entry.Module (Js m)) cause = OfSource reads s m cause
HasCause reads false s (entry.Module (Wasm m)) cause = cause ≡ edges_cause m.dependencies
HasCause reads false s _ cause = cause ≡ None

-- an entry that can't is told, with its specifier
abbrev pub Told : Type 0
Told = Option (VendorCause × Parts)

-- the first entry that can't be vendored is told, if there is one
abbrev pub IsFirstRefused : Reading → Entries → Told → Type 0
IsFirstRefused reads [] found = found ≡ None
IsFirstRefused reads (e ∷ es) found =
    ((cause : VendorCause) × HasCause reads (has_scheme (codes "data") e.0) (text_of e.0) e.1 (Some cause)
    × (found ≡ Some (cause, e.0)))
    ⊎ (HasCause reads (has_scheme (codes "data") e.0) (text_of e.0) e.1 None × IsFirstRefused reads es found)
