-- The entry that a graph has for a specifier, against the first entry, which is what its answer means. A redirect that leads
-- too far is a fault, and so is an edge with an import attribute that the module at its end doesn't ask for, or in a source
-- phase that it hasn't.
use Rattle.std.specs.Prelude.{◌≡◌, ℕ, zero, suc, ◌+◌, ◌≤◌, Bool, true, false, not, ◌&&◌, ◌||◌, List, [], ◌∷◌, bytes_eq, codes, Option, Some, None, Ok, Err}
use Rattle.url.specs.Parts.{Parts}
use Rattle.es_site.specs.declared.site.Attribute.{Attribute}
use Rattle.es_site.specs.declared.site.Attribute.TheVariants.{Absent, Named, Unknown}
use Rattle.es_site.specs.declared.site.DependencyKind.{DependencyKind}
use Rattle.graph_entry.specs.Specifier.{text_of}
use Rattle.graph_entry.specs.declared.resolution.ResolutionError.{ResolutionError}
use Rattle.graph_entry.specs.declared.resolution.ResolutionError.TheVariants.{InvalidTypeAssertion, InvalidSourcePhase}
use Rattle.graph_entry.specs.declared.entry.Dependency.{Dependency}
use Rattle.graph_entry.specs.declared.entry.Module.{Module}
use Rattle.graph_entry.specs.declared.entry.Module.TheVariants.{Js, Json, Wasm}
use Rattle.graph_entry.specs.declared.entry.Entry.{Entry}
use Rattle.graph_entry.specs.declared.entry.Entry.TheVariants as entry
use Rattle.graph_entry.specs.declared.entry.ModuleError.TheVariants.{TooManyRedirects}
use Rattle.graph_builder.specs.Rules.{edges_of, is_source}
use Rattle.graph_builder.specs.Reach.{Specifier, Answers, Rules, IsEntry}

-- ---- redirects

-- so many redirects lead from one specifier to another
abbrev pub Redirects : Rules → Answers → ℕ → Specifier → Specifier → Type 0
Redirects rules answers zero s t = s ≡ t
Redirects rules answers (suc n) s t =
    (next : Parts) × IsEntry rules answers s (entry.Redirect next) × Redirects rules answers n (text_of next) t

-- so many redirects are followed at most (this project's profile)
abbrev pub most_redirects : ℕ
most_redirects = 10

-- more redirects lead on from the specifier than are followed, as they do where they never end
abbrev pub IsTooFar : Rules → Answers → Specifier → Type 0
IsTooFar rules answers s = (t : Specifier) × Redirects rules answers (most_redirects + 1) s t

-- following the redirects from the specifier ends: at most so many lead to this entry
pub record LeadsTo (rules : Rules) (answers : Answers) (s : Specifier) (last : Entry) : Type 0 where
  pub steps : ℕ
  pub few : steps ≤ most_redirects
  pub end : Specifier
  pub way : Redirects rules answers steps s end
  pub is_entry : IsEntry rules answers end last

-- where an entry redirects to
abbrev pub redirect_of : Entry → Option Specifier
redirect_of (entry.Redirect target) = Some (text_of target)
redirect_of (entry.Module m) = None
redirect_of (entry.Package held) = None
redirect_of entry.External = None
redirect_of (entry.Error e) = None

-- the entry leads to another specifier
abbrev pub is_redirect : Entry → Bool
is_redirect (entry.Redirect target) = true
is_redirect (entry.Module m) = false
is_redirect (entry.Package held) = false
is_redirect entry.External = false
is_redirect (entry.Error e) = false

-- the entry is a module
abbrev pub is_module : Entry → Bool
is_module (entry.Redirect target) = false
is_module (entry.Module m) = true
is_module (entry.Package held) = false
is_module entry.External = false
is_module (entry.Error e) = false

-- ---- import attributes

-- whether an attribute fits a module (ECMA-262 and HTML, "module type allowed"): a module of JSON asks for `json`, and every
-- other one for none; what the text doesn't tell fits all (this project's profile)
abbrev pub fits : Attribute → Module → Bool
fits Absent (Js m) = true
fits Absent (Json m) = false
fits Absent (Wasm m) = true
fits (Named text) (Js m) = false
fits (Named text) (Json m) = bytes_eq text (codes "json")
fits (Named text) (Wasm m) = false
fits Unknown m = true

-- there is no attribute
abbrev pub is_absent : Attribute → Bool
is_absent Absent = true
is_absent (Named text) = false
is_absent Unknown = false

-- the same, where an import without an attribute may be of JSON, or may not
abbrev pub fits_by : Bool → Attribute → Module → Bool
fits_by json_without_attribute attribute m = (json_without_attribute && is_absent attribute) || fits attribute m

-- whether a phase fits a module: a source phase asks for one of WebAssembly (TC39, "Source Phase Imports"; this project's
-- profile), any other for none
abbrev pub fits_phase : DependencyKind → Module → Bool
fits_phase kind (Js m) = not (is_source kind)
fits_phase kind (Json m) = not (is_source kind)
fits_phase kind (Wasm m) = true

-- an edge is followed, and redirects lead from its target to a module that isn't such a one
pub record LeadsAmiss (rules : Rules) (answers : Answers) (m : Module) (d : Dependency) (suits : Module → Bool)
    : Type 0 where
  pub followed : rules.follows m d ≡ true
  pub target : Parts
  pub resolved : d.resolution ≡ Ok target
  pub found : Module
  pub leads : LeadsTo rules answers (text_of target) (entry.Module found)
  pub unfit : suits found ≡ false

-- its attribute doesn't fit the module there
abbrev pub IsMisfit : Rules → Answers → Module → Dependency → Type 0
IsMisfit rules answers m d = LeadsAmiss rules answers m d (fits_by rules.json_without_attribute d.attribute)

-- its phase doesn't
abbrev pub IsPhaseMisfit : Rules → Answers → Module → Dependency → Type 0
IsPhaseMisfit rules answers m d = LeadsAmiss rules answers m d (fits_phase d.kind)

-- the edge, refused for this
abbrev pub refused_edge : ResolutionError → Dependency → Dependency
refused_edge why d = record {
  kind = d.kind;
  type_only = d.type_only;
  range = d.range;
  text = d.text;
  attribute = d.attribute;
  resolution = Err why;
}

-- what becomes of an edge of a module
pub data IsFinalEdge (rules : Rules) (answers : Answers) (m : Module) (d made : Dependency) : Type 0 where
  -- it is refused for its attribute
  misfit : IsMisfit rules answers m d → made ≡ refused_edge InvalidTypeAssertion d → IsFinalEdge rules answers m d made
  -- it isn't, but for its phase
  phase_misfit : (IsMisfit rules answers m d → ⊥) → IsPhaseMisfit rules answers m d
      → made ≡ refused_edge InvalidSourcePhase d → IsFinalEdge rules answers m d made
  -- it stays
  fit : (IsMisfit rules answers m d → ⊥) → (IsPhaseMisfit rules answers m d → ⊥) → made ≡ d
      → IsFinalEdge rules answers m d made

-- what becomes of the edges of a module, one by one
abbrev pub AreFinalEdges : Rules → Answers → Module → List Dependency → List Dependency → Type 0
AreFinalEdges rules answers m [] [] = Unit {0}
AreFinalEdges rules answers m (d ∷ ds) (made ∷ more) = IsFinalEdge rules answers m d made × AreFinalEdges rules answers m ds more
AreFinalEdges rules answers m [] (made ∷ more) = ⊥
AreFinalEdges rules answers m (d ∷ ds) [] = ⊥

-- the module with these edges in place of its own
abbrev pub with_edges : Module → List Dependency → Module
with_edges (Js m) edges = Js (record { media_type = m.media_type; text = m.text; dependencies = edges })
with_edges (Json m) edges = Json m
with_edges (Wasm m) edges = Wasm (record { bytes = m.bytes; dependencies = edges })

-- ---- the entry of the graph

pub data IsFinal (rules : Rules) (answers : Answers) (s : Specifier) (made : Entry) : Type 0 where
  -- a redirect, where following it ends
  redirect : (target : Parts) → IsEntry rules answers s (entry.Redirect target)
      → (last : Entry) → LeadsTo rules answers s last → is_redirect last ≡ false
      → made ≡ entry.Redirect target → IsFinal rules answers s made
  -- a redirect that leads too far
  too_far : (target : Parts) → IsEntry rules answers s (entry.Redirect target) → IsTooFar rules answers s
      → made ≡ entry.Error (TooManyRedirects target) → IsFinal rules answers s made
  -- a module with what becomes of its edges
  with_module : (first : Module) → IsEntry rules answers s (entry.Module first)
      → (edges : List Dependency) → AreFinalEdges rules answers first (edges_of first) edges
      → made ≡ entry.Module (with_edges first edges) → IsFinal rules answers s made
  -- any other first entry
  same : (first : Entry) → IsEntry rules answers s first → is_redirect first ≡ false → is_module first ≡ false
      → made ≡ first → IsFinal rules answers s made
