-- The plan of a graph's modules as files of a folder (this project's profile).
use Rattle.std.specs.Prelude.{◌≡◌, ℕ, List, [], ◌∷◌, ◌++◌, bytes_eq, chars, encode_utf8_all, map, Option, Some, None, Result, Ok, Err, option_map, if◌then◌else◌}
use Rattle.std.specs.List.{filter_map, IsDistinct}
use Rattle.url.specs.Parts.{Parts}
use Rattle.base.specs.declared.range.Range.{Range}
use Rattle.es_site.specs.declared.site.Site.{Site}
use Rattle.lexical_path.specs.Specifiers.{begins}
use Rattle.source_text.specs.module_text.ModuleText.{mark}
use Rattle.es_literal.specs.Quotes.{quoted}
use Rattle.source_text.specs.declared.text_changes.change.TextChange.{TextChange}
use Rattle.source_text.specs.text_changes.Changes.{changed}
use Rattle.graph_entry.specs.declared.entry.Dependency.{Dependency}
use Rattle.graph_entry.specs.declared.entry.Module.{Module}
use Rattle.graph_entry.specs.declared.entry.Module.TheVariants.{Js, Json, Wasm}
use Rattle.graph_entry.specs.declared.entry.Entry.{Entry}
use Rattle.graph_entry.specs.declared.entry.Entry.TheVariants as entry
use Rattle.graph_entry.specs.Specifier.{text_of}
use Rattle.graph_entry.specs.Resolution.{Resolved}
use Rattle.graph_entry.specs.Reading.{Reading}
use Rattle.graph_builder.specs.Reach.{Specifier}
use Rattle.graph_builder.specs.Graph.{GraphData, texts}
use Rattle.graph_vendor.specs.declared.plan.VendorCause.{VendorCause}
use Rattle.graph_vendor.specs.declared.plan.VendorCause.TheVariants.{ReferrerImport, NameTaken, NameNotKept}
use Rattle.graph_vendor.specs.declared.plan.VendorError.{VendorError}
use Rattle.graph_vendor.specs.declared.plan.VendorError.TheVariants.{Refused, OutOfMemory}
use Rattle.vendor_files.specs.declared.file.VendorFile.{VendorFile}
use Rattle.graph_vendor.specs.declared.plan.VendorPlan.{VendorPlan}
use Rattle.graph_vendor.specs.Names.{Entries, Names, Held, modules_of, names_in, target_at, renamed, literal}
use Rattle.graph_vendor.specs.Refused.{IsFirstRefused}
use Rattle.graph_vendor.specs.Kept.{first_taken, IsFirstLost}

-- ---- the files

-- the new literal of an edge
abbrev pub literal_to : Entries → Names → Resolved → List ℕ
literal_to entries names (Ok url) = literal entries names (text_of url)
literal_to entries names (Err e) = []

abbrev pub range_or : Option Range → Range
range_or (Some range) = range
range_or None = record { start = 0; end = 0 }

-- the literal of an edge gives way to its new one, in double quotes
abbrev pub edit_of : Entries → Names → Dependency → TextChange
edit_of entries names d =
    record {
      range = range_or d.range;
      new_text = encode_utf8_all (quoted (chars (literal_to entries names d.resolution)));
    }

-- the site of an edge with this range
abbrev pub site_of : Dependency → Range → Site
site_of d range =
    record { kind = d.kind; type_only = d.type_only; range = range; value = d.text; attribute = d.attribute }

-- a text as the bytes of a file that is read as this text: where it begins with a byte order mark, one more stands in
-- front
abbrev pub in_file : List ℕ → List ℕ
in_file text = if begins text mark then mark ++ text else text

-- the bytes of a module's file
abbrev pub bytes_of : Entries → Names → Module → List ℕ
bytes_of entries names (Js m) = in_file (changed m.text 0 (map (edit_of entries names) m.dependencies))
bytes_of entries names (Json m) = in_file m.text
bytes_of entries names (Wasm m) = m.bytes

-- the file of a module that has a new name
abbrev pub file_at : Entries → Names → Held → Option VendorFile
file_at entries names m =
    option_map (λ target. record { source = m.0; target = target; bytes = bytes_of entries names m.1 })
    (target_at names (text_of m.0))

-- the files of the modules among these entries, in order
abbrev pub files_of : Entries → Names → List Held → List VendorFile
files_of entries names ms = filter_map (file_at entries names) ms

-- the specifier of an entry that isn't part of the graph's sources
abbrev pub external : Parts × Entry → Option Parts
external (url, entry.External) = Some url
external (url, _) = None

-- ---- the plan, or why there is none

-- the new names of files
abbrev pub targets_of : List VendorFile → List Specifier
targets_of files = map (λ (file : VendorFile). text_of file.target) files

-- the plan by these names, which serve
pub record IsMade (graph : GraphData) (names : Names) (plan : VendorPlan) : Type 0 where
  pub free : first_taken graph.entries names graph.entries ≡ None
  pub kept : IsFirstLost graph.entries names graph.entries None
  pub roots : texts plan.roots ≡ filter_map (λ r. renamed graph.entries names (text_of r)) graph.roots
  pub files : plan.files ≡ files_of graph.entries names (modules_of graph.entries)
  -- no two have one new name
  pub apart : IsDistinct bytes_eq (targets_of plan.files)
  pub externals : plan.externals ≡ filter_map external graph.entries

-- the first module whose new name doesn't serve
pub data IsUnnamed (graph : GraphData) (names : Names) (cause : VendorCause) (s : Parts) : Type 0 where
  taken : cause ≡ NameTaken → first_taken graph.entries names graph.entries ≡ Some s → IsUnnamed graph names cause s
  not_kept : first_taken graph.entries names graph.entries ≡ None → cause ≡ NameNotKept
      → IsFirstLost graph.entries names graph.entries (Some s) → IsUnnamed graph names cause s

-- no place outside imports from the graph, and none of its entries is refused
pub record Passes (reads : Reading) (graph : GraphData) : Type 0 where
  pub alone : graph.imports ≡ []
  pub all : IsFirstRefused reads graph.entries None

-- the first of the causes, with the specifier that has it
pub data IsRefusal (reads : Reading) (graph : GraphData) (names : Names) (cause : VendorCause) (s : Parts) :
    Type 0 where
  referrer : (rest : List (Parts × List Dependency)) (edges : List Dependency) → cause ≡ ReferrerImport
      → graph.imports ≡ (s, edges) ∷ rest → IsRefusal reads graph names cause s
  of_entry : graph.imports ≡ [] → IsFirstRefused reads graph.entries (Some (cause, s))
      → IsRefusal reads graph names cause s
  of_name : Passes reads graph → IsUnnamed graph names cause s → IsRefusal reads graph names cause s

-- what is answered, where the modules get these names
abbrev pub IsPlannedBy : Reading → GraphData → Names → Result VendorPlan VendorError → Type 0
IsPlannedBy reads graph names (Ok plan) = Passes reads graph × IsMade graph names plan
IsPlannedBy reads graph names (Err (Refused cause s)) = IsRefusal reads graph names cause s
IsPlannedBy reads graph names (Err OutOfMemory) = Unit {0}

abbrev pub IsPlanned : Reading → GraphData → Parts → Result VendorPlan VendorError → Type 0
IsPlanned reads graph base answer = IsPlannedBy reads graph (names_in base graph.entries) answer
