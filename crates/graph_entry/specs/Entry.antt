-- Entries of a graph: their targets, their edges' places and their errors.
use Rattle.std.specs.Prelude.{◌≡◌, ℕ, ◌≤◌, List, length, slice_range, All, codes, Option, Some, option_map}
use Rattle.std.specs.Result.{result_ok}
use Rattle.base.specs.declared.range.Range.{Range}
use Rattle.source_reading.specs.Cuts.{Cuts}
use Rattle.graph_entry.specs.declared.entry.Dependency.{Dependency}
use Rattle.graph_entry.specs.declared.entry.Module.TheVariants.{Js, Json, Wasm}
use Rattle.graph_entry.specs.declared.entry.Entry.{Entry}
use Rattle.graph_entry.specs.declared.entry.Entry.TheVariants as entry
use Rattle.graph_entry.specs.declared.entry.ModuleError.{ModuleError}
use Rattle.graph_entry.specs.declared.entry.ModuleError.TheVariants.{Missing, Loading, TooManyRedirects, UnsupportedMediaType, Decode, Parse, WasmParse, DataUrl, PackageReference, OutOfMemory}
use Rattle.wasm_dep_analyzer.specs.declared.error.ParseError.TheVariants as wasm
use Rattle.data_specifier.specs.declared.error.DataError.TheVariants as data_url
use Rattle.graph_entry.specs.Specifier.{text_of}
use Rattle.graph_entry.specs.Resolution.{KeepsReason}

-- the text of an edge's target
abbrev pub edge_target : Dependency → Option (List ℕ)
edge_target d = option_map text_of (result_ok d.resolution)

-- the edge's range cuts from the text the literal or the reference whose value is the edge's text
abbrev pub CutsFrom : List ℕ → Dependency → Type 0
CutsFrom text d = (range : Range) × (d.range ≡ Some range) × Cuts text range d.text

-- the edge's range cuts from the bytes the edge's text itself
abbrev pub CutsName : List ℕ → Dependency → Type 0
CutsName bytes d =
    (range : Range) × (d.range ≡ Some range) × (range.start ≤ range.end) × (range.end ≤ length bytes)
    × (slice_range bytes range.start range.end ≡ d.text)

-- the reason for which the edge has no target, if it has none, is not that room ran out
abbrev pub KeepsReasonOf : List ℕ → Dependency → Type 0
KeepsReasonOf text d = KeepsReason d.resolution

-- a fact of each edge of the entry's module: P with a source's text, Q with a WebAssembly module's bytes
abbrev pub EachEdge : (List ℕ → Dependency → Type 0) → (List ℕ → Dependency → Type 0) → Entry → Type 0
EachEdge P Q (entry.Module (Js m)) = All (P m.text) m.dependencies
EachEdge P Q (entry.Module (Json m)) = Unit {0}
EachEdge P Q (entry.Module (Wasm m)) = All (Q m.bytes) m.dependencies
EachEdge P Q (entry.Package held) = Unit {0}
EachEdge P Q (entry.Redirect target) = Unit {0}
EachEdge P Q entry.External = Unit {0}
EachEdge P Q (entry.Error e) = Unit {0}

-- each edge of a source cuts its literal or reference from the module's text, and each of a WebAssembly module its name
-- from the bytes
abbrev pub EdgesCut : Entry → Type 0
EdgesCut made = EachEdge CutsFrom CutsName made

-- the fault of the entry, if it has one, is not that memory ran out
abbrev pub KeepsFault : Entry → Type 0
KeepsFault (entry.Error (WasmParse wasm.OutOfMemory)) = ⊥
KeepsFault (entry.Error (DataUrl data_url.OutOfMemory)) = ⊥
KeepsFault (entry.Error OutOfMemory) = ⊥
KeepsFault _ = Unit {0}

-- the name of an error, as reports write it
abbrev pub name_of_error : ModuleError → List ℕ
name_of_error Missing = codes "Missing"
name_of_error Loading = codes "Loading"
name_of_error (TooManyRedirects target) = codes "TooManyRedirects"
name_of_error (UnsupportedMediaType m) = codes "UnsupportedMediaType"
name_of_error Decode = codes "Decode"
name_of_error (Parse d) = codes "Parse"
name_of_error (WasmParse e) = codes "WasmParse"
name_of_error (DataUrl e) = codes "DataUrl"
name_of_error PackageReference = codes "PackageReference"
name_of_error OutOfMemory = codes "OutOfMemory"
