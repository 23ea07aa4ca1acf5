-- An entry of a graph, and its edges, as records and texts.
use Rattle.std.specs.Prelude.{◌≡◌, ℕ, ◌+◌, List, [], ◌∷◌, ◌++◌, length, Option, Some, None, Result, Ok, Err, unwrap_or}
use Rattle.std.specs.List.{flat_map}
use Rattle.base.specs.declared.range.Range.{Range}
use Rattle.url.specs.Parts.{Parts}
use Rattle.es_site.specs.declared.site.DependencyKind.{DependencyKind}
use Rattle.es_site.specs.declared.site.DependencyKind.TheVariants.{Import, ImportSource, ImportDefer, Export, ImportEquals, Dynamic, DynamicSource, DynamicDefer, ReferencePath, ReferenceTypes, Wasm, Referrer, Require, RequireResolve, TypeImport, Worker, Address}
use Rattle.es_site.specs.declared.site.Attribute.{Attribute}
use Rattle.es_site.specs.declared.site.Attribute.TheVariants.{Absent, Named, Unknown}
use Rattle.media_type.specs.declared.media_type.MediaType.{MediaType}
use Rattle.media_type.specs.declared.media_type.MediaType.TheVariants as media
use Rattle.graph_entry.specs.declared.entry.Dependency.{Dependency}
use Rattle.graph_entry.specs.declared.entry.Entry.{Entry}
use Rattle.graph_entry.specs.declared.entry.Entry.TheVariants as entry
use Rattle.graph_entry.specs.declared.entry.Module.TheVariants as made
use Rattle.graph_entry.specs.declared.entry.ModuleError.{ModuleError}
use Rattle.graph_entry.specs.declared.entry.ModuleError.TheVariants.{Missing, Loading, TooManyRedirects, UnsupportedMediaType, Decode, Parse, WasmParse, DataUrl, PackageReference, OutOfMemory}
use Rattle.graph_entry.specs.declared.resolution.ResolutionError.{ResolutionError}
use Rattle.graph_entry.specs.declared.resolution.ResolutionError.TheVariants.{ImportPrefixMissing, InvalidUrl, InvalidDowngrade, InvalidLocalImport, InvalidTypeAssertion, InvalidSourcePhase, Refused}
use Rattle.graph_entry.specs.Specifier.{text_of}
use Rattle.graph_builder.specs.Graph.{number_in}
use Rattle.graph_session.specs.declared.records.EntryRecord.{EntryRecord}
use Rattle.graph_session.specs.declared.records.EdgeRecord.{EdgeRecord}
use Rattle.graph_session.specs.declared.records.LaidEntry.{LaidEntry}

-- where there is no number: the greatest of 64 bits
abbrev pub none : ℕ
none = 18446744073709551615

-- the number of a specifier's entry
abbrev pub number_or_none : List Parts → Parts → ℕ
number_or_none numbered url = unwrap_or (number_in numbered (text_of url)) none

-- ---- edges

abbrev pub kind_number : DependencyKind → ℕ
kind_number Import = 0
kind_number Export = 1
kind_number ImportEquals = 2
kind_number Dynamic = 3
kind_number ReferencePath = 4
kind_number ReferenceTypes = 5
kind_number Wasm = 6
kind_number Referrer = 7
kind_number ImportSource = 8
kind_number ImportDefer = 9
kind_number DynamicSource = 10
kind_number DynamicDefer = 11
kind_number Require = 12
kind_number RequireResolve = 13
kind_number TypeImport = 14
kind_number Worker = 15
kind_number Address = 16

-- whether an edge has an import attribute `type`: no, the text doesn't say, or yes
abbrev pub attribute_number : Attribute → ℕ
attribute_number Absent = 0
attribute_number Unknown = 1
attribute_number (Named text) = 2

abbrev pub attribute_text : Attribute → List ℕ
attribute_text (Named text) = text
attribute_text _ = []

abbrev pub range_in : Option Range → Range
range_in (Some range) = range
range_in None = record { start = 0; end = 0 }

-- where it is in its module
abbrev pub range_of : Dependency → Range
range_of d = range_in d.range

-- what it resolves to
abbrev pub text_to : Result Parts ResolutionError → List ℕ
text_to (Ok target) = text_of target
text_to (Err fault) = []

abbrev pub target_text : Dependency → List ℕ
target_text d = text_to d.resolution

abbrev pub number_to : List Parts → Result Parts ResolutionError → ℕ
number_to numbered (Ok target) = number_or_none numbered target
number_to numbered (Err fault) = none

abbrev pub target_number : List Parts → Dependency → ℕ
target_number numbered d = number_to numbered d.resolution

-- why it has no target
abbrev pub fault_in : Result Parts ResolutionError → ℕ
fault_in (Ok target) = 0
fault_in (Err (ImportPrefixMissing specifier)) = 1
fault_in (Err (InvalidUrl why)) = 2
fault_in (Err InvalidDowngrade) = 3
fault_in (Err InvalidLocalImport) = 4
fault_in (Err InvalidTypeAssertion) = 5
fault_in (Err InvalidSourcePhase) = 6
fault_in (Err (Refused why)) = 7

abbrev pub edge_fault : Dependency → ℕ
edge_fault d = fault_in d.resolution

-- its value, the text of its attribute, and its target
abbrev pub edge_texts : Dependency → List ℕ
edge_texts d = d.text ++ attribute_text d.attribute ++ target_text d

-- an edge whose texts stand from there on
abbrev pub edge_record : List Parts → ℕ → Dependency → EdgeRecord
edge_record numbered at d = record {
  kind = kind_number d.kind;
  type_only = d.type_only;
  start = (range_of d).start;
  end = (range_of d).end;
  value_start = at;
  value_end = at + length d.text;
  attribute = attribute_number d.attribute;
  attribute_end = at + length d.text + length (attribute_text d.attribute);
  target_end = at + length (edge_texts d);
  target = target_number numbered d;
  fault = edge_fault d;
}

-- edges whose texts follow one another from there on
abbrev pub edge_records : List Parts → ℕ → List Dependency → List EdgeRecord
edge_records numbered at [] = []
edge_records numbered at (d ∷ ds) = edge_record numbered at d ∷ edge_records numbered (at + length (edge_texts d)) ds

abbrev pub all_edge_texts : List Dependency → List ℕ
all_edge_texts ds = flat_map edge_texts ds

-- ---- entries

abbrev pub edges_of : Entry → List Dependency
edges_of (entry.Module (made.Js m)) = m.dependencies
edges_of (entry.Module (made.Wasm m)) = m.dependencies
edges_of _ = []

abbrev pub state_number : Entry → ℕ
state_number (entry.Module m) = 0
state_number (entry.Redirect target) = 1
state_number (entry.Package held) = 2
state_number entry.External = 3
state_number (entry.Error e) = 4

abbrev pub number_of_type : MediaType → ℕ
number_of_type media.Dts = 0
number_of_type media.Dmts = 1
number_of_type media.Dcts = 2
number_of_type media.TypeScript = 3
number_of_type media.Mts = 4
number_of_type media.Cts = 5
number_of_type media.Tsx = 6
number_of_type media.JavaScript = 7
number_of_type media.Mjs = 8
number_of_type media.Cjs = 9
number_of_type media.Jsx = 10
number_of_type media.Json = 11
number_of_type media.Wasm = 12
number_of_type media.Jsonc = 13
number_of_type media.Json5 = 14
number_of_type media.Css = 15
number_of_type media.Html = 16
number_of_type media.Markdown = 17
number_of_type media.Sql = 18
number_of_type media.SourceMap = 19
number_of_type media.Unknown = 20

-- of a module, and of what is refused for it; 21 where there is none
abbrev pub media_number : Entry → ℕ
media_number (entry.Module (made.Js m)) = number_of_type m.media_type
media_number (entry.Module (made.Json m)) = 11
media_number (entry.Module (made.Wasm m)) = 12
media_number (entry.Error (UnsupportedMediaType m)) = number_of_type m
media_number _ = 21

-- how many bytes a module has
abbrev pub size_of : Entry → ℕ
size_of (entry.Module (made.Js m)) = length m.text
size_of (entry.Module (made.Json m)) = length m.text
size_of (entry.Module (made.Wasm m)) = length m.bytes
size_of _ = 0

-- where it redirects to, or where redirects that were too many began
abbrev pub redirect_text : Entry → List ℕ
redirect_text (entry.Redirect target) = text_of target
redirect_text (entry.Error (TooManyRedirects target)) = text_of target
redirect_text _ = []

abbrev pub redirect_number : List Parts → Entry → ℕ
redirect_number numbered (entry.Redirect target) = number_or_none numbered target
redirect_number numbered (entry.Error (TooManyRedirects target)) = number_or_none numbered target
redirect_number numbered _ = none

abbrev pub error_number : ModuleError → ℕ
error_number Missing = 1
error_number Loading = 2
error_number (TooManyRedirects target) = 3
error_number (UnsupportedMediaType m) = 4
error_number Decode = 5
error_number (Parse d) = 6
error_number (WasmParse e) = 7
error_number (DataUrl e) = 8
error_number PackageReference = 9
error_number OutOfMemory = 10

-- why there is no module
abbrev pub fault_number : Entry → ℕ
fault_number (entry.Error e) = error_number e
fault_number _ = 0

-- the byte where a lexical fault is; of a fault among the tokens no place is promised
abbrev pub IsPlaceOf : Option Range → ℕ → Type 0
IsPlaceOf (Some range) place = place ≡ range.start
IsPlaceOf None place = Unit {0}

abbrev pub IsPlace : Entry → ℕ → Type 0
IsPlace (entry.Error (Parse d)) place = IsPlaceOf d.range place
IsPlace _ place = place ≡ 0

-- its specifier, where it redirects to, and the texts of its edges
abbrev pub entry_texts : Parts → Entry → List ℕ
entry_texts url e = text_of url ++ redirect_text e ++ all_edge_texts (edges_of e)

-- an entry without its edges and texts, where its fault is at this place
abbrev pub entry_record : List Parts → Entry → ℕ → EntryRecord
entry_record numbered e at = record {
  state = state_number e;
  media_type = media_number e;
  fault = fault_number e;
  place = at;
  size = size_of e;
  specifier_end = 0;
  target_end = 0;
  target = redirect_number numbered e;
  edges = 0;
  text_bytes = 0;
}

-- an entry with its edges and texts
pub record IsLaid (numbered : List Parts) (url : Parts) (e : Entry) (laid : LaidEntry) : Type 0 where
  pub place : IsPlace e laid.entry.place
  pub is_entry : laid.entry ≡ record (entry_record numbered e laid.entry.place) {
    specifier_end = length (text_of url);
    target_end = length (text_of url) + length (redirect_text e);
    edges = length (edges_of e);
    text_bytes = length (entry_texts url e);
  }
  pub edges : laid.edges.items
      ≡ edge_records numbered (length (text_of url) + length (redirect_text e)) (edges_of e)
  pub texts : laid.texts.items ≡ entry_texts url e
