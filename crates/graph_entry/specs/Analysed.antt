-- What one answer of a loader makes of one specifier, case by case (this project's profile).
use Rattle.std.specs.Prelude.{◌≡◌, ℕ, Bool, true, false, List, map, codes, Option, Some, None, MatchOption, Result, Ok, Err, IsUtf8}
use Rattle.url.specs.Parts.{Parts}
use Rattle.url.specs.Parser.{Parsed, parse_url}
use Rattle.es_site.specs.declared.site.Site.{Site}
use Rattle.es_site.specs.declared.site.DependencyKind.TheVariants as dependency_kind
use Rattle.graph_entry.specs.declared.answer.LoadAnswer.{LoadAnswer}
use Rattle.graph_entry.specs.declared.answer.LoadAnswer.TheVariants as answer
use Rattle.graph_entry.specs.declared.entry.Dependency.{Dependency}
use Rattle.graph_entry.specs.declared.entry.JsModule.{JsModule}
use Rattle.graph_entry.specs.declared.entry.Module.{Module}
use Rattle.graph_entry.specs.declared.entry.Module.TheVariants.{Js}
use Rattle.graph_entry.specs.declared.entry.ModuleError.{ModuleError}
use Rattle.graph_entry.specs.declared.entry.Entry.{Entry}
use Rattle.graph_entry.specs.declared.entry.Entry.TheVariants as entry
use Rattle.graph_entry.specs.declared.entry.ModuleError.TheVariants.{Missing, Loading, UnsupportedMediaType, Parse, DataUrl, PackageReference, OutOfMemory}
use Rattle.media_type.specs.declared.media_type.MediaType.{MediaType}
use Rattle.media_type.specs.declared.media_type.MediaType.TheVariants.{Unknown}
use Rattle.media_type.specs.declared.media_type.ModuleKind.{ModuleKind}
use Rattle.media_type.specs.declared.media_type.ModuleKind.TheVariants as module_kind
use Rattle.media_type.specs.Specifiers.{of_specifier, by_header}
use Rattle.media_type.specs.ContentTypes.{with_content_type}
use Rattle.media_type.specs.MediaType.{kind_of}
use Rattle.data_specifier.specs.declared.data_module.DataModule.{DataModule}
use Rattle.data_specifier.specs.declared.error.DataError.{DataError}
use Rattle.data_specifier.specs.Data.{data_of}
use Rattle.package_ref.specs.declared.reference.PackageRef.{PackageRef}
use Rattle.package_ref.specs.Reference.{IsReference}
use Rattle.lexical_path.specs.Specifiers.{begins}
use Rattle.graph_entry.specs.Headers.{HeaderList, header_value}
use Rattle.source_text.specs.module_text.ModuleText.{without_mark}
use Rattle.graph_entry.specs.Json.{no_utf8, OfJson}
use Rattle.graph_entry.specs.Wasm.{OfWasm}
use Rattle.graph_entry.specs.Resolution.{KindResolves}
use Rattle.graph_entry.specs.Reading.{Sites}
use Rattle.graph_entry.specs.Ways.{Ways, default_ways}

-- the media type of a specifier is that of the URL that its text is read as
abbrev pub media_type_read : Parsed Parts → MediaType
media_type_read (Ok url) = of_specifier url
media_type_read (Err e) = Unknown

-- content of this media type is no module
abbrev pub unsupported : MediaType → Entry
unsupported media_type = entry.Error (UnsupportedMediaType media_type)

-- the edge of a site in the module at this specifier
abbrev pub dependency_of : KindResolves → List ℕ → Site → Dependency
dependency_of resolves s site = record {
  kind = site.kind;
  type_only = site.type_only;
  range = Some site.range;
  text = site.value;
  attribute = site.attribute;
  resolution = resolves site.kind s site.value;
}

-- the module at this specifier: its text, and one edge for each of its sites, in order
abbrev pub js_module : KindResolves → List ℕ → MediaType → List ℕ → List Site → JsModule
js_module resolves s media_type text sites = record {
  media_type = media_type;
  text = text;
  dependencies = map (dependency_of resolves s) sites;
}

abbrev pub module_of : KindResolves → List ℕ → MediaType → List ℕ → List Site → Entry
module_of resolves s media_type text sites = entry.Module (Js (js_module resolves s media_type text sites))

-- the entry of a source: the module of its sites, or what is wrong with it
abbrev pub source_entry : KindResolves → List ℕ → MediaType → List ℕ → Sites → Entry
source_entry resolves s media_type text (Ok sites) = module_of resolves s media_type text sites
source_entry resolves s media_type text (Err d) = entry.Error (Parse d)

-- what the text of a source makes
pub record OfText (ways : Ways) (s : List ℕ) (media_type : MediaType) (text : List ℕ) (made : Entry) : Type 0 where
  pub sites : Sites
  pub read : ways.reads s media_type text sites
  pub is : made ≡ source_entry ways.resolves s media_type text sites

-- what the bytes of a source make
pub data OfBytes (ways : Ways) (s : List ℕ) (media_type : MediaType) (bytes : List ℕ) (made : Entry) : Type 0 where
  -- what their text makes
  with_text : IsUtf8 bytes → OfText ways s media_type (without_mark bytes) made → OfBytes ways s media_type bytes made
  -- they are no text
  no_text : ¬ IsUtf8 bytes → made ≡ no_utf8 → OfBytes ways s media_type bytes made

-- what content makes, by how a module of its media type is read
abbrev pub OfKind : Ways → List ℕ → MediaType → ModuleKind → List ℕ → Entry → Type 0
OfKind ways s media_type module_kind.Source bytes made = OfBytes ways s media_type bytes made
OfKind ways s media_type module_kind.Json bytes made = OfJson bytes made
OfKind ways s media_type module_kind.Wasm bytes made = OfWasm (ways.resolves dependency_kind.Wasm) s bytes made

-- what content makes: of some media types there are no modules
abbrev pub OfContent : Ways → List ℕ → MediaType → List ℕ → Entry → Type 0
OfContent ways s media_type bytes made =
    MatchOption (kind_of media_type) (made ≡ unsupported media_type) (λ read. OfKind ways s media_type read bytes made)

-- a module that content makes, or why it makes none; or memory ran out
abbrev pub IsParsed : (Entry → Type 0) → Result Module ModuleError → Type 0
IsParsed makes (Ok m) = makes (entry.Module m)
IsParsed makes (Err OutOfMemory) = Unit {0}
IsParsed makes (Err e) = makes (entry.Error e)

-- the media type of content with these headers, at this specifier
abbrev pub media_type_at : List ℕ → HeaderList → MediaType
media_type_at s headers = by_header (media_type_read (parse_url None s)) (header_value (codes "content-type") headers)

-- what a loader's answer makes of this specifier
abbrev pub OfAnswer : Ways → List ℕ → LoadAnswer → Entry → Type 0
OfAnswer ways s (answer.Content headers bytes) made = OfContent ways s (media_type_at s headers) bytes made
OfAnswer ways s (answer.Redirect target) made = made ≡ entry.Redirect target
OfAnswer ways s answer.External made = made ≡ entry.External
OfAnswer ways s answer.Absent made = made ≡ entry.Error Missing
OfAnswer ways s answer.Failed made = made ≡ entry.Error Loading

-- what a `data:` specifier makes: the content that it holds, whose media type no path tells
abbrev pub OfData : Ways → List ℕ → Result DataModule DataError → Entry → Type 0
OfData ways s (Ok held) made = OfContent ways s (with_content_type Unknown held.mime) held.body made
OfData ways s (Err e) made = made ≡ entry.Error (DataUrl e)

-- what an `npm:` or `jsr:` specifier makes
pub data OfPackage (s : List ℕ) (made : Entry) : Type 0 where
  -- the package that it names
  with_package : (named : PackageRef) → IsReference s named → made ≡ entry.Package named → OfPackage s made
  -- it names none
  no_package : ((named : PackageRef) → ¬ IsReference s named) → made ≡ entry.Error PackageReference → OfPackage s made

-- what a specifier makes that no loader is asked for, by whether it is a `data:` specifier
abbrev pub OfUnasked : Ways → Bool → List ℕ → Entry → Type 0
OfUnasked ways true s made = OfData ways s (data_of s) made
OfUnasked ways false s made = OfPackage s made

-- what this answer makes of this specifier; `None` where no loader is asked for it
unfoldable pub AnalysedBy : Ways → List ℕ → Option LoadAnswer → Entry → Type 0
AnalysedBy ways s (Some answer) made = OfAnswer ways s answer made
AnalysedBy ways s None made = OfUnasked ways (begins s (codes "data:")) s made

-- by the URL Standard and the parser
abbrev pub Analysed : List ℕ → Option LoadAnswer → Entry → Type 0
Analysed = AnalysedBy default_ways
