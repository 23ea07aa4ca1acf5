-- No entry's fault is that memory ran out.
use Rattle.std.proofs.Common.{◌≡◌, ◌≢◌, sym, subst, refl, List, ℕ}
use Rattle.std.specs.Prelude.{Bool, true, false, ◌==◌, codes, position, Option, Some, None, MatchOption, Result, Ok, Err}
use Rattle.wasm_dep_analyzer.specs.declared.error.ParseError.{ParseError}
use Rattle.wasm_dep_analyzer.specs.declared.error.ParseError.TheVariants as wasm
use Rattle.es_site.specs.declared.site.DependencyKind.TheVariants as dependency_kind
use Rattle.graph_entry.specs.declared.answer.LoadAnswer.{LoadAnswer}
use Rattle.graph_entry.specs.declared.answer.LoadAnswer.TheVariants as answer
use Rattle.graph_entry.specs.declared.entry.Entry.{Entry}
use Rattle.graph_entry.specs.declared.entry.Entry.TheVariants as entry
use Rattle.graph_entry.specs.declared.entry.ModuleError.TheVariants.{WasmParse, DataUrl}
use Rattle.media_type.specs.declared.media_type.MediaType.{MediaType}
use Rattle.media_type.specs.declared.media_type.ModuleKind.{ModuleKind}
use Rattle.media_type.specs.declared.media_type.ModuleKind.TheVariants as module_kind
use Rattle.media_type.specs.MediaType.{kind_of}
use Rattle.media_type.specs.declared.media_type.MediaType.TheVariants.{Unknown}
use Rattle.media_type.specs.ContentTypes.{with_content_type}
use Rattle.data_specifier.specs.declared.data_module.DataModule.{DataModule}
use Rattle.data_specifier.specs.declared.error.DataError.{DataError}
use Rattle.data_specifier.specs.declared.error.DataError.TheVariants as data_url
use Rattle.data_specifier.specs.Data.{content_of, or_no_base64, body_of, with_mime, data_at, data_of}
use Rattle.lexical_path.specs.Specifiers.{begins}
use Rattle.graph_entry.specs.Entry.{KeepsFault}
use Rattle.graph_entry.specs.Json.{OfJson, with_json, no_json}
use Rattle.graph_entry.specs.Wasm.{OfWasm, with_imports, faulty}
use Rattle.graph_entry.specs.Resolution.{Resolves}
use Rattle.graph_entry.specs.Reading.{Sites}
use Rattle.graph_entry.specs.Ways.{Ways}
use Rattle.graph_entry.specs.Analysed.{AnalysedBy, OfData, with_package, no_package, OfUnasked, media_type_at, OfKind, OfBytes, OfText, source_entry, with_text, no_text, unsupported}

module _ (ways : Ways) (s : List ℕ) (media : MediaType) where
  OfText-fault : (text : List ℕ) (made : Entry) → OfText ways s media text made → KeepsFault made
  OfText-fault text made makes = subst KeepsFault (sym makes.is) (by makes.sites)
    where
      by : (found : Sites) → KeepsFault (source_entry ways.resolves s media text found)
      by (Ok found) = tt
      by (Err d) = tt

  OfBytes-fault : (bytes : List ℕ) (made : Entry) → OfBytes ways s media bytes made → KeepsFault made
  OfBytes-fault bytes made (with_text utf8 makes) = OfText-fault _ made makes
  OfBytes-fault bytes made (no_text not is) = subst KeepsFault (sym is) tt

OfJson-fault : (bytes : List ℕ) (made : Entry) → OfJson bytes made → KeepsFault made
OfJson-fault bytes made (with_json utf8 is) = subst KeepsFault (sym is) tt
OfJson-fault bytes made (no_json not is) = subst KeepsFault (sym is) tt

kept : (e : ParseError) → e ≢ wasm.OutOfMemory → KeepsFault (entry.Error (WasmParse e))
kept wasm.OutOfMemory room = absurd (room refl)
kept _ room = tt

OfWasm-fault : (by : Resolves) (s bytes : List ℕ) (made : Entry) → OfWasm by s bytes made → KeepsFault made
OfWasm-fault by s bytes made (with_imports deps reads is) = subst KeepsFault (sym is) tt
OfWasm-fault by s bytes made (faulty e room reads is) = subst KeepsFault (sym is) (kept e room)

by_kind-fault : (ways : Ways) (s : List ℕ) (media : MediaType) (bytes : List ℕ) (read : Option ModuleKind)
    (made : Entry)
    → MatchOption read (made ≡ unsupported media) (λ k. OfKind ways s media k bytes made) → KeepsFault made
by_kind-fault ways s media bytes None made is = subst KeepsFault (sym is) tt
by_kind-fault ways s media bytes (Some module_kind.Source) made makes =
    OfBytes-fault ways s media bytes made makes
by_kind-fault ways s media bytes (Some module_kind.Json) made makes = OfJson-fault bytes made makes
by_kind-fault ways s media bytes (Some module_kind.Wasm) made makes = OfWasm-fault (ways.resolves dependency_kind.Wasm) s bytes made makes

-- ---- where no loader is asked

-- no reading of a `data:` URL is refused because memory ran out
abbrev told : Result DataModule DataError → Type 0
told (Ok held) = Unit {0}
told (Err e) = e ≢ data_url.OutOfMemory

body-told : (mime : List ℕ) (body : Option (List ℕ)) → told (with_mime mime (or_no_base64 body))
body-told mime None = λ h. cc
body-told mime (Some bytes) = tt

module-told : (mime encoded : List ℕ) (is_base64 : Bool) → told (with_mime mime (body_of is_base64 encoded))
module-told mime encoded true = body-told mime _
module-told mime encoded false = tt

data-told : (content : List ℕ) (at : Option ℕ) → told (data_at content at)
data-told content None = λ h. cc
data-told content (Some at) = module-told _ _ _

data_of-told : (text : List ℕ) → told (data_of text)
unfolding data_of
data_of-told text = data-told (content_of text) (position (λ b. b == 44) (content_of text))

kept_data : (e : DataError) → e ≢ data_url.OutOfMemory → KeepsFault (entry.Error (DataUrl e))
kept_data data_url.OutOfMemory room = absurd (room refl)
kept_data _ room = tt

OfData-fault : (ways : Ways) (s : List ℕ) (held : Result DataModule DataError) (made : Entry) → told held
    → OfData ways s held made
    → KeepsFault made
OfData-fault ways s (Ok held) made t makes =
    let media = with_content_type Unknown held.mime in
    by_kind-fault ways s media held.body (kind_of media) made makes
OfData-fault ways s (Err e) made t is = subst KeepsFault (sym is) (kept_data e t)

OfUnasked-fault : (ways : Ways) (s : List ℕ) (is_data : Bool) (made : Entry) → OfUnasked ways is_data s made
    → KeepsFault made
OfUnasked-fault ways s true made makes = OfData-fault ways s (data_of s) made (data_of-told s) makes
OfUnasked-fault ways s false made (with_package p names is) = subst KeepsFault (sym is) tt
OfUnasked-fault ways s false made (no_package none is) = subst KeepsFault (sym is) tt

-- what an answer makes keeps no fault that memory ran out
pub Analysed-fault : (ways : Ways) (s : List ℕ) (a : Option LoadAnswer) (made : Entry) → AnalysedBy ways s a made
    → KeepsFault made
unfolding AnalysedBy
Analysed-fault ways s (Some (answer.Content headers bytes)) made is =
    let media = media_type_at s headers in by_kind-fault ways s media bytes (kind_of media) made is
Analysed-fault ways s (Some (answer.Redirect target)) made is = subst KeepsFault (sym is) tt
Analysed-fault ways s (Some answer.External) made is = subst KeepsFault (sym is) tt
Analysed-fault ways s (Some answer.Absent) made is = subst KeepsFault (sym is) tt
Analysed-fault ways s (Some answer.Failed) made is = subst KeepsFault (sym is) tt
Analysed-fault ways s None made is = OfUnasked-fault ways s (begins s (codes "data:")) made is
