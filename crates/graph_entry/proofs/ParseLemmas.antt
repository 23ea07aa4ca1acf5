-- What content makes, as a module or the reason that there is none.
use Rattle.std.proofs.Common.{◌≡◌, sym, subst, List, ℕ}
use Rattle.std.specs.Prelude.{Option, Some, None, MatchOption, Ok, Err}
use Rattle.es_site.specs.declared.site.DependencyKind.TheVariants as dependency_kind
use Rattle.media_type.specs.declared.media_type.MediaType.{MediaType}
use Rattle.media_type.specs.declared.media_type.ModuleKind.{ModuleKind}
use Rattle.media_type.specs.declared.media_type.ModuleKind.TheVariants as module_kind
use Rattle.media_type.specs.MediaType.{kind_of}
use Rattle.graph_entry.specs.declared.entry.Entry.{Entry}
use Rattle.graph_entry.specs.declared.entry.Entry.TheVariants as entry
use Rattle.graph_entry.specs.declared.entry.ModuleError.{ModuleError}
use Rattle.graph_entry.specs.declared.entry.ModuleError.TheVariants as error
use Rattle.graph_entry.specs.Json.{OfJson, with_json, no_json}
use Rattle.graph_entry.specs.Resolution.{Resolves, KindResolves}
use Rattle.graph_entry.specs.Reading.{Sites}
use Rattle.graph_entry.specs.Ways.{Ways}
use Rattle.graph_entry.specs.Wasm.{OfWasm, with_imports, faulty}
use Rattle.graph_entry.specs.Analysed.{OfContent, OfKind, OfBytes, source_entry, with_text, no_text, unsupported, IsParsed}

-- the entry is a module or an error
abbrev pub IsOfContent : Entry → Type 0
IsOfContent (entry.Module m) = Unit {0}
IsOfContent (entry.Error e) = Unit {0}
IsOfContent (entry.Redirect target) = ⊥
IsOfContent (entry.Package held) = ⊥
IsOfContent entry.External = ⊥

source-parsed : (by : KindResolves) (s : List ℕ) (media : MediaType) (text : List ℕ) (found : Sites)
    → IsOfContent (source_entry by s media text found)
source-parsed by s media text (Ok found) = tt
source-parsed by s media text (Err d) = tt

bytes-parsed : (ways : Ways) (s : List ℕ) (media : MediaType) (bytes : List ℕ) (made : Entry)
    → OfBytes ways s media bytes made
    → IsOfContent made
bytes-parsed ways s media bytes made (with_text utf8 makes) =
    subst IsOfContent (sym makes.is) (source-parsed ways.resolves s media _ makes.sites)
bytes-parsed ways s media bytes made (no_text not is) = subst IsOfContent (sym is) tt

json-parsed : (bytes : List ℕ) (made : Entry) → OfJson bytes made → IsOfContent made
json-parsed bytes made (with_json utf8 is) = subst IsOfContent (sym is) tt
json-parsed bytes made (no_json not is) = subst IsOfContent (sym is) tt

wasm-parsed : (by : Resolves) (s bytes : List ℕ) (made : Entry) → OfWasm by s bytes made → IsOfContent made
wasm-parsed by s bytes made (with_imports deps reads is) = subst IsOfContent (sym is) tt
wasm-parsed by s bytes made (faulty e room reads is) = subst IsOfContent (sym is) tt

by_kind-parsed : (ways : Ways) (s : List ℕ) (media : MediaType) (bytes : List ℕ) (read : Option ModuleKind)
    (made : Entry)
    → MatchOption read (made ≡ unsupported media) (λ k. OfKind ways s media k bytes made) → IsOfContent made
by_kind-parsed ways s media bytes None made is = subst IsOfContent (sym is) tt
by_kind-parsed ways s media bytes (Some module_kind.Source) made makes = bytes-parsed ways s media bytes made makes
by_kind-parsed ways s media bytes (Some module_kind.Json) made makes = json-parsed bytes made makes
by_kind-parsed ways s media bytes (Some module_kind.Wasm) made makes = wasm-parsed (ways.resolves dependency_kind.Wasm) s bytes made makes

-- content makes modules and errors alone
pub content-parsed : (ways : Ways) (s : List ℕ) (media : MediaType) (bytes : List ℕ) (made : Entry)
    → OfContent ways s media bytes made
    → IsOfContent made
content-parsed ways s media bytes made makes = by_kind-parsed ways s media bytes (kind_of media) made makes

-- an error that content makes is the reason
pub parsed_error : (makes : Entry → Type 0) (e : ModuleError) → makes (entry.Error e) → IsParsed makes (Err e)
parsed_error makes error.Missing is = is
parsed_error makes error.Loading is = is
parsed_error makes (error.TooManyRedirects target) is = is
parsed_error makes (error.UnsupportedMediaType m) is = is
parsed_error makes error.Decode is = is
parsed_error makes (error.Parse d) is = is
parsed_error makes (error.WasmParse e) is = is
parsed_error makes (error.DataUrl e) is = is
parsed_error makes error.PackageReference is = is
parsed_error makes error.OutOfMemory is = tt
