-- One answer makes one entry of a specifier, where a source is read as one thing.
use Rattle.std.proofs.Common.{◌≡◌, ◌∙◌, sym, ap, List, ℕ}
use Rattle.std.specs.Prelude.{Bool, true, false, codes, Option, Some, None, MatchOption, Result, Ok, Err}
use Rattle.graph_entry.specs.declared.answer.LoadAnswer.{LoadAnswer}
use Rattle.graph_entry.specs.declared.answer.LoadAnswer.TheVariants as answer
use Rattle.graph_entry.specs.declared.entry.Entry.{Entry}
use Rattle.media_type.specs.declared.media_type.MediaType.{MediaType}
use Rattle.media_type.specs.declared.media_type.ModuleKind.{ModuleKind}
use Rattle.media_type.specs.declared.media_type.ModuleKind.TheVariants as module_kind
use Rattle.media_type.specs.MediaType.{kind_of}
use Rattle.media_type.specs.declared.media_type.MediaType.TheVariants.{Unknown}
use Rattle.media_type.specs.ContentTypes.{with_content_type}
use Rattle.data_specifier.specs.declared.data_module.DataModule.{DataModule}
use Rattle.data_specifier.specs.declared.error.DataError.{DataError}
use Rattle.data_specifier.specs.Data.{data_of}
use Rattle.package_ref.proofs.Theorems.{one_reference}
use Rattle.graph_entry.specs.declared.entry.Entry.TheVariants as entry
use Rattle.es_site.specs.declared.site.DependencyKind.TheVariants as dependency_kind
use Rattle.lexical_path.specs.Specifiers.{begins}
use Rattle.source_text.specs.module_text.ModuleText.{without_mark}
use Rattle.graph_entry.specs.Reading.{IsFunction}
use Rattle.graph_entry.specs.Ways.{Ways}
use Rattle.graph_entry.specs.Analysed.{AnalysedBy, OfContent, OfData, OfPackage, with_package, no_package, OfUnasked, media_type_at, OfKind, OfBytes, OfText, source_entry, with_text, no_text, unsupported}
use Rattle.graph_entry.proofs.ContentLemmas.{OfJson-once, OfWasm-once}

-- ---- one entry, level by level

module _ (ways : Ways) (reads_once : IsFunction ways.reads) (s : List ℕ) (media : MediaType) where
  -- a text
  pub OfText-once : (text : List ℕ) (made other : Entry) → OfText ways s media text made
      → OfText ways s media text other
      → made ≡ other
  OfText-once text made other makes also =
      makes.is
      ∙ ap (source_entry ways.resolves s media text)
      (reads_once s media text makes.sites also.sites makes.read also.read)
      ∙ sym also.is

  -- bytes
  pub OfBytes-once : (bytes : List ℕ) (made other : Entry) → OfBytes ways s media bytes made
      → OfBytes ways s media bytes other → made ≡ other
  OfBytes-once bytes made other (with_text utf8 makes) (with_text also makes_too) =
      OfText-once (without_mark bytes) made other makes makes_too
  OfBytes-once bytes made other (with_text utf8 makes) (no_text not so) = absurd (not utf8)
  OfBytes-once bytes made other (no_text not is) (with_text utf8 makes) = absurd (not utf8)
  OfBytes-once bytes made other (no_text not is) (no_text also so) = is ∙ sym so

-- a package
OfPackage-once : (s : List ℕ) (made other : Entry) → OfPackage s made → OfPackage s other → made ≡ other
OfPackage-once s made other (with_package p names is) (with_package q also so) =
    is ∙ ap entry.Package (one_reference s p q names also) ∙ sym so
OfPackage-once s made other (with_package p names is) (no_package none so) = absurd (none p names)
OfPackage-once s made other (no_package none is) (with_package q also so) = absurd (none q also)
OfPackage-once s made other (no_package none is) (no_package also so) = is ∙ sym so

-- an answer
module _ (ways : Ways) (reads_once : IsFunction ways.reads) where
  -- content, by how it is read
  by_kind-once : (s : List ℕ) (media : MediaType) (bytes : List ℕ) (read : Option ModuleKind) (made other : Entry)
      → MatchOption read (made ≡ unsupported media) (λ k. OfKind ways s media k bytes made)
      → MatchOption read (other ≡ unsupported media) (λ k. OfKind ways s media k bytes other) → made ≡ other
  by_kind-once s media bytes None made other is so = is ∙ sym so
  by_kind-once s media bytes (Some module_kind.Source) made other makes makes_too =
      OfBytes-once ways reads_once s media bytes made other makes makes_too
  by_kind-once s media bytes (Some module_kind.Json) made other makes makes_too =
      OfJson-once bytes made other makes makes_too
  by_kind-once s media bytes (Some module_kind.Wasm) made other makes makes_too =
      OfWasm-once (ways.resolves dependency_kind.Wasm) s bytes made other makes makes_too

  -- content of a media type
  OfContent-once : (s : List ℕ) (media : MediaType) (bytes : List ℕ) (made other : Entry)
      → OfContent ways s media bytes made → OfContent ways s media bytes other → made ≡ other
  OfContent-once s media bytes made other makes makes_too =
      by_kind-once s media bytes (kind_of media) made other makes makes_too

  -- ---- where no loader is asked

  OfData-once : (s : List ℕ) (held : Result DataModule DataError) (made other : Entry)
      → OfData ways s held made → OfData ways s held other → made ≡ other
  OfData-once s (Ok held) made other makes makes_too =
      OfContent-once s (with_content_type Unknown held.mime) held.body made other makes makes_too
  OfData-once s (Err e) made other is so = is ∙ sym so

  OfUnasked-once : (s : List ℕ) (is_data : Bool) (made other : Entry)
      → OfUnasked ways is_data s made → OfUnasked ways is_data s other → made ≡ other
  OfUnasked-once s true made other makes makes_too = OfData-once s (data_of s) made other makes makes_too
  OfUnasked-once s false made other makes makes_too = OfPackage-once s made other makes makes_too

  -- ---- the whole

  -- one answer makes one entry
  pub Analysed-once : (s : List ℕ) (a : Option LoadAnswer) (made other : Entry)
      → AnalysedBy ways s a made → AnalysedBy ways s a other → made ≡ other
  unfolding AnalysedBy
  Analysed-once s (Some (answer.Content headers bytes)) made other is so =
      OfContent-once s (media_type_at s headers) bytes made other is so
  Analysed-once s (Some (answer.Redirect target)) made other is so = is ∙ sym so
  Analysed-once s (Some answer.External) made other is so = is ∙ sym so
  Analysed-once s (Some answer.Absent) made other is so = is ∙ sym so
  Analysed-once s (Some answer.Failed) made other is so = is ∙ sym so
  Analysed-once s None made other is so = OfUnasked-once s (begins s (codes "data:")) made other is so
