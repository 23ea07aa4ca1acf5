-- What holds of the edge of each site of a source holds of the edges of what an answer makes.
use Rattle.std.proofs.Common.{◌≡◌, sym, subst, refl, List, ℕ}
use Rattle.std.specs.Prelude.{Bool, true, false, codes, All, Option, Some, None, MatchOption, Result, Ok, Err, slice_index_or}
use Rattle.std.proofs.lemmas.List.Elements.{All-map}
use Rattle.es_site.specs.declared.site.Site.{Site}
use Rattle.es_site.specs.declared.site.DependencyKind.{DependencyKind}
use Rattle.es_site.specs.declared.site.DependencyKind.TheVariants as dependency_kind
use Rattle.source_reading.specs.Cuts.{Cuts}
use Rattle.graph_entry.specs.declared.answer.LoadAnswer.{LoadAnswer}
use Rattle.graph_entry.specs.declared.answer.LoadAnswer.TheVariants as answer
use Rattle.graph_entry.specs.declared.entry.Dependency.{Dependency}
use Rattle.graph_entry.specs.declared.entry.Entry.{Entry}
use Rattle.media_type.specs.declared.media_type.MediaType.{MediaType}
use Rattle.graph_entry.specs.Entry.{CutsFrom, EachEdge, KeepsReasonOf}
use Rattle.media_type.specs.declared.media_type.ModuleKind.{ModuleKind}
use Rattle.media_type.specs.declared.media_type.ModuleKind.TheVariants as module_kind
use Rattle.media_type.specs.MediaType.{kind_of}
use Rattle.media_type.specs.declared.media_type.MediaType.TheVariants.{Unknown}
use Rattle.media_type.specs.ContentTypes.{with_content_type}
use Rattle.data_specifier.specs.declared.data_module.DataModule.{DataModule}
use Rattle.data_specifier.specs.declared.error.DataError.{DataError}
use Rattle.data_specifier.specs.Data.{data_of}
use Rattle.lexical_path.specs.Specifiers.{begins}
use Rattle.source_text.specs.module_text.ModuleText.{without_mark}
use Rattle.graph_entry.specs.Resolution.{KindResolves, KeepsReason}
use Rattle.graph_entry.specs.Reading.{Sites}
use Rattle.graph_entry.specs.Ways.{Ways}
use Rattle.graph_entry.specs.Analysed.{AnalysedBy, OfContent, OfData, OfPackage, with_package, no_package, OfUnasked, media_type_at, OfKind, OfBytes, OfText, source_entry, with_text, no_text, dependency_of, unsupported}
use Rattle.graph_entry.proofs.ContentLemmas.{HoldsOfImports, OfJson-edges, OfWasm-edges}

-- P holds of the edge of each site of the source, in the module at s
abbrev pub HoldsOfSites : (List ℕ → Dependency → Type 0) → Ways → List ℕ → List ℕ → Type 0
HoldsOfSites P ways s text =
    (media : MediaType) (sites : List Site) → ways.reads s media text (Ok sites)
    → All (λ site. P text (dependency_of ways.resolves s site)) sites

module _ (P Q : List ℕ → Dependency → Type 0) (ways : Ways) (s : List ℕ)
    (sites : (text : List ℕ) → HoldsOfSites P ways s text)
    (imports : (bytes : List ℕ) → HoldsOfImports Q (ways.resolves dependency_kind.Wasm) s bytes)
  where
    -- ---- level by level

    OfText-edges : (media : MediaType) (text : List ℕ) (made : Entry) → OfText ways s media text made
        → EachEdge P Q made
    OfText-edges media text made makes = subst (EachEdge P Q) (sym makes.is) (by makes.sites makes.read)
      where
        by : (found : Sites) → ways.reads s media text found
            → EachEdge P Q (source_entry ways.resolves s media text found)
        by (Ok found) read = All-map (P text) (dependency_of ways.resolves s) found (sites text media found read)
        by (Err d) read = tt

    OfBytes-edges : (media : MediaType) (bytes : List ℕ) (made : Entry) → OfBytes ways s media bytes made
        → EachEdge P Q made
    OfBytes-edges media bytes made (with_text utf8 makes) = OfText-edges media (without_mark bytes) made makes
    OfBytes-edges media bytes made (no_text not is) = subst (EachEdge P Q) (sym is) tt

    -- content, by how it is read
    by_kind-edges : (media : MediaType) (bytes : List ℕ) (read : Option ModuleKind) (made : Entry)
        → MatchOption read (made ≡ unsupported media) (λ k. OfKind ways s media k bytes made) → EachEdge P Q made
    by_kind-edges media bytes None made is = subst (EachEdge P Q) (sym is) tt
    by_kind-edges media bytes (Some module_kind.Source) made makes = OfBytes-edges media bytes made makes
    by_kind-edges media bytes (Some module_kind.Json) made makes = OfJson-edges P Q bytes made makes
    by_kind-edges media bytes (Some module_kind.Wasm) made makes =
        OfWasm-edges P Q (ways.resolves dependency_kind.Wasm) s bytes made (imports bytes) makes

    -- content of a media type
    OfContent-edges : (media : MediaType) (bytes : List ℕ) (made : Entry) → OfContent ways s media bytes made
        → EachEdge P Q made
    OfContent-edges media bytes made makes = by_kind-edges media bytes (kind_of media) made makes

    -- ---- where no loader is asked

    OfData-edges : (held : Result DataModule DataError) (made : Entry) → OfData ways s held made → EachEdge P Q made
    OfData-edges (Ok held) made makes = OfContent-edges (with_content_type Unknown held.mime) held.body made makes
    OfData-edges (Err e) made is = subst (EachEdge P Q) (sym is) tt

    OfPackage-edges : (made : Entry) → OfPackage s made → EachEdge P Q made
    OfPackage-edges made (with_package p names is) = subst (EachEdge P Q) (sym is) tt
    OfPackage-edges made (no_package none is) = subst (EachEdge P Q) (sym is) tt

    OfUnasked-edges : (is_data : Bool) (made : Entry) → OfUnasked ways is_data s made → EachEdge P Q made
    OfUnasked-edges true made makes = OfData-edges (data_of s) made makes
    OfUnasked-edges false made makes = OfPackage-edges made makes

    -- ---- the whole

    -- the edges of what an answer makes
    pub Analysed-edges : (a : Option LoadAnswer) (made : Entry) → AnalysedBy ways s a made → EachEdge P Q made
    unfolding AnalysedBy
    Analysed-edges (Some (answer.Content headers bytes)) made is =
        OfContent-edges (media_type_at s headers) bytes made is
    Analysed-edges (Some (answer.Redirect target)) made is = subst (EachEdge P Q) (sym is) tt
    Analysed-edges (Some answer.External) made is = subst (EachEdge P Q) (sym is) tt
    Analysed-edges (Some answer.Absent) made is = subst (EachEdge P Q) (sym is) tt
    Analysed-edges (Some answer.Failed) made is = subst (EachEdge P Q) (sym is) tt
    Analysed-edges None made is = OfUnasked-edges (begins s (codes "data:")) made is

-- ---- two facts of each edge

-- a site that cuts its literal has an edge that does
pub All-CutsFrom : (by : KindResolves) (s text : List ℕ) (sites : List Site)
    → All (λ site. Cuts text site.range site.value) sites
    → All (λ site. CutsFrom text (dependency_of by s site)) sites
All-CutsFrom by s text sites cuts k site within = ((slice_index_or sites k site).range, refl, cuts k site within)

-- the edge of a site never keeps that room ran out
pub All-KeepsReasonOf : (by : KindResolves) → ((kind : DependencyKind) (s text : List ℕ) → KeepsReason (by kind s text)) → (s text : List ℕ)
    (sites : List Site)
    → All (λ site. KeepsReasonOf text (dependency_of by s site)) sites
All-KeepsReasonOf by kept s text sites k site within = kept (slice_index_or sites k site).kind s (slice_index_or sites k site).value
