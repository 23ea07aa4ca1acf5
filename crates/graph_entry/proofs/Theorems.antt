-- The laws of an analysis that other crates name.
use Rattle.std.proofs.Common.{◌≡◌, List, ℕ, subst, sym}
use Rattle.std.specs.Prelude.{All, Option}
use Rattle.es_site.specs.declared.site.Site.{Site}
use Rattle.es_site.specs.declared.site.DependencyKind.TheVariants as dependency_kind
use Rattle.source_reading.specs.Cuts.{Cuts}
use Rattle.source_reading.proofs.Theorems.{sites_cut}
use Rattle.graph_entry.specs.declared.answer.LoadAnswer.{LoadAnswer}
use Rattle.graph_entry.specs.declared.entry.Entry.{Entry}
use Rattle.graph_entry.specs.Entry.{CutsFrom, CutsName, EachEdge, EdgesCut, KeepsReasonOf, KeepsFault}
use Rattle.graph_entry.specs.Resolution.{resolve, of_any_kind}
use Rattle.graph_entry.specs.Reading.{IsFunction, CutsSites, ReadsSource, with_sites, no_program}
use Rattle.graph_entry.specs.ReadingLaws.{reads_once}
use Rattle.graph_entry.specs.Ways.{Ways, default_ways}
use Rattle.graph_entry.specs.Analysed.{Analysed, AnalysedBy}
use Rattle.graph_entry.proofs.RoomLemmas.{resolve-kept}
use Rattle.graph_entry.proofs.AnalysedLemmas.{Analysed-once}
use Rattle.graph_entry.proofs.ContentLemmas.{imports-CutsName, imports-KeepsReasonOf}
use Rattle.graph_entry.proofs.FaultLemmas.{Analysed-fault}
use Rattle.graph_entry.proofs.EdgeLemmas.{Analysed-edges, All-CutsFrom, All-KeepsReasonOf}

-- one answer, or none where no loader is asked, makes one entry of a specifier, where a source is read as one thing
pub analysed_by_once : (ways : Ways) → IsFunction ways.reads → (s : List ℕ) (a : Option LoadAnswer) (made other : Entry)
    → AnalysedBy ways s a made → AnalysedBy ways s a other → made ≡ other
analysed_by_once = Analysed-once

pub analysed_once : (s : List ℕ) (a : Option LoadAnswer) (made other : Entry)
    → Analysed s a made → Analysed s a other → made ≡ other
analysed_once = analysed_by_once default_ways reads_once

-- the sites of a source cut their literals or references
pub reads_cuts : CutsSites ReadsSource
reads_cuts s media text found (with_sites sites has same) =
    let P : List Site → Type 0 = All (λ site. Cuts text site.range site.value) in
    let is : found ≡ sites = cc in
    subst P (sym is) (sites_cut media text sites has)
reads_cuts s media text found (no_program kind range faulty same) = absurd cc

-- where each site cuts its literal or reference, each edge of a source cuts from the module's text the one whose value
-- is the edge's text, and each of a WebAssembly module from its bytes the edge's text itself
pub analysed_by_cuts : (ways : Ways) → CutsSites ways.reads → (s : List ℕ) (a : Option LoadAnswer) (made : Entry)
    → AnalysedBy ways s a made → EdgesCut made
analysed_by_cuts ways cuts s =
    Analysed-edges CutsFrom CutsName ways s
    (λ text media sites read. All-CutsFrom ways.resolves s text sites (cuts s media text sites read))
    (imports-CutsName (ways.resolves dependency_kind.Wasm) s)

pub analysed_cuts : (s : List ℕ) (a : Option LoadAnswer) (made : Entry) → Analysed s a made → EdgesCut made
analysed_cuts = analysed_by_cuts default_ways reads_cuts

-- an edge without target never keeps as its reason that room ran out
pub analysed_reasons : (s : List ℕ) (a : Option LoadAnswer) (made : Entry) → Analysed s a made
    → EachEdge KeepsReasonOf KeepsReasonOf made
analysed_reasons s =
    Analysed-edges KeepsReasonOf KeepsReasonOf default_ways s
    (λ text media sites read. All-KeepsReasonOf (of_any_kind resolve) (λ kind. resolve-kept) s text sites)
    (imports-KeepsReasonOf resolve resolve-kept s)

-- an entry's fault is never that memory ran out
pub analysed_by_faults : (ways : Ways) (s : List ℕ) (a : Option LoadAnswer) (made : Entry) → AnalysedBy ways s a made
    → KeepsFault made
analysed_by_faults = Analysed-fault

pub analysed_faults : (s : List ℕ) (a : Option LoadAnswer) (made : Entry) → Analysed s a made → KeepsFault made
analysed_faults = analysed_by_faults default_ways
