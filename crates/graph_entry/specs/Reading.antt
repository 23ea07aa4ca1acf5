-- What the reading of a source is: its sites, or what is wrong with it.
use Rattle.std.specs.Prelude.{◌≡◌, ℕ, List, All, Option, Result, Ok, Err}
use Rattle.base.specs.declared.range.Range.{Range}
use Rattle.es_site.specs.declared.site.Site.{Site}
use Rattle.media_type.specs.declared.media_type.MediaType.{MediaType}
use Rattle.parse_diagnostic.specs.declared.kind.SyntaxErrorKind.{SyntaxErrorKind}
use Rattle.parse_diagnostic.specs.Diagnosis.{Told, told}
use Rattle.source_reading.specs.Read.{HasSites, IsFaulty}
use Rattle.source_reading.specs.Cuts.{Cuts}
use Rattle.graph_entry.specs.declared.analyzer.ModuleInfo.{ModuleInfo}
use Rattle.graph_entry.specs.declared.analyzer.AnalyzeFault.{AnalyzeFault}
use Rattle.graph_entry.specs.declared.analyzer.AnalyzeFault.TheVariants.{Parse, OutOfMemory}

-- the sites of a source, or what is told of what is wrong with it
abbrev pub Sites : Type 0
Sites = Result (List Site) Told

-- what sources are read as: the sites of a source at a specifier
abbrev pub Reading : Type 1
Reading = List ℕ → MediaType → List ℕ → Sites → Type 0

-- a source is read as one thing at most
abbrev pub IsFunction : Reading → Type 0
IsFunction reads =
    (s : List ℕ) (media : MediaType) (text : List ℕ) (a b : Sites) → reads s media text a → reads s media text b → a ≡ b

-- each site cuts its literal or its reference
abbrev pub CutsSites : Reading → Type 0
CutsSites reads =
    (s : List ℕ) (media : MediaType) (text : List ℕ) (sites : List Site) → reads s media text (Ok sites)
    → All (λ site. Cuts text site.range site.value) sites

-- the answer of an analyser is what the source is read as, or that memory ran out
abbrev pub IsAnalysis : (Sites → Type 0) → Result ModuleInfo AnalyzeFault → Type 0
IsAnalysis means (Ok info) = means (Ok info.sites)
IsAnalysis means (Err (Parse d)) = means (Err (told d))
IsAnalysis means (Err OutOfMemory) = Unit {0}

-- ---- by the parser

-- what is told of a fault of the source at a specifier
abbrev pub diagnosis_at : List ℕ → SyntaxErrorKind → Option Range → Told
diagnosis_at s kind range = record { specifier = s; kind = kind; range = range }

-- what a source is read as
pub data ReadsSource (s : List ℕ) (media : MediaType) (text : List ℕ) (sites : Sites) : Type 0 where
  -- its sites
  with_sites : (found : List Site) → HasSites media text found → sites ≡ Ok found → ReadsSource s media text sites
  -- it is no program: the fault
  no_program : (kind : SyntaxErrorKind) (range : Option Range) → IsFaulty media text kind range
      → sites ≡ Err (diagnosis_at s kind range) → ReadsSource s media text sites
