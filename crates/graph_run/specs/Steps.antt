-- What the crate's functions promise each other.
use Rattle.std.specs.Prelude.{◌≡◌, ℕ, ◌+◌, Bool, true, false, List, [], ◌∷◌, ◌++◌, Option, Some, None, Result, Ok, Err, IsSome, ◌⊎◌, ◌<◌, String, string_bytes, ⊤}
use Rattle.graph_builder.specs.declared.error.BuildError.{BuildError}
use Rattle.graph_builder.specs.declared.error.BuildError.TheVariants.{NotYet, TooManyModules, UnaskedAnswer, Finished, OutOfMemory}
use Rattle.graph_builder.specs.Rules.{Rules, Specifier, rules_by}
use Rattle.graph_builder.specs.Reach.{Answers}
use Rattle.graph_builder.specs.declared.own.Own.{Own}
use Rattle.graph_entry.specs.Reading.{ReadsSource}
use Rattle.graph_entry.specs.Resolution.{Resolves, resolve_by}
use Rattle.graph_builder.specs.declared.following.Following.{Following}
use Rattle.graph_entry.specs.Ways.{Ways, ways_by}
use Rattle.graph_entry.specs.Analysed.{AnalysedBy}
use Rattle.deno_graph.specs.declared.analyzer.analyzer.ParserModuleAnalyzer.{ParserModuleAnalyzer}
use Rattle.specifier_resolver.specs.Resolver.{resolving_or}
use Rattle.import_map.specs.ImportMap.{MapData, map_resolve}
use Rattle.graph_run.specs.declared.resolver.BundleResolver.{BundleResolver}
use Rattle.graph_builder.specs.Loader.{LoaderData}
use Rattle.graph_builder.specs.Builder.{BuildingBy, following_of}
use Rattle.graph_builder.specs.Memory.{is_forced}
use Rattle.graph_bundle.specs.declared.bundle.Bundle.{Bundle}
use Rattle.graph_bundle.specs.declared.bundle.BundleFault.{BundleFault}
use Rattle.graph_bundle.specs.declared.bundle.BundleFault.TheVariants as fault
use Rattle.graph_builder.specs.Graph.{GraphData}
use Rattle.std.specs.List.{list_any}
use Rattle.std.specs.Io.KnownBytes.{Appends}
use Rattle.graph_run.specs.declared.words.words.Form.{Form}
use Rattle.graph_run.specs.declared.words.words.Form.TheVariants.{Build, Order, Make, Sum}
use Rattle.graph_run.specs.declared.status.Status.{Status}
use Rattle.graph_run.specs.declared.status.Status.TheVariants.{Done, BuildRefused, BadInput, ReadFault, WriteFault, NoMemory, Usage}
use Rattle.counted_io.specs.Transfer.{TookPart}
use Rattle.graph_run.specs.Run.{HasMoreThan, not_json_line, no_bundle_line, too_many_line}

-- nothing happened to the builder's loader yet, which tells how often it will wait and answers open requests alone; and the builder goes on
pub record IsNew {L W : Type 0} (seen : LoaderData) (b : BuildingBy L W) : Type 0 where
  pub events : b.events_before ≡ []
  pub asked : b.asked_before ≡ []
  pub log : b.log_before ≡ []
  pub patient : IsSome b.patience
  pub fair : seen.fair ≡ true
  pub goes_on : b.finished ≡ false

-- what a builder with a bundle's resolver goes by
abbrev pub BundleWays : Type 0
BundleWays = Own BundleResolver ParserModuleAnalyzer

-- those that follow edges so, by a map if there is one
abbrev pub mapped_ways : Following → Option MapData → BundleWays
mapped_ways following map = record { following = following; resolver = record { map = map }; analyzer = record {} }

abbrev pub mapped_resolves : Option MapData → Resolves
mapped_resolves map = resolve_by (resolving_or map_resolve map)

-- that of a bundle
abbrev pub bundle_ways : Bundle → BundleWays
bundle_ways bundle = mapped_ways (following_of bundle.options) bundle.import_map

-- a loader to which nothing happened yet, which tells how often it will wait and answers open requests alone
pub record IsFresh (seen : LoaderData) : Type 0 where
  pub events : seen.events ≡ []
  pub patient : IsSome seen.patience
  pub fair : seen.fair ≡ true

-- where specifiers lead by it, and how sources are read
abbrev pub ways_of : BundleWays → Ways
ways_of own = ways_by (resolving_or map_resolve own.resolver.map) ReadsSource

-- the rules of a graph by it
abbrev pub rules_in : BundleWays → Rules
rules_in own = rules_by (AnalysedBy (ways_of own)) own.following

-- where a builder's specifiers lead
abbrev pub built_resolves : {L : Type 0} → BuildingBy L BundleWays → Resolves
built_resolves b = mapped_resolves b.following.resolver.map

-- the rules of its graph
abbrev pub built_rules : {L : Type 0} → BuildingBy L BundleWays → Rules
built_rules b = rules_in b.following

-- no answer comes in any case
abbrev pub IsUnforced : Bundle → Type 0
IsUnforced bundle = list_any is_forced bundle.arrival ≡ false

-- how many waits are left, where that is told
abbrev pub waits_left : Option ℕ → ℕ
waits_left None = 0
waits_left (Some n) = n

-- ---- what is due, by what the input and the builder come to

-- for bytes that are no bundle
abbrev pub OfFault : BundleFault → Status → List ℕ → Type 0
OfFault fault.NotJson status text = (status ≡ BadInput) × (text ≡ not_json_line)
OfFault (fault.Pointer at) status text = (status ≡ BadInput) × (text ≡ no_bundle_line at)
OfFault fault.OutOfMemory status text = ⊥

-- a builder ends with a graph, because too much is reached, or because memory ran out
abbrev pub IsEnd : Result GraphData BuildError → Type 0
IsEnd (Ok graph) = ⊤
IsEnd (Err NotYet) = ⊥
IsEnd (Err (TooManyModules seen)) = ⊤
IsEnd (Err (UnaskedAnswer url)) = ⊥
IsEnd (Err Finished) = ⊥
IsEnd (Err OutOfMemory) = ⊤

-- for such an end, where `tells` says what may be told of a graph
abbrev pub OfEnd : (GraphData → List ℕ → Type 0) → Result GraphData BuildError → Status → List ℕ → Type 0
OfEnd tells (Ok graph) status text = (status ≡ Done) × tells graph text
OfEnd tells (Err (TooManyModules seen)) status text = (status ≡ BuildRefused) × (text ≡ too_many_line seen)
OfEnd tells (Err e) status text = ⊥

-- such a builder ends with an error only where too much is reached, or because memory ran out
abbrev pub SaysLarge : Rules → List Specifier → Answers → ℕ → BuildError → Type 0
SaysLarge rules starts answers limit NotYet = ⊥
SaysLarge rules starts answers limit (TooManyModules seen) = HasMoreThan rules starts answers limit × (seen ≡ limit + 1)
SaysLarge rules starts answers limit (UnaskedAnswer url) = ⊥
SaysLarge rules starts answers limit Finished = ⊥
SaysLarge rules starts answers limit OutOfMemory = ⊤

-- the form's input is read
abbrev pub reads : Form → Bool
reads (Build batch) = true
reads Order = true
reads (Make n) = false
reads (Sum n) = false

-- a status that a text is due for
abbrev pub IsVerdict : Status → Type 0
IsVerdict Done = ⊤
IsVerdict BuildRefused = ⊤
IsVerdict BadInput = ⊤
IsVerdict ReadFault = ⊥
IsVerdict WriteFault = ⊥
IsVerdict NoMemory = ⊥
IsVerdict Usage = ⊥

-- a status at which nothing is written
abbrev pub IsStop : Status → Type 0
IsStop Done = ⊥
IsStop BuildRefused = ⊥
IsStop BadInput = ⊥
IsStop ReadFault = ⊤
IsStop WriteFault = ⊥
IsStop NoMemory = ⊤
IsStop Usage = ⊥

-- the text was written whole and the status answered, or a write failed behind a part of it
abbrev pub IsWritten : Status → List ℕ → Option (List ℕ) → Option (List ℕ) → ℕ → ℕ → Status → Type 0
IsWritten status text old new failed fails result =
    ((result ≡ status) × Appends old new text × (fails ≡ failed))
    ⊎ ((result ≡ WriteFault) × TookPart old new text × (failed < fails))
