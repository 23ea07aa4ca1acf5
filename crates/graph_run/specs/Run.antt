-- A whole run of the program: what is due for an input, and what was written.
use Rattle.std.specs.Prelude.{◌≡◌, ℕ, ◌+◌, ◌<◌, ◌≤◌, true, List, ◌++◌, length, bytes_eq, codes, decimal, map, Option, Ok, Err, IfSome, ◌⊎◌}
use Rattle.std.specs.List.{IsDistinct}
use Rattle.std.specs.Io.KnownBytes.{Appends, Keeps}
use Rattle.serde_json.specs.Data.{Data}
use Rattle.url.specs.Parts.{Parts}
use Rattle.graph_builder.specs.Rules.{Rules, rules_by}
use Rattle.graph_builder.specs.Reach.{Specifier, Answers, IsReached, has}
use Rattle.graph_builder.specs.Graph.{GraphData, IsGraph}
use Rattle.json.specs.Print.{quoted}
use Rattle.specifier_resolver.specs.Resolver.{Resolving, resolving_or}
use Rattle.import_map.specs.ImportMap.{map_resolve}
use Rattle.graph_entry.specs.Resolution.{Resolves, resolve_by}
use Rattle.graph_entry.specs.Reading.{ReadsSource}
use Rattle.graph_entry.specs.Ways.{ways_by}
use Rattle.graph_entry.specs.Analysed.{AnalysedBy}
use Rattle.graph_entry.specs.Referrer.{referred_by, starts_by}
use Rattle.graph_builder.specs.Memory.{tells}
use Rattle.graph_builder.specs.Builder.{following_of}
use Rattle.graph_bundle.specs.declared.bundle.Bundle.{Bundle}
use Rattle.graph_run.specs.declared.status.Status.{Status}
use Rattle.graph_run.specs.declared.status.Status.TheVariants.{Done, BuildRefused, BadInput, ReadFault, WriteFault, NoMemory, Usage}
use Rattle.counted_io.specs.Transfer.{input_limit, TookPart}
use Rattle.graph_bundle.specs.Bundle.{IsJson, bundle_of}
use Rattle.graph_report.specs.Report.{line_end}
use Rattle.graph_run.specs.declared.verdict.Telling.TheVariants as telling
use Rattle.graph_run.specs.Telling.{told_by}
use Rattle.graph_run.specs.words.Words.{IsForm, IsNoForm}
use Rattle.graph_run.specs.declared.words.words.Form.{Form}
use Rattle.graph_run.specs.declared.words.words.Form.TheVariants.{Build, Order, Make, Sum}
use Rattle.made_bundle.specs.Made.{made_text}

-- ---- the lines of the refusals

abbrev pub usage_line : List ℕ
usage_line = codes "usage: graph_tool build [--batch N] | make N | sum N | vendor BASE | order" ++ line_end

abbrev pub too_long_line : List ℕ
too_long_line = codes "error InputTooLong" ++ line_end

abbrev pub not_json_line : List ℕ
not_json_line = codes "error NotJson" ++ line_end

-- the pointer to the first thing at fault, as a JSON string
abbrev pub no_bundle_line : List ℕ → List ℕ
no_bundle_line at = codes "error Bundle " ++ quoted at ++ line_end

abbrev pub too_many_line : ℕ → List ℕ
too_many_line seen = codes "error TooManyModules " ++ decimal seen ++ line_end

-- ---- what is due

-- where a bundle's specifiers lead: by its import map, or by the URL Standard where it has none
abbrev pub bundle_resolving : Bundle → List ℕ → Parts → Resolving
bundle_resolving bundle = resolving_or map_resolve bundle.import_map

abbrev pub bundle_resolves : Bundle → Resolves
bundle_resolves bundle = resolve_by (bundle_resolving bundle)

-- the rules of the graph of a bundle
abbrev pub bundle_rules : Bundle → Rules
bundle_rules bundle =
    rules_by (AnalysedBy (ways_by (bundle_resolving bundle) ReadsSource)) (following_of bundle.options)

-- where its reach starts: at its roots, and where what places outside import leads
abbrev pub bundle_starts : Bundle → List Specifier
bundle_starts bundle = starts_by (bundle_resolves bundle) bundle.roots bundle.options.imports

-- the graph of a bundle: of its roots and of what places outside import, over its modules, within its limit; a specifier without
-- module is `Absent`
pub record IsGraphOf (bundle : Bundle) (graph : GraphData) : Type 0 where
  pub roots : graph.roots ≡ bundle.roots
  pub imports : graph.imports ≡ map (referred_by (bundle_resolves bundle)) bundle.options.imports
  pub entries : IsGraph (bundle_rules bundle) (bundle_starts bundle) (tells bundle.modules) graph.entries
  pub within : length graph.entries ≤ bundle.options.limit

-- one specifier more than the limit is reached
pub record HasMoreThan (rules : Rules) (starts : List Specifier) (answers : Answers) (limit : ℕ) : Type 0 where
  pub members : List Specifier
  pub counted : length members ≡ limit + 1
  pub once : IsDistinct bytes_eq members
  pub reached : (s : Specifier) → has members s ≡ true → IsReached rules starts answers s

-- more is reached than the bundle allows
abbrev pub IsTooLarge : Bundle → Type 0
IsTooLarge bundle = HasMoreThan (bundle_rules bundle) (bundle_starts bundle) (tells bundle.modules) bundle.options.limit

-- what is due for a bundle, where `tells` says what may be told of a graph
pub data OfBundle (tells : GraphData → List ℕ → Type 0) (bundle : Bundle) (status : Status) (text : List ℕ) : Type 0 where
  -- that of its graph
  graph : (graph : GraphData) → IsGraphOf bundle graph → status ≡ Done → tells graph text
      → OfBundle tells bundle status text
  -- it is too large
  large : IsTooLarge bundle → status ≡ BuildRefused → text ≡ too_many_line (bundle.options.limit + 1)
      → OfBundle tells bundle status text

-- the input is a JSON text of this bundle, and not too long
pub record IsInput (input : List ℕ) (bundle : Bundle) : Type 0 where
  pub within : length input ≤ input_limit
  pub value : Data
  pub json : IsJson input value
  pub says : bundle_of value ≡ Ok bundle

-- what is due for an input
pub data IsDueOf (tells : GraphData → List ℕ → Type 0) (input : List ℕ) (status : Status) (text : List ℕ) : Type 0 where
  -- it is too long
  long : input_limit < length input → status ≡ BadInput → text ≡ too_long_line → IsDueOf tells input status text
  -- else it is no JSON text
  no_json : length input ≤ input_limit → ((value : Data) → ¬ IsJson input value) → status ≡ BadInput → text ≡ not_json_line
      → IsDueOf tells input status text
  -- else its value is no bundle: the pointer to the first thing for which it is none
  no_bundle : length input ≤ input_limit → (value : Data) → IsJson input value → (at : List ℕ) → bundle_of value ≡ Err at
      → status ≡ BadInput → text ≡ no_bundle_line at → IsDueOf tells input status text
  -- what is due for its bundle
  bundle : (bundle : Bundle) → IsInput input bundle → OfBundle tells bundle status text → IsDueOf tells input status text

-- the same where the report of a graph is told
abbrev pub IsDue : List ℕ → Status → List ℕ → Type 0
IsDue = IsDueOf (told_by telling.Report)

-- what is due for a form and an input: of `build` the report of the input's graph, whatever the batch, where the input is told; of `order`
-- that of its modules; of `make N` the bundle of N modules; of `sum N` the counts of that bundle's graph
abbrev pub IsDueForm : Form → Option (List ℕ) → Status → List ℕ → Type 0
IsDueForm (Build batch) input status text = IfSome input (λ bytes. IsDue bytes status text)
IsDueForm Order input status text = IfSome input (λ bytes. IsDueOf (told_by telling.Order) bytes status text)
IsDueForm (Make n) input status text = (status ≡ Done) × (text ≡ made_text n)
IsDueForm (Sum n) input status text = IsDueOf (told_by telling.Counts) (made_text n) status text

-- what is due for words
pub data IsDueFor (words : List (List ℕ)) (input : Option (List ℕ)) (status : Status) (text : List ℕ) : Type 0 where
  -- they are no form
  usage : IsNoForm words → status ≡ Usage → text ≡ usage_line → IsDueFor words input status text
  -- they are this one
  form : (form : Form) → IsForm form words → IsDueForm form input status text → IsDueFor words input status text

-- ---- what was written and counted

-- the due text was written whole
abbrev pub WroteDue : List (List ℕ) → Option (List ℕ) → Option (List ℕ) → Option (List ℕ) → Status → Type 0
WroteDue words input old new status = (text : List ℕ) × IsDueFor words input status text × Appends old new text

-- a part from the front of the due text was written
abbrev pub WrotePart : List (List ℕ) → Option (List ℕ) → Option (List ℕ) → Option (List ℕ) → Type 0
WrotePart words input old new = (status : Status) × (text : List ℕ) × IsDueFor words input status text × TookPart old new text

-- what was written, by the status: the due text, nothing, or a part of what was due
abbrev pub Wrote : List (List ℕ) → Option (List ℕ) → Option (List ℕ) → Option (List ℕ) → Status → Type 0
Wrote words input old new Done = WroteDue words input old new Done
Wrote words input old new BuildRefused = WroteDue words input old new BuildRefused
Wrote words input old new BadInput = WroteDue words input old new BadInput
Wrote words input old new ReadFault = Keeps old new
Wrote words input old new WriteFault = WrotePart words input old new
Wrote words input old new NoMemory = Keeps old new
Wrote words input old new Usage = WroteDue words input old new Usage

-- the count of failed reads rose exactly at `ReadFault`
abbrev pub ReadsCounted : ℕ → ℕ → Status → Type 0
ReadsCounted old new ReadFault = old < new
ReadsCounted old new _ = new ≡ old

-- the count of failed writes rose exactly at `WriteFault`
abbrev pub WritesCounted : ℕ → ℕ → Status → Type 0
WritesCounted old new WriteFault = old < new
WritesCounted old new _ = new ≡ old

-- the input is no bundle, or too long
abbrev pub IsRefused : List ℕ → Type 0
IsRefused input = (bundle : Bundle) → ¬ IsInput input bundle

-- the input is a bundle whose graph is too large
pub record IsLargeInput (input : List ℕ) : Type 0 where
  pub bundle : Bundle
  pub says : IsInput input bundle
  pub large : IsTooLarge bundle

-- the input is a bundle whose graph is not too large
pub record IsSmallInput (input : List ℕ) : Type 0 where
  pub bundle : Bundle
  pub says : IsInput input bundle
  pub small : ¬ IsTooLarge bundle

-- with this form as words, where no count of faults rose and memory sufficed, this is the status
abbrev pub Always : Type 0 → ℕ → ℕ → ℕ → ℕ → Status → Status → Type 0
Always is_form reads_old reads_new writes_old writes_new result due =
    is_form → reads_new ≡ reads_old → writes_new ≡ writes_old → (result ≡ due) ⊎ (result ≡ NoMemory)
