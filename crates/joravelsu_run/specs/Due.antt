-- What is due for an input, by the form that the arguments are.
use Rattle.std.specs.Prelude.{◌≡◌, ◌⊎◌, ℕ, ◌+◌, ◌<◌, ◌≤◌, List, length, Option, Ok, Err, IfSome}
use Rattle.serde_json.specs.Data.{Data}
use Rattle.graph_builder.specs.Graph.{GraphData}
use Rattle.graph_builder.specs.Memory.{tells}
use Rattle.forms_build.specs.declared.bundle.FormsBundle.{FormsBundle}
use Rattle.forms_build.specs.Forms.{forms_rules, IsGraphOf}
use Rattle.graph_bundle.specs.Bundle.{IsJson}
use Rattle.graph_report.specs.Report.{report_of}
use Rattle.graph_report.specs.Orders.{IsOrderText}
use Rattle.counted_io.specs.Transfer.{input_limit}
use Rattle.graph_run.specs.declared.status.Status.{Status}
use Rattle.graph_run.specs.declared.status.Status.TheVariants.{Done, BuildRefused, BadInput}
use Rattle.graph_run.specs.Run.{HasMoreThan, bundle_starts, too_long_line, not_json_line, no_bundle_line, too_many_line}
use Rattle.joravelsu_run.specs.declared.words.Form.{Form}
use Rattle.joravelsu_run.specs.declared.words.Form.TheVariants as form
use Rattle.joravelsu_run.specs.declared.asked.Telling.{Telling}
use Rattle.joravelsu_run.specs.declared.asked.Telling.TheVariants.{Report, Order, Groups, Faults, Way, Gone, Verdict, Declarations}
use Rattle.joravelsu_run.specs.declared.asked.Asked.{Asked}
use Rattle.joravelsu_run.specs.Asked.{asked_of}
use Rattle.joravelsu_run.specs.Groups.{IsGroupsText}
use Rattle.joravelsu_run.specs.Faults.{IsFaultsText}
use Rattle.joravelsu_run.specs.Ways.{IsWhyText, IsGoneText}
use Rattle.joravelsu_run.specs.Verdicts.{verdict_status, verdict_line}
use Rattle.joravelsu_run.specs.Declarations.{IsDeclarationsText}

-- more is reached than the bundle allows
abbrev pub IsTooLarge : FormsBundle → Type 0
IsTooLarge forms =
    HasMoreThan (forms_rules forms) (bundle_starts forms.chosen.bundle) (tells forms.chosen.bundle.modules)
    forms.chosen.bundle.options.limit

-- ---- what is due

-- what is told of a graph, and how that ends: its report, the order of its modules, their groups, what is wrong with their texts, a
-- way to a specifier, what is gone without something, what rules say of it, or the declarations of its modules
abbrev pub Tells : Telling → GraphData → Status → List ℕ → Type 0
Tells Report graph status text = (status ≡ Done) × (text ≡ report_of graph)
Tells Order graph status text = (status ≡ Done) × IsOrderText graph text
Tells Groups graph status text = (status ≡ Done) × IsGroupsText graph text
Tells Faults graph status text = (status ≡ Done) × IsFaultsText graph.entries text
Tells (Way following to) graph status text = (status ≡ Done) × IsWhyText graph following to text
Tells (Gone following without) graph status text = (status ≡ Done) × IsGoneText graph following without text
Tells (Verdict policy) graph status text =
    (status ≡ verdict_status policy graph) × (text ≡ verdict_line policy graph)
Tells Declarations graph status text = (status ≡ Done) × IsDeclarationsText graph.entries text

-- what is due for what an input says
pub data OfAsked (asked : Asked) (status : Status) (text : List ℕ) : Type 0 where
  -- what is told of the graph of its bundle
  graph : (graph : GraphData) → IsGraphOf asked.forms graph → Tells asked.telling graph status text
      → OfAsked asked status text
  -- it is too large
  large : IsTooLarge asked.forms → status ≡ BuildRefused
      → text ≡ too_many_line (asked.forms.chosen.bundle.options.limit + 1) → OfAsked asked status text

-- the input is a JSON text that says this for the form, and not too long
pub record IsInput (form : Form) (input : List ℕ) (asked : Asked) : Type 0 where
  pub within : length input ≤ input_limit
  pub value : Data
  pub json : IsJson input value
  pub says : asked_of form value ≡ Ok asked

-- what is due for an input
pub data IsDue (form : Form) (input : List ℕ) (status : Status) (text : List ℕ) : Type 0 where
  -- it is too long
  long : input_limit < length input → status ≡ BadInput → text ≡ too_long_line → IsDue form input status text
  -- else it is no JSON text
  no_json : length input ≤ input_limit → ((value : Data) → ¬ IsJson input value) → status ≡ BadInput
      → text ≡ not_json_line → IsDue form input status text
  -- else its value doesn't say what the form asks for: the pointer to the first thing that keeps it from that
  no_bundle : length input ≤ input_limit → (value : Data) → IsJson input value → (at : List ℕ)
      → asked_of form value ≡ Err at → status ≡ BadInput → text ≡ no_bundle_line at → IsDue form input status text
  -- what is due for what it says
  bundle : (asked : Asked) → IsInput form input asked → OfAsked asked status text → IsDue form input status text

-- for an input, where it is told
abbrev pub IsDueForm : Form → Option (List ℕ) → Status → List ℕ → Type 0
IsDueForm form input status text = IfSome input (λ bytes. IsDue form bytes status text)

-- ---- what an input is

-- it doesn't say what the form asks for, or is too long
abbrev pub IsRefused : Form → List ℕ → Type 0
IsRefused form input = (asked : Asked) → ¬ IsInput form input asked

-- one whose graph is too large
pub record IsLargeInput (form : Form) (input : List ℕ) : Type 0 where
  pub asked : Asked
  pub says : IsInput form input asked
  pub large : IsTooLarge asked.forms

-- one whose graph is not too large
pub record IsSmallInput (form : Form) (input : List ℕ) : Type 0 where
  pub asked : Asked
  pub says : IsInput form input asked
  pub small : ¬ IsTooLarge asked.forms

-- how a form may end where it is told of a graph: rules may forbid something
abbrev pub Ends : Form → Status → Type 0
Ends form.Policy status = (status ≡ Done) ⊎ (status ≡ BuildRefused)
Ends _ status = status ≡ Done
