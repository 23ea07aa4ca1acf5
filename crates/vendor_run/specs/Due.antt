-- What is due for an input whose modules become files of a folder.
use Rattle.std.specs.Prelude.{◌≡◌, ℕ, ◌+◌, ◌<◌, ◌≤◌, List, length, Option, Some, Result, Ok, Err, IfSome}
use Rattle.serde_json.specs.Data.{Data}
use Rattle.url.specs.Parts.{Parts}
use Rattle.graph_entry.specs.Reading.{ReadsSource}
use Rattle.graph_builder.specs.Graph.{GraphData}
use Rattle.graph_builder.specs.declared.error.BuildError.{BuildError}
use Rattle.graph_builder.specs.declared.error.BuildError.TheVariants.{NotYet, TooManyModules, UnaskedAnswer, Finished, OutOfMemory}
use Rattle.graph_bundle.specs.declared.bundle.Bundle.{Bundle}
use Rattle.graph_bundle.specs.Bundle.{IsJson, bundle_of}
use Rattle.graph_vendor.specs.declared.plan.VendorCause.{VendorCause}
use Rattle.graph_vendor.specs.declared.plan.VendorError.TheVariants.{Refused}
use Rattle.graph_vendor.specs.declared.plan.VendorPlan.{VendorPlan}
use Rattle.graph_vendor.specs.Plan.{IsPlanned}
use Rattle.vendor_report.specs.declared.wanted.Wanted.{Wanted}
use Rattle.vendor_report.specs.Plans.{wanted_of, plan_text, refused_line}
use Rattle.counted_io.specs.Transfer.{input_limit}
use Rattle.graph_run.specs.declared.status.Status.{Status}
use Rattle.graph_run.specs.declared.status.Status.TheVariants.{Done, BuildRefused, BadInput}
use Rattle.graph_run.specs.Run.{IsInput, IsGraphOf, IsTooLarge, too_long_line, not_json_line, no_bundle_line, too_many_line}
use Rattle.vendor_run.specs.Readable.{specifiers_in, IsFirstUnread, IsReadable, unread_line}

-- what is due for a plan
pub data OfPlan (wanted : Wanted) (plan : VendorPlan) (status : Status) (text : List ℕ) : Type 0 where
  -- the bundle of its files, where each specifier in it is what its own text is read as
  bundled : IsReadable wanted plan → status ≡ Done → text ≡ plan_text wanted plan → OfPlan wanted plan status text
  -- else the line of the first that isn't
  unread : (name : Parts) → IsFirstUnread (specifiers_in plan) (Some name) → status ≡ BuildRefused
      → text ≡ unread_line name → OfPlan wanted plan status text

-- what is due for the graph's plan for this folder, or the line of why there is no plan
pub data IsVendored (base : Parts) (wanted : Wanted) (graph : GraphData) (status : Status) (text : List ℕ) :
    Type 0 where
  planned : (plan : VendorPlan) → IsPlanned ReadsSource graph base (Ok plan) → OfPlan wanted plan status text
      → IsVendored base wanted graph status text
  refused : (cause : VendorCause) (specifier : Parts) → IsPlanned ReadsSource graph base (Err (Refused cause specifier))
      → status ≡ BuildRefused → text ≡ refused_line cause specifier → IsVendored base wanted graph status text

-- what is due for a bundle
pub data OfBundle (base : Parts) (bundle : Bundle) (status : Status) (text : List ℕ) : Type 0 where
  -- that of its graph, with its options
  vendored : (graph : GraphData) → IsGraphOf bundle graph → IsVendored base (wanted_of bundle.options) graph status text
      → OfBundle base bundle status text
  -- it is too large
  large : IsTooLarge bundle → status ≡ BuildRefused → text ≡ too_many_line (bundle.options.limit + 1)
      → OfBundle base bundle status text

-- what is due for an input
pub data IsDue (base : Parts) (input : List ℕ) (status : Status) (text : List ℕ) : Type 0 where
  -- it is too long
  long : input_limit < length input → status ≡ BadInput → text ≡ too_long_line → IsDue base input status text
  -- else it is no JSON text
  no_json : length input ≤ input_limit → ((value : Data) → ¬ IsJson input value) → status ≡ BadInput
      → text ≡ not_json_line → IsDue base input status text
  -- else its value is no bundle: the pointer to the first thing for which it is none
  no_bundle : length input ≤ input_limit → (value : Data) → IsJson input value → (at : List ℕ)
      → bundle_of value ≡ Err at → status ≡ BadInput → text ≡ no_bundle_line at → IsDue base input status text
  -- what is due for its bundle
  bundle : (bundle : Bundle) → IsInput input bundle → OfBundle base bundle status text → IsDue base input status text

-- for an end of its builder
abbrev pub OfEnd : Parts → Wanted → Result GraphData BuildError → Status → List ℕ → Type 0
OfEnd base wanted (Ok graph) status text = IsVendored base wanted graph status text
OfEnd base wanted (Err (TooManyModules seen)) status text = (status ≡ BuildRefused) × (text ≡ too_many_line seen)
OfEnd base wanted (Err e) status text = ⊥

-- for an input, where it is told
abbrev pub IsDueFor : Parts → Option (List ℕ) → Status → List ℕ → Type 0
IsDueFor base input status text = IfSome input (λ bytes. IsDue base bytes status text)
