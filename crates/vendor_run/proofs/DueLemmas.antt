-- What is due for an input, by what the input and the builder of its graph come to.
use Rattle.std.proofs.Common.{◌≡◌, ◌∙◌, ap, ℕ, ◌≤◌, List, length, Result, Ok, Err, IfOk, IfErr}
use Rattle.serde_json.specs.Data.{Data}
use Rattle.url.specs.Parts.{Parts}
use Rattle.graph_builder.specs.Graph.{GraphData}
use Rattle.graph_builder.specs.Memory.{tells}
use Rattle.graph_builder.specs.declared.error.BuildError.{BuildError}
use Rattle.graph_builder.specs.declared.error.BuildError.TheVariants.{NotYet, TooManyModules, UnaskedAnswer, Finished, OutOfMemory}
use Rattle.graph_bundle.specs.declared.bundle.Bundle.{Bundle}
use Rattle.graph_bundle.specs.declared.bundle.BundleFault.{BundleFault}
use Rattle.graph_bundle.specs.declared.bundle.BundleFault.TheVariants as fault
use Rattle.graph_bundle.specs.Bundle.{bundle_of, IsJson}
use Rattle.counted_io.specs.Transfer.{input_limit}
use Rattle.vendor_report.specs.Plans.{wanted_of}
use Rattle.graph_run.specs.declared.status.Status.{Status}
use Rattle.graph_run.specs.Run.{IsGraphOf, bundle_rules, bundle_starts, too_many_line}
use Rattle.graph_run.specs.Steps.{OfFault, SaysLarge}
use Rattle.vendor_run.specs.Due.{OfBundle, vendored, large, IsDue, no_json, no_bundle, OfEnd}

-- what is due for the end of a bundle's builder is due for the bundle
pub end_due : (base : Parts) (b : Bundle) (r : Result GraphData BuildError) (status : Status) (text : List ℕ)
    → IfOk r (IsGraphOf b)
    → IfErr r (SaysLarge (bundle_rules b) (bundle_starts b) (tells b.modules) b.options.limit)
    → OfEnd base (wanted_of b.options) r status text → OfBundle base b status text
end_due base b (Ok g) status text of many is = vendored g of is
end_due base b (Err NotYet) status text of many is = absurd is
end_due base b (Err (TooManyModules seen)) status text of many is =
    large many.0 is.0 (is.1 ∙ ap too_many_line many.1)
end_due base b (Err (UnaskedAnswer url)) status text of many is = absurd is
end_due base b (Err Finished) status text of many is = absurd is
end_due base b (Err OutOfMemory) status text of many is = absurd is

-- the line for bytes that are no bundle is due for them
pub fault_due : (base : Parts) (input : List ℕ) (r : Result Bundle BundleFault) (f : BundleFault) (status : Status)
    (text : List ℕ) → length input ≤ input_limit → r ≡ Err f
    → (r ≡ Err fault.NotJson → (value : Data) → ¬ IsJson input value)
    → ((at : List ℕ) → r ≡ Err (fault.Pointer at) → (value : Data) × IsJson input value × (bundle_of value ≡ Err at))
    → OfFault f status text → IsDue base input status text
fault_due base input r fault.NotJson status text within found never at_fault is =
    no_json within (never found) is.0 is.1
fault_due base input r (fault.Pointer at) status text within found never at_fault is =
    let (value, json, none) = at_fault at found in no_bundle within value json at none is.0 is.1
fault_due base input r fault.OutOfMemory status text within found never at_fault is = absurd is
