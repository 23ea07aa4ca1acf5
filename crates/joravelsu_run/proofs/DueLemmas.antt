-- What is due for an input, by what the input and the builder of its graph come to.
use Rattle.std.proofs.Common.{◌≡◌, sym, subst, ◌∙◌, ap, ℕ, ◌≤◌, List, length, Result, Ok, Err, IfOk, IfErr}
use Rattle.serde_json.specs.Data.{Data}
use Rattle.graph_builder.specs.Graph.{GraphData}
use Rattle.graph_builder.specs.Memory.{tells}
use Rattle.graph_builder.specs.declared.error.BuildError.{BuildError}
use Rattle.graph_builder.specs.declared.error.BuildError.TheVariants.{NotYet, TooManyModules, UnaskedAnswer, Finished, OutOfMemory}
use Rattle.graph_bundle.specs.declared.bundle.BundleFault.{BundleFault}
use Rattle.graph_bundle.specs.declared.bundle.BundleFault.TheVariants as fault
use Rattle.graph_bundle.specs.Bundle.{IsJson}
use Rattle.counted_io.specs.Transfer.{input_limit}
use Rattle.graph_run.specs.declared.status.Status.{Status}
use Rattle.graph_run.specs.Run.{bundle_starts, too_many_line}
use Rattle.graph_run.specs.Steps.{OfFault, SaysLarge, IsVerdict}
use Rattle.joravelsu_run.specs.declared.words.Form.{Form}
use Rattle.joravelsu_run.specs.declared.asked.Asked.{Asked}
use Rattle.joravelsu_run.specs.Asked.{asked_of}
use Rattle.forms_build.specs.Forms.{IsGraphOf, forms_rules}
use Rattle.joravelsu_run.specs.Due.{OfAsked, graph, large, IsDue, no_json, no_bundle}
use Rattle.joravelsu_run.specs.Steps.{OfEnd}

-- what is due for the end of a builder is due for what the input says
pub end_due : (a : Asked) (r : Result GraphData BuildError) (status : Status) (text : List ℕ)
    → IfOk r (IsGraphOf a.forms)
    → IfErr r (SaysLarge (forms_rules a.forms) (bundle_starts a.forms.chosen.bundle)
    (tells a.forms.chosen.bundle.modules)
    a.forms.chosen.bundle.options.limit)
    → OfEnd a.telling r status text → OfAsked a status text
end_due a (Ok g) status text of many is = graph g of is
end_due a (Err NotYet) status text of many is = absurd is
end_due a (Err (TooManyModules seen)) status text of many is = large many.0 is.0 (is.1 ∙ ap too_many_line many.1)
end_due a (Err (UnaskedAnswer url)) status text of many is = absurd is
end_due a (Err Finished) status text of many is = absurd is
end_due a (Err OutOfMemory) status text of many is = absurd is

-- the line for bytes that say nothing for the form is due for them
pub fault_due : (form : Form) (input : List ℕ) (r : Result Asked BundleFault) (f : BundleFault)
    (status : Status) (text : List ℕ) → length input ≤ input_limit → r ≡ Err f
    → (r ≡ Err fault.NotJson → (value : Data) → ¬ IsJson input value)
    → ((at : List ℕ) → r ≡ Err (fault.Pointer at)
    → (value : Data) × IsJson input value × (asked_of form value ≡ Err at))
    → OfFault f status text → IsDue form input status text
fault_due form input r fault.NotJson status text within found never at_fault is =
    no_json within (never found) is.0 is.1
fault_due form input r (fault.Pointer at) status text within found never at_fault is =
    let (value, json, none) = at_fault at found in no_bundle within value json at none is.0 is.1
fault_due form input r fault.OutOfMemory status text within found never at_fault is = absurd is

-- a line for such bytes is of a status that a text is due for
pub fault_verdict : (f : BundleFault) (status : Status) (text : List ℕ) → OfFault f status text → IsVerdict status
fault_verdict fault.NotJson status text is = subst IsVerdict (sym is.0) tt
fault_verdict (fault.Pointer at) status text is = subst IsVerdict (sym is.0) tt
fault_verdict fault.OutOfMemory status text is = absurd is
