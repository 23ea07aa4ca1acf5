-- What is due for an input, by what the input and the builder of its graph come to.
use Rattle.std.proofs.Common.{◌≡◌, refl, ◌∙◌, ap, inl, inr, false, ℕ, ◌≤◌, List, length, Result, Ok, Err, IfOk, IfErr}
use Rattle.serde_json.specs.Data.{Data}
use Rattle.graph_builder.specs.Reach.{Rules, Specifier, Answers}
use Rattle.graph_builder.specs.Graph.{GraphData}
use Rattle.graph_builder.specs.Memory.{tells}
use Rattle.graph_builder.specs.declared.error.BuildError.{BuildError}
use Rattle.graph_builder.specs.declared.error.BuildError.TheVariants.{NotYet, TooManyModules, UnaskedAnswer, Finished, OutOfMemory}
use Rattle.graph_bundle.specs.declared.bundle.Bundle.{Bundle}
use Rattle.graph_bundle.specs.declared.bundle.BundleFault.{BundleFault}
use Rattle.graph_bundle.specs.declared.bundle.BundleFault.TheVariants as fault
use Rattle.graph_bundle.specs.Bundle.{bundle_of, IsJson}
use Rattle.counted_io.specs.Transfer.{input_limit}
use Rattle.graph_run.specs.declared.status.Status.{Status}
use Rattle.graph_run.specs.Run.{IsGraphOf, bundle_rules, bundle_starts, too_many_line, OfBundle, graph, large, IsDueOf, no_json, no_bundle}
use Rattle.graph_run.specs.Steps.{OfFault, IsEnd, OfEnd, SaysLarge, reads}
use Rattle.graph_run.specs.declared.words.words.Form.{Form}
use Rattle.graph_run.specs.declared.words.words.Form.TheVariants.{Build, Order, Make, Sum}
use Rattle.graph_run.specs.words.Words.{IsForm, IsReading}

-- a builder that ends with an error only where too much is reached, or because memory ran out, ends
pub ends : (rules : Rules) (starts : List Specifier) (answers : Answers) (limit : ℕ) (r : Result GraphData BuildError)
    → IfErr r (SaysLarge rules starts answers limit) → IsEnd r
ends rules starts answers limit (Ok g) many = tt
ends rules starts answers limit (Err NotYet) many = many
ends rules starts answers limit (Err (TooManyModules seen)) many = tt
ends rules starts answers limit (Err (UnaskedAnswer url)) many = many
ends rules starts answers limit (Err Finished) many = many
ends rules starts answers limit (Err OutOfMemory) many = tt

-- what is due for the end of a bundle's builder is due for the bundle
pub end_due : (telling : GraphData → List ℕ → Type 0) (b : Bundle) (r : Result GraphData BuildError) (status : Status)
    (text : List ℕ) → IfOk r (IsGraphOf b)
    → IfErr r (SaysLarge (bundle_rules b) (bundle_starts b) (tells b.modules) b.options.limit)
    → OfEnd telling r status text → OfBundle telling b status text
end_due telling b (Ok g) status text of many is = graph g of is.0 is.1
end_due telling b (Err NotYet) status text of many is = absurd is
end_due telling b (Err (TooManyModules seen)) status text of many is =
    large many.0 is.0 (is.1 ∙ ap too_many_line many.1)
end_due telling b (Err (UnaskedAnswer url)) status text of many is = absurd is
end_due telling b (Err Finished) status text of many is = absurd is
end_due telling b (Err OutOfMemory) status text of many is = absurd is

-- the line for bytes that are no bundle is due for them
pub fault_due : (telling : GraphData → List ℕ → Type 0) (input : List ℕ) (r : Result Bundle BundleFault)
    (f : BundleFault) (status : Status) (text : List ℕ) → length input ≤ input_limit → r ≡ Err f
    → (r ≡ Err fault.NotJson → (value : Data) → ¬ IsJson input value)
    → ((at : List ℕ) → r ≡ Err (fault.Pointer at) → (value : Data) × IsJson input value × (bundle_of value ≡ Err at))
    → OfFault f status text → IsDueOf telling input status text
fault_due telling input r fault.NotJson status text within found never at_fault is =
    no_json within (never found) is.0 is.1
fault_due telling input r (fault.Pointer at) status text within found never at_fault is =
    let (value, json, none) = at_fault at found in no_bundle within value json at none is.0 is.1
fault_due telling input r fault.OutOfMemory status text within found never at_fault is = absurd is

-- ---- words

-- the input of words that ask for none isn't read
pub unread_of : (words : List (List ℕ)) (f : Form) → IsForm f words → (IsReading words → ⊥) → reads f ≡ false
unread_of words (Build batch) is none = absurd (none (inl (batch, is)))
unread_of words Order is none = absurd (none (inr is))
unread_of words (Make n) is none = refl
unread_of words (Sum n) is none = refl
