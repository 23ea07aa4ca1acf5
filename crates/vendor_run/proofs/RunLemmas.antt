-- What a run answers for an input, by what the input is.
use Rattle.std.proofs.Common.{◌≡◌, ◌∙◌, ◌⊎◌, inl, inr, sym, ap, subst, ℕ, ◌≤◌, List, length, Option, Some, None, Result, Ok, Err, IfSome, arith}
use Rattle.std.specs.Io.KnownBytes.{Appends}
use Rattle.serde_json.specs.Data.{Data}
use Rattle.url.specs.Parts.{Parts}
use Rattle.graph_builder.specs.Graph.{GraphData}
use Rattle.graph_bundle.specs.declared.bundle.Bundle.{Bundle}
use Rattle.graph_bundle.specs.Bundle.{bundle_of, IsJson}
use Rattle.graph_vendor.specs.declared.plan.VendorPlan.{VendorPlan}
use Rattle.vendor_report.specs.declared.wanted.Wanted.{Wanted}
use Rattle.graph_run.specs.declared.status.Status.{Status}
use Rattle.graph_run.specs.declared.status.Status.TheVariants.{Done, BuildRefused, BadInput, ReadFault, WriteFault, NoMemory, Usage}
use Rattle.graph_run.specs.Run.{IsInput, IsGraphOf, IsRefused, IsLargeInput, IsSmallInput}
use Rattle.graph_run.specs.Steps.{IsWritten, IsVerdict}
use Rattle.graph_run.proofs.RunLemmas.{too_large_none}
use Rattle.vendor_run.specs.Due.{OfPlan, bundled, unread, IsVendored, planned, refused, OfBundle, vendored, large, IsDue, long, no_json, no_bundle, bundle, IsDueFor}
use Rattle.vendor_run.specs.Run.{Wrote, Comes, IsOutcome}

-- ---- what is due for an input

-- an input is a text of one value
one_value : (input : List ℕ) (v w : Data) → IsJson input v → IsJson input w → v ≡ w
one_value input v w h k = let both : Some v ≡ Some w = sym h.1 ∙ k.1 in cc

-- and says one bundle
one_bundle : (input : List ℕ) (b c : Bundle) → IsInput input b → IsInput input c → b ≡ c
one_bundle input b c h k =
    let same : h.value ≡ k.value = one_value input h.value k.value h.json k.json in
    let both : ◌≡◌ {A = Result Bundle (List ℕ)} (Ok b) (Ok c) = sym h.says ∙ ap bundle_of same ∙ k.says in cc

module _ (base : Parts) (input : List ℕ) (status : Status) (text : List ℕ) where
  -- for an input that is a bundle what is due is that of the bundle
  due_of : (b : Bundle) → IsInput input b → IsDue base input status text → OfBundle base b status text
  due_of b says (long lt _ _) = absurd (omega (arith, lt, says.within))
  due_of b says (no_json _ never _ _) = absurd (never says.value says.json)
  due_of b says (no_bundle _ value json at none _ _) =
      let same : says.value ≡ value = one_value input says.value value says.json json in
      let both : ◌≡◌ {A = Result Bundle (List ℕ)} (Ok b) (Err at) = sym says.says ∙ ap bundle_of same ∙ none in
      absurd cc
  due_of b says (bundle c also of) =
      subst (λ (d : Bundle). OfBundle base d status text) (one_bundle input c b also says) of

  -- the line of a bad input, for a refused one
  refused_due : IsRefused input → IsDue base input status text → status ≡ BadInput
  refused_due never (long _ is _) = is
  refused_due never (no_json _ _ is _) = is
  refused_due never (no_bundle _ _ _ _ _ is _) = is
  refused_due never (bundle b has _) = absurd (never b has)

  -- the refusal, where it is too large
  large_due : IsLargeInput input → IsDue base input status text → status ≡ BuildRefused
  large_due l due = by (due_of l.bundle l.says due)
    where
      by : OfBundle base l.bundle status text → status ≡ BuildRefused
      by (vendored g of is) = absurd (too_large_none l.bundle g l.large of)
      by (large _ is _) = is

  -- and else the files of its graph, or why there are none
  small_due : IsSmallInput input → IsDue base input status text → IsOutcome status
  small_due s due = by (due_of s.bundle s.says due)
    where
      of_plan : (wanted : Wanted) (plan : VendorPlan) → OfPlan wanted plan status text → IsOutcome status
      of_plan wanted plan (bundled _ is _) = inl is
      of_plan wanted plan (unread _ _ is _) = inr is

      told : (wanted : Wanted) (g : GraphData) → IsVendored base wanted g status text → IsOutcome status
      told wanted g (planned plan _ of) = of_plan wanted plan of
      told wanted g (refused cause specifier _ is _) = inr is

      by : OfBundle base s.bundle status text → IsOutcome status
      by (vendored g of is) = told _ g is
      by (large t is _) = absurd (s.small t)

-- ---- what is answered

-- what is due is answered, unless a write failed
answered : (P : Status → Type 0) (old new : Option (List ℕ)) (status : Status) (written : List ℕ) (failed fails : ℕ)
    (result : Status) → P status → IsWritten status written old new failed fails result
    → (reads read : ℕ) → Comes P reads read failed fails result
answered P old new status written failed fails result is (inl w) reads read _ _ = inl (subst P (sym w.0) is)
answered P old new status written failed fails result is (inr w) reads read _ same = absurd (omega (arith, w.2, same))

-- for an input that has a fact
as_due : (base : Parts) (fact : List ℕ → Type 0) (P : Status → Type 0) (input old new : Option (List ℕ))
    (status : Status) (text written : List ℕ) (failed fails : ℕ) (result : Status)
    → ((bytes : List ℕ) → fact bytes → IsDue base bytes status text → P status)
    → IsDueFor base input status text → IsWritten status written old new failed fails result → (reads read : ℕ)
    → IfSome input (λ bytes. fact bytes → Comes P reads read failed fails result)
as_due base fact P None old new status text written failed fails result says due w reads read = tt
as_due base fact P (Some bytes) old new status text written failed fails result says due w reads read =
    λ holds. answered P old new status written failed fails result (says bytes holds due) w reads read

module _ (base : Parts) (input old new : Option (List ℕ)) (status : Status) (text written : List ℕ) (failed fails : ℕ)
    (result : Status) (due : IsDueFor base input status text) (w : IsWritten status written old new failed fails result)
    (reads read : ℕ) where
  pub refused_for : IfSome input
      (λ bytes. IsRefused bytes → Comes (λ s. s ≡ BadInput) reads read failed fails result)
  refused_for =
      as_due base IsRefused (λ s. s ≡ BadInput) input old new status text written failed fails result
      (λ bytes. refused_due base bytes status text) due w reads read

  pub large_for : IfSome input
      (λ bytes. IsLargeInput bytes → Comes (λ s. s ≡ BuildRefused) reads read failed fails result)
  large_for =
      as_due base IsLargeInput (λ s. s ≡ BuildRefused) input old new status text written failed fails result
      (λ bytes. large_due base bytes status text) due w reads read

  pub small_for : IfSome input (λ bytes. IsSmallInput bytes → Comes IsOutcome reads read failed fails result)
  small_for =
      as_due base IsSmallInput IsOutcome input old new status text written failed fails result
      (λ bytes. small_due base bytes status text) due w reads read

-- where nothing came of it, memory ran out or a read failed
pub none_for : (fact : List ℕ → Type 0) (P : Status → Type 0) (input : Option (List ℕ))
    (reads read failed fails : ℕ) (result : Status)
    → (reads ≡ read → (result ≡ NoMemory))
    → IfSome input (λ bytes. fact bytes → Comes P reads read failed fails result)
none_for fact P None reads read failed fails result is = tt
none_for fact P (Some bytes) reads read failed fails result is = λ holds same still. inr (is (sym same))

-- ---- what was written, by the status

pub wrote_due : (base : Parts) (input old new : Option (List ℕ)) (status : Status) (text : List ℕ) (failed fails : ℕ)
    (result : Status)
    → IsVerdict status → IsDueFor base input status text → IsWritten status text old new failed fails result
    → Wrote base input old new result
wrote_due base input old new status text failed fails result verdict due (inr w) =
    subst (Wrote base input old new) (sym w.0) (status, text, due, w.1)
wrote_due base input old new status text failed fails result verdict due (inl w) =
    subst (Wrote base input old new) (sym w.0) (by status verdict due w.1)
  where
    by : (s : Status) → IsVerdict s → IsDueFor base input s text → Appends old new text → Wrote base input old new s
    by Done v d a = (text, d, a)
    by BuildRefused v d a = (text, d, a)
    by BadInput v d a = (text, d, a)
    by ReadFault v d a = absurd v
    by WriteFault v d a = absurd v
    by NoMemory v d a = absurd v
    by Usage v d a = absurd v
