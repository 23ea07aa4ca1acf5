-- What a run answers for an input, by what the input is.
use Rattle.std.proofs.Common.{refl, ◌≡◌, inl, inr, ◌∙◌, sym, ap, subst, ℕ, ◌≤◌, List, length, Option, Some, None, Result, Ok, Err, IfSome, arith}
use Rattle.std.specs.Cmp.Lexicographic.{nat_list_eq_equiv}
use Rattle.std.proofs.lemmas.List.{length-map}
use Rattle.std.proofs.lemmas.Map.Made.{length-le_from_is_member}
use Rattle.serde_json.specs.Data.{Data}
use Rattle.graph_entry.specs.Specifier.{text_of}
use Rattle.graph_builder.specs.Graph.{GraphData, members_of}
use Rattle.graph_bundle.specs.declared.bundle.Bundle.{Bundle}
use Rattle.graph_bundle.specs.Bundle.{bundle_of, IsJson}
use Rattle.graph_run.specs.declared.status.Status.{Status}
use Rattle.graph_run.specs.declared.status.Status.TheVariants.{Done, BuildRefused, BadInput, ReadFault, WriteFault, NoMemory, Usage}
use Rattle.graph_run.specs.declared.verdict.Telling.TheVariants as telling
use Rattle.graph_run.specs.Telling.{told_by}
use Rattle.graph_run.specs.Run.{IsDueOf, long, no_json, no_bundle, bundle, OfBundle, graph, large, IsInput, IsGraphOf, IsTooLarge, IsRefused, IsLargeInput, IsSmallInput, Always, IsDueFor, IsDueForm, usage, Wrote, usage_line}
use Rattle.graph_run.specs.declared.words.words.Form.{Form}
use Rattle.graph_run.specs.declared.words.words.Form.TheVariants.{Build, Order, Make, Sum}
use Rattle.graph_run.specs.words.Words.{IsForm, IsReading, IsNoForm}
use Rattle.graph_run.proofs.words_lemmas.Theorems.{one_form}
use Rattle.made_bundle.specs.Made.{made_text}
use Rattle.graph_run.specs.Steps.{IsWritten, IsVerdict}
use Rattle.std.specs.Io.KnownBytes.{Appends}
use Rattle.graph_run.proofs.SumLemmas.{made_small}

-- ---- a bundle that is too large

-- no graph of it is within its limit where it is too large
pub too_large_none : (b : Bundle) (g : GraphData) → IsTooLarge b → IsGraphOf b g → ⊥
too_large_none b g t of =
    let bound : length t.members ≤ length (members_of g.entries) =
    length-le_from_is_member nat_list_eq_equiv t.members (members_of g.entries) t.once
    (λ s h. of.entries.members.all s (t.reached s h)) in
    let same : length (members_of g.entries) ≡ length g.entries = length-map g.entries (λ e. text_of e.0) in
    omega (arith, bound, same, of.within, t.counted)

-- ---- what is due for an input

-- an input is a text of one value
one_value : (input : List ℕ) (v w : Data) → IsJson input v → IsJson input w → v ≡ w
one_value input v w h k = let both : Some v ≡ Some w = sym h.1 ∙ k.1 in cc

-- and says one bundle
one_bundle : (input : List ℕ) (b c : Bundle) → IsInput input b → IsInput input c → b ≡ c
one_bundle input b c h k =
    let same : h.value ≡ k.value = one_value input h.value k.value h.json k.json in
    let both : ◌≡◌ {A = Result Bundle (List ℕ)} (Ok b) (Ok c) = sym h.says ∙ ap bundle_of same ∙ k.says in cc

module _ (tells : GraphData → List ℕ → Type 0) (input : List ℕ) (status : Status) (text : List ℕ) where
  -- for an input that is a bundle what is due is that of the bundle
  due_of : (b : Bundle) → IsInput input b → IsDueOf tells input status text → OfBundle tells b status text
  due_of b says (long lt _ _) = absurd (omega (arith, lt, says.within))
  due_of b says (no_json _ never _ _) = absurd (never says.value says.json)
  due_of b says (no_bundle _ value json at none _ _) =
      let same : says.value ≡ value = one_value input says.value value says.json json in
      let both : ◌≡◌ {A = Result Bundle (List ℕ)} (Ok b) (Err at) = sym says.says ∙ ap bundle_of same ∙ none in
      absurd cc
  due_of b says (bundle c also of) =
      subst (λ (d : Bundle). OfBundle tells d status text) (one_bundle input c b also says) of

  -- the line of a bad input, for a refused one
  refused_due : IsRefused input → IsDueOf tells input status text → status ≡ BadInput
  refused_due refused (long _ is _) = is
  refused_due refused (no_json _ _ is _) = is
  refused_due refused (no_bundle _ _ _ _ _ is _) = is
  refused_due refused (bundle b has _) = absurd (refused b has)

  -- the refusal, where it is too large
  large_due : IsLargeInput input → IsDueOf tells input status text → status ≡ BuildRefused
  large_due l due = by (due_of l.bundle l.says due)
    where
      by : OfBundle tells l.bundle status text → status ≡ BuildRefused
      by (graph g of is _) = absurd (too_large_none l.bundle g l.large of)
      by (large _ is _) = is

  -- and else what is told of the graph
  pub small_due : IsSmallInput input → IsDueOf tells input status text → status ≡ Done
  small_due s due = by (due_of s.bundle s.says due)
    where
      by : OfBundle tells s.bundle status text → status ≡ Done
      by (graph g of is _) = is
      by (large t is _) = absurd (s.small t)

-- ---- what is answered

-- what is due is answered, unless a write failed
pub answered : (due : Status) (old new : Option (List ℕ)) (status : Status) (written : List ℕ) (failed fails : ℕ)
    (result : Status)
    → status ≡ due → IsWritten status written old new failed fails result
    → (form_is : Type 0) (reads read : ℕ) → Always form_is reads read failed fails result due
answered due old new status written failed fails result is (inl w) form_is reads read _ _ _ = inl (w.0 ∙ is)
answered due old new status written failed fails result is (inr w) form_is reads read _ _ same =
    absurd (omega (arith, w.2, same))

-- for an input that has a fact
as_due : (tells : GraphData → List ℕ → Type 0) (fact : List ℕ → Type 0) (due_status : Status) (input : Option (List ℕ))
    (old new : Option (List ℕ))
    (status : Status) (text written : List ℕ)
    (failed fails : ℕ) (result : Status)
    → ((bytes : List ℕ) → fact bytes → IsDueOf tells bytes status text → status ≡ due_status)
    → IfSome input (λ bytes. IsDueOf tells bytes status text) → IsWritten status written old new failed fails result
    → (form_is : Type 0) (reads read : ℕ)
    → IfSome input (λ bytes. fact bytes → Always form_is reads read failed fails result due_status)
as_due tells fact due_status None old new status text written failed fails result says due w form_is reads read = tt
as_due tells fact due_status (Some bytes) old new status text written failed fails result says due w form_is reads
    read =
    λ holds. answered due_status old new status written failed fails result (says bytes holds due) w form_is reads read

module _ (tells : GraphData → List ℕ → Type 0) (input : Option (List ℕ)) (old new : Option (List ℕ)) (status : Status)
    (text written : List ℕ) (failed fails : ℕ) (result : Status)
    (due : IfSome input (λ bytes. IsDueOf tells bytes status text))
    (w : IsWritten status written old new failed fails result) (form_is : Type 0) (reads read : ℕ) where
  pub refused_written : IfSome input (λ bytes. IsRefused bytes → Always form_is reads read failed fails result BadInput)
  refused_written =
      as_due tells IsRefused BadInput input old new status text written failed fails result
      (λ bytes. refused_due tells bytes status text) due w form_is reads read

  pub large_written : IfSome input
      (λ bytes. IsLargeInput bytes → Always form_is reads read failed fails result BuildRefused)
  large_written =
      as_due tells IsLargeInput BuildRefused input old new status text written failed fails result
      (λ bytes. large_due tells bytes status text) due w form_is reads read

  pub small_written : IfSome input (λ bytes. IsSmallInput bytes → Always form_is reads read failed fails result Done)
  small_written =
      as_due tells IsSmallInput Done input old new status text written failed fails result
      (λ bytes. small_due tells bytes status text) due w form_is reads read

-- where the words are another form than these ones, nothing is claimed
never_always : (fact : List ℕ → Type 0) (input : Option (List ℕ)) (form_is : Type 0) (reads read failed fails : ℕ)
    (result due : Status)
    → (form_is → ⊥) → IfSome input (λ bytes. fact bytes → Always form_is reads read failed fails result due)
never_always fact None form_is reads read failed fails result due never = tt
never_always fact (Some bytes) form_is reads read failed fails result due never = λ _ is. absurd (never is)

-- ---- what was written, by the status

pub wrote_due : (words : List (List ℕ)) (input old new : Option (List ℕ)) (status : Status) (text : List ℕ)
    (failed fails : ℕ)
    (result : Status)
    → IsVerdict status → IsDueFor words input status text → IsWritten status text old new failed fails result
    → Wrote words input old new result
wrote_due words input old new status text failed fails result verdict due (inr w) =
    subst (Wrote words input old new) (sym w.0) (status, text, due, w.1)
wrote_due words input old new status text failed fails result verdict due (inl w) =
    subst (Wrote words input old new) (sym w.0) (by status verdict due w.1)
  where
    by : (s : Status) → IsVerdict s → IsDueFor words input s text → Appends old new text → Wrote words input old new s
    by Done v d a = (text, d, a)
    by BuildRefused v d a = (text, d, a)
    by BadInput v d a = (text, d, a)
    by ReadFault v d a = absurd v
    by WriteFault v d a = absurd v
    by NoMemory v d a = absurd v
    by Usage v d a = absurd v

-- of words that are no form, the usage line
pub wrote_usage : (words : List (List ℕ)) (input old new : Option (List ℕ)) (failed fails : ℕ) (result : Status)
    → IsNoForm words → IsWritten Usage usage_line old new failed fails result → Wrote words input old new result
wrote_usage words input old new failed fails result none (inl w) =
    subst (Wrote words input old new) (sym w.0) (usage_line, usage none refl refl, w.1)
wrote_usage words input old new failed fails result none (inr w) =
    subst (Wrote words input old new) (sym w.0) (Usage, usage_line, usage none refl refl, w.1)

-- ---- which status comes, by the form

-- the words are no other form
other_form : (words : List (List ℕ)) (f g : Form) → IsForm f words → (f ≡ g → ⊥) → IsForm g words → ⊥
other_form words f g is apart also = apart (one_form f g words is also)

-- so its input isn't read
unread_form : (words : List (List ℕ)) (f : Form) → IsForm f words → ((batch : ℕ) → f ≡ Build batch → ⊥)
    → (f ≡ Order → ⊥) → IsReading words → ⊥
unread_form words f is build order (inl also) = other_form words f (Build also.0) is (build also.0) also.1
unread_form words f is build order (inr also) = other_form words f Order is order also

module _ (words : List (List ℕ)) (f : Form) (is : IsForm f words) (input old new : Option (List ℕ)) (status : Status)
    (text written : List ℕ) (failed fails : ℕ) (result : Status) (due : IsDueForm f input status text)
    (w : IsWritten status written old new failed fails result) (reads read : ℕ) where
  pub refused_for : IfSome input
      (λ bytes. IsRefused bytes → Always (IsReading words) reads read failed fails result BadInput)
  refused_for = by f is due
    where
      by : (g : Form) → IsForm g words → IsDueForm g input status text
          → IfSome input (λ bytes. IsRefused bytes
          → Always (IsReading words) reads read failed fails result BadInput)
      by (Build batch) i d =
          refused_written (told_by telling.Report) input old new status text written failed fails result d w
          (IsReading words) reads read
      by Order i d =
          refused_written (told_by telling.Order) input old new status text written failed fails result d w
          (IsReading words) reads read
      by (Make n) i d =
          never_always IsRefused input (IsReading words) reads read failed fails result BadInput
          (unread_form words (Make n) i (λ batch e. cc) (λ e. cc))
      by (Sum n) i d =
          never_always IsRefused input (IsReading words) reads read failed fails result BadInput
          (unread_form words (Sum n) i (λ batch e. cc) (λ e. cc))

  pub large_for : IfSome input
      (λ bytes. IsLargeInput bytes → Always (IsReading words) reads read failed fails result BuildRefused)
  large_for = by f is due
    where
      by : (g : Form) → IsForm g words → IsDueForm g input status text
          → IfSome input (λ bytes. IsLargeInput bytes
          → Always (IsReading words) reads read failed fails result BuildRefused)
      by (Build batch) i d =
          large_written (told_by telling.Report) input old new status text written failed fails result d w
          (IsReading words) reads read
      by Order i d =
          large_written (told_by telling.Order) input old new status text written failed fails result d w
          (IsReading words) reads read
      by (Make n) i d =
          never_always IsLargeInput input (IsReading words) reads read failed fails result BuildRefused
          (unread_form words (Make n) i (λ batch e. cc) (λ e. cc))
      by (Sum n) i d =
          never_always IsLargeInput input (IsReading words) reads read failed fails result BuildRefused
          (unread_form words (Sum n) i (λ batch e. cc) (λ e. cc))

  pub small_for : IfSome input
      (λ bytes. IsSmallInput bytes → Always (IsReading words) reads read failed fails result Done)
  small_for = by f is due
    where
      by : (g : Form) → IsForm g words → IsDueForm g input status text
          → IfSome input (λ bytes. IsSmallInput bytes → Always (IsReading words) reads read failed fails result Done)
      by (Build batch) i d =
          small_written (told_by telling.Report) input old new status text written failed fails result d w
          (IsReading words) reads read
      by Order i d =
          small_written (told_by telling.Order) input old new status text written failed fails result d w
          (IsReading words) reads read
      by (Make n) i d =
          never_always IsSmallInput input (IsReading words) reads read failed fails result Done
          (unread_form words (Make n) i (λ batch e. cc) (λ e. cc))
      by (Sum n) i d =
          never_always IsSmallInput input (IsReading words) reads read failed fails result Done
          (unread_form words (Sum n) i (λ batch e. cc) (λ e. cc))

  pub made_for : (n : ℕ) → Always (IsForm (Make n) words) reads read failed fails result Done
  made_for n = by f is due
    where
      by : (g : Form) → IsForm g words → IsDueForm g input status text
          → Always (IsForm (Make n) words) reads read failed fails result Done
      by (Build batch) i d = λ also. absurd (other_form words (Build batch) (Make n) i (λ e. cc) also)
      by Order i d = λ also. absurd (other_form words Order (Make n) i (λ e. cc) also)
      by (Make m) i d = answered Done old new status written failed fails result d.0 w (IsForm (Make n) words) reads
          read
      by (Sum m) i d = λ also. absurd (other_form words (Sum m) (Make n) i (λ e. cc) also)

  pub summed_for : (n : ℕ) → Always (IsForm (Sum n) words) reads read failed fails result Done
  summed_for n = by f is due
    where
      by : (g : Form) → IsForm g words → IsDueForm g input status text
          → Always (IsForm (Sum n) words) reads read failed fails result Done
      by (Build batch) i d = λ also. absurd (other_form words (Build batch) (Sum n) i (λ e. cc) also)
      by Order i d = λ also. absurd (other_form words Order (Sum n) i (λ e. cc) also)
      by (Make m) i d = λ also. absurd (other_form words (Make m) (Sum n) i (λ e. cc) also)
      by (Sum m) i d =
          let small = made_small m i.2.1 i.2.2 in
          answered Done old new status written failed fails result
          (small_due (told_by telling.Counts) (made_text m) status text small d) w
          (IsForm (Sum n) words) reads read

-- where words are no form nothing is claimed of one
pub none_reading : (fact : List ℕ → Type 0) (words : List (List ℕ)) (input : Option (List ℕ))
    (reads read failed fails : ℕ) (result due : Status) → IsNoForm words
    → IfSome input (λ bytes. fact bytes → Always (IsReading words) reads read failed fails result due)
none_reading fact words input reads read failed fails result due none =
    never_always fact input (IsReading words) reads read failed fails result due by
  where
    by : IsReading words → ⊥
    by (inl is) = none (Build is.0) is.1
    by (inr is) = none Order is

pub none_always : (words : List (List ℕ)) (g : Form) (reads read failed fails : ℕ) (result due : Status)
    → IsNoForm words
    → Always (IsForm g words) reads read failed fails result due
none_always words g reads read failed fails result due none is = absurd (none g is)
