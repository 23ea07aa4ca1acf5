-- What a run answers for an input, by what the input is.
use Rattle.std.proofs.Common.{◌≡◌, ◌∙◌, ◌⊎◌, inl, inr, refl, sym, ap, subst, ℕ, ◌≤◌, List, length, Option, Some, None, Result, Ok, Err, IfSome, arith}
use Rattle.std.specs.Prelude.{codes}
use Rattle.std.specs.Io.KnownBytes.{Appends}
use Rattle.std.specs.Cmp.Lexicographic.{nat_list_eq_equiv}
use Rattle.std.proofs.lemmas.List.{length-map}
use Rattle.std.proofs.lemmas.Map.Made.{length-le_from_is_member}
use Rattle.serde_json.specs.Data.{Data, Members}
use Rattle.serde_json.specs.Find.{as_object}
use Rattle.url.specs.Parts.{Parts}
use Rattle.import_map.specs.json_reading.Reading.{Reading, and_then, said, url_of, required}
use Rattle.graph_entry.specs.Specifier.{text_of}
use Rattle.graph_builder.specs.Graph.{GraphData, members_of}
use Rattle.forms_build.specs.declared.bundle.FormsBundle.{FormsBundle}
use Rattle.forms_build.specs.Forms.{IsGraphOf}
use Rattle.graph_bundle.specs.Bundle.{IsJson}
use Rattle.forms_build.specs.Bundle.{forms_of, forms_from_by}
use Rattle.graph_run.specs.declared.status.Status.{Status}
use Rattle.graph_run.specs.declared.status.Status.TheVariants.{Done, BuildRefused, BadInput, ReadFault, WriteFault, NoMemory, Usage}
use Rattle.graph_run.specs.Steps.{IsWritten, IsVerdict}
use Rattle.graph_policy.specs.declared.rule.Policy.{Policy}
use Rattle.graph_check.specs.Check.{Look, kept, broken}
use Rattle.joravelsu_run.specs.declared.words.Form.{Form}
use Rattle.joravelsu_run.specs.declared.words.Form.TheVariants as form
use Rattle.joravelsu_run.specs.declared.asked.Telling.{Telling}
use Rattle.joravelsu_run.specs.declared.asked.Telling.TheVariants.{Report, Order, Groups, Faults, Way, Gone, Verdict, Declarations}
use Rattle.joravelsu_run.specs.declared.asked.Asked.{Asked}
use Rattle.joravelsu_run.specs.Words.{IsForm, IsNoForm}
use Rattle.graph_why.specs.declared.step.Without.{Without}
use Rattle.joravelsu_run.specs.Without.{without_of}
use Rattle.joravelsu_run.specs.Asked.{following_in, knows_way, way_from, way_of, knows_gone, gone_from, gone_of, asked_of}
use Rattle.joravelsu_run.specs.Verdicts.{look_at, look_status}
use Rattle.joravelsu_run.specs.Due.{IsTooLarge, Tells, OfAsked, graph, large, IsInput, IsDue, long, no_json, no_bundle, bundle, IsDueForm, IsRefused, IsLargeInput, IsSmallInput, Ends}
use Rattle.joravelsu_run.specs.Run.{usage_line, IsDueFor, usage, Wrote, Comes}
use Rattle.joravelsu_run.specs.Run as run
use Rattle.joravelsu_run.specs.Steps.{WroteForm}
use Rattle.joravelsu_run.proofs.AskedLemmas.{plain_is}
use Rattle.joravelsu_run.proofs.WordLemmas.{one_form}

-- ---- a bundle that is too large

-- no graph of it is within its limit where it is too large
too_large_none : (b : FormsBundle) (g : GraphData) → IsTooLarge b → IsGraphOf b g → ⊥
too_large_none b g t of =
    let bound : length t.members ≤ length (members_of g.entries) =
    length-le_from_is_member nat_list_eq_equiv t.members (members_of g.entries) t.once
    (λ s h. of.entries.members.all s (t.reached s h)) in
    let same : length (members_of g.entries) ≡ length g.entries = length-map g.entries (λ e. text_of e.0) in
    omega (arith, bound, same, of.within, t.counted)

-- ---- what is due for an input

-- an input is a text of one value
one_value : (input : List ℕ) (v w : Data) → IsJson input v → IsJson input w → v ≡ w
one_value input v w h k = let both : Some v ≡ Some w = sym h.1 ∙ k.1 in cc

-- and says one thing for a form
one_said : (f : Form) (input : List ℕ) (a b : Asked) → IsInput f input a → IsInput f input b → a ≡ b
one_said f input a b h k =
    let same : h.value ≡ k.value = one_value input h.value k.value h.json k.json in
    let both : ◌≡◌ {A = Result Asked (List ℕ)} (Ok a) (Ok b) = sym h.says ∙ ap (asked_of f) same ∙ k.says in cc

-- ---- how what is told of a graph ends

-- rules keep a graph, or refuse it
two_ends : (l : Look) → (look_status l ≡ Done) ⊎ (look_status l ≡ BuildRefused)
two_ends (kept n) = inl refl
two_ends (broken n breach thing) = inr refl

verdict_ends : (l : Look) (status : Status) → status ≡ look_status l → Ends form.Policy status
verdict_ends l status is = by (two_ends l)
  where
    by : (look_status l ≡ Done) ⊎ (look_status l ≡ BuildRefused) → Ends form.Policy status
    by (inl done) = inl (is ∙ done)
    by (inr refused) = inr (is ∙ refused)

any_ends : (t : Telling) (g : GraphData) (status : Status) (text : List ℕ) → Tells t g status text
    → Ends form.Policy status
any_ends Report g status text is = inl is.0
any_ends Order g status text is = inl is.0
any_ends Groups g status text is = inl is.0
any_ends Faults g status text is = inl is.0
any_ends (Way following to) g status text is = inl is.0
any_ends (Gone following without) g status text is = inl is.0
any_ends (Verdict policy) g status text is = verdict_ends (look_at policy g) status is.0
any_ends Declarations g status text is = inl is.0

-- a way is told of words that ask for one
way_is : (key : Reading Parts) (r : Reading FormsBundle) (a : Asked)
    → and_then (λ to. and_then (λ forms. Ok (record { forms = forms; telling = Way (following_in forms) to })) r) key
    ≡ Ok a → (to : Parts) × (a.telling ≡ Way (following_in a.forms) to)
way_is (Err at) r a is = absurd (cc)
way_is (Ok to) (Err at) a is = absurd (cc)
way_is (Ok to) (Ok forms) a is =
    let same : record { forms = forms; telling = Way (following_in forms) to } ≡ a = cc in
    (to, subst (λ (b : Asked). b.telling ≡ Way (following_in b.forms) to) same refl)

way_members : (value : Data) (o : Option Members) (a : Asked) → and_then (way_from value) (said o) ≡ Ok a
    → (to : Parts) × (a.telling ≡ Way (following_in a.forms) to)
way_members value None a is = absurd (cc)
way_members value (Some members) a is =
    way_is (required url_of (codes "why") value) (forms_from_by knows_way value members) a is

way_ends : (value : Data) (a : Asked) → way_of value ≡ Ok a → (g : GraphData) (status : Status) (text : List ℕ)
    → Tells a.telling g status text → status ≡ Done
unfolding way_of
way_ends value a says g status text is =
    (subst (λ (t : Telling). Tells t g status text) (way_members value (as_object value) a says).1 is).0

-- and so is what is gone
gone_is : (key : Reading Without) (r : Reading FormsBundle) (a : Asked)
    → and_then (λ w. and_then (λ forms. Ok (record { forms = forms; telling = Gone (following_in forms) w })) r) key
    ≡ Ok a → (w : Without) × (a.telling ≡ Gone (following_in a.forms) w)
gone_is (Err at) r a is = absurd (cc)
gone_is (Ok w) (Err at) a is = absurd (cc)
gone_is (Ok w) (Ok forms) a is =
    let same : record { forms = forms; telling = Gone (following_in forms) w } ≡ a = cc in
    (w, subst (λ (b : Asked). b.telling ≡ Gone (following_in b.forms) w) same refl)

gone_members : (value : Data) (o : Option Members) (a : Asked) → and_then (gone_from value) (said o) ≡ Ok a
    → (w : Without) × (a.telling ≡ Gone (following_in a.forms) w)
gone_members value None a is = absurd (cc)
gone_members value (Some members) a is =
    gone_is (required without_of (codes "without") value) (forms_from_by knows_gone value members) a is

gone_ends : (value : Data) (a : Asked) → gone_of value ≡ Ok a → (g : GraphData) (status : Status) (text : List ℕ)
    → Tells a.telling g status text → status ≡ Done
unfolding gone_of
gone_ends value a says g status text is =
    (subst (λ (t : Telling). Tells t g status text) (gone_members value (as_object value) a says).1 is).0

told_ends : (f : Form) (value : Data) (a : Asked) → asked_of f value ≡ Ok a → (g : GraphData) (status : Status)
    (text : List ℕ) → Tells a.telling g status text → Ends f status
told_ends form.Build value a says g status text is =
    (subst (λ (t : Telling). Tells t g status text) (plain_is Report (forms_of value) a says).1 is).0
told_ends form.Order value a says g status text is =
    (subst (λ (t : Telling). Tells t g status text) (plain_is Order (forms_of value) a says).1 is).0
told_ends form.Groups value a says g status text is =
    (subst (λ (t : Telling). Tells t g status text) (plain_is Groups (forms_of value) a says).1 is).0
told_ends form.Faults value a says g status text is =
    (subst (λ (t : Telling). Tells t g status text) (plain_is Faults (forms_of value) a says).1 is).0
told_ends form.Why value a says g status text is = way_ends value a says g status text is
told_ends form.Gone value a says g status text is = gone_ends value a says g status text is
told_ends form.Policy value a says g status text is = any_ends a.telling g status text is
told_ends form.Declarations value a says g status text is =
    (subst (λ (t : Telling). Tells t g status text) (plain_is Declarations (forms_of value) a says).1 is).0

-- ---- which status comes

module _ (f : Form) (input : List ℕ) (status : Status) (text : List ℕ) where
  -- for an input that says something what is due is that of what it says
  due_of : (a : Asked) → IsInput f input a → IsDue f input status text → OfAsked a status text
  due_of a says (long lt _ _) = absurd (omega (arith, lt, says.within))
  due_of a says (no_json _ never _ _) = absurd (never says.value says.json)
  due_of a says (no_bundle _ value json at none _ _) =
      let same : says.value ≡ value = one_value input says.value value says.json json in
      let both : ◌≡◌ {A = Result Asked (List ℕ)} (Ok a) (Err at) = sym says.says ∙ ap (asked_of f) same ∙ none in
      absurd cc
  due_of a says (bundle b also of) =
      subst (λ (d : Asked). OfAsked d status text) (one_said f input b a also says) of

  -- the line of a bad input, for a refused one
  refused_due : IsRefused f input → IsDue f input status text → status ≡ BadInput
  refused_due never (long _ is _) = is
  refused_due never (no_json _ _ is _) = is
  refused_due never (no_bundle _ _ _ _ _ is _) = is
  refused_due never (bundle a has _) = absurd (never a has)

  -- the refusal, where it is too large
  large_due : IsLargeInput f input → IsDue f input status text → status ≡ BuildRefused
  large_due l due = by (due_of l.asked l.says due)
    where
      by : OfAsked l.asked status text → status ≡ BuildRefused
      by (graph g of is) = absurd (too_large_none l.asked.forms g l.large of)
      by (large _ is _) = is

  -- and else how what is told of its graph ends
  small_due : IsSmallInput f input → IsDue f input status text → Ends f status
  small_due s due = by (due_of s.asked s.says due)
    where
      by : OfAsked s.asked status text → Ends f status
      by (graph g of is) = told_ends f s.says.value s.asked s.says.says g status text is
      by (large t is _) = absurd (s.small t)

-- ---- what is answered

-- what is due is answered, unless a write failed
answered : (holds : Status → Type 0) (old new : Option (List ℕ)) (status : Status) (written : List ℕ)
    (failed fails : ℕ) (result : Status) → holds status → IsWritten status written old new failed fails result
    → (reads read : ℕ) → Comes reads read failed fails result holds
answered holds old new status written failed fails result is (inl w) reads read _ _ = inl (subst holds (sym w.0) is)
answered holds old new status written failed fails result is (inr w) reads read _ same =
    absurd (omega (arith, w.2, same))

-- for an input that has a fact
as_due : (f : Form) (fact : List ℕ → Type 0) (holds : Status → Type 0) (input old new : Option (List ℕ))
    (status : Status) (text written : List ℕ) (failed fails : ℕ) (result : Status)
    → ((bytes : List ℕ) → fact bytes → IsDue f bytes status text → holds status)
    → IsDueForm f input status text → IsWritten status written old new failed fails result → (reads read : ℕ)
    → IfSome input (λ bytes. fact bytes → Comes reads read failed fails result holds)
as_due f fact holds None old new status text written failed fails result says due w reads read = tt
as_due f fact holds (Some bytes) old new status text written failed fails result says due w reads read =
    λ has. answered holds old new status written failed fails result (says bytes has due) w reads read

module _ (f : Form) (input old new : Option (List ℕ)) (status : Status) (text written : List ℕ) (failed fails : ℕ)
    (result : Status) (due : IsDueForm f input status text) (w : IsWritten status written old new failed fails result)
    (reads read : ℕ) where
  pub refused_for : IfSome input (λ bytes. IsRefused f bytes
      → Comes reads read failed fails result (λ s. s ≡ BadInput))
  refused_for =
      as_due f (IsRefused f) (λ s. s ≡ BadInput) input old new status text written failed fails result
      (λ bytes. refused_due f bytes status text) due w reads read

  pub large_for : IfSome input (λ bytes. IsLargeInput f bytes
      → Comes reads read failed fails result (λ s. s ≡ BuildRefused))
  large_for =
      as_due f (IsLargeInput f) (λ s. s ≡ BuildRefused) input old new status text written failed fails result
      (λ bytes. large_due f bytes status text) due w reads read

  pub small_for : IfSome input (λ bytes. IsSmallInput f bytes → Comes reads read failed fails result (Ends f))
  small_for =
      as_due f (IsSmallInput f) (Ends f) input old new status text written failed fails result
      (λ bytes. small_due f bytes status text) due w reads read

-- what comes with the form that words are comes with each form that they are
pub for_each_form : (fact : Form → List ℕ → Type 0) (holds : Form → Status → Type 0) (words : List (List ℕ))
    (input : Option (List ℕ)) (reads read failed fails : ℕ) (result : Status) (f : Form) → IsForm f words
    → IfSome input (λ bytes. fact f bytes → Comes reads read failed fails result (holds f))
    → (g : Form) → IsForm g words
    → IfSome input (λ bytes. fact g bytes → Comes reads read failed fails result (holds g))
for_each_form fact holds words input reads read failed fails result f is comes g so =
    subst (λ (h : Form). IfSome input (λ bytes. fact h bytes → Comes reads read failed fails result (holds h)))
    (one_form f g words is so) comes

-- ---- what was written, by the status

-- for a form
pub wrote_due : (f : Form) (input old new : Option (List ℕ)) (status : Status) (text : List ℕ)
    (failed fails : ℕ) (result : Status)
    → IsVerdict status → IsDueForm f input status text → IsWritten status text old new failed fails result
    → WroteForm f input old new result
wrote_due f input old new status text failed fails result verdict due (inr w) =
    subst (WroteForm f input old new) (sym w.0) (status, text, due, w.1)
wrote_due f input old new status text failed fails result verdict due (inl w) =
    subst (WroteForm f input old new) (sym w.0) (by status verdict due w.1)
  where
    by : (s : Status) → IsVerdict s → IsDueForm f input s text → Appends old new text → WroteForm f input old new s
    by Done v d a = (text, d, a)
    by BuildRefused v d a = (text, d, a)
    by BadInput v d a = (text, d, a)
    by ReadFault v d a = absurd v
    by WriteFault v d a = absurd v
    by NoMemory v d a = absurd v
    by Usage v d a = absurd v

-- for words that are one
pub wrote_form : (words : List (List ℕ)) (input old new : Option (List ℕ)) (f : Form) (s : Status) → IsForm f words
    → WroteForm f input old new s → Wrote words input old new s
wrote_form words input old new f Done is (text, due, a) = (text, run.form f is due, a)
wrote_form words input old new f BuildRefused is (text, due, a) = (text, run.form f is due, a)
wrote_form words input old new f BadInput is (text, due, a) = (text, run.form f is due, a)
wrote_form words input old new f ReadFault is stays = stays
wrote_form words input old new f WriteFault is (status, text, due, a) = (status, text, run.form f is due, a)
wrote_form words input old new f NoMemory is stays = stays
wrote_form words input old new f Usage is never = absurd never

-- a run of a form never says that the words are none
pub never_usage : (f : Form) (input old new : Option (List ℕ)) (s : Status) → WroteForm f input old new s
    → s ≡ Usage → ⊥
never_usage f input old new s wrote is = subst (WroteForm f input old new) is wrote

-- of words that are no form, the usage line
pub wrote_usage : (words : List (List ℕ)) (input old new : Option (List ℕ)) (failed fails : ℕ) (result : Status)
    → IsNoForm words → IsWritten Usage usage_line old new failed fails result → Wrote words input old new result
wrote_usage words input old new failed fails result none (inl w) =
    subst (Wrote words input old new) (sym w.0) (usage_line, usage none refl refl, w.1)
wrote_usage words input old new failed fails result none (inr w) =
    subst (Wrote words input old new) (sym w.0) (Usage, usage_line, usage none refl refl, w.1)
