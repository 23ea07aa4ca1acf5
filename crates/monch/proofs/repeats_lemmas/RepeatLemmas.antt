-- The rounds of a repetition so far, as its loop goes through them.
use Rattle.std.specs.List.{FoldsTo}
use Rattle.std.proofs.Common.{◌≡◌, ℕ, ◌+◌, ◌<◌, ◌≤◌, List, [], ◌∷◌, ◌++◌, length, length-append, refl, sym, ap, subst, arith}
use Rattle.std.proofs.lemmas.Fn.{FoldsTo-push}
use Rattle.std.proofs.lemmas.List.{append_assoc, append-nil}
use Rattle.monch.specs.core_parsers.Outcome.{Refusal, backtrack, failure, no_memory, Outcome, success, refused, Meaning}
use Rattle.monch.specs.repeats.Repeat.{with_first, Repeats, ends, round, GivesVec, GivesCount, GivesFold}

-- an outcome with more values in front of its list
abbrev pub with_front : {O : Type 0} → List O → Outcome (List O) → Outcome (List O)
with_front values (success rest more) = success rest (values ++ more)
with_front values (refused why) = refused why

-- a refusal of the list is one of the vector
GivesVec-refused : {O : Type 0} (list : Meaning (List O)) (text : List ℕ) (why : Refusal) → list text (refused why)
    → GivesVec list text (refused why)
GivesVec-refused list text backtrack given = given
GivesVec-refused list text (failure input message) given = given
GivesVec-refused list text no_memory given = tt

module _ {O : Type 0} (Round : List ℕ → O → List ℕ → Type 0) (End : Meaning (List O)) where
  -- rounds have read these values from the start up to here
  pub record SoFar (start : List ℕ) (values : List O) (here : List ℕ) : Type 0 where
    pub goes_on : (outcome : Outcome (List O)) → Repeats Round End here outcome
        → Repeats Round End start (with_front values outcome)

  pub SoFar-start : (text : List ℕ) → SoFar text [] text
  SoFar-start text = record { goes_on = elim [ success rest more ↦ λ given. given | refused why ↦ λ given. given ] }

  one_more : (values : List O) (value : O) (outcome : Outcome (List O))
      → with_front values (with_first value outcome) ≡ with_front (values ++ value ∷ []) outcome
  one_more values value (success rest more) = ap (success rest) (sym (append_assoc values (value ∷ []) more))
  one_more values value (refused why) = refl

  pub SoFar-round : (start : List ℕ) (values : List O) (here : List ℕ) (value : O) (next : List ℕ)
      → SoFar start values here → Round here value next → SoFar start (values ++ value ∷ []) next
  SoFar-round start values here value next far read = record {
    goes_on = λ outcome then. subst (Repeats Round End start) (one_more values value outcome)
        (far.goes_on (with_first value outcome) (round read then));
  }

  pub SoFar-ends : (start : List ℕ) (values : List O) (here : List ℕ)
      → SoFar start values here → End here (success here []) → Repeats Round End start (success here values)
  SoFar-ends start values here far ended =
      subst (λ all. Repeats Round End start (success here all)) (append-nil values)
      (far.goes_on (success here []) (ends ended))

  pub SoFar-last : (start : List ℕ) (values : List O) (here : List ℕ) (value : O) (rest : List ℕ)
      → SoFar start values here → End here (success rest (value ∷ []))
      → Repeats Round End start (success rest (values ++ value ∷ []))
  SoFar-last start values here value rest far ended = far.goes_on (success rest (value ∷ [])) (ends ended)

  pub SoFar-refused : (start : List ℕ) (values : List O) (here : List ℕ) (why : Refusal)
      → SoFar start values here → End here (refused why) → Repeats Round End start (refused why)
  SoFar-refused start values here why far ended = far.goes_on (refused why) (ends ended)

  pub SoFar-vec_refused : (start : List ℕ) (values : List O) (here : List ℕ) (why : Refusal)
      → SoFar start values here → End here (refused why) → GivesVec (Repeats Round End) start (refused why)
  SoFar-vec_refused start values here why far ended =
      GivesVec-refused (Repeats Round End) start why (SoFar-refused start values here why far ended)

  -- so many rounds have led up to here
  pub record CountsSoFar (start : List ℕ) (count : ℕ) (here : List ℕ) : Type 0 where
    pub values : List O
    pub far : SoFar start values here
    pub count_is : count ≡ length values
    pub within : count + length here ≤ length start

  pub CountsSoFar-start : (text : List ℕ) → CountsSoFar text 0 text
  CountsSoFar-start text = record { values = []; far = SoFar-start text; count_is = refl; within = omega arith }

  pub CountsSoFar-round : (start : List ℕ) (count : ℕ) (here : List ℕ) (value : O) (next : List ℕ)
      → CountsSoFar start count here → Round here value next → length next < length here
      → CountsSoFar start (count + 1) next
  CountsSoFar-round start count here value next so_far read shorter = record {
    values = so_far.values ++ value ∷ [];
    far = SoFar-round start so_far.values here value next so_far.far read;
    count_is = let more = length-append so_far.values (value ∷ []) in let is = so_far.count_is in omega arith;
    within = let within = so_far.within in omega arith;
  }

  pub CountsSoFar-ends : (start : List ℕ) (count : ℕ) (here : List ℕ)
      → CountsSoFar start count here → End here (success here [])
      → GivesCount (Repeats Round End) start (success here count)
  CountsSoFar-ends start count here so_far ended =
      (so_far.values, SoFar-ends start so_far.values here so_far.far ended, so_far.count_is)

  pub CountsSoFar-last : (start : List ℕ) (count : ℕ) (here : List ℕ) (value : O) (rest : List ℕ)
      → CountsSoFar start count here → End here (success rest (value ∷ []))
      → GivesCount (Repeats Round End) start (success rest (count + 1))
  CountsSoFar-last start count here value rest so_far ended = (
    so_far.values ++ value ∷ [],
    SoFar-last start so_far.values here value rest so_far.far ended,
    (let more = length-append so_far.values (value ∷ []) in let is = so_far.count_is in omega arith),
  )

  pub CountsSoFar-refused : (start : List ℕ) (count : ℕ) (here : List ℕ) (why : Refusal)
      → CountsSoFar start count here → End here (refused why) → GivesCount (Repeats Round End) start (refused why)
  CountsSoFar-refused start count here why so_far ended = SoFar-refused start so_far.values here why so_far.far ended

  module _ {S : Type 0} (Step : S → O → S → Type 0) (init : S) where
    -- the rounds up to here have led from the first state to this one
    pub record FoldsSoFar (start : List ℕ) (state : S) (here : List ℕ) : Type 0 where
      pub values : List O
      pub far : SoFar start values here
      pub folds : FoldsTo Step init values state

    pub FoldsSoFar-start : (text : List ℕ) → FoldsSoFar text init text
    FoldsSoFar-start text = record { values = []; far = SoFar-start text; folds = refl }

    pub FoldsSoFar-round : (start : List ℕ) (state : S) (here : List ℕ) (value : O) (next : List ℕ) (then : S)
        → FoldsSoFar start state here → Round here value next → Step state value then → FoldsSoFar start then next
    FoldsSoFar-round start state here value next then so_far read step = record {
      values = so_far.values ++ value ∷ [];
      far = SoFar-round start so_far.values here value next so_far.far read;
      folds = FoldsTo-push Step init so_far.values state value then so_far.folds step;
    }

    pub FoldsSoFar-ends : (start : List ℕ) (state : S) (here : List ℕ)
        → FoldsSoFar start state here → End here (success here [])
        → GivesFold (Repeats Round End) Step init start (success here state)
    FoldsSoFar-ends start state here so_far ended =
        (so_far.values, SoFar-ends start so_far.values here so_far.far ended, so_far.folds)

    pub FoldsSoFar-last : (start : List ℕ) (state : S) (here : List ℕ) (value : O) (rest : List ℕ) (then : S)
        → FoldsSoFar start state here → End here (success rest (value ∷ [])) → Step state value then
        → GivesFold (Repeats Round End) Step init start (success rest then)
    FoldsSoFar-last start state here value rest then so_far ended step = (
      so_far.values ++ value ∷ [],
      SoFar-last start so_far.values here value rest so_far.far ended,
      FoldsTo-push Step init so_far.values state value then so_far.folds step,
    )

    pub FoldsSoFar-refused : (start : List ℕ) (state : S) (here : List ℕ) (why : Refusal)
        → FoldsSoFar start state here → End here (refused why)
        → GivesFold (Repeats Round End) Step init start (refused why)
    FoldsSoFar-refused start state here why so_far ended = SoFar-refused start so_far.values here why so_far.far ended
