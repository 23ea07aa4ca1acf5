-- A module has at most one outcome.
use Rattle.std.proofs.Common.{◌≡◌, ℕ, ◌<◌, ◌⊎◌, Bool, true, false, eqb, List, [], ◌∷◌, ◌++◌, length, take, Option, Some, None, is_some, Result, Ok, Err, is_ok, IsOk, refl, sym, ap, subst, ◌∙◌, inl, inr, append_assoc, arith}
use Rattle.std.proofs.lemmas.Bool.{eq-eqb, eqb-true, false≢true}
use Rattle.std.proofs.lemmas.List.{length-append, take-append-le}
use Rattle.std.proofs.Math.Seq.{take-length}
use Rattle.wasm_dep_analyzer.specs.declared.error.ParseError.{ParseError}
use Rattle.wasm_dep_analyzer.specs.declared.error.ParseError.TheVariants.{OutOfMemory}
use Rattle.wasm_dep_analyzer.specs.declared.deps.WasmDeps.{WasmDeps}
use Rattle.wasm_dep_analyzer.specs.Reading.{GivesInRoom}
use Rattle.wasm_dep_analyzer.specs.Sections.{Section, section_at, StandIn, first, held, imports_of, exports_of, imports_in, exports_in, AreSound, have_all}
use Rattle.wasm_dep_analyzer.specs.Module.{Deps, header_at, deps_of, IsNextFault, ReadsBody, IsBodyFault, ReadsModule, IsOutcome, seen}
use Rattle.wasm_dep_analyzer.proofs.ValuesLemmas.{given_once}
use Rattle.wasm_dep_analyzer.proofs.SectionLemmas.{first_stays, first_other}

-- ---- two fronts of one list of sections

-- the other sections go on behind these
record GoesOn (total : ℕ) (ss : List Section) (rest : List ℕ) (other : List Section) : Type 0 where
  next : Section
  after : List ℕ
  tail : List Section
  step : section_at total rest ≡ Ok (next, after)
  is : other ≡ (ss ++ next ∷ []) ++ tail

-- two fronts are one, or one of them goes on behind the other
abbrev Compared : ℕ → List Section → List ℕ → List Section → List ℕ → Type 0
Compared total ss rest tt-ss tt-rest =
    ((ss ≡ tt-ss) × (rest ≡ tt-rest)) ⊎ (GoesOn total ss rest tt-ss ⊎ GoesOn total tt-ss tt-rest ss)

goes_behind : (total : ℕ) (s t : Section) (ss : List Section) (rest : List ℕ) (other : List Section) → s ≡ t
    → GoesOn total ss rest other → GoesOn total (s ∷ ss) rest (t ∷ other)
goes_behind total s t ss rest other same g = record {
  next = g.next;
  after = g.after;
  tail = g.tail;
  step = g.step;
  is = ap (λ (x : Section). x ∷ other) (sym same) ∙ ap (λ (x : List Section). s ∷ x) g.is;
}

behind : (total : ℕ) (s t : Section) (ss : List Section) (rest : List ℕ) (other : List Section) (other_rest : List ℕ)
    → s ≡ t
    → Compared total ss rest other other_rest → Compared total (s ∷ ss) rest (t ∷ other) other_rest
behind total s t ss rest other other_rest same c =
    elim c [
      | inl e ↦ inl (ap (λ (x : Section). x ∷ ss) same ∙ ap (λ (x : List Section). t ∷ x) e.0, e.1)
      | inr g ↦ elim g [
        | inl on ↦ inr (inl (goes_behind total s t ss rest other same on))
        | inr on ↦ inr (inr (goes_behind total t s other other_rest ss (sym same) on))
      ]
    ]

compare : (total : ℕ) (ss other : List Section) (bytes rest other_rest : List ℕ) → StandIn total ss bytes rest
    → StandIn total other bytes other_rest → Compared total ss rest other other_rest
compare total [] [] bytes rest other_rest h k = inl (refl, sym h ∙ k)
compare total [] (t ∷ other) bytes rest other_rest h k =
    inr (inl (record { next = t; after = k.0; tail = other; step = ap (section_at total) (sym h) ∙ k.1; is = refl }))
compare total (s ∷ ss) [] bytes rest other_rest h k =
    inr (inr (record { next = s; after = h.0; tail = ss; step = ap (section_at total) (sym k) ∙ h.1; is = refl }))
compare total (s ∷ ss) (t ∷ other) bytes rest other_rest h k =
    let pair = given_once {A = Section × List ℕ} (s, h.0) (t, k.0) (sym h.1 ∙ k.1) in
    let same : s ≡ t = ap (λ (p : Section × List ℕ). p.0) pair in
    let go_on : StandIn total other h.0 other_rest =
    subst (λ (x : List ℕ). StandIn total other x other_rest) (sym (ap (λ (p : Section × List ℕ). p.1) pair)) k.2 in
    behind total s t ss rest other other_rest same (compare total ss other h.0 rest other_rest h.2 go_on)

-- ---- what goes on is neither at its end nor faulty

no_section : (total : ℕ) (rest : List ℕ) (s : Section) (after : List ℕ) → rest ≡ []
    → section_at total rest ≡ Ok (s, after) → ⊥
unfolding section_at
no_section total rest s after e h = let bad : section_at total [] ≡ Ok (s, after) =
    ap (section_at total) (sym e) ∙ h in cc

front_is : (ss tail : List Section) (next : Section) (other : List Section) → other ≡ (ss ++ next ∷ []) ++ tail
    → (length ss < length other) × (take (length ss) other ≡ ss)
front_is ss tail next other is =
    let regrouped : other ≡ ss ++ ((next ∷ []) ++ tail) = is ∙ append_assoc ss (next ∷ []) tail in (
      omega (arith, ap length regrouped, length-append ss ((next ∷ []) ++ tail)),
      ap (take (length ss)) regrouped ∙ take-append-le (length ss) ss ((next ∷ []) ++ tail) (omega arith)
          ∙ take-length ss,
    )

-- sections that end the looking have none behind them that is looked at
ends_there : (skip_types : Bool) (total : ℕ) (ss : List Section) (rest : List ℕ) (other : List Section)
    → GoesOn total ss rest other
    → ((have_all skip_types ss ≡ true) ⊎ (rest ≡ []))
    → ((n : ℕ) → n < length other → have_all skip_types (take n other) ≡ false) → ⊥
ends_there skip_types total ss rest other g done shortest =
    elim done [
      | inl all ↦
          let front = front_is ss g.tail g.next other g.is in
          false≢true (sym (shortest (length ss) front.0) ∙ ap (have_all skip_types) front.1 ∙ all)
      | inr empty ↦ no_section total rest g.next g.after empty g.step
    ]

-- no value is a fault
value_or_fault : {A : Type 0} (r : Result A ParseError) (x : A) (e : ParseError) → r ≡ Ok x → r ≡ Err e → ⊥
value_or_fault r x e h k = let bad = sym h ∙ k in cc

-- one fault is not two
fault_once : {A : Type 0} (r : Result A ParseError) (d e : ParseError) → r ≡ Err d → r ≡ Err e → d ≡ e
fault_once r d e h k = let same = sym h ∙ k in cc

-- what is faulty is not sound
not_sound : {A : Type 0} (r : Result A ParseError) (e : ParseError) → r ≡ Err e → IsOk r → ⊥
not_sound r e h sound = false≢true (ap is_ok (sym h) ∙ sound)

faulty_is_there : {A : Type 0} (items : Section → Result (List A) ParseError) (o : Option Section) (e : ParseError)
    → held items o ≡ Err e → is_some o ≡ true
faulty_is_there items None e h = absurd cc
faulty_is_there items (Some s) e h = refl

-- a fault stays, whatever follows
fault_stays : {A : Type 0} (items : Section → Result (List A) ParseError) (kind : ℕ) (ss more : List Section)
    (e : ParseError) → held items (first kind ss) ≡ Err e → held items (first kind (ss ++ more)) ≡ Err e
fault_stays items kind ss more e h =
    ap (held items) (first_stays kind ss more (faulty_is_there items (first kind ss) e h)) ∙ h

-- a fault behind sound sections is of a section of the kind
fault_kind : {A : Type 0} (items : Section → Result (List A) ParseError) (kind : ℕ) (ss : List Section) (s : Section)
    (e : ParseError) → IsOk (held items (first kind ss)) → held items (first kind (ss ++ s ∷ [])) ≡ Err e
    → s.kind ≡ kind
fault_kind items kind ss s e sound fault = decide (eqb s.kind kind) refl
  where
    decide : (b : Bool) → eqb s.kind kind ≡ b → s.kind ≡ kind
    decide true h = eqb-true s.kind kind h
    decide false h =
        absurd (not_sound (held items (first kind ss)) e
        (ap (held items) (sym (first_other kind ss s (λ same. false≢true (sym h ∙ eq-eqb s.kind kind same)))) ∙ fault)
        sound)

-- sections that are followed by a fault have none behind them that is sound
faulty_there : (total : ℕ) (ss : List Section) (rest : List ℕ) (other : List Section) (e : ParseError)
    → GoesOn total ss rest other
    → IsNextFault total ss rest e → AreSound other → ⊥
faulty_there total ss rest other e g fault sound =
    elim fault [
      | inl frame ↦ value_or_fault {A = Section × List ℕ} (section_at total rest) (g.next, g.after) e g.step frame
      | inr s ↦
          let pair = given_once {A = Section × List ℕ} (s.0, s.1) (g.next, g.after) (sym s.2 ∙ g.step) in
          let same : s.0 ≡ g.next = ap (λ (p : Section × List ℕ). p.0) pair in
          let is : (ss ++ s.0 ∷ []) ++ g.tail ≡ other =
          ap (λ (x : Section). (ss ++ x ∷ []) ++ g.tail) same ∙ sym g.is in
          elim s.3 [
            | inl imports ↦ not_sound (imports_in other) e
                (ap imports_in (sym is) ∙ fault_stays imports_of 2 (ss ++ s.0 ∷ []) g.tail e imports) sound.0
            | inr exports ↦ not_sound (exports_in other) e
                (ap exports_in (sym is) ∙ fault_stays exports_of 7 (ss ++ s.0 ∷ []) g.tail e exports) sound.1
          ]
    ]

-- ---- one fault behind the same sections

-- the faults of one section are one
section_fault_once : (ss : List Section) (s : Section) (d e : ParseError) → AreSound ss
    → ((imports_in (ss ++ s ∷ []) ≡ Err d) ⊎ (exports_in (ss ++ s ∷ []) ≡ Err d))
    → ((imports_in (ss ++ s ∷ []) ≡ Err e) ⊎ (exports_in (ss ++ s ∷ []) ≡ Err e)) → d ≡ e
section_fault_once ss s d e sound h k =
    elim h [
      | inl a ↦ elim k [
        | inl b ↦ fault_once (imports_in (ss ++ s ∷ [])) d e a b
        | inr b ↦
            let two : s.kind ≡ 2 = fault_kind imports_of 2 ss s d sound.0 a in
            let seven : s.kind ≡ 7 = fault_kind exports_of 7 ss s e sound.1 b in
            absurd (omega arith)
      ]
      | inr a ↦ elim k [
        | inl b ↦
            let two : s.kind ≡ 2 = fault_kind imports_of 2 ss s e sound.0 b in
            let seven : s.kind ≡ 7 = fault_kind exports_of 7 ss s d sound.1 a in
            absurd (omega arith)
        | inr b ↦ fault_once (exports_in (ss ++ s ∷ [])) d e a b
      ]
    ]

next_fault_once : (total : ℕ) (ss : List Section) (rest : List ℕ) (d e : ParseError) → AreSound ss
    → IsNextFault total ss rest d → IsNextFault total ss rest e → d ≡ e
next_fault_once total ss rest d e sound h k =
    elim h [
      | inl a ↦ elim k [
        | inl b ↦ fault_once (section_at total rest) d e a b
        | inr s ↦ absurd (value_or_fault {A = Section × List ℕ} (section_at total rest) (s.0, s.1) d s.2 a)
      ]
      | inr s ↦ elim k [
        | inl b ↦ absurd (value_or_fault {A = Section × List ℕ} (section_at total rest) (s.0, s.1) e s.2 b)
        | inr t ↦
            let pair = given_once {A = Section × List ℕ} (s.0, s.1) (t.0, t.1) (sym s.2 ∙ t.2) in
            let same : t.0 ≡ s.0 = sym (ap (λ (p : Section × List ℕ). p.0) pair) in
            section_fault_once ss s.0 d e sound s.3
            (subst (λ (x : Section). (imports_in (ss ++ x ∷ []) ≡ Err e) ⊎ (exports_in (ss ++ x ∷ []) ≡ Err e)) same
            t.3)
      ]
    ]

-- ---- two outcomes of one body

two_values : (skip_types : Bool) (total : ℕ) (body : List ℕ) (ss : List Section) (rest : List ℕ) (other : List Section)
    (other_rest : List ℕ) (x y : Deps)
    → ReadsBody skip_types total body ss rest → deps_of skip_types ss ≡ Ok x
    → ReadsBody skip_types total body other other_rest → deps_of skip_types other ≡ Ok y → x ≡ y
two_values skip_types total body ss rest other other_rest x y h x-is k y-is =
    elim (compare total ss other body rest other_rest h.0.stand k.0.stand) [
      | inl e ↦ given_once x y (sym x-is ∙ ap (deps_of skip_types) e.0 ∙ y-is)
      | inr g ↦ elim g [
        | inl on ↦ absurd (ends_there skip_types total ss rest other on h.2 k.0.shortest)
        | inr on ↦ absurd (ends_there skip_types total other other_rest ss on k.2 h.0.shortest)
      ]
    ]

value_and_fault : (skip_types : Bool) (total : ℕ) (body : List ℕ) (ss : List Section) (rest : List ℕ)
    (other : List Section) (other_rest : List ℕ) (e : ParseError)
    → ReadsBody skip_types total body ss rest → IsBodyFault skip_types total body other other_rest e → ⊥
value_and_fault skip_types total body ss rest other other_rest e h k =
    elim (compare total ss other body rest other_rest h.0.stand k.looked.stand) [
      | inl same ↦ elim h.2 [
        | inl all ↦ false≢true (sym k.wanting ∙ ap (have_all skip_types) (sym same.0) ∙ all)
        | inr empty ↦ k.more (sym same.1 ∙ empty)
      ]
      | inr g ↦ elim g [
        | inl on ↦ ends_there skip_types total ss rest other on h.2 k.looked.shortest
        | inr on ↦ faulty_there total other other_rest ss e on k.fault h.1
      ]
    ]

two_faults : (skip_types : Bool) (total : ℕ) (body : List ℕ) (ss : List Section) (rest : List ℕ) (other : List Section)
    (other_rest : List ℕ) (d e : ParseError)
    → IsBodyFault skip_types total body ss rest d → IsBodyFault skip_types total body other other_rest e → d ≡ e
two_faults skip_types total body ss rest other other_rest d e h k =
    elim (compare total ss other body rest other_rest h.looked.stand k.looked.stand) [
      | inl same ↦
          let there : IsNextFault total ss other_rest e =
          subst (λ (x : List Section). IsNextFault total x other_rest e) (sym same.0) k.fault in
          let here : IsNextFault total ss rest e =
          subst (λ (x : List ℕ). IsNextFault total ss x e) (sym same.1) there in
          next_fault_once total ss rest d e h.sound h.fault here
      | inr g ↦ elim g [
        | inl on ↦ absurd (faulty_there total ss rest other d on h.fault k.sound)
        | inr on ↦ absurd (faulty_there total other other_rest ss e on k.fault h.sound)
      ]
    ]

abbrev refusal : ParseError → Result Deps ParseError
refusal e = Err e

-- a module has at most one outcome
pub one_outcome : (skip_types : Bool) (input : List ℕ) (a b : Result Deps ParseError) → ReadsModule skip_types input a
    → ReadsModule skip_types input b → a ≡ b
one_outcome skip_types input (Ok x) (Ok y) h k =
    let body : k.0 ≡ h.0 = given_once k.0 h.0 (sym k.1 ∙ h.1) in
    let there : ReadsBody skip_types (length input) h.0 k.2 k.3 =
    subst (λ (z : List ℕ). ReadsBody skip_types (length input) z k.2 k.3) body k.4 in
    ap (λ (z : Deps). given z) (two_values skip_types (length input) h.0 h.2 h.3 k.2 k.3 x y h.4 h.5 there k.5)
  where
    given : Deps → Result Deps ParseError
    given z = Ok z
one_outcome skip_types input (Ok x) (Err e) h k =
    elim k [
      | inl header ↦ absurd (value_or_fault (header_at input) h.0 e h.1 header)
      | inr f ↦
          let body : f.0 ≡ h.0 = given_once f.0 h.0 (sym f.1 ∙ h.1) in
          let there : IsBodyFault skip_types (length input) h.0 f.2 f.3 e =
          subst (λ (z : List ℕ). IsBodyFault skip_types (length input) z f.2 f.3 e) body f.4 in
          absurd (value_and_fault skip_types (length input) h.0 h.2 h.3 f.2 f.3 e h.4 there)
    ]
one_outcome skip_types input (Err d) (Ok y) h k =
    elim h [
      | inl header ↦ absurd (value_or_fault (header_at input) k.0 d k.1 header)
      | inr f ↦
          let body : f.0 ≡ k.0 = given_once f.0 k.0 (sym f.1 ∙ k.1) in
          let there : IsBodyFault skip_types (length input) k.0 f.2 f.3 d =
          subst (λ (z : List ℕ). IsBodyFault skip_types (length input) z f.2 f.3 d) body f.4 in
          absurd (value_and_fault skip_types (length input) k.0 k.2 k.3 f.2 f.3 d k.4 there)
    ]
one_outcome skip_types input (Err d) (Err e) h k =
    elim h [
      | inl a ↦ elim k [
        | inl b ↦ ap refusal (fault_once (header_at input) d e a b)
        | inr f ↦ absurd (value_or_fault (header_at input) f.0 d f.1 a)
      ]
      | inr f ↦ elim k [
        | inl b ↦ absurd (value_or_fault (header_at input) f.0 e f.1 b)
        | inr g ↦
            let body : g.0 ≡ f.0 = given_once g.0 f.0 (sym g.1 ∙ f.1) in
            let there : IsBodyFault skip_types (length input) f.0 g.2 g.3 e =
            subst (λ (z : List ℕ). IsBodyFault skip_types (length input) z g.2 g.3 e) body g.4 in
            ap refusal (two_faults skip_types (length input) f.0 f.2 f.3 g.2 g.3 d e f.4 there)
      ]
    ]

-- the outcome that there is is the one that was answered, unless memory ran out
pub outcome_is : (skip_types : Bool) (input : List ℕ) (result : Result WasmDeps ParseError)
    (outcome : Result Deps ParseError)
    → IsOutcome skip_types input result → ReadsModule skip_types input outcome → GivesInRoom seen result outcome
outcome_is skip_types input (Ok deps) outcome h k = one_outcome skip_types input outcome (Ok (seen deps)) k h
outcome_is skip_types input (Err OutOfMemory) outcome h k = tt
outcome_is skip_types input (Err _) outcome h k = one_outcome skip_types input outcome (Err _) k h
