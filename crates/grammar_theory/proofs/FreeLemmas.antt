-- A table whose tests tell has the same trees, read freely or with its tests obeyed: no test bars a reading.
use Rattle.std.specs.Prelude.{List, Option, not, ◌||◌, ◌&&◌, ◌⊎◌, Bool, true, false}
use Rattle.std.proofs.Common.{◌≡◌, ℕ, zero, suc, ◌+◌, ◌<◌, ◌≤◌, length, refl, sym, subst, inl, inr, arith}
use Rattle.std.proofs.Math.Nat.{eq-or-lt_of_le}
use Rattle.grammar_theory.specs.Key.{Key, Seen, TokenTest, seen}
use Rattle.grammar_theory.specs.Productions.{Predict, by_lookahead, greedy, by_predicate, Rhs, done, tok, punct, row, opt, many, alt, when_, where_, Production, refuse, make, choose, as_, pick, wrap}
use Rattle.grammar_theory.specs.Plain.{Plain, node, nil, cons, turn}
use Rattle.grammar_theory.specs.Fits.{free, chosen, Present, Absent, Turns, Wraps, Fits, IsBy, Under}
use Rattle.grammar_theory.specs.Checks.{takes, parts_take, rule_takes, rule_parts_take}
use Rattle.grammar_theory.specs.Tells.{Sets, none, implies, may_lack, tells_has, tells_lack, starts, rule_starts, tells, rule_tells, IsTold}
use Rattle.grammar_theory.proofs.OutLemmas.{clash}
use Rattle.grammar_theory.proofs.Progress.{IsAhead, both_hold, fits_ahead, by_ahead, under_ahead}

-- ---- tests

left_holds : (a b : Bool) → a ≡ true → a || b ≡ true
left_holds true b e = refl
left_holds false b e = clash e

right_holds : (a b : Bool) → b ≡ true → a || b ≡ true
right_holds true b e = refl
right_holds false b e = e

hold_both : (a b : Bool) → a ≡ true → b ≡ true → a && b ≡ true
hold_both true b e h = h
hold_both false b e h = clash e

not_false : (a : Bool) → a ≡ false → not a ≡ true
not_false true e = clash (sym e)
not_false false e = refl

not_true : (a : Bool) → not a ≡ true → a ≡ false
not_true true e = clash e
not_true false e = refl

pub holds_then : (a b : Bool) → implies a b ≡ true → a ≡ true → b ≡ true
holds_then true b e h = e
holds_then false b e h = clash h

-- ---- what obeys the tests is a free reading

present_free : (c : Predict) (K : List Key) (at : ℕ) → Present chosen c K at → Present free c K at
present_free (by_lookahead t) K at e = tt
present_free (greedy t) K at e = tt
present_free (by_predicate g) K at e = e

absent_free : (c : Predict) (K : List Key) (at : ℕ) → Absent chosen c K at → Absent free c K at
absent_free (by_lookahead t) K at e = tt
absent_free (greedy t) K at e = e
absent_free (by_predicate g) K at e = e

turns_free : {NodeKind : Type 0} (K : List Key) (c : Predict) (One Two : Plain NodeKind → ℕ → ℕ → Type 0)
    → ((q : Plain NodeKind) (from mid : ℕ) → One q from mid → Two q from mid)
    → (ps : Plain NodeKind) (from to : ℕ) → Turns chosen K c One ps from to → Turns free K c Two ps from to
turns_free K c One Two each nil from to fit = (absent_free c K from fit.0, fit.1)
turns_free K c One Two each (turn q ps) from to fit =
    (fit.0, present_free c K from fit.1, each q from fit.0 fit.2, turns_free K c One Two each ps fit.0 to fit.3)
turns_free K c One Two each _ from to fit = absurd fit

wraps_free : {NodeKind : Type 0} (K : List Key) (l : NodeKind) (c : Predict) (A B C D : Plain NodeKind → ℕ → ℕ → Type 0)
    → ((q : Plain NodeKind) (from mid : ℕ) → A q from mid → C q from mid)
    → ((q : Plain NodeKind) (from mid : ℕ) → B q from mid → D q from mid)
    → (n : ℕ) (p : Plain NodeKind) (from to : ℕ) → Wraps chosen K l c A B n p from to → Wraps free K l c C D n p from to
wraps_free K l c A B C D one other zero p from to fit = one p from to fit
wraps_free K l c A B C D one other (suc n) p from to fit = (
  fit.0,
  fit.1,
  fit.2,
  fit.3,
  wraps_free K l c A B C D one other n fit.0 from fit.2 fit.4,
  present_free c K fit.2 fit.5,
  other fit.1 fit.2 to fit.6,
)

module _ {Row NodeKind : Type 0} (K : List Key) (Obeys Free : Row → Plain NodeKind → ℕ → ℕ → Type 0)
    (below_free : (r : Row) (q : Plain NodeKind) (from mid : ℕ) → Obeys r q from mid → Free r q from mid) where
  form_free : (f : Rhs Row) (p : Plain NodeKind) (from to : ℕ) → Fits chosen K Obeys f p from to
      → Fits free K Free f p from to
  form_free done p from to fit = fit
  form_free (tok s may f) p from to fit = (fit.0, fit.1, fit.2, form_free f fit.0 (from + 1) to fit.3)
  form_free (punct k f) p from to fit = (fit.0, fit.1, fit.2, form_free f fit.0 (from + 1) to fit.3)
  form_free (row r f) p from to fit =
      (fit.0, fit.1, fit.2, fit.3, below_free r fit.0 from fit.2 fit.4, form_free f fit.1 fit.2 to fit.5)
  form_free (opt c g f) p from to fit = (
    fit.0,
    fit.1,
    fit.2,
    fit.3,
    elim fit.4 [
      | inl there ↦ inl (present_free c K from there.0, form_free g fit.0 from fit.2 there.1)
      | inr absent ↦ inr (absent_free c K from absent.0, absent.1, absent.2)
    ],
    form_free f fit.1 fit.2 to fit.5,
  )
  form_free (many c g f) p from to fit = (
    fit.0,
    fit.1,
    fit.2,
    fit.3,
    turns_free K c (Fits chosen K Obeys g) (Fits free K Free g) (form_free g) fit.0 from fit.2 fit.4,
    form_free f fit.1 fit.2 to fit.5,
  )
  form_free (alt t a b f) p from to fit = (
    fit.0,
    fit.1,
    fit.2,
    fit.3,
    elim fit.4 [
      | inl one ↦ inl (tt, form_free a fit.0 from fit.2 one.1)
      | inr other ↦ inr (tt, form_free b fit.0 from fit.2 other.1)
    ],
    form_free f fit.1 fit.2 to fit.5,
  )
  form_free (when_ t f) p from to fit = (fit.0, form_free f p from to fit.1)
  form_free (where_ t f) p from to fit = (fit.0, form_free f p from to fit.1)

  rule_free : (a : Production Row NodeKind) (p : Plain NodeKind) (from to : ℕ) → IsBy chosen K Obeys a p from to
      → IsBy free K Free a p from to
  rule_free refuse p from to by = by
  rule_free (make l f) p from to by = (by.0, by.1, form_free f by.0 from to by.2)
  rule_free (choose t a b) p from to by = elim by [
    | inl one ↦ inl (tt, rule_free a p from to one.1)
    | inr other ↦ inr (tt, rule_free b p from to other.1)
  ]
  rule_free (as_ w a) p from to by = (by.0, by.1, rule_free a by.0 from to by.2)
  rule_free (pick g a b) p from to by = elim by [
    | inl one ↦ inl (one.0, rule_free a p from to one.1)
    | inr other ↦ inr (other.0, rule_free b p from to other.1)
  ]
  rule_free (wrap l a c f) p from to by = (
    by.0,
    wraps_free K l c (IsBy chosen K Obeys a) (Fits chosen K Obeys f) (IsBy free K Free a) (Fits free K Free f)
        (rule_free a)
        (form_free f) by.0 p from to by.1,
    absent_free c K to by.2,
  )

-- a tree that obeys the tests is a tree of the grammar
pub chosen_is_free : {Row NodeKind : Type 0} (K : List Key) (rule : Row → Production Row NodeKind) (room : ℕ) (r : Row)
    (p : Plain NodeKind)
    (from to : ℕ) → Under chosen K rule room r p from to → Under free K rule room r p from to
unfolding Under
chosen_is_free K rule zero r p from to under = under
chosen_is_free K rule (suc room) r p from to under =
    rule_free K (Under chosen K rule room) (Under free K rule room) (chosen_is_free K rule room) (rule r) p from to
    under

-- ---- where a form begins

-- some token is taken, or what stands behind may stand there
abbrev Begun : List Key → TokenTest → ℕ → ℕ → Type 0
Begun K then_ from to = (from < to) ⊎ (then_ (seen K to) ≡ true)

begun_moved : (K : List Key) (then_ : TokenTest) (from mid to : ℕ) → from ≡ mid → Begun K then_ from to
    → Begun K then_ mid to
begun_moved K then_ from mid to e b = let P : ℕ → Type 0 = λ n. Begun K then_ n to in subst P e b

seen_moved : (K : List Key) (t : TokenTest) (from mid : ℕ) → from ≡ mid → t (seen K mid) ≡ true → t (seen K from) ≡ true
seen_moved K t from mid e h = let P : ℕ → Type 0 = λ n. t (seen K n) ≡ true in subst P (sym e) h

lacks : (c : Predict) (K : List Key) (at : ℕ) → Absent free c K at → may_lack c (seen K at) ≡ true
lacks (by_lookahead t) K at e = refl
lacks (greedy t) K at e = not_false (t (seen K at)) e
lacks (by_predicate g) K at e = refl

row_begins : (K : List Key) (solid first : Bool) (then_ : TokenTest) (from mid : ℕ) → from ≤ mid
    → (solid ≡ true → from < mid)
    → (from < mid → first ≡ true) → then_ (seen K mid) ≡ true ⊎ (from < mid)
    → first || (not solid && then_ (seen K from)) ≡ true
row_begins K solid first then_ from mid le strictly begins rest =
    elim (eq-or-lt_of_le le) [
      | inr less ↦ left_holds first (not solid && then_ (seen K from)) (begins less)
      | inl same ↦ right_holds first (not solid && then_ (seen K from)) (hold_both (not solid) (then_ (seen K from))
          (not_false solid (loose solid strictly (λ less. let bad : ⊥ = omega (arith, less, same) in bad)))
          (elim rest [
            | inl stands ↦ seen_moved K then_ from mid same stands
            | inr less ↦ absurd (let bad : ⊥ = omega (arith, less, same) in bad)
          ]))
    ]
  where
    loose : (s : Bool) → (s ≡ true → from < mid) → (from < mid → ⊥) → s ≡ false
    loose true f g = absurd (g (f refl))
    loose false f g = refl

-- what is checked of a level
level_checks : {Row NodeKind : Type 0} (solid : Row → Bool) (a : Production Row NodeKind) (f : Rhs Row)
    → rule_takes solid a && (rule_parts_take solid a && (takes solid f && parts_take solid f)) ≡ true
    → (rule_takes solid a ≡ true) × (rule_parts_take solid a ≡ true) × (takes solid f ≡ true)
    × (parts_take solid f ≡ true)
level_checks solid a f sound =
    let one = both_hold (rule_takes solid a) (rule_parts_take solid a && (takes solid f && parts_take solid f)) sound in
    let two = both_hold (rule_parts_take solid a) (takes solid f && parts_take solid f) one.1 in
    let three = both_hold (takes solid f) (parts_take solid f) two.1 in
    (one.0, two.0, three.0, three.1)

-- what is checked of a part by either of two forms
either_checks : {Row : Type 0} (solid : Row → Bool) (a b f : Rhs Row)
    → parts_take solid a && (parts_take solid b && parts_take solid f) ≡ true
    → (parts_take solid a ≡ true) × (parts_take solid b ≡ true) × (parts_take solid f ≡ true)
either_checks solid a b f sound =
    let one = both_hold (parts_take solid a) (parts_take solid b && parts_take solid f) sound in
    let two = both_hold (parts_take solid b) (parts_take solid f) one.1 in
    (one.0, two.0, two.1)

-- a level begins with its operand
wraps_begin : {NodeKind : Type 0} (K : List Key) (l : NodeKind) (c : Predict) (A B : Plain NodeKind → ℕ → ℕ → Type 0)
    (t : TokenTest)
    → ((q : Plain NodeKind) (from mid : ℕ) → A q from mid → t (seen K from) ≡ true)
    → (n : ℕ) (p : Plain NodeKind) (from to : ℕ) → Wraps free K l c A B n p from to → t (seen K from) ≡ true
wraps_begin K l c A B t one zero p from to fit = one p from to fit
wraps_begin K l c A B t one (suc n) p from to fit = wraps_begin K l c A B t one n fit.0 from fit.2 fit.4

module _ {Row NodeKind : Type 0} (K : List Key) (s : Sets Row) (Below : Row → Plain NodeKind → ℕ → ℕ → Type 0)
    (below_ahead : (r : Row) (q : Plain NodeKind) (from mid : ℕ) → Below r q from mid
    → IsAhead (length K) (s.solid r) from mid)
    (below_begins : (r : Row) (q : Plain NodeKind) (from mid : ℕ) → Below r q from mid → from < mid
    → s.first r (seen K from) ≡ true) where
  turns_begin : (c : Predict) (One : Plain NodeKind → ℕ → ℕ → Type 0) (one rest : TokenTest)
      → ((q : Plain NodeKind) (from mid : ℕ) → One q from mid → one (seen K from) ≡ true)
      → (ps : Plain NodeKind) (from to : ℕ) → Turns free K c One ps from to → (from ≡ to → rest (seen K to) ≡ true)
      → one (seen K from) || (may_lack c (seen K from) && rest (seen K from)) ≡ true
  turns_begin c One one rest each nil from to fit stands =
      right_holds (one (seen K from)) (may_lack c (seen K from) && rest (seen K from))
      (hold_both (may_lack c (seen K from)) (rest (seen K from)) (lacks c K from fit.0)
      (seen_moved K rest from to fit.1 (stands fit.1)))
  turns_begin c One one rest each (turn q ps) from to fit stands =
      left_holds (one (seen K from)) (may_lack c (seen K from) && rest (seen K from)) (each q from fit.0 fit.2)
  turns_begin c One one rest each _ from to fit stands = absurd fit

  form_begins : (f : Rhs Row) → parts_take s.solid f ≡ true → (then_ : TokenTest) (p : Plain NodeKind) (from to : ℕ)
      → Fits free K Below f p from to → Begun K then_ from to → starts s f then_ (seen K from) ≡ true
  form_begins done sound then_ p from to fit begun = elim begun [
    | inl less ↦ absurd (let same = fit.1 in let bad : ⊥ = omega (arith, less, same) in bad)
    | inr stands ↦ seen_moved K then_ from to fit.1 stands
  ]
  form_begins (tok sort may f) sound then_ p from to fit begun = fit.2
  form_begins (punct k f) sound then_ p from to fit begun = fit.2
  form_begins (row r f) sound then_ p from to fit begun =
      let first = below_ahead r fit.0 from fit.2 fit.4 in
      row_begins K (s.solid r) (s.first r (seen K from)) (starts s f then_) from fit.2 first.forward first.strictly
      (below_begins r fit.0 from fit.2 fit.4)
      (elim (eq-or-lt_of_le first.forward) [
        | inr less ↦ inr less
        | inl same ↦ inl (form_begins f sound then_ fit.1 fit.2 to fit.5 (begun_moved K then_ from fit.2 to same begun))
      ])
  form_begins (opt c g f) sound then_ p from to fit begun =
      let checks = both_hold (takes s.solid g) (parts_take s.solid g && parts_take s.solid f) sound in
      let parts = both_hold (parts_take s.solid g) (parts_take s.solid f) checks.1 in
      elim fit.4 [
        | inl there ↦
            left_holds (starts s g none (seen K from)) (may_lack c (seen K from) && starts s f then_ (seen K from))
            (form_begins g parts.0 none fit.0 from fit.2 there.1
            (inl ((fits_ahead free K s.solid Below below_ahead g fit.0 from fit.2 there.1).strictly checks.0)))
        | inr absent ↦
            right_holds (starts s g none (seen K from)) (may_lack c (seen K from) && starts s f then_ (seen K from))
            (hold_both (may_lack c (seen K from)) (starts s f then_ (seen K from)) (lacks c K from absent.0)
            (seen_moved K (starts s f then_) from fit.2 absent.2
            (form_begins f parts.1 then_ fit.1 fit.2 to fit.5 (begun_moved K then_ from fit.2 to absent.2 begun))))
      ]
  form_begins (many c g f) sound then_ p from to fit begun =
      let checks = both_hold (takes s.solid g) (parts_take s.solid g && parts_take s.solid f) sound in
      let parts = both_hold (parts_take s.solid g) (parts_take s.solid f) checks.1 in
      turns_begin c (Fits free K Below g) (starts s g none) (starts s f then_)
      (λ q at mid one. form_begins g parts.0 none q at mid one
      (inl ((fits_ahead free K s.solid Below below_ahead g q at mid one).strictly checks.0)))
      fit.0 from fit.2 fit.4
      (λ same. form_begins f parts.1 then_ fit.1 fit.2 to fit.5 (begun_moved K then_ from fit.2 to same begun))
  form_begins (alt t a b f) sound then_ p from to fit begun =
      let parts = either_checks s.solid a b f sound in
      let rest : from ≤ fit.2 → Begun K (starts s f then_) from fit.2 =
      λ le. elim (eq-or-lt_of_le le) [
        | inr less ↦ inl less
        | inl same ↦ inr (form_begins f parts.2 then_ fit.1 fit.2 to fit.5
            (begun_moved K then_ from fit.2 to same begun))
      ] in
      elim fit.4 [
        | inl one ↦
            left_holds (starts s a (starts s f then_) (seen K from)) (starts s b (starts s f then_) (seen K from))
            (form_begins a parts.0 (starts s f then_) fit.0 from fit.2 one.1
            (rest (fits_ahead free K s.solid Below below_ahead a fit.0 from fit.2 one.1).forward))
        | inr other ↦
            right_holds (starts s a (starts s f then_) (seen K from)) (starts s b (starts s f then_) (seen K from))
            (form_begins b parts.1 (starts s f then_) fit.0 from fit.2 other.1
            (rest (fits_ahead free K s.solid Below below_ahead b fit.0 from fit.2 other.1).forward))
      ]
  form_begins (when_ t f) sound then_ p from to fit begun =
      hold_both (t (seen K from)) (starts s f then_ (seen K from)) fit.0
      (form_begins f sound then_ p from to fit.1 begun)
  form_begins (where_ t f) sound then_ p from to fit begun = form_begins f sound then_ p from to fit.1 begun

  rule_begins : (a : Production Row NodeKind) → rule_parts_take s.solid a ≡ true
      → (then_ : TokenTest) (p : Plain NodeKind) (from to : ℕ)
      → IsBy free K Below a p from to → Begun K then_ from to → rule_starts s a then_ (seen K from) ≡ true
  rule_begins refuse sound then_ p from to by begun = absurd by
  rule_begins (make l f) sound then_ p from to by begun = form_begins f sound then_ by.0 from to by.2 begun
  rule_begins (choose t a b) sound then_ p from to by begun =
      let parts = both_hold (rule_parts_take s.solid a) (rule_parts_take s.solid b) sound in
      elim by [
        | inl one ↦
            left_holds (rule_starts s a then_ (seen K from)) (rule_starts s b then_ (seen K from))
            (rule_begins a parts.0 then_ p from to one.1 begun)
        | inr other ↦
            right_holds (rule_starts s a then_ (seen K from)) (rule_starts s b then_ (seen K from))
            (rule_begins b parts.1 then_ p from to other.1 begun)
      ]
  rule_begins (as_ w a) sound then_ p from to by begun = rule_begins a sound then_ by.0 from to by.2 begun
  rule_begins (pick g a b) sound then_ p from to by begun =
      let parts = both_hold (rule_parts_take s.solid a) (rule_parts_take s.solid b) sound in
      elim by [
        | inl one ↦
            left_holds (rule_starts s a then_ (seen K from)) (rule_starts s b then_ (seen K from))
            (rule_begins a parts.0 then_ p from to one.1 begun)
        | inr other ↦
            right_holds (rule_starts s a then_ (seen K from)) (rule_starts s b then_ (seen K from))
            (rule_begins b parts.1 then_ p from to other.1 begun)
      ]
  rule_begins (wrap l a c f) sound then_ p from to by begun =
      let checks = level_checks s.solid a f sound in
      wraps_begin K l c (IsBy free K Below a) (Fits free K Below f) (rule_starts s a none)
      (λ q at mid one. rule_begins a checks.1 none q at mid one
      (inl ((by_ahead free K s.solid Below below_ahead true a (λ _. checks.0) q at mid one).strictly refl)))
      by.0 p from to by.1

row_starts : {Row NodeKind : Type 0} (K : List Key) (rule : Row → Production Row NodeKind) (s : Sets Row)
    → IsTold rule s
    → (room : ℕ) (r : Row) (p : Plain NodeKind) (from to : ℕ)
    → Under free K rule room r p from to → from < to → s.first r (seen K from) ≡ true
unfolding Under
row_starts K rule s told zero r p from to under less = absurd under
row_starts K rule s told (suc room) r p from to under less =
    told.firsts r (seen K from)
    (rule_begins K s (Under free K rule room) (under_ahead free K rule s.solid told.steady room)
    (row_starts K rule s told room) (rule r) (told.steady.parts r) none p from to under (inl less))

-- ---- a free reading obeys the tests

has_told : (c : Predict) (K : List Key) (at : ℕ) → tells_has c (seen K at) ≡ true → Present free c K at
    → Present chosen c K at
has_told (by_lookahead t) K at e a = e
has_told (greedy t) K at e a = e
has_told (by_predicate g) K at e a = a

lack_told : (c : Predict) (K : List Key) (at : ℕ) → tells_lack c (seen K at) ≡ true → Absent free c K at
    → Absent chosen c K at
lack_told (by_lookahead t) K at e a = not_true (t (seen K at)) e
lack_told (greedy t) K at e a = a
lack_told (by_predicate g) K at e a = a

-- behind a turn another may stand, or what stands behind the list
turns_next : {NodeKind : Type 0} (K : List Key) (c : Predict) (One : Plain NodeKind → ℕ → ℕ → Type 0) (next : TokenTest)
    → ((q : Plain NodeKind) (from mid : ℕ) → One q from mid → next (seen K from) ≡ true)
    → (ps : Plain NodeKind) (from to : ℕ) → Turns free K c One ps from to → next (seen K to) ≡ true
    → next (seen K from) ≡ true
turns_next K c One next each nil from to fit stands = seen_moved K next from to fit.1 stands
turns_next K c One next each (turn q ps) from to fit stands = each q from fit.0 fit.2
turns_next K c One next each _ from to fit stands = absurd fit

turns_obey : {NodeKind : Type 0} (K : List Key) (c : Predict) (One Two : Plain NodeKind → ℕ → ℕ → Type 0)
    (next : TokenTest)
    → ((q : Plain NodeKind) (from mid : ℕ) → One q from mid → next (seen K from) ≡ true)
    → ((q : Plain NodeKind) (from mid : ℕ) → One q from mid → tells_has c (seen K from) ≡ true)
    → ((q : Plain NodeKind) (from mid : ℕ) → One q from mid → next (seen K mid) ≡ true → Two q from mid)
    → (ps : Plain NodeKind) (from to : ℕ) → Turns free K c One ps from to → next (seen K to) ≡ true
    → tells_lack c (seen K to) ≡ true → Turns chosen K c Two ps from to
turns_obey K c One Two next begins tests each nil from to fit stands lack =
    (lack_told c K from (seen_moved K (tells_lack c) from to fit.1 lack) fit.0, fit.1)
turns_obey K c One Two next begins tests each (turn q ps) from to fit stands lack = (
  fit.0,
  has_told c K from (tests q from fit.0 fit.2) fit.1,
  each q from fit.0 fit.2 (turns_next K c One next begins ps fit.0 to fit.3 stands),
  turns_obey K c One Two next begins tests each ps fit.0 to fit.3 stands lack,
)
turns_obey K c One Two next begins tests each _ from to fit stands lack = absurd fit

-- behind an operand and behind each turn another turn may stand, or what stands behind the level
wraps_obey : {NodeKind : Type 0} (K : List Key) (l : NodeKind) (c : Predict) (A B C D : Plain NodeKind → ℕ → ℕ → Type 0)
    (next : TokenTest)
    → ((q : Plain NodeKind) (from mid : ℕ) → B q from mid → next (seen K from) ≡ true)
    → ((q : Plain NodeKind) (from mid : ℕ) → B q from mid → tells_has c (seen K from) ≡ true)
    → ((q : Plain NodeKind) (from mid : ℕ) → A q from mid → next (seen K mid) ≡ true → C q from mid)
    → ((q : Plain NodeKind) (from mid : ℕ) → B q from mid → next (seen K mid) ≡ true → D q from mid)
    → (n : ℕ) (p : Plain NodeKind) (from to : ℕ) → Wraps free K l c A B n p from to → next (seen K to) ≡ true
    → Wraps chosen K l c C D n p from to
wraps_obey K l c A B C D next begins tests one other zero p from to fit stands = one p from to fit stands
wraps_obey K l c A B C D next begins tests one other (suc n) p from to fit stands = (
  fit.0,
  fit.1,
  fit.2,
  fit.3,
  wraps_obey K l c A B C D next begins tests one other n fit.0 from fit.2 fit.4 (begins fit.1 fit.2 to fit.6),
  has_told c K fit.2 (tests fit.1 fit.2 to fit.6) fit.5,
  other fit.1 fit.2 to fit.6 stands,
)

module _ {Row NodeKind : Type 0} (K : List Key) (s : Sets Row) (Free Obeys : Row → Plain NodeKind → ℕ → ℕ → Type 0)
    (below_ahead : (r : Row) (q : Plain NodeKind) (from mid : ℕ) → Free r q from mid
    → IsAhead (length K) (s.solid r) from mid)
    (below_begins : (r : Row) (q : Plain NodeKind) (from mid : ℕ) → Free r q from mid → from < mid
    → s.first r (seen K from) ≡ true)
    (below_obeys : (r : Row) (q : Plain NodeKind) (from mid : ℕ) → Free r q from mid → s.follow r (seen K mid) ≡ true
    → Obeys r q from mid) where
  -- the four tests of a part that may be absent
  part_told : (c : Predict) (g f : Rhs Row) (inner then_ : TokenTest)
      → ((x : Option Seen)
      → implies (starts s g none x) (tells_has c x) && (implies (starts s f then_ x) (tells_lack c x)
      && (tells s g inner x && tells s f then_ x)) ≡ true)
      → (x : Option Seen) → (implies (starts s g none x) (tells_has c x) ≡ true)
      × (implies (starts s f then_ x) (tells_lack c x) ≡ true)
      × (tells s g inner x ≡ true) × (tells s f then_ x ≡ true)
  part_told c g f inner then_ told x =
      let a = both_hold (implies (starts s g none x) (tells_has c x)) (implies (starts s f then_ x) (tells_lack c x)
      && (tells s g inner x && tells s f then_ x)) (told x) in
      let b = both_hold (implies (starts s f then_ x) (tells_lack c x)) (tells s g inner x && tells s f then_ x) a.1 in
      let d = both_hold (tells s g inner x) (tells s f then_ x) b.1 in
      (a.0, b.0, d.0, d.1)

  -- the tests of a part by either of two forms
  either_told : (t : TokenTest) (a b f : Rhs Row) (inner then_ : TokenTest)
      → ((x : Option Seen) → implies (starts s a inner x) (t x) && (implies (starts s b inner x) (not (t x))
      && (tells s a inner x && (tells s b inner x && tells s f then_ x))) ≡ true)
      → (x : Option Seen) → (implies (starts s a inner x) (t x) ≡ true)
      × (implies (starts s b inner x) (not (t x)) ≡ true)
      × (tells s a inner x ≡ true) × (tells s b inner x ≡ true) × (tells s f then_ x ≡ true)
  either_told t a b f inner then_ told x =
      let one = both_hold (implies (starts s a inner x) (t x)) (implies (starts s b inner x) (not (t x))
      && (tells s a inner x && (tells s b inner x && tells s f then_ x))) (told x) in
      let two = both_hold (implies (starts s b inner x) (not (t x)))
      (tells s a inner x && (tells s b inner x && tells s f then_ x)) one.1 in
      let three = both_hold (tells s a inner x) (tells s b inner x && tells s f then_ x) two.1 in
      let four = both_hold (tells s b inner x) (tells s f then_ x) three.1 in
      (one.0, two.0, three.0, four.0, four.1)

  -- the tests of a level
  level_told : (a : Production Row NodeKind) (c : Predict) (f : Rhs Row) (next then_ : TokenTest)
      → ((x : Option Seen) → implies (starts s f none x) (tells_has c x)
      && (implies (then_ x) (tells_lack c x) && (rule_tells s a next x && tells s f next x)) ≡ true)
      → (x : Option Seen) → (implies (starts s f none x) (tells_has c x) ≡ true)
      × (implies (then_ x) (tells_lack c x) ≡ true)
      × (rule_tells s a next x ≡ true) × (tells s f next x ≡ true)
  level_told a c f next then_ told x =
      let one = both_hold (implies (starts s f none x) (tells_has c x)) (implies (then_ x) (tells_lack c x)
      && (rule_tells s a next x && tells s f next x)) (told x) in
      let two = both_hold (implies (then_ x) (tells_lack c x)) (rule_tells s a next x && tells s f next x) one.1 in
      let three = both_hold (rule_tells s a next x) (tells s f next x) two.1 in
      (one.0, two.0, three.0, three.1)

  form_obeys : (f : Rhs Row) → parts_take s.solid f ≡ true → (then_ : TokenTest)
      → ((x : Option Seen) → tells s f then_ x ≡ true)
      → (p : Plain NodeKind) (from to : ℕ) → Fits free K Free f p from to → then_ (seen K to) ≡ true
      → Fits chosen K Obeys f p from to
  form_obeys done sound then_ told p from to fit stands = fit
  form_obeys (tok sort may f) sound then_ told p from to fit stands =
      (fit.0, fit.1, fit.2, form_obeys f sound then_ told fit.0 (from + 1) to fit.3 stands)
  form_obeys (punct k f) sound then_ told p from to fit stands =
      (fit.0, fit.1, fit.2, form_obeys f sound then_ told fit.0 (from + 1) to fit.3 stands)
  form_obeys (row r f) sound then_ told p from to fit stands =
      let both = λ (x : Option Seen). both_hold (implies (starts s f then_ x) (s.follow r x)) (tells s f then_ x)
      (told x) in
      let rest = form_begins K s Free below_ahead below_begins f sound then_ fit.1 fit.2 to fit.5 (inr stands) in (
        fit.0,
        fit.1,
        fit.2,
        fit.3,
        below_obeys r fit.0 from fit.2 fit.4
            (holds_then (starts s f then_ (seen K fit.2)) (s.follow r (seen K fit.2)) (both (seen K fit.2)).0 rest),
        form_obeys f sound then_ (λ x. (both x).1) fit.1 fit.2 to fit.5 stands,
      )
  form_obeys (opt c g f) sound then_ told p from to fit stands =
      let checks = both_hold (takes s.solid g) (parts_take s.solid g && parts_take s.solid f) sound in
      let parts = both_hold (parts_take s.solid g) (parts_take s.solid f) checks.1 in
      let all = part_told c g f (starts s f then_) then_ told in
      let rest = form_begins K s Free below_ahead below_begins f parts.1 then_ fit.1 fit.2 to fit.5 (inr stands) in (
        fit.0,
        fit.1,
        fit.2,
        fit.3,
        elim fit.4 [
          | inl there ↦
              inl (
                has_told c K from (holds_then (starts s g none (seen K from)) (tells_has c (seen K from))
                    (all (seen K from)).0
                    (form_begins K s Free below_ahead below_begins g parts.0 none fit.0 from fit.2 there.1
                    (inl ((fits_ahead free K s.solid Free below_ahead g fit.0 from fit.2 there.1).strictly checks.0))))
                    there.0,
                form_obeys g parts.0 (starts s f then_) (λ x. (all x).2) fit.0 from fit.2 there.1 rest,
              )
          | inr absent ↦
              inr (
                lack_told c K from
                    (holds_then (starts s f then_ (seen K from)) (tells_lack c (seen K from)) (all (seen K from)).1
                    (seen_moved K (starts s f then_) from fit.2 absent.2 rest)) absent.0,
                absent.1,
                absent.2,
              )
        ],
        form_obeys f parts.1 then_ (λ x. (all x).3) fit.1 fit.2 to fit.5 stands,
      )
  form_obeys (many c g f) sound then_ told p from to fit stands =
      let checks = both_hold (takes s.solid g) (parts_take s.solid g && parts_take s.solid f) sound in
      let parts = both_hold (parts_take s.solid g) (parts_take s.solid f) checks.1 in
      let next : TokenTest = (λ y. starts s g none y || starts s f then_ y) in
      let all = part_told c g f next then_ told in
      let rest = form_begins K s Free below_ahead below_begins f parts.1 then_ fit.1 fit.2 to fit.5 (inr stands) in
      let begins = λ (q : Plain NodeKind) (at mid : ℕ) (one : Fits free K Free g q at mid).
      form_begins K s Free below_ahead below_begins g parts.0 none q at mid one
      (inl ((fits_ahead free K s.solid Free below_ahead g q at mid one).strictly checks.0)) in (
        fit.0,
        fit.1,
        fit.2,
        fit.3,
        turns_obey K c (Fits free K Free g) (Fits chosen K Obeys g) next
            (λ q at mid one. left_holds (starts s g none (seen K at)) (starts s f then_ (seen K at))
            (begins q at mid one))
            (λ q at mid one. holds_then (starts s g none (seen K at)) (tells_has c (seen K at)) (all (seen K at)).0
            (begins q at mid one))
            (λ q at mid one. form_obeys g parts.0 next (λ x. (all x).2) q at mid one)
            fit.0 from fit.2 fit.4
            (right_holds (starts s g none (seen K fit.2)) (starts s f then_ (seen K fit.2)) rest)
            (holds_then (starts s f then_ (seen K fit.2)) (tells_lack c (seen K fit.2)) (all (seen K fit.2)).1 rest),
        form_obeys f parts.1 then_ (λ x. (all x).3) fit.1 fit.2 to fit.5 stands,
      )
  form_obeys (alt t a b f) sound then_ told p from to fit stands =
      let parts = either_checks s.solid a b f sound in
      let all = either_told t a b f (starts s f then_) then_ told in
      let rest = form_begins K s Free below_ahead below_begins f parts.2 then_ fit.1 fit.2 to fit.5 (inr stands) in (
        fit.0,
        fit.1,
        fit.2,
        fit.3,
        elim fit.4 [
          | inl one ↦
              inl (
                holds_then (starts s a (starts s f then_) (seen K from)) (t (seen K from)) (all (seen K from)).0
                    (form_begins K s Free below_ahead below_begins a parts.0 (starts s f then_) fit.0 from fit.2 one.1
                    (inr rest)),
                form_obeys a parts.0 (starts s f then_) (λ x. (all x).2) fit.0 from fit.2 one.1 rest,
              )
          | inr other ↦
              inr (
                not_true (t (seen K from))
                    (holds_then (starts s b (starts s f then_) (seen K from)) (not (t (seen K from)))
                    (all (seen K from)).1
                    (form_begins K s Free below_ahead below_begins b parts.1 (starts s f then_) fit.0 from fit.2
                    other.1 (inr rest))),
                form_obeys b parts.1 (starts s f then_) (λ x. (all x).3) fit.0 from fit.2 other.1 rest,
              )
        ],
        form_obeys f parts.2 then_ (λ x. (all x).4) fit.1 fit.2 to fit.5 stands,
      )
  form_obeys (when_ t f) sound then_ told p from to fit stands =
      (fit.0, form_obeys f sound then_ told p from to fit.1 stands)
  form_obeys (where_ t f) sound then_ told p from to fit stands =
      (fit.0, form_obeys f sound then_ told p from to fit.1 stands)

  rule_obeys : (a : Production Row NodeKind) → rule_parts_take s.solid a ≡ true → (then_ : TokenTest)
      → ((x : Option Seen) → rule_tells s a then_ x ≡ true)
      → (p : Plain NodeKind) (from to : ℕ) → IsBy free K Free a p from to → then_ (seen K to) ≡ true
      → IsBy chosen K Obeys a p from to
  rule_obeys refuse sound then_ told p from to by stands = by
  rule_obeys (make l f) sound then_ told p from to by stands =
      (by.0, by.1, form_obeys f sound then_ told by.0 from to by.2 stands)
  rule_obeys (choose t a b) sound then_ told p from to by stands =
      let parts = both_hold (rule_parts_take s.solid a) (rule_parts_take s.solid b) sound in
      let one = λ (x : Option Seen). both_hold (implies (rule_starts s a then_ x) (t x))
      (implies (rule_starts s b then_ x) (not (t x)) && (rule_tells s a then_ x && rule_tells s b then_ x)) (told x) in
      let other = λ (x : Option Seen). both_hold (implies (rule_starts s b then_ x) (not (t x)))
      (rule_tells s a then_ x && rule_tells s b then_ x) (one x).1 in
      let each = λ (x : Option Seen). both_hold (rule_tells s a then_ x) (rule_tells s b then_ x) (other x).1 in
      elim by [
        | inl first ↦
            inl (
              holds_then (rule_starts s a then_ (seen K from)) (t (seen K from)) (one (seen K from)).0
                  (rule_begins K s Free below_ahead below_begins a parts.0 then_ p from to first.1 (inr stands)),
              rule_obeys a parts.0 then_ (λ x. (each x).0) p from to first.1 stands,
            )
        | inr second ↦
            inr (
              not_true (t (seen K from)) (holds_then (rule_starts s b then_ (seen K from)) (not (t (seen K from)))
                  (other (seen K from)).0
                  (rule_begins K s Free below_ahead below_begins b parts.1 then_ p from to second.1 (inr stands))),
              rule_obeys b parts.1 then_ (λ x. (each x).1) p from to second.1 stands,
            )
      ]
  rule_obeys (as_ w a) sound then_ told p from to by stands =
      (by.0, by.1, rule_obeys a sound then_ told by.0 from to by.2 stands)
  rule_obeys (pick g a b) sound then_ told p from to by stands =
      let parts = both_hold (rule_parts_take s.solid a) (rule_parts_take s.solid b) sound in
      let each = λ (x : Option Seen). both_hold (rule_tells s a then_ x) (rule_tells s b then_ x) (told x) in
      elim by [
        | inl first ↦ inl (first.0, rule_obeys a parts.0 then_ (λ x. (each x).0) p from to first.1 stands)
        | inr second ↦ inr (second.0, rule_obeys b parts.1 then_ (λ x. (each x).1) p from to second.1 stands)
      ]
  rule_obeys (wrap l a c f) sound then_ told p from to by stands =
      let checks = level_checks s.solid a f sound in
      let next : TokenTest = (λ y. starts s f none y || then_ y) in
      let all = level_told a c f next then_ told in
      let begins = λ (q : Plain NodeKind) (at mid : ℕ) (one : Fits free K Free f q at mid).
      form_begins K s Free below_ahead below_begins f checks.3 none q at mid one
      (inl ((fits_ahead free K s.solid Free below_ahead f q at mid one).strictly checks.2)) in (
        by.0,
        wraps_obey K l c (IsBy free K Free a) (Fits free K Free f) (IsBy chosen K Obeys a) (Fits chosen K Obeys f) next
            (λ q at mid one. left_holds (starts s f none (seen K at)) (then_ (seen K at)) (begins q at mid one))
            (λ q at mid one. holds_then (starts s f none (seen K at)) (tells_has c (seen K at)) (all (seen K at)).0
            (begins q at mid one))
            (λ q at mid one. rule_obeys a checks.1 next (λ x. (all x).2) q at mid one)
            (λ q at mid one. form_obeys f checks.3 next (λ x. (all x).3) q at mid one)
            by.0 p from to by.1 (right_holds (starts s f none (seen K to)) (then_ (seen K to)) stands),
        lack_told c K to (holds_then (then_ (seen K to)) (tells_lack c (seen K to)) (all (seen K to)).1 stands) by.2,
      )

-- a tree of the grammar, before a token that may follow its row, obeys the tests
pub free_is_chosen : {Row NodeKind : Type 0} (K : List Key) (rule : Row → Production Row NodeKind) (s : Sets Row)
    → IsTold rule s
    → (room : ℕ) (r : Row) (p : Plain NodeKind) (from to : ℕ)
    → Under free K rule room r p from to → s.follow r (seen K to) ≡ true → Under chosen K rule room r p from to
unfolding Under
free_is_chosen K rule s told zero r p from to under stands = under
free_is_chosen K rule s told (suc room) r p from to under stands =
    rule_obeys K s (Under free K rule room) (Under chosen K rule room)
    (under_ahead free K rule s.solid told.steady room)
    (row_starts K rule s told room) (free_is_chosen K rule s told room) (rule r) (told.steady.parts r) (s.follow r)
    (told.choices r)
    p from to under stands
