-- The reader of plain trees answers exactly the tree that fits where the tests are obeyed, so there is at most one.
use Rattle.std.specs.Prelude.{List, Option, slice_get, ◌&&◌, Bool, true, false}
use Rattle.std.proofs.Common.{◌≡◌, ℕ, zero, suc, ◌+◌, ◌-◌, ◌<◌, ◌≤◌, length, refl, sym, ap, ◌∙◌, inl, inr, arith}
use Rattle.grammar_theory.specs.Key.{Key, seen, has_kind, is, same_kind}
use Rattle.grammar_theory.specs.Productions.{Predict, by_lookahead, greedy, by_predicate, Predicate, test, Rhs, done, tok, punct, row, opt, many, alt, when_, where_, Production, refuse, make, choose, as_, pick, wrap}
use Rattle.grammar_theory.specs.Plain.{Plain, node, leaf, nil, cons, mark, turn, via, plain}
use Rattle.grammar_theory.specs.Fits.{chosen, Present, Absent, Turns, Wraps, Fits, IsBy, Under}
use Rattle.grammar_theory.specs.Reader.{Out, nothing, gives, and_then, changed, either, read_turns, read_wraps, read_form, read_rule, read_row}
use Rattle.grammar_theory.specs.Checks.{takes, parts_take, rule_takes, rule_parts_take, IsSteady}
use Rattle.grammar_theory.proofs.OutLemmas.{nothing_gives, gives_same, and_then-gives, changed-gives, then_gives, change_gives, only_if-gives, either-gives, only_if_true, either_true, either_false}
use Rattle.grammar_theory.proofs.Progress.{IsAhead, both_hold, within_kind, weaken, fits_ahead, by_ahead, under_ahead, turns_ahead, wraps_ahead}

-- an absent part's test is false where the tests are obeyed
absent_test : (c : Predict) (K : List Key) (at : ℕ) → Absent chosen c K at → test c K at ≡ false
absent_test (by_lookahead t) K at e = e
absent_test (greedy t) K at e = e
absent_test (by_predicate g) K at e = e

test_absent : (c : Predict) (K : List Key) (at : ℕ) → test c K at ≡ false → Absent chosen c K at
test_absent (by_lookahead t) K at e = e
test_absent (greedy t) K at e = e
test_absent (by_predicate g) K at e = e

-- and one that is there has a test that is true
present_test : (c : Predict) (K : List Key) (at : ℕ) → Present chosen c K at → test c K at ≡ true
present_test (by_lookahead t) K at e = e
present_test (greedy t) K at e = e
present_test (by_predicate g) K at e = e

test_present : (c : Predict) (K : List Key) (at : ℕ) → test c K at ≡ true → Present chosen c K at
test_present (by_lookahead t) K at e = e
test_present (greedy t) K at e = e
test_present (by_predicate g) K at e = e

-- ---- what is read fits

turns_fit : {NodeKind : Type 0} (K : List Key) (c : Predict) (one : ℕ → Out (Plain NodeKind))
    (One : Plain NodeKind → ℕ → ℕ → Type 0)
    → ((at : ℕ) (q : Plain NodeKind) (mid : ℕ) → one at ≡ gives q mid → One q at mid)
    → (n at : ℕ) (p : Plain NodeKind) (to : ℕ) → read_turns plain K (test c) one n at ≡ gives p to
    → Turns chosen K c One p at to
unfolding read_turns
turns_fit K c one One fit zero at p to e =
    elim (either-gives (test c K at) nothing (gives nil at) p to e) [
      | inl more ↦ nothing_gives p to more.1
      | inr last ↦
          let same = gives_same nil p at to last.1 in
          rw (← same.0) (test_absent c K at last.0, same.1)
    ]
turns_fit K c one One fit (suc n) at p to e =
    elim (either-gives (test c K at)
    (and_then (one at) (λ q mid. changed (turn q) (read_turns plain K (test c) one n mid))) (gives nil at) p to e) [
      | inl more ↦
          let first = and_then-gives (one at) (λ q mid. changed (turn q) (read_turns plain K (test c) one n mid)) p to
          more.1 in
          let rest = changed-gives (turn first.0) (read_turns plain K (test c) one n first.1) p to first.3 in
          rw (← rest.2) (
            first.1,
            test_present c K at more.0,
            fit at first.0 first.1 first.2,
            turns_fit K c one One fit n first.1 rest.0 to rest.1,
          )
      | inr last ↦
          let same = gives_same nil p at to last.1 in
          rw (← same.0) (test_absent c K at last.0, same.1)
    ]

-- what is read behind an operand wraps it
wraps_fit : {NodeKind : Type 0} (K : List Key) (l : NodeKind) (c : Predict) (parts : ℕ → Out (Plain NodeKind))
    (A B : Plain NodeKind → ℕ → ℕ → Type 0)
    (from : ℕ) → ((at : ℕ) (ps : Plain NodeKind) (to : ℕ) → parts at ≡ gives ps to → B ps at to)
    → (n k : ℕ) (q : Plain NodeKind) (at : ℕ) (p : Plain NodeKind) (to : ℕ) → Wraps chosen K l c A B k q from at
    → read_wraps plain K l (test c) parts from n q at ≡ gives p to
    → (j : ℕ) × Wraps chosen K l c A B j p from to × Absent chosen c K to
unfolding read_wraps
wraps_fit K l c parts A B from fit zero k q at p to so_far e =
    elim (either-gives (test c K at) nothing (gives q at) p to e) [
      | inl more ↦ nothing_gives p to more.1
      | inr last ↦
          let same = gives_same q p at to last.1 in
          rw (← same.0, ← same.1) (k, so_far, test_absent c K at last.0)
    ]
wraps_fit K l c parts A B from fit (suc n) k q at p to so_far e =
    elim (either-gives (test c K at)
    (and_then (parts at) (λ ps to. read_wraps plain K l (test c) parts from n (node l from to (cons q ps)) to))
    (gives q at) p to e) [
      | inl more ↦
          let first = and_then-gives (parts at)
          (λ ps to. read_wraps plain K l (test c) parts from n (node l from to (cons q ps)) to) p to more.1 in
          wraps_fit K l c parts A B from fit n (suc k) (node l from first.1 (cons q first.0)) first.1 p to
          (q, first.0, at, refl, so_far, test_present c K at more.0, fit at first.0 first.1 first.2) first.3
      | inr last ↦
          let same = gives_same q p at to last.1 in
          rw (← same.0, ← same.1) (k, so_far, test_absent c K at last.0)
    ]

module _ {Row NodeKind : Type 0} (K : List Key) (below : Row → ℕ → Out (Plain NodeKind))
    (Below : Row → Plain NodeKind → ℕ → ℕ → Type 0)
    (below_fits : (r : Row) (at : ℕ) (q : Plain NodeKind) (mid : ℕ) → below r at ≡ gives q mid → Below r q at mid) where
  form_fits : (f : Rhs Row) (at : ℕ) (p : Plain NodeKind) (to : ℕ) → read_form plain K below f at ≡ gives p to
      → Fits chosen K Below f p at to
  form_fits done at p to e = let same = gives_same nil p at to e in (sym same.0, same.1)
  form_fits (tok s may f) at p to e =
      let here = only_if-gives (has_kind may (seen K at))
      (changed (cons (leaf s at)) (read_form plain K below f (at + 1))) p to e in
      let rest = changed-gives (cons (leaf s at)) (read_form plain K below f (at + 1)) p to here.1 in
      (rest.0, sym rest.2, here.0, form_fits f (at + 1) rest.0 to rest.1)
  form_fits (punct k f) at p to e =
      let here = only_if-gives (is k (seen K at)) (changed (mark at) (read_form plain K below f (at + 1))) p to e in
      let rest = changed-gives (mark at) (read_form plain K below f (at + 1)) p to here.1 in
      (rest.0, sym rest.2, here.0, form_fits f (at + 1) rest.0 to rest.1)
  form_fits (row r f) at p to e =
      let first = and_then-gives (below r at) (λ q mid. changed (cons q) (read_form plain K below f mid)) p to e in
      let rest = changed-gives (cons first.0) (read_form plain K below f first.1) p to first.3 in (
        first.0,
        rest.0,
        first.1,
        sym rest.2,
        below_fits r at first.0 first.1 first.2,
        form_fits f first.1 rest.0 to rest.1,
      )
  form_fits (opt c g f) at p to e =
      let part = either (test c K at) (read_form plain K below g at) (gives nil at) in
      let first = and_then-gives part (λ q mid. changed (cons q) (read_form plain K below f mid)) p to e in
      let rest = changed-gives (cons first.0) (read_form plain K below f first.1) p to first.3 in (
        first.0,
        rest.0,
        first.1,
        sym rest.2,
        elim (either-gives (test c K at) (read_form plain K below g at) (gives nil at) first.0 first.1 first.2) [
          | inl there ↦ inl (test_present c K at there.0, form_fits g at first.0 first.1 there.1)
          | inr absent ↦
              let same = gives_same nil first.0 at first.1 absent.1 in
              inr (test_absent c K at absent.0, sym same.0, same.1)
        ],
        form_fits f first.1 rest.0 to rest.1,
      )
  form_fits (many c g f) at p to e =
      let turns = read_turns plain K (test c) (read_form plain K below g) (length K) at in
      let first = and_then-gives turns (λ q mid. changed (cons q) (read_form plain K below f mid)) p to e in
      let rest = changed-gives (cons first.0) (read_form plain K below f first.1) p to first.3 in (
        first.0,
        rest.0,
        first.1,
        sym rest.2,
        turns_fit K c (read_form plain K below g) (Fits chosen K Below g) (form_fits g) (length K) at first.0 first.1
            first.2,
        form_fits f first.1 rest.0 to rest.1,
      )
  form_fits (alt t a b f) at p to e =
      let part = either (t (seen K at)) (read_form plain K below a at) (read_form plain K below b at) in
      let first = and_then-gives part (λ q mid. changed (cons q) (read_form plain K below f mid)) p to e in
      let rest = changed-gives (cons first.0) (read_form plain K below f first.1) p to first.3 in (
        first.0,
        rest.0,
        first.1,
        sym rest.2,
        elim (either-gives (t (seen K at)) (read_form plain K below a at) (read_form plain K below b at) first.0
            first.1 first.2) [
              | inl one ↦ inl (one.0, form_fits a at first.0 first.1 one.1)
              | inr other ↦ inr (other.0, form_fits b at first.0 first.1 other.1)
            ],
        form_fits f first.1 rest.0 to rest.1,
      )
  form_fits (when_ t f) at p to e =
      let here = only_if-gives (t (seen K at)) (read_form plain K below f at) p to e in
      (here.0, form_fits f at p to here.1)
  form_fits (where_ t f) at p to e =
      let here = only_if-gives (t K at) (read_form plain K below f at) p to e in
      (here.0, form_fits f at p to here.1)

  rule_fits : (a : Production Row NodeKind) (at : ℕ) (p : Plain NodeKind) (to : ℕ)
      → read_rule plain K below a at ≡ gives p to
      → IsBy chosen K Below a p at to
  rule_fits refuse at p to e = nothing_gives p to e
  rule_fits (make l f) at p to e =
      let parts = and_then-gives (read_form plain K below f at) (λ ps to. gives (node l at to ps) to) p to e in
      let same = gives_same (node l at parts.1 parts.0) p parts.1 to parts.3 in (
        parts.0,
        (let ends = same.1 in let tree = same.0 in (let goal : p ≡ node l at to parts.0 = cc in goal)),
        form_fits f at parts.0 to (let read = parts.2 in let ends = same.1 in cc),
      )
  rule_fits (choose t a b) at p to e =
      elim (either-gives (t (seen K at)) (read_rule plain K below a at) (read_rule plain K below b at) p to e) [
        | inl one ↦ inl (one.0, rule_fits a at p to one.1)
        | inr other ↦ inr (other.0, rule_fits b at p to other.1)
      ]
  rule_fits (as_ w a) at p to e =
      let inner = changed-gives (via w) (read_rule plain K below a at) p to e in
      (inner.0, sym inner.2, rule_fits a at inner.0 to inner.1)
  rule_fits (pick g a b) at p to e =
      elim (either-gives (g K at) (read_rule plain K below a at) (read_rule plain K below b at) p to e) [
        | inl one ↦ inl (one.0, rule_fits a at p to one.1)
        | inr other ↦ inr (other.0, rule_fits b at p to other.1)
      ]
  rule_fits (wrap l a c f) at p to e =
      let first = and_then-gives (read_rule plain K below a at)
      (λ q mid. read_wraps plain K l (test c) (read_form plain K below f) at (length K) q mid) p to e in
      wraps_fit K l c (read_form plain K below f) (IsBy chosen K Below a) (Fits chosen K Below f) at (form_fits f)
      (length K) 0
      first.0 first.1 p to (rule_fits a at first.0 first.1 first.2) first.3

-- what the reader of a row answers is a tree of it
pub row_fits : {Row NodeKind : Type 0} (K : List Key) (rule : Row → Production Row NodeKind) (room : ℕ) (r : Row)
    (at : ℕ)
    (p : Plain NodeKind) (to : ℕ)
    → read_row plain K rule room r at ≡ gives p to → Under chosen K rule room r p at to
unfolding Under read_row
row_fits K rule zero r at p to e = nothing_gives p to e
row_fits K rule (suc room) r at p to e =
    rule_fits K (read_row plain K rule room) (Under chosen K rule room) (row_fits K rule room) (rule r) at p to e

-- ---- what fits is read

turns_read : {NodeKind : Type 0} (K : List Key) (c : Predict) (one : ℕ → Out (Plain NodeKind))
    (One : Plain NodeKind → ℕ → ℕ → Type 0)
    → ((q : Plain NodeKind) (at mid : ℕ) → at ≤ length K → One q at mid → one at ≡ gives q mid)
    → ((q : Plain NodeKind) (at mid : ℕ) → One q at mid → IsAhead (length K) true at mid)
    → (n : ℕ) (p : Plain NodeKind) (at to : ℕ) → at ≤ length K → to ≤ at + n
    → Turns chosen K c One p at to → read_turns plain K (test c) one n at ≡ gives p to
unfolding read_turns
turns_read K c one One reads ahead zero nil at to start enough fit =
    either_false (test c K at) nothing (gives nil at) (gives nil to) (absent_test c K at fit.0) (ap (gives nil) fit.1)
turns_read K c one One reads ahead (suc n) nil at to start enough fit =
    either_false (test c K at) (and_then (one at) (λ q mid. changed (turn q) (read_turns plain K (test c) one n mid)))
    (gives nil at) (gives nil to) (absent_test c K at fit.0) (ap (gives nil) fit.1)
turns_read K c one One reads ahead zero (turn q ps) at to start enough fit =
    let less : at < fit.0 = (ahead q at fit.0 fit.2).strictly refl in
    let rest : fit.0 ≤ to =
    (turns_ahead chosen K c One true (length K) (λ q from mid. ahead q from mid) ps fit.0 to fit.3).forward in
    absurd (let bad : ⊥ = omega arith in bad)
turns_read K c one One reads ahead (suc n) (turn q ps) at to start enough fit =
    let first = ahead q at fit.0 fit.2 in
    let less : at < fit.0 = first.strictly refl in
    either_true (test c K at) (and_then (one at) (λ q mid. changed (turn q) (read_turns plain K (test c) one n mid)))
    (gives nil at) (gives (turn q ps) to) (present_test c K at fit.1)
    (then_gives (one at) (λ q mid. changed (turn q) (read_turns plain K (test c) one n mid)) q fit.0
    (gives (turn q ps) to)
    (reads q at fit.0 start fit.2)
    (change_gives (turn q) (read_turns plain K (test c) one n fit.0) ps (turn q ps) to
    (turns_read K c one One reads ahead n ps fit.0 to (first.within start) (omega arith) fit.3) refl))
turns_read K c one One reads ahead n _ at to start enough fit = absurd fit

-- no more turns behind an operand
wraps_end : {NodeKind : Type 0} (K : List Key) (l : NodeKind) (t : Predicate) (parts : ℕ → Out (Plain NodeKind))
    (from n : ℕ)
    (p : Plain NodeKind) (to : ℕ)
    → t K to ≡ false → read_wraps plain K l t parts from n p to ≡ gives p to
unfolding read_wraps
wraps_end K l t parts from zero p to e = rw e refl
wraps_end K l t parts from (suc n) p to e = rw e refl

-- one more turn behind it
wraps_go : {NodeKind : Type 0} (K : List Key) (l : NodeKind) (t : Predicate) (parts : ℕ → Out (Plain NodeKind))
    (from n : ℕ)
    (q : Plain NodeKind) (mid : ℕ)
    (ps : Plain NodeKind) (to : ℕ) → t K mid ≡ true → parts mid ≡ gives ps to
    → read_wraps plain K l t parts from (suc n) q mid
    ≡ read_wraps plain K l t parts from n (node l from to (cons q ps)) to
unfolding read_wraps
wraps_go K l t parts from n q mid ps to e h = rw (e, h) refl

-- each turn behind an operand takes a token
wraps_count : {NodeKind : Type 0} (K : List Key) (l : NodeKind) (c : Predict) (A B : Plain NodeKind → ℕ → ℕ → Type 0)
    → ((q : Plain NodeKind) (from mid : ℕ) → A q from mid → from ≤ mid)
    → ((q : Plain NodeKind) (from mid : ℕ) → B q from mid → from < mid)
    → (n : ℕ) (p : Plain NodeKind) (from to : ℕ) → Wraps chosen K l c A B n p from to → from + n ≤ to
wraps_count K l c A B one other zero p from to fit = let le : from ≤ to = one p from to fit in omega arith
wraps_count K l c A B one other (suc n) p from to fit =
    let so_far : from + n ≤ fit.2 = wraps_count K l c A B one other n fit.0 from fit.2 fit.4 in
    let less : fit.2 < to = other fit.1 fit.2 to fit.6 in
    omega arith

-- what wraps an operand is reached from it
wraps_reach : {NodeKind : Type 0} (K : List Key) (l : NodeKind) (c : Predict) (operand : Out (Plain NodeKind))
    (parts : ℕ → Out (Plain NodeKind))
    (A B : Plain NodeKind → ℕ → ℕ → Type 0) (from most : ℕ)
    → ((q : Plain NodeKind) (mid : ℕ) → A q from mid → operand ≡ gives q mid)
    → ((q : Plain NodeKind) (mid : ℕ) → A q from mid → mid ≤ length K)
    → ((ps : Plain NodeKind) (mid to : ℕ) → mid ≤ length K → B ps mid to → parts mid ≡ gives ps to)
    → ((ps : Plain NodeKind) (mid to : ℕ) → mid ≤ length K → B ps mid to → to ≤ length K)
    → (n m : ℕ) (p : Plain NodeKind) (to : ℕ) → n + m ≡ most → Wraps chosen K l c A B n p from to
    → (and_then operand (λ q mid. read_wraps plain K l (test c) parts from most q mid)
    ≡ read_wraps plain K l (test c) parts from m p to) × (to ≤ length K)
wraps_reach K l c operand parts A B from most reads within turn_reads turn_within zero m p to sum fit =
    let same : m ≡ most = omega (arith, sum) in (
      then_gives operand (λ q mid. read_wraps plain K l (test c) parts from most q mid) p to
          (read_wraps plain K l (test c) parts from m p to) (reads p to fit)
          (ap (λ n. read_wraps plain K l (test c) parts from n p to) (sym same)),
      within p to fit,
    )
wraps_reach K l c operand parts A B from most reads within turn_reads turn_within (suc n) m p to sum fit =
    let so_far = wraps_reach K l c operand parts A B from most reads within turn_reads turn_within n (suc m) fit.0 fit.2
    (omega (arith, sum)) fit.4 in (
      so_far.0
          ∙ wraps_go K l (test c) parts from m fit.0 fit.2 fit.1 to (present_test c K fit.2 fit.5)
          (turn_reads fit.1 fit.2 to so_far.1 fit.6)
          ∙ ap (λ t. read_wraps plain K l (test c) parts from m t to) (sym fit.3),
      turn_within fit.1 fit.2 to so_far.1 fit.6,
    )

module _ {Row NodeKind : Type 0} (K : List Key) (solid : Row → Bool) (below : Row → ℕ → Out (Plain NodeKind))
    (Below : Row → Plain NodeKind → ℕ → ℕ → Type 0)
    (below_ahead : (r : Row) (q : Plain NodeKind) (at mid : ℕ) → Below r q at mid → IsAhead (length K) (solid r) at mid)
    (below_reads : (r : Row) (q : Plain NodeKind) (at mid : ℕ) → at ≤ length K → Below r q at mid
    → below r at ≡ gives q mid) where
  form_reads : (f : Rhs Row) → parts_take solid f ≡ true → (p : Plain NodeKind) (at to : ℕ) → at ≤ length K
      → Fits chosen K Below f p at to → read_form plain K below f at ≡ gives p to
  form_reads done sound p at to start fit = let tree = fit.0 in let ends = fit.1 in cc
  form_reads (tok s may f) sound p at to start fit =
      let here : at < length K = within_kind K at may (slice_get K at) refl fit.2 in
      only_if_true (has_kind may (seen K at)) (changed (cons (leaf s at)) (read_form plain K below f (at + 1)))
      (gives p to) fit.2
      (change_gives (cons (leaf s at)) (read_form plain K below f (at + 1)) fit.0 p to
      (form_reads f sound fit.0 (at + 1) to (omega arith) fit.3) (sym fit.1))
  form_reads (punct k f) sound p at to start fit =
      let here : at < length K = within_kind K at (λ x. same_kind x k) (slice_get K at) refl fit.2 in
      only_if_true (is k (seen K at)) (changed (mark at) (read_form plain K below f (at + 1))) (gives p to) fit.2
      (change_gives (mark at) (read_form plain K below f (at + 1)) fit.0 p to
      (form_reads f sound fit.0 (at + 1) to (omega arith) fit.3) (sym fit.1))
  form_reads (row r f) sound p at to start fit =
      then_gives (below r at) (λ q mid. changed (cons q) (read_form plain K below f mid)) fit.0 fit.2 (gives p to)
      (below_reads r fit.0 at fit.2 start fit.4)
      (change_gives (cons fit.0) (read_form plain K below f fit.2) fit.1 p to
      (form_reads f sound fit.1 fit.2 to ((below_ahead r fit.0 at fit.2 fit.4).within start) fit.5) (sym fit.3))
  form_reads (opt c g f) sound p at to start fit =
      let checks = both_hold (takes solid g) (parts_take solid g && parts_take solid f) sound in
      let parts = both_hold (parts_take solid g) (parts_take solid f) checks.1 in
      let mid_within : fit.2 ≤ length K = elim fit.4 [
        | inl there ↦ (fits_ahead chosen K solid Below below_ahead g fit.0 at fit.2 there.1).within start
        | inr absent ↦ omega (arith, absent.2)
      ] in
      then_gives (either (test c K at) (read_form plain K below g at) (gives nil at))
      (λ q mid. changed (cons q) (read_form plain K below f mid)) fit.0 fit.2 (gives p to)
      (elim fit.4 [
        | inl there ↦
            either_true (test c K at) (read_form plain K below g at) (gives nil at) (gives fit.0 fit.2)
            (present_test c K at there.0)
            (form_reads g parts.0 fit.0 at fit.2 start there.1)
        | inr absent ↦
            either_false (test c K at) (read_form plain K below g at) (gives nil at) (gives fit.0 fit.2)
            (absent_test c K at absent.0) (let tree = absent.1 in let ends = absent.2 in cc)
      ])
      (change_gives (cons fit.0) (read_form plain K below f fit.2) fit.1 p to
      (form_reads f parts.1 fit.1 fit.2 to mid_within fit.5) (sym fit.3))
  form_reads (many c g f) sound p at to start fit =
      let checks = both_hold (takes solid g) (parts_take solid g && parts_take solid f) sound in
      let parts = both_hold (parts_take solid g) (parts_take solid f) checks.1 in
      let turn_ahead : (q : Plain NodeKind) (at mid : ℕ) → Fits chosen K Below g q at mid
      → IsAhead (length K) true at mid =
      λ q at mid one. (let x = fits_ahead chosen K solid Below below_ahead g q at mid one in rw checks.0 at x) in
      let list = turns_ahead chosen K c (Fits chosen K Below g) true (length K) turn_ahead fit.0 at fit.2 fit.4 in
      let mid_within : fit.2 ≤ length K = list.within start in
      then_gives (read_turns plain K (test c) (read_form plain K below g) (length K) at)
      (λ q mid. changed (cons q) (read_form plain K below f mid)) fit.0 fit.2 (gives p to)
      (turns_read K c (read_form plain K below g) (Fits chosen K Below g) (form_reads g parts.0) turn_ahead (length K)
      fit.0 at fit.2 start (omega arith) fit.4)
      (change_gives (cons fit.0) (read_form plain K below f fit.2) fit.1 p to
      (form_reads f parts.1 fit.1 fit.2 to mid_within fit.5) (sym fit.3))
  form_reads (alt t a b f) sound p at to start fit =
      let one_ = both_hold (parts_take solid a) (parts_take solid b && parts_take solid f) sound in
      let two_ = both_hold (parts_take solid b) (parts_take solid f) one_.1 in
      let mid_within : fit.2 ≤ length K = elim fit.4 [
        | inl one ↦ (fits_ahead chosen K solid Below below_ahead a fit.0 at fit.2 one.1).within start
        | inr other ↦ (fits_ahead chosen K solid Below below_ahead b fit.0 at fit.2 other.1).within start
      ] in
      then_gives (either (t (seen K at)) (read_form plain K below a at) (read_form plain K below b at))
      (λ q mid. changed (cons q) (read_form plain K below f mid)) fit.0 fit.2 (gives p to)
      (elim fit.4 [
        | inl one ↦
            either_true (t (seen K at)) (read_form plain K below a at) (read_form plain K below b at)
            (gives fit.0 fit.2) one.0
            (form_reads a one_.0 fit.0 at fit.2 start one.1)
        | inr other ↦
            either_false (t (seen K at)) (read_form plain K below a at) (read_form plain K below b at)
            (gives fit.0 fit.2) other.0
            (form_reads b two_.0 fit.0 at fit.2 start other.1)
      ])
      (change_gives (cons fit.0) (read_form plain K below f fit.2) fit.1 p to
      (form_reads f two_.1 fit.1 fit.2 to mid_within fit.5) (sym fit.3))
  form_reads (when_ t f) sound p at to start fit =
      only_if_true (t (seen K at)) (read_form plain K below f at) (gives p to) fit.0
      (form_reads f sound p at to start fit.1)
  form_reads (where_ t f) sound p at to start fit =
      only_if_true (t K at) (read_form plain K below f at) (gives p to) fit.0 (form_reads f sound p at to start fit.1)

  rule_reads : (a : Production Row NodeKind) → rule_parts_take solid a ≡ true → (p : Plain NodeKind) (at to : ℕ)
      → at ≤ length K
      → IsBy chosen K Below a p at to → read_rule plain K below a at ≡ gives p to
  rule_reads refuse sound p at to start by = absurd by
  rule_reads (make l f) sound p at to start by =
      then_gives (read_form plain K below f at) (λ ps to. gives (node l at to ps) to) by.0 to (gives p to)
      (form_reads f sound by.0 at to start by.2) (ap (λ x. gives x to) (sym by.1))
  rule_reads (choose t a b) sound p at to start by =
      let parts = both_hold (rule_parts_take solid a) (rule_parts_take solid b) sound in
      elim by [
        | inl one ↦
            either_true (t (seen K at)) (read_rule plain K below a at) (read_rule plain K below b at) (gives p to) one.0
            (rule_reads a parts.0 p at to start one.1)
        | inr other ↦
            either_false (t (seen K at)) (read_rule plain K below a at) (read_rule plain K below b at) (gives p to)
            other.0
            (rule_reads b parts.1 p at to start other.1)
      ]
  rule_reads (as_ w a) sound p at to start by =
      change_gives (via w) (read_rule plain K below a at) by.0 p to (rule_reads a sound by.0 at to start by.2)
      (sym by.1)
  rule_reads (pick g a b) sound p at to start by =
      let parts = both_hold (rule_parts_take solid a) (rule_parts_take solid b) sound in
      elim by [
        | inl one ↦
            either_true (g K at) (read_rule plain K below a at) (read_rule plain K below b at) (gives p to) one.0
            (rule_reads a parts.0 p at to start one.1)
        | inr other ↦
            either_false (g K at) (read_rule plain K below a at) (read_rule plain K below b at) (gives p to) other.0
            (rule_reads b parts.1 p at to start other.1)
      ]
  rule_reads (wrap l a c f) sound p at to start by =
      let one = both_hold (rule_takes solid a) (rule_parts_take solid a && (takes solid f && parts_take solid f))
      sound in
      let two = both_hold (rule_parts_take solid a) (takes solid f && parts_take solid f) one.1 in
      let three = both_hold (takes solid f) (parts_take solid f) two.1 in
      let operand_ahead = by_ahead chosen K solid Below below_ahead true a (λ _. one.0) in
      let turn_ahead = fits_ahead chosen K solid Below below_ahead f in
      let count : at + by.0 ≤ to = wraps_count K l c (IsBy chosen K Below a) (Fits chosen K Below f)
      (λ q from mid o. (operand_ahead q from mid o).forward)
      (λ q from mid o. (turn_ahead q from mid o).strictly three.0)
      by.0 p at to by.1 in
      let reached = λ (n : ℕ) (sum : by.0 + n ≡ length K).
      wraps_reach K l c (read_rule plain K below a at) (read_form plain K below f) (IsBy chosen K Below a)
      (Fits chosen K Below f)
      at (length K) (λ q mid o. rule_reads a two.0 q at mid start o)
      (λ q mid o. (operand_ahead q at mid o).within start)
      (λ ps mid to within o. form_reads f three.1 ps mid to within o)
      (λ ps mid to within o. (turn_ahead ps mid to o).within within) by.0 n p to sum by.1 in
      let within : to ≤ length K =
      (wraps_ahead chosen K l c (IsBy chosen K Below a) (Fits chosen K Below f) true (length K) operand_ahead
      (λ q from mid o. weaken (length K) (takes solid f) from mid (turn_ahead q from mid o)) by.0 p at to by.1).within
      start in
      let enough : by.0 + (length K - by.0) ≡ length K = omega arith in
      (reached (length K - by.0) enough).0
      ∙ wraps_end K l (test c) (read_form plain K below f) at (length K - by.0) p to (absent_test c K to by.2)

-- a tree of a row is what its reader answers
pub row_reads : {Row NodeKind : Type 0} (K : List Key) (rule : Row → Production Row NodeKind) (solid : Row → Bool)
    → IsSteady rule solid
    → (room : ℕ) (r : Row) (p : Plain NodeKind) (at to : ℕ) → at ≤ length K → Under chosen K rule room r p at to
    → read_row plain K rule room r at ≡ gives p to
unfolding Under read_row
row_reads K rule solid steady zero r p at to start under = absurd under
row_reads K rule solid steady (suc room) r p at to start under =
    rule_reads K solid (read_row plain K rule room) (Under chosen K rule room)
    (under_ahead chosen K rule solid steady room)
    (row_reads K rule solid steady room) (rule r) (steady.parts r) p at to start under
