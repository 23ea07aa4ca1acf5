-- What the frames put for a node, a list and a step add together.
use Rattle.std.specs.Prelude.{ℕ, zero, suc, ◌+◌, ◌-◌, ◌≤◌, List, ◌++◌, Option, Some, None, drop, slice_get}
use Rattle.std.proofs.Common.{◌≡◌, sym, ap, ◌∙◌, arith}
use Rattle.std.proofs.lemmas.List.{append_assoc}
use Rattle.es_grammar.specs.declared.rows.NodeKind.{NodeKind}
use Rattle.es_syntax.specs.declared.entry.Lean.{Lean}
use Rattle.es_walk.specs.declared.step.Path.{Path}
use Rattle.es_walk.specs.declared.step.Step.{Step}
use Rattle.es_walk.specs.declared.step.Step.TheVariants.{Turns}
use Rattle.es_walk.specs.Part.{Part, nil, more, part, as_group, follow}
use Rattle.es_walk.specs.Walk.{Analysis, found, all_in, each, led, stands, lean_of, by_step, by_steps, leaning, own_by, own}
use Rattle.es_walk.specs.Rows.{leaning_in}
use Rattle.es_walk.proofs.LeftLemmas.{both, drop_next, drop_none}

module _ {H W A T M : Type 0} (r : Analysis H W A T M) where
  pub own_none : (label : NodeKind) (p : Part (H → List M)) (here : H) → None ≡ lean_of label
      → own r label p here ≡ by_steps r 3 (r.plan label) here p
  unfolding own
  own_none label p here e = ap (λ o. own_by r o label p here) (sym e)

  pub own_some : (label : NodeKind) (lean : Lean) (p : Part (H → List M)) (here : H) → Some lean ≡ lean_of label
      → own r label p here ≡ leaning r lean p (stands (r.operands lean) here)
  unfolding own
  own_some label lean p here e = ap (λ o. own_by r o label p here) (sym e)

  pub operands_none : (s : List M) (lean : Lean) (p : Part (H → List M)) (here : H) → p ≡ nil
      → s ≡ leaning r lean p here ++ s
  operands_none s lean p here e = sym (ap (λ q. leaning r lean q here ++ s) e)

  pub operands_both : (s0 s1 s2 : List M) (lean : Lean) (p v vs : Part (H → List M)) (here : H) → p ≡ more v vs
      → s1 ≡ by_steps r 3 (r.operand lean) here vs ++ s0 → s2 ≡ found (part p 0) here ++ s1
      → s2 ≡ leaning r lean p here ++ s0
  operands_both s0 s1 s2 lean p v vs here is first second =
      both s0 s1 s2 (found v here) (by_steps r 3 (r.operand lean) here vs) first
      (second ∙ ap (λ q. found (part q 0) here ++ s1) is)
      ∙ sym (ap (λ q. leaning r lean q here ++ s0) is)

  pub lean_none : (s : List M) (lean : Lean) (p : Part (H → List M)) (here : H) → p ≡ nil
      → s ≡ leaning_in r lean p here ++ s
  unfolding leaning_in
  lean_none s lean p here e = sym (ap (λ q. leaning_in r lean q here ++ s) e)

  pub lean_one : (s : List M) (lean : Lean) (p v vs : Part (H → List M)) (here : H) → p ≡ more v vs → vs ≡ nil
      → s ≡ leaning_in r lean p here ++ s
  unfolding leaning_in
  lean_one s lean p v vs here is e = sym (ap (λ q. leaning_in r lean q here ++ s) (is ∙ ap (more v) e))

  pub lean_both : (s0 s1 s2 : List M) (lean : Lean) (p v vs w ws : Part (H → List M)) (here there : H)
      → there ≡ stands (r.operands lean) here → p ≡ more v vs → vs ≡ more w ws
      → s1 ≡ each (by_steps r 3 (r.operand lean) there) vs ++ s0 → s2 ≡ found (part p 0) there ++ s1
      → s2 ≡ leaning_in r lean p here ++ s0
  unfolding leaning_in
  lean_both s0 s1 s2 lean p v vs w ws here there at is others first second =
      both s0 s1 s2 (found v there) (each (by_steps r 3 (r.operand lean) there) vs) first
      (second ∙ ap (λ q. found (part q 0) there ++ s1) is)
      ∙ ap (λ h. (found v h ++ each (by_steps r 3 (r.operand lean) h) vs) ++ s0) at
      ∙ ap (λ q. (found v (stands (r.operands lean) here)
      ++ each (by_steps r 3 (r.operand lean) (stands (r.operands lean) here)) q) ++ s0) others
      ∙ sym (ap (λ q. leaning_in r lean q here ++ s0) (is ∙ ap (more v) others))

  pub steps_none : (o s : List M) (d : ℕ) (xs : List (Step W A T)) (at : ℕ) (here : H) (p : Part (H → List M))
      → slice_get xs at ≡ None → o ++ s ≡ o ++ (by_steps r d (drop at xs) here p ++ s)
  steps_none o s d xs at here p e = sym (ap (λ ys. o ++ (by_steps r d ys here p ++ s)) (drop_none xs at e))

  pub steps_both : (o o1 s0 s1 s2 : List M) (d : ℕ) (xs : List (Step W A T)) (at : ℕ) (x : Step W A T) (here : H)
      (p : Part (H → List M)) → slice_get xs at ≡ Some x
      → s1 ≡ by_steps r d (drop (at + 1) xs) here p ++ s0 → o1 ++ s2 ≡ o ++ (by_step r d here p x ++ s1)
      → o1 ++ s2 ≡ o ++ (by_steps r d (drop at xs) here p ++ s0)
  steps_both o o1 s0 s1 s2 d xs at x here p is first second =
      second ∙ ap (λ s. o ++ (by_step r d here p x ++ s)) first
      ∙ ap (λ s. o ++ s) (sym (append_assoc (by_step r d here p x) (by_steps r d (drop (at + 1) xs) here p) s0))
      ∙ sym (ap (λ ys. o ++ (by_steps r d ys here p ++ s0)) (drop_next xs at x is))

  turns_next : (d : ℕ) (here : H) (p : Part (H → List M)) (w : W) (at : Path) (t : T) → 1 ≤ d
      → by_step r d here p (Turns w at t)
      ≡ led (r.leads here p w) (λ there. each (by_steps r (d - 1) (r.turn t) there) (as_group (follow p at)))
  turns_next zero here p w at t some = absurd (omega (arith, some))
  turns_next (suc d) here p w at t some =
      ap (λ n. led (r.leads here p w) (λ there. each (by_steps r n (r.turn t) there) (as_group (follow p at))))
      (let so : d ≡ suc d - 1 = omega arith in so)

  -- each turn of a list
  pub turns_both : (o s0 s1 : List M) (d : ℕ) (here : H) (p : Part (H → List M)) (w : W) (at : Path) (t : T)
      (to : Option H) (x : Step W A T) → x ≡ Turns w at t → 1 ≤ d → to ≡ r.leads here p w
      → s1 ≡ led to (λ there. each (by_steps r (d - 1) (r.turn t) there) (as_group (follow p at))) ++ s0
      → o ++ s1 ≡ o ++ (by_step r d here p x ++ s0)
  turns_both o s0 s1 d here p w at t to x is some leads marks =
      ap (λ s. o ++ s)
      (marks
      ∙ ap (λ k. led k (λ there. each (by_steps r (d - 1) (r.turn t) there) (as_group (follow p at))) ++ s0) leads
      ∙ ap (λ s. s ++ s0) (sym (ap (by_step r d here p) is ∙ turns_next d here p w at t some)))

module _ {H M : Type 0} where
  pub all_none : (s : List M) (p : Part (H → List M)) (here : H) → p ≡ nil → s ≡ all_in p here ++ s
  all_none s p here e = sym (ap (λ q. all_in q here ++ s) e)

  pub all_both : (s0 s1 s2 : List M) (p v vs : Part (H → List M)) (here : H) → p ≡ more v vs
      → s1 ≡ all_in vs here ++ s0 → s2 ≡ all_in v here ++ s1 → s2 ≡ all_in p here ++ s0
  all_both s0 s1 s2 p v vs here is first second =
      both s0 s1 s2 (all_in v here) (all_in vs here) first second ∙ sym (ap (λ q. all_in q here ++ s0) is)

  pub each_none : (s : List M) (f : Part (H → List M) → List M) (p : Part (H → List M)) → p ≡ nil → s ≡ each f p ++ s
  each_none s f p e = sym (ap (λ q. each f q ++ s) e)

  pub each_both : (s0 s1 s2 : List M) (f : Part (H → List M) → List M) (p v vs g : Part (H → List M)) → p ≡ more v vs
      → g ≡ as_group v → s1 ≡ each f vs ++ s0 → s2 ≡ f g ++ s1 → s2 ≡ each f p ++ s0
  each_both s0 s1 s2 f p v vs g is inner first second =
      both s0 s1 s2 (f (as_group v)) (each f vs) first (second ∙ ap (λ k. f k ++ s1) inner)
      ∙ sym (ap (λ q. each f q ++ s0) is)
