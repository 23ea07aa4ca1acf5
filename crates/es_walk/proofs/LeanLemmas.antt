-- Nodes that lean left, over a first operand and turns.
use Rattle.std.specs.Prelude.{ℕ, List, [], ◌∷◌, ◌++◌, Option, Some, None, map}
use Rattle.std.proofs.Common.{◌≡◌, refl, sym, ap, ◌∙◌}
use Rattle.std.proofs.lemmas.List.{append-nil, append_assoc}
use Rattle.es_grammar.specs.declared.cst.tree.Cst.{Cst, out-Cst}
use Rattle.es_syntax.specs.declared.entry.Lean.{Lean}
use Rattle.es_syntax.specs.declared.entry.Lean.TheVariants as vLean
use Rattle.es_syntax.specs.Held.{label_of}
use Rattle.es_syntax.specs.Trees.{Kept, turn_parts, leaning_tree, leaned_tree, leant_tree, trees_in}
use Rattle.es_walk.specs.Part.{Part, more, as_group, packed}
use Rattle.es_walk.specs.Walk.{Analysis, found, all_in, each, stands, by_steps, most_turns, lean_of, own_by, own, part_of}
use Rattle.es_walk.specs.Rows.{leaning_in}
use Rattle.es_walk.proofs.Equations.{part_node, part_parts}
use Rattle.es_walk.proofs.PartLemmas.{turn_part}

leans : (lean : Lean) → lean_of (label_of lean) ≡ Some lean
leans vLean.Binary = refl
leans vLean.TypedBinary = refl

stands_twice : {H : Type 0} (there : Option H) (here : H) → stands there (stands there here) ≡ stands there here
stands_twice None here = refl
stands_twice (Some there) here = refl

module _ {H W A T M : Type 0} (r : Analysis H W A T M) where
  -- where the operands stand
  abbrev at_operands : Lean → H → H
  at_operands lean here = stands (r.operands lean) here

  -- an operand
  abbrev by_operand : Lean → H → Part (H → List M) → List M
  by_operand lean here p = by_steps r most_turns (r.operand lean) (at_operands lean here) p

  own_lean : (lean : Lean) (v g : Part (H → List M)) (here : H)
      → own r (label_of lean) (more v g) here ≡ found v (at_operands lean here) ++ by_operand lean here g
  unfolding own
  own_lean lean v g here = ap (λ o. own_by r o (label_of lean) (more v g) here) (leans lean)

  leaning_marks : (lean : Lean) (from : ℕ) (t : Cst) (u : Kept) (here : H)
      → found (part_of r (leaning_tree lean from t u)) here
      ≡ found (part_of r t) (at_operands lean here) ++ by_operand lean here (as_group (part_of r u.1))
  leaning_marks lean from t u here =
      ap (λ v. found v here) (part_node r (label_of lean) from u.0 (t ∷ turn_parts (out-Cst u.1)))
      ∙ own_lean lean (part_of r t) (packed (map (part_of r) (turn_parts (out-Cst u.1)))) here
      ∙ ap (λ g. found (part_of r t) (at_operands lean here) ++ by_operand lean here g) (turn_part r u.1)

  leaned_marks : (lean : Lean) (from : ℕ) (t : Cst) (us : List Kept) (here : H) (first : List M)
      → found (part_of r t) (at_operands lean here) ≡ first → found (part_of r t) here ≡ first
      → found (part_of r (leaned_tree lean from t us)) here
      ≡ first ++ each (by_operand lean here) (packed (map (part_of r) (trees_in us)))
  unfolding leaned_tree
  leaned_marks lean from t [] here first used is = is ∙ sym (append-nil first)
  leaned_marks lean from t (u ∷ us) here first used is =
      let one = by_operand lean here (as_group (part_of r u.1)) in
      let rest = each (by_operand lean here) (packed (map (part_of r) (trees_in us))) in
      let twice = stands_twice (r.operands lean) here in
      leaned_marks lean from (leaning_tree lean from t u) us here (first ++ one)
      (leaning_marks lean from t u (at_operands lean here)
      ∙ ap (λ h. found (part_of r t) h ++ by_steps r most_turns (r.operand lean) h (as_group (part_of r u.1))) twice
      ∙ ap (λ s. s ++ one) used)
      (leaning_marks lean from t u here ∙ ap (λ s. s ++ one) used)
      ∙ append_assoc first one rest

  -- what is met in nodes that lean left is met in the first operand, and in that of each turn
  pub leant_marks : (lean : Lean) (from : ℕ) (us : List Kept) (here : H)
      → found (part_of r (leant_tree lean from us)) here
      ≡ leaning_in r lean (packed (map (part_of r) (trees_in us))) here
  unfolding leaning_in
  leant_marks lean from [] here = ap (λ v. found v here) (part_parts r [])
  leant_marks lean from (u ∷ []) here = ap (λ v. found v here) (part_parts r [])
  leant_marks lean from (t ∷ u ∷ us) here =
      let first = found (part_of r t.1) (at_operands lean here) in
      let one = by_operand lean here (as_group (part_of r u.1)) in
      let rest = each (by_operand lean here) (packed (map (part_of r) (trees_in us))) in
      let twice = stands_twice (r.operands lean) here in
      leaned_marks lean from (leaning_tree lean from t.1 u) us here (first ++ one)
      (leaning_marks lean from t.1 u (at_operands lean here)
      ∙ ap (λ h. found (part_of r t.1) h ++ by_steps r most_turns (r.operand lean) h (as_group (part_of r u.1))) twice)
      (leaning_marks lean from t.1 u here)
      ∙ append_assoc first one rest

  -- a chain is a node, or no parts
  all_leaned : (lean : Lean) (from : ℕ) (t : Cst) (us : List Kept) (here : H)
      → all_in (part_of r t) here ≡ found (part_of r t) here
      → all_in (part_of r (leaned_tree lean from t us)) here ≡ found (part_of r (leaned_tree lean from t us)) here
  unfolding leaned_tree
  all_leaned lean from t [] here e = e
  all_leaned lean from t (u ∷ us) here e =
      let is = part_node r (label_of lean) from u.0 (t ∷ turn_parts (out-Cst u.1)) in
      all_leaned lean from (leaning_tree lean from t u) us here
      (ap (λ v. all_in v here) is ∙ sym (ap (λ v. found v here) is))

  pub all_leant : (lean : Lean) (from : ℕ) (us : List Kept) (here : H)
      → all_in (part_of r (leant_tree lean from us)) here ≡ found (part_of r (leant_tree lean from us)) here
  all_leant lean from [] here =
      ap (λ v. all_in v here) (part_parts r []) ∙ sym (ap (λ v. found v here) (part_parts r []))
  all_leant lean from (u ∷ []) here =
      ap (λ v. all_in v here) (part_parts r []) ∙ sym (ap (λ v. found v here) (part_parts r []))
  all_leant lean from (t ∷ u ∷ us) here =
      let is = part_node r (label_of lean) from u.0 (t.1 ∷ turn_parts (out-Cst u.1)) in
      all_leaned lean from (leaning_tree lean from t.1 u) us here
      (ap (λ v. all_in v here) is ∙ sym (ap (λ v. found v here) is))
