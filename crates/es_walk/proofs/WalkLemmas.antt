-- What is met in each form of a tree.
use Rattle.std.specs.Prelude.{ℕ, List, [], ◌∷◌, ◌++◌, map}
use Rattle.std.proofs.Common.{◌≡◌, refl, sym, ap, ◌∙◌}
use Rattle.std.proofs.lemmas.List.{append-nil}
use Rattle.es_grammar.specs.declared.rows.NodeKind.{NodeKind}
use Rattle.es_grammar.specs.declared.cst.tree.Cst.{Cst}
use Rattle.es_grammar.specs.declared.cst.tree.Cst.TheVariants as vCst
use Rattle.es_syntax.specs.declared.entry.Entry.{Entry}
use Rattle.es_syntax.specs.declared.entry.Lean.{Lean}
use Rattle.es_syntax.specs.Trees.{first_tree, leant_tree, trees_in}
use Rattle.es_walk.specs.Part.{Part, absent, nil, more, token, node, part, packed, as_target}
use Rattle.es_walk.specs.Walk.{Analysis, found, all_in, own, part_of}
use Rattle.es_walk.specs.Rows.{kept, parts_of, leaning_in}
use Rattle.es_walk.proofs.Equations.{part_leaf, part_node, part_role, part_parts}
use Rattle.es_walk.proofs.PartLemmas.{parts_kept}
use Rattle.es_walk.proofs.LeanLemmas.{leant_marks, all_leant}

found_target : {H M : Type 0} (v : Part (H → List M)) (here : H) → found (as_target v) here ≡ found v here
found_target absent here = refl
found_target nil here = refl
found_target (more v vs) here = refl
found_target (token n) here = refl
found_target (node label p marks) here = refl

all_target : {H M : Type 0} (v : Part (H → List M)) (here : H) → all_in (as_target v) here ≡ found v here
all_target absent here = refl
all_target nil here = refl
all_target (more v vs) here = refl
all_target (token n) here = refl
all_target (node label p marks) here = refl

found_packed : {H M : Type 0} (vs : List (Part (H → List M))) (here : H) → found (packed vs) here ≡ []
found_packed [] here = refl
found_packed (v ∷ vs) here = refl

module _ {H W A T M : Type 0} (r : Analysis H W A T M) where
  first_part : (us : List Cst) (here : H)
      → found (part_of r (first_tree us)) here ≡ found (part (packed (map (part_of r) us)) 0) here
  first_part [] here = ap (λ v. found v here) (part_parts r [])
  first_part (u ∷ us) here = refl

  pub first_in_row : (es : List Entry) (here : H)
      → found (part_of r (first_tree (trees_in (kept es)))) here ≡ found (part (parts_of r es) 0) here
  first_in_row es here =
      first_part (trees_in (kept es)) here ∙ ap (λ p. found (part p 0) here) (sym (parts_kept r es))

  pub walk_leaf : (at : ℕ) (here : H) → found (part_of r (vCst.Leaf at)) here ≡ []
  walk_leaf at here = ap (λ v. found v here) (part_leaf r at)

  pub walk_parts : (us : List Cst) (here : H) → found (part_of r (vCst.Parts us)) here ≡ []
  walk_parts us here = ap (λ v. found v here) (part_parts r us) ∙ found_packed (map (part_of r) us) here

  pub walk_role : (label : NodeKind) (es : List Entry) (here : H)
      → found (part_of r (vCst.Role label (first_tree (trees_in (kept es))))) here
      ≡ found (part (parts_of r es) 0) here
  walk_role label es here =
      let first = first_tree (trees_in (kept es)) in
      ap (λ v. found v here) (part_role r label first)
      ∙ found_target (part_of r first) here ∙ first_in_row es here

  pub walk_node : (label : NodeKind) (from to : ℕ) (es : List Entry) (here : H)
      → found (part_of r (vCst.Node label from to (trees_in (kept es)))) here ≡ own r label (parts_of r es) here
  walk_node label from to es here =
      ap (λ v. found v here) (part_node r label from to (trees_in (kept es)))
      ∙ ap (λ p. own r label p here) (sym (parts_kept r es))

  pub walk_lean : (lean : Lean) (from : ℕ) (es : List Entry) (here : H)
      → found (part_of r (leant_tree lean from (kept es))) here ≡ leaning_in r lean (parts_of r es) here
  walk_lean lean from es here =
      leant_marks r lean from (kept es) here ∙ ap (λ p. leaning_in r lean p here) (sym (parts_kept r es))

  -- nothing is met where there is no tree
  pub first_none : (o : List M) (us : List Cst) (here : H) → us ≡ []
      → o ≡ o ++ found (part_of r (first_tree us)) here
  first_none o us here e =
      sym (ap (λ s. o ++ s) (ap (λ (k : List Cst). found (part_of r (first_tree k)) here) e ∙ walk_parts [] here)
      ∙ append-nil o)

  -- ---- in groups too
  pub all_leaf : (at : ℕ) (here : H) → all_in (part_of r (vCst.Leaf at)) here ≡ []
  all_leaf at here = ap (λ v. all_in v here) (part_leaf r at)

  pub all_parts : (es : List Entry) (here : H)
      → all_in (part_of r (vCst.Parts (trees_in (kept es)))) here ≡ all_in (parts_of r es) here
  all_parts es here =
      ap (λ v. all_in v here) (part_parts r (trees_in (kept es))) ∙ ap (λ v. all_in v here) (sym (parts_kept r es))

  pub all_role : (label : NodeKind) (es : List Entry) (here : H)
      → all_in (part_of r (vCst.Role label (first_tree (trees_in (kept es))))) here
      ≡ found (part (parts_of r es) 0) here
  all_role label es here =
      let first = first_tree (trees_in (kept es)) in
      ap (λ v. all_in v here) (part_role r label first)
      ∙ all_target (part_of r first) here ∙ first_in_row es here

  pub all_node : (label : NodeKind) (from to : ℕ) (es : List Entry) (here : H)
      → all_in (part_of r (vCst.Node label from to (trees_in (kept es)))) here ≡ own r label (parts_of r es) here
  all_node label from to es here =
      ap (λ v. all_in v here) (part_node r label from to (trees_in (kept es)))
      ∙ ap (λ p. own r label p here) (sym (parts_kept r es))

  pub all_lean : (lean : Lean) (from : ℕ) (es : List Entry) (here : H)
      → all_in (part_of r (leant_tree lean from (kept es))) here ≡ leaning_in r lean (parts_of r es) here
  all_lean lean from es here = all_leant r lean from (kept es) here ∙ walk_lean lean from es here
