-- What each form of a kept tree is on the way.
use Rattle.std.specs.Prelude.{ℕ, List, map}
use Rattle.std.proofs.Common.{◌≡◌, sym, ap, ◌∙◌}
use Rattle.es_grammar.specs.declared.rows.NodeKind.{NodeKind}
use Rattle.es_grammar.specs.declared.cst.tree.Cst.{Cst}
use Rattle.es_grammar.specs.declared.cst.tree.Cst.TheVariants as vCst
use Rattle.es_grammar.specs.declared.cst.tree.Cst.TheOpen.{Cst-F}
use Rattle.es_grammar.specs.declared.cst.tree.Cst.TheFolds.{fold-roll-Cst}
use Rattle.es_walk.specs.Part.{Part, token, node, packed, as_target}
use Rattle.es_walk.specs.Walk.{Analysis, own, part_step, part_of}

module _ {H W A T M : Type 0} (r : Analysis H W A T M) where
  pub part_leaf : (at : ℕ) → part_of r (vCst.Leaf at) ≡ token at
  unfolding part_of
  part_leaf at =
      ap (part_of r) (sym (vCst.rolls-Leaf at)) ∙ fold-roll-Cst (Part (H → List M)) (part_step r) (Cst-F.Leaf at)

  pub part_node : (label : NodeKind) (from to : ℕ) (parts : List Cst)
      → part_of r (vCst.Node label from to parts)
      ≡ node label (packed (map (part_of r) parts)) (own r label (packed (map (part_of r) parts)))
  unfolding part_of
  part_node label from to parts =
      ap (part_of r) (sym (vCst.rolls-Node label from to parts))
      ∙ fold-roll-Cst (Part (H → List M)) (part_step r) (Cst-F.Node label from to parts)

  pub part_role : (label : NodeKind) (tree : Cst) → part_of r (vCst.Role label tree) ≡ as_target (part_of r tree)
  unfolding part_of
  part_role label tree =
      ap (part_of r) (sym (vCst.rolls-Role label tree))
      ∙ fold-roll-Cst (Part (H → List M)) (part_step r) (Cst-F.Role label tree)

  pub part_parts : (parts : List Cst) → part_of r (vCst.Parts parts) ≡ packed (map (part_of r) parts)
  unfolding part_of
  part_parts parts =
      ap (part_of r) (sym (vCst.rolls-Parts parts))
      ∙ fold-roll-Cst (Part (H → List M)) (part_step r) (Cst-F.Parts parts)
