-- What each form of a plain tree is on the way to its sites.
use Rattle.std.specs.Prelude.{ℕ, List, map}
use Rattle.std.proofs.Common.{◌≡◌, sym, ap, ◌∙◌}
use Rattle.es_token.specs.declared.token.Token.{Token}
use Rattle.es_grammar.specs.declared.rows.NodeKind.{NodeKind}
use Rattle.es_grammar.specs.declared.cst.tree.Cst.{Cst}
use Rattle.es_grammar.specs.declared.cst.tree.Cst.TheVariants as vCst
use Rattle.es_grammar.specs.declared.cst.tree.Cst.TheOpen.{Cst-F}
use Rattle.es_grammar.specs.declared.cst.tree.Cst.TheFolds.{fold-roll-Cst}
use Rattle.es_law_sites.specs.plain.Part.{Part, token, packed, as_target}
use Rattle.es_law_sites.specs.plain.Own.{made, part_step, part_of}

module _ (x : List ℕ) (ts : List Token) where
  pub part_leaf : (at : ℕ) → part_of x ts (vCst.Leaf at) ≡ token at
  unfolding part_of
  part_leaf at = ap (part_of x ts) (sym (vCst.rolls-Leaf at)) ∙ fold-roll-Cst Part (part_step x ts) (Cst-F.Leaf at)

  pub part_node : (label : NodeKind) (from to : ℕ) (parts : List Cst)
      → part_of x ts (vCst.Node label from to parts) ≡ made x ts label (packed (map (part_of x ts) parts))
  unfolding part_of
  part_node label from to parts =
      ap (part_of x ts) (sym (vCst.rolls-Node label from to parts))
      ∙ fold-roll-Cst Part (part_step x ts) (Cst-F.Node label from to parts)

  pub part_role : (label : NodeKind) (tree : Cst) → part_of x ts (vCst.Role label tree) ≡ as_target (part_of x ts tree)
  unfolding part_of
  part_role label tree =
      ap (part_of x ts) (sym (vCst.rolls-Role label tree))
      ∙ fold-roll-Cst Part (part_step x ts) (Cst-F.Role label tree)

  pub part_parts : (parts : List Cst) → part_of x ts (vCst.Parts parts) ≡ packed (map (part_of x ts) parts)
  unfolding part_of
  part_parts parts =
      ap (part_of x ts) (sym (vCst.rolls-Parts parts)) ∙ fold-roll-Cst Part (part_step x ts) (Cst-F.Parts parts)
