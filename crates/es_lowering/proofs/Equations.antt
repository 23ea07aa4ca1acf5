-- What each form of a plain tree is, from what its parts are.
use Rattle.std.specs.Prelude.{ℕ, List, map}
use Rattle.std.proofs.Common.{◌≡◌, sym, ap, ◌∙◌}
use Rattle.es_token.specs.declared.token.Token.{Token}
use Rattle.es_grammar.specs.declared.rows.NodeKind.{NodeKind}
use Rattle.es_grammar.specs.declared.cst.tree.Cst.{Cst}
use Rattle.es_grammar.specs.declared.cst.tree.Cst.TheVariants as vCst
use Rattle.es_grammar.specs.declared.cst.tree.Cst.TheOpen.{Cst-F}
use Rattle.es_grammar.specs.declared.cst.tree.Cst.TheFolds.{fold-roll-Cst}
use Rattle.es_lowering.specs.Value.{Value, token, node}
use Rattle.es_lowering.specs.Texts.{span_of}
use Rattle.es_lowering.specs.Lowering.{packed, build, as_target, value_step, value_of}

module _ (x : List ℕ) (ts : List Token) where
  pub value_leaf : (at : ℕ) → value_of x ts (vCst.Leaf at) ≡ token at
  unfolding value_of
  value_leaf at = ap (value_of x ts) (sym (vCst.rolls-Leaf at))
      ∙ fold-roll-Cst Value (value_step x ts) (Cst-F.Leaf at)

  pub value_node : (label : NodeKind) (from to : ℕ) (parts : List Cst)
      → value_of x ts (vCst.Node label from to parts)
      ≡ node from to (build x ts label from (span_of ts from to) (packed (map (value_of x ts) parts)))
  unfolding value_of
  value_node label from to parts =
      ap (value_of x ts) (sym (vCst.rolls-Node label from to parts))
      ∙ fold-roll-Cst Value (value_step x ts) (Cst-F.Node label from to parts)

  pub value_role : (label : NodeKind) (tree : Cst)
      → value_of x ts (vCst.Role label tree) ≡ as_target x ts (value_of x ts tree)
  unfolding value_of
  value_role label tree =
      ap (value_of x ts) (sym (vCst.rolls-Role label tree))
      ∙ fold-roll-Cst Value (value_step x ts) (Cst-F.Role label tree)

  pub value_parts : (parts : List Cst) → value_of x ts (vCst.Parts parts) ≡ packed (map (value_of x ts) parts)
  unfolding value_of
  value_parts parts =
      ap (value_of x ts) (sym (vCst.rolls-Parts parts)) ∙ fold-roll-Cst Value (value_step x ts) (Cst-F.Parts parts)
