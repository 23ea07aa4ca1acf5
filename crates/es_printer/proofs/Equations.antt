-- What is printed of each form of a kept tree.
use Rattle.std.specs.Prelude.{ℕ, List}
use Rattle.std.proofs.Common.{◌≡◌, sym, ap, ◌∙◌}
use Rattle.es_token.specs.declared.token.Token.{Token}
use Rattle.es_grammar.specs.declared.rows.NodeKind.{NodeKind}
use Rattle.es_grammar.specs.declared.cst.tree.Cst.{Cst}
use Rattle.es_grammar.specs.declared.cst.tree.Cst.TheVariants as vCst
use Rattle.es_grammar.specs.declared.cst.tree.Cst.TheOpen.{Cst-F}
use Rattle.es_grammar.specs.declared.cst.tree.Cst.TheFolds.{fold-roll-Cst}
use Rattle.es_printer.specs.declared.style.Style.{Style}
use Rattle.es_printer.specs.Sheet.{Sheet, Shown, node, shown_step, shown}
use Rattle.es_printer.specs.Rows.{all}

at_once : {f g : Shown} (here : Style) (s : Sheet) → f ≡ g → f here s ≡ g here s
at_once here s e = ap (λ (h : Shown). h here s) e

module _ (ts : List Token) where
  pub shown_leaf : (at : ℕ) (here : Style) (s : Sheet) → shown ts (vCst.Leaf at) here s ≡ s
  unfolding shown
  shown_leaf at here s =
      at_once here s (ap (shown ts) (sym (vCst.rolls-Leaf at)) ∙ fold-roll-Cst Shown (shown_step ts) (Cst-F.Leaf at))

  pub shown_node : (label : NodeKind) (from to : ℕ) (parts : List Cst) (here : Style) (s : Sheet)
      → shown ts (vCst.Node label from to parts) here s ≡ node ts label from to (all ts parts) here s
  unfolding shown all
  shown_node label from to parts here s =
      at_once here s (ap (shown ts) (sym (vCst.rolls-Node label from to parts))
      ∙ fold-roll-Cst Shown (shown_step ts) (Cst-F.Node label from to parts))

  pub shown_role : (label : NodeKind) (tree : Cst) (here : Style) (s : Sheet)
      → shown ts (vCst.Role label tree) here s ≡ shown ts tree here s
  unfolding shown
  shown_role label tree here s =
      at_once here s (ap (shown ts) (sym (vCst.rolls-Role label tree))
      ∙ fold-roll-Cst Shown (shown_step ts) (Cst-F.Role label tree))

  pub shown_parts : (parts : List Cst) (here : Style) (s : Sheet)
      → shown ts (vCst.Parts parts) here s ≡ all ts parts here s
  unfolding shown all
  shown_parts parts here s =
      at_once here s (ap (shown ts) (sym (vCst.rolls-Parts parts))
      ∙ fold-roll-Cst Shown (shown_step ts) (Cst-F.Parts parts))
