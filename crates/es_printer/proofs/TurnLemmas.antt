-- The parts of a turn, by what stands there.
use Rattle.std.specs.Prelude.{ℕ, List, [], ◌∷◌}
use Rattle.std.proofs.Common.{◌≡◌, sym, ap, ◌∙◌}
use Rattle.es_grammar.specs.declared.rows.NodeKind.{NodeKind}
use Rattle.es_grammar.specs.declared.cst.tree.Cst.{Cst, out-Cst, out-roll-Cst}
use Rattle.es_grammar.specs.declared.cst.tree.Cst.TheVariants as vCst
use Rattle.es_grammar.specs.declared.cst.tree.Cst.TheOpen.{Cst-F}
use Rattle.es_syntax.specs.declared.entry.Lean.{Lean}
use Rattle.es_syntax.specs.Held.{label_of}
use Rattle.es_syntax.specs.Trees.{Kept, turn_parts, leaning_tree, leaned_tree, leant_tree}

-- the parts of a turn that this is
abbrev Turn : Cst → List Cst → Type 0
Turn t us = turn_parts (out-Cst t) ≡ us

pub turn_leaf : (at : ℕ) → Turn (vCst.Leaf at) []
turn_leaf at = ap turn_parts (sym (ap out-Cst (vCst.rolls-Leaf at)) ∙ out-roll-Cst (Cst-F.Leaf at))

pub turn_node : (label : NodeKind) (from to : ℕ) (us : List Cst) → Turn (vCst.Node label from to us) []
turn_node label from to us =
    ap turn_parts (sym (ap out-Cst (vCst.rolls-Node label from to us)) ∙ out-roll-Cst (Cst-F.Node label from to us))

pub turn_role : (label : NodeKind) (t : Cst) → Turn (vCst.Role label t) []
turn_role label t =
    ap turn_parts (sym (ap out-Cst (vCst.rolls-Role label t)) ∙ out-roll-Cst (Cst-F.Role label t))

pub turn_group : (us : List Cst) → Turn (vCst.Parts us) us
turn_group us = ap turn_parts (sym (ap out-Cst (vCst.rolls-Parts us)) ∙ out-roll-Cst (Cst-F.Parts us))

turn_leaned : (lean : Lean) (from : ℕ) (t : Cst) (us : List Kept) → Turn t [] → Turn (leaned_tree lean from t us) []
unfolding leaned_tree
turn_leaned lean from t [] e = e
turn_leaned lean from t (u ∷ us) e =
    turn_leaned lean from (leaning_tree lean from t u) us (turn_node (label_of lean) from u.0 _)

pub turn_lean : (lean : Lean) (from : ℕ) (us : List Kept) → Turn (leant_tree lean from us) []
turn_lean lean from [] = turn_group []
turn_lean lean from (u ∷ []) = turn_group []
turn_lean lean from (t ∷ u ∷ us) =
    turn_leaned lean from (leaning_tree lean from t.1 u) us (turn_node (label_of lean) from u.0 _)
