-- What is asked of a part by its tree is what the rules of any analysis say of it.
use Rattle.std.specs.Prelude.{ℕ, Bool, true, false, if◌then◌else◌, List, [], ◌∷◌, Option, Some, None, map}
use Rattle.std.proofs.Common.{◌≡◌, refl, sym, ap, ◌∙◌}
use Rattle.es_grammar.specs.declared.rows.NodeKind.{NodeKind}
use Rattle.es_grammar.specs.declared.cst.tree.Cst.{Cst, roll-Cst, out-Cst, out-roll-Cst, roll-out-Cst}
use Rattle.es_grammar.specs.declared.cst.tree.Cst.TheVariants as vCst
use Rattle.es_grammar.specs.declared.cst.tree.Cst.TheOpen.{Cst-F}
use Rattle.es_grammar.specs.declared.cst.tree.Cst.TheFolds.{fold-roll-Cst}
use Rattle.es_syntax.specs.declared.entry.Entry.{Entry}
use Rattle.es_syntax.specs.declared.entry.Lean.{Lean}
use Rattle.es_syntax.specs.declared.entry.Lean.TheVariants as vLean
use Rattle.es_syntax.specs.declared.cursor.Siblings.{Siblings}
use Rattle.es_syntax.specs.Held.{label_of}
use Rattle.es_syntax.specs.Trees.{Kept, turn_parts, leaning_tree, leaned_tree, leant_tree, trees_in, trees}
use Rattle.es_walk.specs.declared.step.Path.{Path}
use Rattle.es_walk.specs.Part.{Part, absent, nil, more, token, node, as_group, follow, number_in, is_there, has_second, own_in, packed, as_target, is_plain, node_in}
use Rattle.es_walk.specs.Walk.{Analysis, part_step, part_of}
use Rattle.es_walk.specs.Rows.{kept, nth, group_there, follow_trees, number_of, parts_of, there}
use Rattle.es_walk.specs.Looks.{number_there, own_number_by, own_number_of, own_number_there, has_one, has_two, plain_node, node_by, node_of, node_there, node_trees, node_parts}
use Rattle.es_walk.proofs.RowLemmas.{trees_kept}
use Rattle.es_walk.proofs.PartLemmas.{parts_are, group_there_is, follow_is, number_is}

-- ---- what may be there
pub number_some : (o : Option Cst) (t : Cst) → o ≡ Some t → number_there o ≡ number_of t
number_some o t e = ap number_there e

pub number_none : (o : Option Cst) → o ≡ None → number_there o ≡ None
number_none o e = ap number_there e

pub own_some : (o : Option Cst) (t : Cst) → o ≡ Some t → own_number_there o ≡ own_number_of t
own_some o t e = ap own_number_there e

pub own_none : (o : Option Cst) → o ≡ None → own_number_there o ≡ None
own_none o e = ap own_number_there e

-- ---- the first token of a tree
own_roll : (f : Cst-F Cst) → own_number_of (roll-Cst f) ≡ own_number_by f
unfolding own_number_of
own_roll f = ap own_number_by (out-roll-Cst f)

parts_own : (us : List Cst) → own_number_by (Cst-F.Parts us) ≡ number_there (nth us 0)
parts_own [] = refl
parts_own (u ∷ us) = refl

pub own_leaf : (at : ℕ) → own_number_of (vCst.Leaf at) ≡ Some at
own_leaf at = ap own_number_of (sym (vCst.rolls-Leaf at)) ∙ own_roll (Cst-F.Leaf at)

pub own_node : (label : NodeKind) (from to : ℕ) (us : List Cst) → own_number_of (vCst.Node label from to us) ≡ None
own_node label from to us =
    ap own_number_of (sym (vCst.rolls-Node label from to us)) ∙ own_roll (Cst-F.Node label from to us)

pub own_role : (label : NodeKind) (tree : Cst) → own_number_of (vCst.Role label tree) ≡ None
own_role label tree = ap own_number_of (sym (vCst.rolls-Role label tree)) ∙ own_roll (Cst-F.Role label tree)

of_parts : (us : List Cst) → own_number_of (vCst.Parts us) ≡ number_there (nth us 0)
of_parts us = ap own_number_of (sym (vCst.rolls-Parts us)) ∙ own_roll (Cst-F.Parts us) ∙ parts_own us

pub own_parts : (es : List Entry) → own_number_of (vCst.Parts (trees_in (kept es))) ≡ number_there (nth (trees es) 0)
own_parts es = of_parts (trees_in (kept es)) ∙ ap (λ us. number_there (nth us 0)) (sym (trees_kept es))

leaned_own : (lean : Lean) (from : ℕ) (t : Cst) (us : List Kept) → own_number_of t ≡ None
    → own_number_of (leaned_tree lean from t us) ≡ None
unfolding leaned_tree
leaned_own lean from t [] e = e
leaned_own lean from t (u ∷ us) e =
    leaned_own lean from (leaning_tree lean from t u) us
    (own_node (label_of lean) from u.0 (t ∷ turn_parts (out-Cst u.1)))

pub own_lean : (lean : Lean) (from : ℕ) (us : List Kept) → own_number_of (leant_tree lean from us) ≡ None
own_lean lean from [] = of_parts []
own_lean lean from (u ∷ []) = of_parts []
own_lean lean from (t ∷ u ∷ us) =
    leaned_own lean from (leaning_tree lean from t.1 u) us
    (own_node (label_of lean) from u.0 (t.1 ∷ turn_parts (out-Cst u.1)))

-- ---- the node that a tree is
pub node_some : (o : Option Cst) (t : Cst) → o ≡ Some t → node_there o ≡ node_of t
node_some o t e = ap node_there e

pub node_none : (o : Option Cst) → o ≡ None → node_there o ≡ None
node_none o e = ap node_there e

node_roll : (f : Cst-F Cst) → node_of (roll-Cst f) ≡ node_by f
unfolding node_of
node_roll f = ap node_by (out-roll-Cst f)

pub node_leaf : (at : ℕ) → node_of (vCst.Leaf at) ≡ None
node_leaf at = ap node_of (sym (vCst.rolls-Leaf at)) ∙ node_roll (Cst-F.Leaf at)

of_node : (label : NodeKind) (from to : ℕ) (us : List Cst) → node_of (vCst.Node label from to us) ≡ plain_node label us
of_node label from to us =
    ap node_of (sym (vCst.rolls-Node label from to us)) ∙ node_roll (Cst-F.Node label from to us)

pub node_node : (label : NodeKind) (from to : ℕ) (es : List Entry)
    → node_of (vCst.Node label from to (trees_in (kept es))) ≡ plain_node label (trees es)
node_node label from to es = of_node label from to (trees_in (kept es)) ∙ ap (plain_node label) (sym (trees_kept es))

pub node_role : (label : NodeKind) (tree : Cst) → node_of (vCst.Role label tree) ≡ None
node_role label tree = ap node_of (sym (vCst.rolls-Role label tree)) ∙ node_roll (Cst-F.Role label tree)

pub node_group : (us : List Cst) → node_of (vCst.Parts us) ≡ None
node_group us = ap node_of (sym (vCst.rolls-Parts us)) ∙ node_roll (Cst-F.Parts us)

chain_node : (lean : Lean) (from : ℕ) (t : Cst) (u : Kept) → node_of (leaning_tree lean from t u) ≡ None
chain_node vLean.Binary from t u = of_node (label_of vLean.Binary) from u.0 (t ∷ turn_parts (out-Cst u.1))
chain_node vLean.TypedBinary from t u = of_node (label_of vLean.TypedBinary) from u.0 (t ∷ turn_parts (out-Cst u.1))

leaned_node : (lean : Lean) (from : ℕ) (t : Cst) (us : List Kept) → node_of t ≡ None
    → node_of (leaned_tree lean from t us) ≡ None
unfolding leaned_tree
leaned_node lean from t [] e = e
leaned_node lean from t (u ∷ us) e =
    leaned_node lean from (leaning_tree lean from t u) us (chain_node lean from t u)

pub node_lean : (lean : Lean) (from : ℕ) (us : List Kept) → node_of (leant_tree lean from us) ≡ None
node_lean lean from [] = node_group []
node_lean lean from (u ∷ []) = node_group []
node_lean lean from (t ∷ u ∷ us) =
    leaned_node lean from (leaning_tree lean from t.1 u) us (chain_node lean from t.1 u)

-- ---- for any analysis
target_own : {X : Type 0} (v : Part X) → number_in (own_in (as_target v)) ≡ None
target_own absent = refl
target_own nil = refl
target_own (more v vs) = refl
target_own (token n) = refl
target_own (node label p x) = refl

target_node : {X : Type 0} (v : Part X) → node_in (as_target v) ≡ None
target_node absent = refl
target_node nil = refl
target_node (more v vs) = refl
target_node (token n) = refl
target_node (node label p x) = refl

packed_node : {X : Type 0} (vs : List (Part X)) → node_in (packed vs) ≡ None
packed_node [] = refl
packed_node (v ∷ vs) = refl

module _ {H W A T M : Type 0} (r : Analysis H W A T M) where
  packed_own : (us : List Cst) → number_in (own_in (packed (map (part_of r) us))) ≡ own_number_by (Cst-F.Parts us)
  packed_own [] = refl
  packed_own (u ∷ us) = number_is r u

  own_of_layer : (f : Cst-F Cst) → number_in (own_in (part_of r (roll-Cst f))) ≡ own_number_by f
  unfolding part_of
  own_of_layer (Cst-F.Leaf at) = rw (fold-roll-Cst (Part (H → List M)) (part_step r) (Cst-F.Leaf at)) refl
  own_of_layer (Cst-F.Node label from to us) =
      rw (fold-roll-Cst (Part (H → List M)) (part_step r) (Cst-F.Node label from to us)) refl
  own_of_layer (Cst-F.Role label u) =
      rw (fold-roll-Cst (Part (H → List M)) (part_step r) (Cst-F.Role label u)) (target_own (part_of r u))
  own_of_layer (Cst-F.Parts us) =
      rw (fold-roll-Cst (Part (H → List M)) (part_step r) (Cst-F.Parts us)) (packed_own us)

  own_is : (t : Cst) → number_in (own_in (part_of r t)) ≡ own_number_of t
  unfolding own_number_of
  own_is t = ap (λ (u : Cst). number_in (own_in (part_of r u))) (sym (roll-out-Cst t)) ∙ own_of_layer (out-Cst t)

  number_there_is : (o : Option Cst) → number_in (there r o) ≡ number_there o
  number_there_is None = refl
  number_there_is (Some t) = number_is r t

  own_there_is : (o : Option Cst) → number_in (own_in (there r o)) ≡ own_number_there o
  own_there_is None = refl
  own_there_is (Some t) = own_is t

  one_is : (us : List Cst) → is_there (packed (map (part_of r) us)) ≡ has_one us
  one_is [] = refl
  one_is (u ∷ us) = refl

  two_is : (us : List Cst) → has_second (packed (map (part_of r) us)) ≡ has_two us
  two_is [] = refl
  two_is (u ∷ []) = refl
  two_is (u ∷ v ∷ us) = refl

  follow_in : (es : List Entry) (to : Path) → follow (parts_of r es) to ≡ there r (follow_trees (trees es) to)
  follow_in es to = ap (λ p. follow p to) (parts_are r es) ∙ sym (follow_is r (trees es) to)

  group_in : (es : List Entry) (to : Path)
      → as_group (follow (parts_of r es) to) ≡ packed (map (part_of r) (group_there (follow_trees (trees es) to)))
  group_in es to = ap as_group (follow_in es to) ∙ sym (group_there_is r (follow_trees (trees es) to))

  -- the token at a place
  pub number_asked : (es : List Entry) (to : Path)
      → number_in (follow (parts_of r es) to) ≡ number_there (follow_trees (trees es) to)
  number_asked es to = ap number_in (follow_in es to) ∙ number_there_is (follow_trees (trees es) to)

  -- the same, or the first one of the group there
  pub own_asked : (es : List Entry) (to : Path)
      → number_in (own_in (follow (parts_of r es) to)) ≡ own_number_there (follow_trees (trees es) to)
  own_asked es to = ap (λ p. number_in (own_in p)) (follow_in es to) ∙ own_there_is (follow_trees (trees es) to)

  -- whether the group there has a part
  pub one_asked : (es : List Entry) (to : Path)
      → is_there (as_group (follow (parts_of r es) to)) ≡ has_one (group_there (follow_trees (trees es) to))
  one_asked es to = ap is_there (group_in es to) ∙ one_is (group_there (follow_trees (trees es) to))

  -- whether it has more than one
  pub two_asked : (es : List Entry) (to : Path)
      → has_second (as_group (follow (parts_of r es) to)) ≡ has_two (group_there (follow_trees (trees es) to))
  two_asked es to = ap has_second (group_in es to) ∙ two_is (group_there (follow_trees (trees es) to))

  -- the node there
  abbrev nodes_parts : Option (NodeKind × List Cst) → Option (NodeKind × Part (H → List M))
  nodes_parts (Some n) = Some (n.0, packed (map (part_of r) n.1))
  nodes_parts None = None

  plain_parts : (label : NodeKind) (us : List Cst) (b : Bool)
      → (if b then Some (label, packed (map (part_of r) us)) else None)
      ≡ nodes_parts (if b then Some (label, us) else None)
  plain_parts label us true = refl
  plain_parts label us false = refl

  node_of_layer : (f : Cst-F Cst) → node_in (part_of r (roll-Cst f)) ≡ nodes_parts (node_by f)
  unfolding part_of
  node_of_layer (Cst-F.Leaf at) = rw (fold-roll-Cst (Part (H → List M)) (part_step r) (Cst-F.Leaf at)) refl
  node_of_layer (Cst-F.Node label from to us) =
      rw (fold-roll-Cst (Part (H → List M)) (part_step r) (Cst-F.Node label from to us))
      (plain_parts label us (is_plain label))
  node_of_layer (Cst-F.Role label u) =
      rw (fold-roll-Cst (Part (H → List M)) (part_step r) (Cst-F.Role label u)) (target_node (part_of r u))
  node_of_layer (Cst-F.Parts us) =
      rw (fold-roll-Cst (Part (H → List M)) (part_step r) (Cst-F.Parts us)) (packed_node (map (part_of r) us))

  node_is : (t : Cst) → node_in (part_of r t) ≡ nodes_parts (node_of t)
  unfolding node_of
  node_is t = ap (λ (u : Cst). node_in (part_of r u)) (sym (roll-out-Cst t)) ∙ node_of_layer (out-Cst t)

  node_there_is : (o : Option Cst) → node_in (there r o) ≡ nodes_parts (node_there o)
  node_there_is None = refl
  node_there_is (Some t) = node_is t

  node_parts_are : (o : Option (NodeKind × Siblings)) → nodes_parts (node_trees o) ≡ node_parts r o
  node_parts_are None = refl
  node_parts_are (Some n) = ap (λ p. Some (n.0, p)) (sym (parts_are r n.1.entries.now))

  pub node_asked : (es : List Entry) (to : Path) (o : Option (NodeKind × Siblings))
      → node_there (follow_trees (trees es) to) ≡ node_trees o → node_in (follow (parts_of r es) to) ≡ node_parts r o
  node_asked es to o e =
      ap node_in (follow_in es to) ∙ node_there_is (follow_trees (trees es) to)
      ∙ ap nodes_parts e ∙ node_parts_are o
