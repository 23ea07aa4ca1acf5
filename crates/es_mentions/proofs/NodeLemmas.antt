-- What the nodes of each form of a tree are.
use Rattle.std.specs.Prelude.{ℕ, Bool, true, false, if◌then◌else◌, List, [], ◌∷◌, ◌++◌, map, filter_map, option_to_list}
use Rattle.std.specs.List.{flat_map}
use Rattle.std.proofs.Common.{◌≡◌, refl, sym, ap, ◌∙◌}
use Rattle.std.proofs.lemmas.List.{append-nil, append_assoc}
use Rattle.es_token.specs.declared.token.Token.{Token}
use Rattle.es_grammar.specs.declared.rows.NodeKind.{NodeKind}
use Rattle.es_grammar.specs.declared.cst.tree.Cst.{Cst, out-Cst, roll-Cst, out-roll-Cst, map-Cst}
use Rattle.es_grammar.specs.declared.cst.tree.Cst.TheVariants as vCst
use Rattle.es_grammar.specs.declared.cst.tree.Cst.TheOpen.{Cst-F}
use Rattle.es_grammar.specs.declared.cst.tree.Cst.TheFolds.{para-roll-Cst}
use Rattle.es_syntax.specs.declared.entry.Entry.{Entry}
use Rattle.es_syntax.specs.declared.entry.Lean.{Lean}
use Rattle.es_syntax.specs.declared.entry.Lean.TheVariants as vLean
use Rattle.es_syntax.specs.Held.{label_of}
use Rattle.es_syntax.specs.Trees.{Kept, first_tree, turn_parts, leaning_tree, leaned_tree, leant_tree, trees_in, trees}
use Rattle.es_walk.specs.Rows.{kept, nth, group_of}
use Rattle.es_walk.specs.Looks.{node_by, node_of, node_there}
use Rattle.es_walk.proofs.RowLemmas.{trees_kept}
use Rattle.es_mentions.specs.declared.listed.Event.{Event}
use Rattle.es_mentions.specs.Nodes.{Node, node_made, below, node_step, nodes}
use Rattle.es_mentions.specs.Kinds.{event_of, is_closed}
use Rattle.es_mentions.specs.Left.{events_in, events_of, events_of_turns, events_of_lean, node_events}
use Rattle.es_mentions.proofs.ListLemmas.{firsts_of, seconds_of, kept_of, cons_is}

-- ---- the node that is first in a row
pub first_node : (us : List Cst) → node_there (nth us 0) ≡ node_of (first_tree us)
unfolding node_of
first_node [] = sym (ap node_by (ap out-Cst (sym (vCst.rolls-Parts [])) ∙ out-roll-Cst (Cst-F.Parts [])))
first_node (u ∷ us) = refl

-- ---- one level of a tree
module _ (closed : Node → Bool) where
  nodes_at : (it : Cst-F Cst)
      → nodes closed (roll-Cst it) ≡ node_step closed (map-Cst Cst (Cst × List Node) (λ t. (t, nodes closed t)) it)
  unfolding nodes
  nodes_at it = para-roll-Cst (List Node) (node_step closed) it

  nodes_leaf : (at : ℕ) → nodes closed (vCst.Leaf at) ≡ []
  nodes_leaf at = ap (nodes closed) (sym (vCst.rolls-Leaf at)) ∙ nodes_at (Cst-F.Leaf at)

  nodes_node : (label : NodeKind) (from to : ℕ) (us : List Cst)
      → nodes closed (vCst.Node label from to us)
      ≡ below closed (node_made label from to us) (flat_map (nodes closed) us)
  nodes_node label from to us =
      ap (nodes closed) (sym (vCst.rolls-Node label from to us)) ∙ nodes_at (Cst-F.Node label from to us)
      ∙ ap (λ vs. below closed (node_made label from to vs)
      (flat_map (λ (part : Cst × List Node). part.1) (map (λ t. (t, nodes closed t)) us)))
      (firsts_of (nodes closed) us)
      ∙ ap (below closed (node_made label from to us)) (seconds_of (nodes closed) us)

  nodes_role : (label : NodeKind) (tree : Cst) → nodes closed (vCst.Role label tree) ≡ nodes closed tree
  nodes_role label tree = ap (nodes closed) (sym (vCst.rolls-Role label tree)) ∙ nodes_at (Cst-F.Role label tree)

  nodes_parts : (us : List Cst) → nodes closed (vCst.Parts us) ≡ flat_map (nodes closed) us
  nodes_parts us =
      ap (nodes closed) (sym (vCst.rolls-Parts us)) ∙ nodes_at (Cst-F.Parts us) ∙ seconds_of (nodes closed) us

module _ (x : List ℕ) (ts : List Token) (script strict : Bool) where
  abbrev tell : List Node → List Event
  tell = filter_map (event_of x ts script strict)

  abbrev within : Cst → List Event
  within = events_in x ts script strict

  abbrev all : List Cst → List Event
  all = events_of x ts script strict

  tell_all : (us : List Cst) → tell (flat_map (nodes (is_closed x ts)) us) ≡ all us
  unfolding events_in
  tell_all us = kept_of (event_of x ts script strict) (nodes (is_closed x ts)) us

  tell_below : (n : Node) (inner : List Node)
      → tell (below (is_closed x ts) n inner)
      ≡ option_to_list (event_of x ts script strict n) ++ (if is_closed x ts n then [] else tell inner)
  tell_below n inner = one (is_closed x ts n)
    where
      one : (b : Bool)
          → tell (n ∷ (if b then [] else inner))
          ≡ option_to_list (event_of x ts script strict n) ++ (if b then [] else tell inner)
      one true = cons_is (event_of x ts script strict n) []
      one false = cons_is (event_of x ts script strict n) (tell inner)

  is_leaf : (at : ℕ) → within (vCst.Leaf at) ≡ []
  unfolding events_in
  is_leaf at = ap tell (nodes_leaf (is_closed x ts) at)

  is_node : (label : NodeKind) (from to : ℕ) (us : List Cst)
      → within (vCst.Node label from to us) ≡ node_events x ts script strict (node_made label from to us)
  unfolding events_in
  is_node label from to us =
      let n = node_made label from to us in
      ap tell (nodes_node (is_closed x ts) label from to us)
      ∙ tell_below n (flat_map (nodes (is_closed x ts)) us)
      ∙ ap (λ inner. option_to_list (event_of x ts script strict n) ++ (if is_closed x ts n then [] else inner))
      (tell_all us)

  is_role : (label : NodeKind) (tree : Cst) → within (vCst.Role label tree) ≡ within tree
  unfolding events_in
  is_role label tree = ap tell (nodes_role (is_closed x ts) label tree)

  is_parts : (us : List Cst) → within (vCst.Parts us) ≡ all us
  unfolding events_in
  is_parts us = ap tell (nodes_parts (is_closed x ts) us) ∙ tell_all us

  -- ---- nodes that lean left are nothing themselves
  leaning_events : (lean : Lean) (from to : ℕ) (us : List Cst)
      → node_events x ts script strict (node_made (label_of lean) from to us) ≡ all us
  leaning_events vLean.Binary from to us = by strict
    where
      by : (b : Bool) → node_events x ts script b (node_made (label_of vLean.Binary) from to us)
          ≡ events_of x ts script b us
      by true = refl
      by false = refl
  leaning_events vLean.TypedBinary from to us = by strict
    where
      by : (b : Bool) → node_events x ts script b (node_made (label_of vLean.TypedBinary) from to us)
          ≡ events_of x ts script b us
      by true = refl
      by false = refl

  abbrev turned : List Cst → List Event
  turned = events_of_turns x ts script strict

  leaning_is : (lean : Lean) (from : ℕ) (t : Cst) (u : Kept)
      → within (leaning_tree lean from t u) ≡ within t ++ all (turn_parts (out-Cst u.1))
  leaning_is lean from t u =
      is_node (label_of lean) from u.0 (t ∷ turn_parts (out-Cst u.1))
      ∙ leaning_events lean from u.0 (t ∷ turn_parts (out-Cst u.1))

  leaned_is : (lean : Lean) (from : ℕ) (t : Cst) (us : List Kept)
      → within (leaned_tree lean from t us) ≡ within t ++ turned (trees_in us)
  unfolding leaned_tree group_of
  leaned_is lean from t [] = sym (append-nil (within t))
  leaned_is lean from t (u ∷ us) =
      leaned_is lean from (leaning_tree lean from t u) us
      ∙ ap (λ s. s ++ turned (trees_in us)) (leaning_is lean from t u)
      ∙ append_assoc (within t) (all (turn_parts (out-Cst u.1))) (turned (trees_in us))

  is_lean : (lean : Lean) (from : ℕ) (us : List Kept)
      → within (leant_tree lean from us) ≡ events_of_lean x ts script strict (trees_in us)
  unfolding group_of
  is_lean lean from [] = is_parts []
  is_lean lean from (t ∷ []) = is_parts []
  is_lean lean from (t ∷ u ∷ us) =
      leaned_is lean from (leaning_tree lean from t.1 u) us
      ∙ ap (λ s. s ++ turned (trees_in us)) (leaning_is lean from t.1 u)
      ∙ append_assoc (within t.1) (all (turn_parts (out-Cst u.1))) (turned (trees_in us))

  -- ---- by the entries
  pub events_leaf : (at : ℕ) → within (vCst.Leaf at) ≡ []
  events_leaf at = is_leaf at

  pub events_node : (label : NodeKind) (from to : ℕ) (es : List Entry)
      → within (vCst.Node label from to (trees_in (kept es)))
      ≡ node_events x ts script strict (node_made label from to (trees es))
  events_node label from to es =
      is_node label from to (trees_in (kept es))
      ∙ ap (λ us. node_events x ts script strict (node_made label from to us)) (sym (trees_kept es))

  pub events_role : (label : NodeKind) (es : List Entry)
      → within (vCst.Role label (first_tree (trees_in (kept es)))) ≡ within (first_tree (trees es))
  events_role label es =
      is_role label (first_tree (trees_in (kept es))) ∙ ap (λ us. within (first_tree us)) (sym (trees_kept es))

  pub events_parts : (es : List Entry) → within (vCst.Parts (trees_in (kept es))) ≡ all (trees es)
  events_parts es = is_parts (trees_in (kept es)) ∙ ap all (sym (trees_kept es))

  pub events_lean : (lean : Lean) (from : ℕ) (es : List Entry)
      → within (leant_tree lean from (kept es)) ≡ events_of_lean x ts script strict (trees es)
  events_lean lean from es =
      is_lean lean from (kept es) ∙ ap (events_of_lean x ts script strict) (sym (trees_kept es))

  -- ---- the first tree of a row
  pub first_none : (us : List Cst) → us ≡ [] → within (first_tree us) ≡ []
  first_none us e = ap (λ (k : List Cst). within (first_tree k)) e ∙ is_parts []

  pub first_some : (us vs : List Cst) (t : Cst) → us ≡ t ∷ vs → within (first_tree us) ≡ within t
  first_some us vs t e = ap (λ (k : List Cst). within (first_tree k)) e
