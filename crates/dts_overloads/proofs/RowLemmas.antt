-- What is met in rows of entries, and the ways over them.
use Rattle.std.specs.Prelude.{ℕ, ◌+◌, Bool, true, false, List, [], ◌∷◌, drop, slice_get, Option, Some, None, map, if◌then◌else◌}
use Rattle.std.proofs.Common.{◌≡◌, refl, sym, ap, subst, ◌∙◌}
use Rattle.es_token.specs.declared.token.Token.{Token}
use Rattle.es_grammar.specs.declared.rows.NodeKind.{NodeKind}
use Rattle.es_grammar.specs.declared.cst.tree.Cst.{Cst, out-Cst, roll-Cst, roll-out-Cst}
use Rattle.es_grammar.specs.declared.cst.tree.Cst.TheVariants as vCst
use Rattle.es_grammar.specs.declared.cst.tree.Cst.TheOpen.{Cst-F}
use Rattle.es_lowering.specs.Value.{Value}
use Rattle.es_lowering.specs.Lowering.{value_of}
use Rattle.es_lowering.specs.Lowering as low
use Rattle.es_syntax.specs.declared.entry.Entry.{Entry}
use Rattle.es_syntax.specs.declared.entry.Lean.{Lean}
use Rattle.es_syntax.specs.declared.entry.Lean.TheVariants as vLean
use Rattle.es_syntax.specs.declared.cursor.Siblings.{Siblings}
use Rattle.es_syntax.specs.declared.cursor.Item.{Item}
use Rattle.es_syntax.specs.Held.{label_of, held}
use Rattle.es_syntax.specs.Trees.{Kept, first_tree, turn_parts, leaning_tree, leaned_tree, leant_tree, trees_in, trees}
use Rattle.es_syntax.proofs.Rows.{held_trees}
use Rattle.es_walk.specs.Rows.{kept, first_trees}
use Rattle.es_walk.proofs.RowLemmas.{trees_kept}
use Rattle.es_walk.proofs.LeftLemmas.{drop_next, drop_none}
use Rattle.dts_overloads.specs.declared.shapes.Group.{Group}
use Rattle.dts_overloads.specs.declared.shapes.Group.TheVariants as gr
use Rattle.dts_overloads.specs.declared.shapes.Shape.{Shape}
use Rattle.dts_overloads.specs.declared.shapes.Shape.TheVariants as sh
use Rattle.dts_overloads.specs.declared.shapes.Owner.{Owner}
use Rattle.dts_overloads.specs.Among.{none}
use Rattle.dts_overloads.specs.Plan.{plan, inner, shapes}
use Rattle.dts_overloads.specs.Met.{Told, both, Met, absent, nil, more, token, node, packed, as_target, is_there, is_single, is_token, IsSpot, Way, nothing, one, loose, rows, each, into, after_part, inward, onward, reaches, met}
use Rattle.dts_overloads.specs.Own.{met_of, row_met, item_met, split_met}
use Rattle.dts_overloads.specs.Left.{lean_told}
use Rattle.dts_overloads.proofs.Seen.{both_none, none_both, both_assoc}
use Rattle.dts_overloads.proofs.Agrees.{Agree, met_nothing, met_done}
use Rattle.dts_overloads.proofs.Trees.{met_leaf, met_node, met_role, met_parts, tree_agrees}

-- ---- places in shapes
module _ (o : Owner) (at : ℕ) (v : Met) where
  pub inward_row : (s : Shape) → slice_get (shapes o) at ≡ Some s → inward (rows (drop at (shapes o))) v ≡ into s v
  inward_row s e = ap (λ (ss : List Shape). inward (rows ss) v) (drop_next (shapes o) at s e)

  pub onward_row : (s : Shape) → slice_get (shapes o) at ≡ Some s
      → onward (rows (drop at (shapes o))) v ≡ after_part s (drop (at + 1) (shapes o)) v
  onward_row s e = ap (λ (ss : List Shape). onward (rows ss) v) (drop_next (shapes o) at s e)

  pub inward_end : slice_get (shapes o) at ≡ None → inward (rows (drop at (shapes o))) v ≡ nothing
  inward_end e = ap (λ (ss : List Shape). inward (rows ss) v) (drop_none (shapes o) at e)

  pub onward_end : slice_get (shapes o) at ≡ None → onward (rows (drop at (shapes o))) v ≡ nothing
  onward_end e = ap (λ (ss : List Shape). onward (rows ss) v) (drop_none (shapes o) at e)

loose_in : (ss : List Shape) (v : Met) → inward (loose ss) v ≡ inward (rows ss) v
loose_in [] v = refl
loose_in (s ∷ ss) v = refl

loose_on : (ss : List Shape) (v : Met) → onward (loose ss) v ≡ onward (rows ss) v
loose_on [] v = refl
loose_on (s ∷ ss) v = refl

pub inward_loose : (g : Group) (v : Met) → inward (loose (inner g)) v ≡ inward (rows (drop 0 (inner g))) v
inward_loose g v = loose_in (inner g) v

pub onward_loose : (g : Group) (v : Met) → onward (loose (inner g)) v ≡ onward (rows (drop 0 (inner g))) v
onward_loose g v = loose_on (inner g) v

-- ---- what is no group
none_either : (told : Told) (b : Bool) → told ≡ (if b then told else told)
none_either told true = refl
none_either told false = refl

pub spot_met : (v : Met) → IsSpot v → (w : Way) → met v w ≡ (if reaches w then met v one else Some none)
spot_met (node told) s w = refl
spot_met absent s w = none_either (Some none) (reaches w)
spot_met nil s w = none_either (Some none) (reaches w)
spot_met token s w = none_either (Some none) (reaches w)
spot_met (more v w) s way = absurd s

pub there_spot : (v : Met) → IsSpot v → is_there v ≡ false
there_spot (node told) s = refl
there_spot absent s = refl
there_spot nil s = refl
there_spot token s = refl
there_spot (more v w) s = absurd s

pub single_spot : (v : Met) → IsSpot v → is_single v ≡ false
single_spot (node told) s = refl
single_spot absent s = refl
single_spot nil s = refl
single_spot token s = refl
single_spot (more v w) s = absurd s

pub there_group : (v w : Met) (b : Bool) → v ≡ w → is_there w ≡ b → is_there v ≡ b
there_group v w b e f = ap (λ (z : Met). is_there z) e ∙ f

pub single_group : (v w : Met) (b : Bool) → v ≡ w → is_single w ≡ b → is_single v ≡ b
single_group v w b e f = ap (λ (z : Met). is_single z) e ∙ f

target_spot : (v : Met) → IsSpot (as_target v)
target_spot (node told) = tt
target_spot absent = tt
target_spot nil = tt
target_spot token = tt
target_spot (more v w) = tt

target_token : (v : Met) → is_token (as_target v) ≡ false
target_token (node told) = refl
target_token absent = refl
target_token nil = refl
target_token token = refl
target_token (more v w) = refl

packed_token : (vs : List Met) → is_token (packed vs) ≡ false
packed_token [] = refl
packed_token (v ∷ vs) = refl

module _ (x : List ℕ) (ts : List Token) where
  -- ---- rows
  row_is : (es : List Entry) → row_met x ts es ≡ packed (map (met_of x ts) (trees es))
  unfolding row_met
  row_is es = refl

  pub split_row : (es : List Entry) (o : Option (Item × Siblings)) → trees es ≡ first_trees o
      → row_met x ts es ≡ split_met x ts o
  unfolding row_met
  split_row es None e = ap (λ us. packed (map (met_of x ts) us)) e
  split_row es (Some p) e = ap (λ us. packed (map (met_of x ts) us)) e

  pub row_kept : (es : List Entry) → row_met x ts es ≡ packed (map (met_of x ts) (trees_in (kept es)))
  row_kept es = row_is es ∙ ap (λ us. packed (map (met_of x ts) us)) (trees_kept es)

  pub there_none : (es : List Entry) → trees es ≡ [] → is_there (row_met x ts es) ≡ false
  there_none es e = ap (λ (v : Met). is_there v) (split_row es None e)

  pub there_some : (es : List Entry) (p : Item × Siblings) → trees es ≡ first_trees (Some p)
      → is_there (row_met x ts es) ≡ true
  there_some es p e = ap (λ (v : Met). is_there v) (split_row es (Some p) e)

  pub single_none : (es : List Entry) → trees es ≡ [] → is_single (row_met x ts es) ≡ false
  single_none es e = ap (λ (v : Met). is_single v) (split_row es None e)

  pub single_one : (es : List Entry) (p : Item × Siblings) → trees es ≡ first_trees (Some p)
      → trees p.1.entries.now ≡ [] → is_single (row_met x ts es) ≡ true
  single_one es p e f =
      ap (λ (v : Met). is_single v) (split_row es (Some p) e ∙ ap (more (item_met x ts p.0)) (split_row _ None f))

  pub single_more : (es : List Entry) (p q : Item × Siblings) → trees es ≡ first_trees (Some p)
      → trees p.1.entries.now ≡ first_trees (Some q) → is_single (row_met x ts es) ≡ false
  single_more es p q e f =
      ap (λ (v : Met). is_single v) (split_row es (Some p) e ∙ ap (more (item_met x ts p.0)) (split_row _ (Some q) f))

  -- ---- items
  pub group_parts : (es : List Entry) → met_of x ts (vCst.Parts (trees_in (kept es))) ≡ row_met x ts es
  group_parts es = met_parts x ts (trees_in (kept es)) ∙ sym (row_kept es)

  pub spot_leaf : (at : ℕ) → IsSpot (met_of x ts (vCst.Leaf at))
  spot_leaf at = subst IsSpot (sym (met_leaf x ts at)) tt

  pub spot_node : (label : NodeKind) (from to : ℕ) (us : List Cst) → IsSpot (met_of x ts (vCst.Node label from to us))
  spot_node label from to us = subst IsSpot (sym (met_node x ts label from to us)) tt

  pub spot_role : (label : NodeKind) (t : Cst) → IsSpot (met_of x ts (vCst.Role label t))
  spot_role label t = subst IsSpot (sym (met_role x ts label t)) (target_spot (met_of x ts t))

  leaned_spot : (lean : Lean) (from : ℕ) (t : Cst) (us : List Kept) → IsSpot (met_of x ts t)
      → IsSpot (met_of x ts (leaned_tree lean from t us))
  unfolding leaned_tree
  leaned_spot lean from t [] s = s
  leaned_spot lean from t (u ∷ us) s =
      leaned_spot lean from (leaning_tree lean from t u) us
      (spot_node (label_of lean) from u.0 (t ∷ turn_parts (out-Cst u.1)))

  none_spot : IsSpot (met_of x ts (vCst.Parts []))
  none_spot = subst IsSpot (sym (met_parts x ts [])) tt

  pub spot_lean : (lean : Lean) (from : ℕ) (us : List Kept) → IsSpot (met_of x ts (leant_tree lean from us))
  spot_lean lean from [] = none_spot
  spot_lean lean from (u ∷ []) = none_spot
  spot_lean lean from (t ∷ u ∷ us) =
      leaned_spot lean from (leaning_tree lean from t.1 u) us
      (spot_node (label_of lean) from u.0 (t.1 ∷ turn_parts (out-Cst u.1)))

  pub token_leaf : (at : ℕ) → is_token (met_of x ts (vCst.Leaf at)) ≡ true
  token_leaf at = ap (λ (v : Met). is_token v) (met_leaf x ts at)

  pub token_node : (label : NodeKind) (from to : ℕ) (us : List Cst)
      → is_token (met_of x ts (vCst.Node label from to us)) ≡ false
  token_node label from to us = ap (λ (v : Met). is_token v) (met_node x ts label from to us)

  pub token_role : (label : NodeKind) (t : Cst) → is_token (met_of x ts (vCst.Role label t)) ≡ false
  token_role label t = ap (λ (v : Met). is_token v) (met_role x ts label t) ∙ target_token (met_of x ts t)

  pub token_parts : (us : List Cst) → is_token (met_of x ts (vCst.Parts us)) ≡ false
  token_parts us = ap (λ (v : Met). is_token v) (met_parts x ts us) ∙ packed_token (map (met_of x ts) us)

  leaned_token : (lean : Lean) (from : ℕ) (t : Cst) (us : List Kept) → is_token (met_of x ts t) ≡ false
      → is_token (met_of x ts (leaned_tree lean from t us)) ≡ false
  unfolding leaned_tree
  leaned_token lean from t [] s = s
  leaned_token lean from t (u ∷ us) s =
      leaned_token lean from (leaning_tree lean from t u) us
      (token_node (label_of lean) from u.0 (t ∷ turn_parts (out-Cst u.1)))

  pub token_lean : (lean : Lean) (from : ℕ) (us : List Kept) → is_token (met_of x ts (leant_tree lean from us)) ≡ false
  token_lean lean from [] = token_parts []
  token_lean lean from (u ∷ []) = token_parts []
  token_lean lean from (t ∷ u ∷ us) =
      leaned_token lean from (leaning_tree lean from t.1 u) us
      (token_node (label_of lean) from u.0 (t.1 ∷ turn_parts (out-Cst u.1)))

  -- ---- a chain of operators
  abbrev turn_rows : Lean → List Shape
  turn_rows vLean.Binary = inner gr.Second
  turn_rows vLean.TypedBinary = inner gr.TypedTurn

  -- the parts of a turn
  turn_packed : (us : List Cst) (ss : List Shape)
      → met (packed (map (met_of x ts) us)) (rows ss) ≡ met (met_of x ts (vCst.Parts us)) (rows ss)
  turn_packed us ss = ap (λ (v : Met). met v (rows ss)) (sym (met_parts x ts us))

  spot_rows : (v : Met) → IsSpot v → (ss : List Shape) → met v (rows ss) ≡ Some none
  spot_rows v s ss = spot_met v s (rows ss)

  turn_layer : (f : Cst-F Cst) (ss : List Shape)
      → met (packed (map (met_of x ts) (turn_parts f))) (rows ss) ≡ met (met_of x ts (roll-Cst f)) (rows ss)
  turn_layer (Cst-F.Leaf at) ss =
      sym (spot_rows (met_of x ts (vCst.Leaf at)) (spot_leaf at) ss)
      ∙ ap (λ (t : Cst). met (met_of x ts t) (rows ss)) (sym (vCst.rolls-Leaf at))
  turn_layer (Cst-F.Node label from to us) ss =
      sym (spot_rows (met_of x ts (vCst.Node label from to us)) (spot_node label from to us) ss)
      ∙ ap (λ (t : Cst). met (met_of x ts t) (rows ss)) (sym (vCst.rolls-Node label from to us))
  turn_layer (Cst-F.Role label t) ss =
      sym (spot_rows (met_of x ts (vCst.Role label t)) (spot_role label t) ss)
      ∙ ap (λ (t : Cst). met (met_of x ts t) (rows ss)) (sym (vCst.rolls-Role label t))
  turn_layer (Cst-F.Parts us) ss =
      turn_packed us ss ∙ ap (λ (t : Cst). met (met_of x ts t) (rows ss)) (sym (vCst.rolls-Parts us))

  turn_met : (u : Cst) (ss : List Shape)
      → met (packed (map (met_of x ts) (turn_parts (out-Cst u)))) (rows ss) ≡ met (met_of x ts u) (rows ss)
  turn_met u ss =
      turn_layer (out-Cst u) ss ∙ ap (λ (t : Cst). met (met_of x ts t) (rows ss)) (roll-out-Cst u)

  leaning_met : (lean : Lean) (from : ℕ) (t : Cst) (u : Kept)
      → met (met_of x ts (leaning_tree lean from t u)) one
      ≡ both (met (met_of x ts t) one) (met (met_of x ts u.1) (rows (turn_rows lean)))
  unfolding plan
  leaning_met vLean.Binary from t u =
      ap (λ (v : Met). met v one) (met_node x ts _ from u.0 (t ∷ turn_parts (out-Cst u.1)))
      ∙ ap (both (met (met_of x ts t) one)) (turn_met u.1 (inner gr.Second))
  leaning_met vLean.TypedBinary from t u =
      ap (λ (v : Met). met v one) (met_node x ts _ from u.0 (t ∷ turn_parts (out-Cst u.1)))
      ∙ ap (both (met (met_of x ts t) one)) (turn_met u.1 (inner gr.TypedTurn))

  leaned_met : (lean : Lean) (from : ℕ) (t : Cst) (us : List Kept)
      → met (met_of x ts (leaned_tree lean from t us)) one
      ≡ both (met (met_of x ts t) one) (met (packed (map (met_of x ts) (trees_in us))) (each (turn_rows lean)))
  unfolding leaned_tree
  leaned_met lean from t [] = sym (both_none (met (met_of x ts t) one))
  leaned_met lean from t (u ∷ us) =
      leaned_met lean from (leaning_tree lean from t u) us
      ∙ ap (λ (z : Told). both z (met (packed (map (met_of x ts) (trees_in us))) (each (turn_rows lean))))
      (leaning_met lean from t u)
      ∙ both_assoc (met (met_of x ts t) one) (met (met_of x ts u.1) (rows (turn_rows lean)))
      (met (packed (map (met_of x ts) (trees_in us))) (each (turn_rows lean)))

  leaned_first : (lean : Lean) (from : ℕ) (t u : Kept) (us : List Kept)
      → met (met_of x ts (leaned_tree lean from (leaning_tree lean from t.1 u) us)) one
      ≡ both (met (met_of x ts t.1) one) (both (met (met_of x ts u.1) (rows (turn_rows lean)))
      (met (packed (map (met_of x ts) (trees_in us))) (each (turn_rows lean))))
  leaned_first lean from t u us =
      leaned_met lean from (leaning_tree lean from t.1 u) us
      ∙ ap (λ (z : Told). both z (met (packed (map (met_of x ts) (trees_in us))) (each (turn_rows lean))))
      (leaning_met lean from t.1 u)
      ∙ both_assoc (met (met_of x ts t.1) one) (met (met_of x ts u.1) (rows (turn_rows lean)))
      (met (packed (map (met_of x ts) (trees_in us))) (each (turn_rows lean)))

  leant_met : (lean : Lean) (from : ℕ) (us : List Kept)
      → met (met_of x ts (leant_tree lean from us)) one ≡ lean_told lean (packed (map (met_of x ts) (trees_in us)))
  leant_met lean from [] = ap (λ (v : Met). met v one) (met_parts x ts [])
  leant_met lean from (u ∷ []) = ap (λ (v : Met). met v one) (met_parts x ts [])
  leant_met vLean.Binary from (t ∷ u ∷ us) = leaned_first vLean.Binary from t u us
  leant_met vLean.TypedBinary from (t ∷ u ∷ us) = leaned_first vLean.TypedBinary from t u us

  pub lean_row : (lean : Lean) (from : ℕ) (es : List Entry)
      → met (met_of x ts (leant_tree lean from (kept es))) one ≡ lean_told lean (row_met x ts es)
  lean_row lean from es = leant_met lean from (kept es) ∙ ap (lean_told lean) (sym (row_kept es))

  -- ---- a node in another role
  target_one : (v : Met) → met (as_target v) one ≡ met v one
  target_one (node told) = refl
  target_one absent = refl
  target_one nil = refl
  target_one token = refl
  target_one (more v w) =
      sym (ap (λ (z : Told). both z (met w nothing)) (met_nothing v) ∙ none_both (met w nothing) ∙ met_nothing w)

  first_met : (us : List Cst)
      → met (met_of x ts (first_tree us)) one ≡ met (packed (map (met_of x ts) us)) (rows (sh.Node ∷ []))
  first_met [] = ap (λ (v : Met). met v one) (met_parts x ts [])
  first_met (u ∷ us) =
      sym (ap (both (met (met_of x ts u) one)) (met_done (packed (map (met_of x ts) us)))
      ∙ both_none (met (met_of x ts u) one))

  pub role_row : (label : NodeKind) (es : List Entry)
      → met (met_of x ts (vCst.Role label (first_tree (trees_in (kept es))))) one
      ≡ met (row_met x ts es) (rows (sh.Node ∷ []))
  role_row label es =
      ap (λ (v : Met). met v one) (met_role x ts label (first_tree (trees_in (kept es))))
      ∙ target_one (met_of x ts (first_tree (trees_in (kept es)))) ∙ first_met (trees_in (kept es))
      ∙ ap (λ (v : Met). met v (rows (sh.Node ∷ []))) (sym (row_kept es))

  -- ---- rows and their values
  packed_agrees : (us : List Cst) → Agree (low.packed (map (value_of x ts) us)) (packed (map (met_of x ts) us))
  packed_agrees [] = tt
  packed_agrees (u ∷ us) = (tree_agrees x ts u, packed_agrees us)

  pub row_agrees : (es : List Entry) → Agree (held x ts es) (row_met x ts es)
  row_agrees es =
      subst (λ (v : Value). Agree v (row_met x ts es)) (held_trees x ts es)
      (subst (λ (v : Met). Agree (low.packed (map (value_of x ts) (trees es))) v) (sym (row_is es))
      (packed_agrees (trees es)))

  pub held_kept : (es : List Entry) → low.packed (map (value_of x ts) (trees_in (kept es))) ≡ held x ts es
  held_kept es = ap (λ us. low.packed (map (value_of x ts) us)) (sym (trees_kept es)) ∙ held_trees x ts es
