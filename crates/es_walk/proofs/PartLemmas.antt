-- The parts of a row, a group and a path, and what they are.
use Rattle.std.specs.Prelude.{ℕ, zero, suc, List, [], ◌∷◌, Option, Some, None, map}
use Rattle.std.proofs.Common.{◌≡◌, refl, sym, ap, ◌∙◌}
use Rattle.es_grammar.specs.declared.cst.tree.Cst.{Cst, roll-Cst, out-Cst, roll-out-Cst}
use Rattle.es_grammar.specs.declared.cst.tree.Cst.TheOpen.{Cst-F}
use Rattle.es_grammar.specs.declared.cst.tree.Cst.TheFolds.{fold-roll-Cst}
use Rattle.es_syntax.specs.declared.entry.Entry.{Entry}
use Rattle.es_syntax.specs.declared.cursor.Siblings.{Siblings}
use Rattle.es_syntax.specs.declared.cursor.Item.{Item}
use Rattle.es_syntax.specs.Trees.{turn_parts, trees_in, trees}
use Rattle.es_walk.specs.declared.step.Path.{Path}
use Rattle.es_walk.specs.declared.step.Path.TheVariants as path
use Rattle.es_walk.specs.Part.{Part, absent, nil, more, token, node, part, as_group, group, follow, number_in, packed, as_target}
use Rattle.es_walk.specs.Walk.{Analysis, part_step, part_of}
use Rattle.es_walk.specs.Rows.{kept, first_trees, nth, tree_there, group_of, group_there, follow_trees, number_by, number_of, parts_of, first_in, there, there_in}
use Rattle.es_walk.proofs.RowLemmas.{trees_kept}

same_group : {X : Type 0} (vs : List (Part X)) → packed vs ≡ as_group (packed vs)
same_group [] = refl
same_group (v ∷ vs) = refl

target_group : {X : Type 0} (v : Part X) → nil ≡ as_group (as_target v)
target_group absent = refl
target_group nil = refl
target_group (more v vs) = refl
target_group (token n) = refl
target_group (node label p x) = refl

target_number : {X : Type 0} (v : Part X) → number_in (as_target v) ≡ None
target_number absent = refl
target_number nil = refl
target_number (more v vs) = refl
target_number (token n) = refl
target_number (node label p x) = refl

packed_number : {X : Type 0} (vs : List (Part X)) → number_in (packed vs) ≡ None
packed_number [] = refl
packed_number (v ∷ vs) = refl

module _ {H W A T M : Type 0} (r : Analysis H W A T M) where
  -- the first part, and those after it
  pub split_parts : (es : List Entry) (o : Option (Item × Siblings)) → trees es ≡ first_trees o
      → parts_of r es ≡ first_in r o
  unfolding parts_of
  split_parts es None e = ap (λ us. packed (map (part_of r) us)) e
  split_parts es (Some p) e = ap (λ us. packed (map (part_of r) us)) e

  pub parts_kept : (es : List Entry) → parts_of r es ≡ packed (map (part_of r) (trees_in (kept es)))
  unfolding parts_of
  parts_kept es = ap (λ us. packed (map (part_of r) us)) (trees_kept es)

  pub parts_are : (es : List Entry) → parts_of r es ≡ packed (map (part_of r) (trees es))
  unfolding parts_of
  parts_are es = refl

  -- the parts of a turn
  turn_part_of : (f : Cst-F Cst) → packed (map (part_of r) (turn_parts f)) ≡ as_group (part_of r (roll-Cst f))
  unfolding part_of
  turn_part_of (Cst-F.Leaf at) = rw (fold-roll-Cst (Part (H → List M)) (part_step r) (Cst-F.Leaf at)) refl
  turn_part_of (Cst-F.Node label from to us) =
      rw (fold-roll-Cst (Part (H → List M)) (part_step r) (Cst-F.Node label from to us)) refl
  turn_part_of (Cst-F.Role label u) =
      rw (fold-roll-Cst (Part (H → List M)) (part_step r) (Cst-F.Role label u)) (target_group (part_of r u))
  turn_part_of (Cst-F.Parts us) =
      rw (fold-roll-Cst (Part (H → List M)) (part_step r) (Cst-F.Parts us)) (same_group (map (part_of r) us))

  pub turn_part : (u : Cst) → packed (map (part_of r) (turn_parts (out-Cst u))) ≡ as_group (part_of r u)
  turn_part u = turn_part_of (out-Cst u) ∙ ap (λ (t : Cst). as_group (part_of r t)) (roll-out-Cst u)

  pub group_is : (u : Cst) → packed (map (part_of r) (group_of u)) ≡ as_group (part_of r u)
  unfolding group_of
  group_is u = turn_part u

  -- the parts of a group in a row
  pub grouped : (es : List Entry) (u : Cst) → trees es ≡ group_of u → parts_of r es ≡ as_group (part_of r u)
  grouped es u e = parts_are es ∙ ap (λ us. packed (map (part_of r) us)) e ∙ group_is u

  -- ---- paths
  nth_is : (us : List Cst) (n : ℕ) → there r (nth us n) ≡ part (packed (map (part_of r) us)) n
  nth_is [] n = refl
  nth_is (u ∷ us) zero = refl
  nth_is (u ∷ us) (suc n) = nth_is us n

  pub group_there_is : (u : Option Cst) → packed (map (part_of r) (group_there u)) ≡ as_group (there r u)
  group_there_is None = refl
  group_there_is (Some u) = group_is u

  in_is : (us : List Cst) (n : ℕ)
      → packed (map (part_of r) (group_there (nth us n))) ≡ group (packed (map (part_of r) us)) n
  in_is us n = group_there_is (nth us n) ∙ ap as_group (nth_is us n)

  pub follow_is : (us : List Cst) (to : Path) → there r (follow_trees us to) ≡ follow (packed (map (part_of r) us)) to
  follow_is us (path.At n) = nth_is us n
  follow_is us (path.In n m) =
      nth_is (group_there (nth us n)) m ∙ ap (λ p. part p m) (in_is us n)
  follow_is us (path.Deep n m j) =
      let a = group_there (nth us n) in
      nth_is (group_there (nth a m)) j ∙ ap (λ p. part p j) (in_is a m ∙ ap (λ p. group p m) (in_is us n))
  follow_is us (path.Deeper n m j i) =
      let a = group_there (nth us n) in
      let b = group_there (nth a m) in
      nth_is (group_there (nth b j)) i
      ∙ ap (λ p. part p i) (in_is b j ∙ ap (λ p. group p j) (in_is a m ∙ ap (λ p. group p m) (in_is us n)))

  -- the part at the end of a path in a row
  pub followed : (es : List Entry) (to : Path) (o : Option Item) → follow_trees (trees es) to ≡ tree_there o
      → follow (parts_of r es) to ≡ there r (tree_there o)
  followed es to o e =
      ap (λ p. follow p to) (parts_are es) ∙ sym (follow_is (trees es) to) ∙ ap (there r) e

  there_is : (o : Option Item) → there r (tree_there o) ≡ there_in r o
  there_is None = refl
  there_is (Some item) = refl

  -- what stands at the end of a path in a row
  pub found_at : (es : List Entry) (to : Path) (o : Option Item) → follow_trees (trees es) to ≡ tree_there o
      → follow (parts_of r es) to ≡ there_in r o
  found_at es to o e = followed es to o e ∙ there_is o

  -- ---- tokens
  number_of_layer : (f : Cst-F Cst) → number_in (part_of r (roll-Cst f)) ≡ number_by f
  unfolding part_of
  number_of_layer (Cst-F.Leaf at) = rw (fold-roll-Cst (Part (H → List M)) (part_step r) (Cst-F.Leaf at)) refl
  number_of_layer (Cst-F.Node label from to us) =
      rw (fold-roll-Cst (Part (H → List M)) (part_step r) (Cst-F.Node label from to us)) refl
  number_of_layer (Cst-F.Role label u) =
      rw (fold-roll-Cst (Part (H → List M)) (part_step r) (Cst-F.Role label u)) (target_number (part_of r u))
  number_of_layer (Cst-F.Parts us) =
      rw (fold-roll-Cst (Part (H → List M)) (part_step r) (Cst-F.Parts us)) (packed_number (map (part_of r) us))

  pub number_is : (t : Cst) → number_in (part_of r t) ≡ number_of t
  unfolding number_of
  number_is t = ap (λ (u : Cst). number_in (part_of r u)) (sym (roll-out-Cst t)) ∙ number_of_layer (out-Cst t)
