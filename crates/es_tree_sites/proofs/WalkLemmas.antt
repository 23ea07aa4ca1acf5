-- What stands at a place adds, by the way it is taken.
use Rattle.std.specs.Prelude.{ℕ, zero, suc, true, false, List, [], ◌∷◌, ◌++◌, length, map}
use Rattle.std.specs.List.{flat_map}
use Rattle.std.proofs.Common.{◌≡◌, refl, sym, ap, subst, ◌∙◌}
use Rattle.std.proofs.lemmas.List.{append-nil, append_assoc}
use Rattle.es_token.specs.declared.token.Token.{Token}
use Rattle.es_grammar.specs.declared.rows.NodeKind.{NodeKind}
use Rattle.es_grammar.specs.declared.cst.tree.Cst.{Cst}
use Rattle.es_grammar.specs.declared.cst.tree.Cst.TheVariants as vCst
use Rattle.es_syntax.specs.declared.entry.Entry.{Entry}
use Rattle.es_syntax.specs.declared.entry.Lean.{Lean}
use Rattle.es_syntax.specs.declared.entry.Lean.TheVariants as vLean
use Rattle.es_syntax.specs.Held.{label_of}
use Rattle.es_syntax.specs.declared.entry.What.{What}
use Rattle.es_syntax.specs.declared.entry.What.TheVariants as vWhat
use Rattle.es_syntax.specs.Trees.{Kept, first_tree, leant_tree, trees_in, tree_by, trees}
use Rattle.es_site.specs.Sites.{Found}
use Rattle.es_law_sites.specs.plain.Part.{Part, absent, nil, more, token, node, part, found, at, packed, as_target}
use Rattle.es_law_sites.specs.plain.Own.{part_of, plain_sites}
use Rattle.es_law_sites.proofs.plain.Equations.{part_leaf, part_role, part_parts}
use Rattle.es_tree_sites.specs.declared.plan.Way.{Way}
use Rattle.es_tree_sites.specs.declared.plan.Way.TheVariants.{Skip, Tree, In, Either}
use Rattle.es_tree_sites.specs.declared.plan.Group.{Group}
use Rattle.es_tree_sites.specs.declared.plan.Group.TheVariants.{Trees, First, Operands}
use Rattle.es_syntax.specs.declared.cursor.Siblings.{Siblings}
use Rattle.es_tree_sites.specs.declared.source.TokenizedText.{TokenizedText}
use Rattle.es_tree_sites.specs.Parts.{kept, parts_of}
use Rattle.es_tree_sites.specs.Plan.{ways, rest, plan, taken, on, names}
use Rattle.es_tree_sites.specs.Left.{is_parts, named_if}
use Rattle.es_tree_sites.proofs.PartLemmas.{parts_kept, seen_node}
use Rattle.es_tree_sites.proofs.LeanLemmas.{on_lean, leant_sites}
use Rattle.es_tree_sites.proofs.PlanLemmas.{skipped_none, first_is, own_is}

found_target : (v : Part) → found (as_target v) ≡ found v
found_target absent = refl
found_target nil = refl
found_target (more v vs) = refl
found_target (token n) = refl
found_target (node label p s) = refl

found_packed : (vs : List Part) → found (packed vs) ≡ []
found_packed [] = refl
found_packed (v ∷ vs) = refl

taken_target : (ws : List Way) (last : Way) (v : Part) → taken ws last (as_target v) ≡ []
unfolding taken
taken_target ws last absent = refl
taken_target ws last nil = refl
taken_target ws last (more v vs) = refl
taken_target ws last (token n) = refl
taken_target ws last (node label p s) = refl

-- a group names nothing
pub parts_named : (source : TokenizedText) (w : What) (parts : Siblings) → is_parts w ≡ true
    → named_if true source w parts ≡ []
parts_named source vWhat.Leaf parts e = absurd (let bad : ⊥ = cc in bad)
parts_named source (vWhat.Node label) parts e = absurd (let bad : ⊥ = cc in bad)
parts_named source (vWhat.Role label) parts e = absurd (let bad : ⊥ = cc in bad)
parts_named source vWhat.Parts parts e = refl
parts_named source (vWhat.Lean lean) parts e = absurd (let bad : ⊥ = cc in bad)

-- all parts as trees
all_trees : (vs : List Part) → taken [] Tree (packed vs) ≡ flat_map found vs
unfolding taken
all_trees [] = refl
all_trees (v ∷ vs) =
    ap (λ s. (found v ++ s) ++ taken [] Tree (packed vs)) (skipped_none v)
    ∙ ap (λ s. s ++ taken [] Tree (packed vs)) (append-nil (found v))
    ∙ ap (λ s. found v ++ s) (all_trees vs)

module _ (x : List ℕ) (ts : List Token) where
  first_part : (us : List Cst) → found (part_of x ts (first_tree us)) ≡ at (packed (map (part_of x ts) us)) 0
  first_part [] = ap found (part_parts x ts [])
  first_part (u ∷ us) = refl

  -- ---- as a tree
  pub tree_leaf : (at : ℕ) → found (part_of x ts (vCst.Leaf at)) ≡ []
  tree_leaf at = ap found (part_leaf x ts at)

  pub tree_parts : (us : List Cst) → found (part_of x ts (vCst.Parts us)) ≡ []
  tree_parts us = ap found (part_parts x ts us) ∙ found_packed (map (part_of x ts) us)

  pub tree_role : (label : NodeKind) (es : List Entry)
      → found (part_of x ts (vCst.Role label (first_tree (trees_in (kept es)))))
      ≡ taken (ways First (parts_of x ts es)) (rest First) (parts_of x ts es)
  tree_role label es =
      let first = first_tree (trees_in (kept es)) in
      ap found (part_role x ts label first) ∙ found_target (part_of x ts first) ∙ first_part (trees_in (kept es))
      ∙ ap (λ p. at p 0) (sym (parts_kept x ts es)) ∙ sym (first_is (parts_of x ts es))

  pub tree_node : (label : NodeKind) (from to : ℕ) (es : List Entry)
      → found (part_of x ts (vCst.Node label from to (trees_in (kept es))))
      ≡ names x ts label (parts_of x ts es) ++ taken (plan label (parts_of x ts es)) Skip (parts_of x ts es)
  tree_node label from to es =
      ap found (seen_node x ts label from to es) ∙ own_is x ts label (parts_of x ts es)

  pub tree_lean : (lean : Lean) (from : ℕ) (es : List Entry)
      → found (part_of x ts (leant_tree lean from (kept es)))
      ≡ taken (ways (Operands lean) (parts_of x ts es)) (rest (Operands lean)) (parts_of x ts es)
  tree_lean lean from es =
      leant_sites x ts lean from (kept es)
      ∙ ap (λ p. taken (ways (Operands lean) p) (rest (Operands lean)) p) (sym (parts_kept x ts es))

  -- ---- as a group
  pub group_leaf_none : (ws : List Way) (last : Way) (at : ℕ) → taken ws last (part_of x ts (vCst.Leaf at)) ≡ []
  unfolding taken
  group_leaf_none ws last at = ap (taken ws last) (part_leaf x ts at)

  pub group_node_none : (ws : List Way) (last : Way) (label : NodeKind) (from to : ℕ) (es : List Entry)
      → taken ws last (part_of x ts (vCst.Node label from to (trees_in (kept es)))) ≡ []
  unfolding taken
  group_node_none ws last label from to es = ap (taken ws last) (seen_node x ts label from to es)

  pub group_role_none : (ws : List Way) (last : Way) (label : NodeKind) (tree : Cst)
      → taken ws last (part_of x ts (vCst.Role label tree)) ≡ []
  group_role_none ws last label tree =
      ap (taken ws last) (part_role x ts label tree) ∙ taken_target ws last (part_of x ts tree)

  pub group_lean_none : (ws : List Way) (last : Way) (lean : Lean) (from : ℕ) (us : List Kept)
      → taken ws last (part_of x ts (leant_tree lean from us)) ≡ []
  unfolding taken
  group_lean_none ws last lean from us = on_lean x ts (taken ws last) [] lean refl (λ p s. refl) from us

  pub group_parts_is : (es : List Entry) → part_of x ts (vCst.Parts (trees_in (kept es))) ≡ parts_of x ts es
  group_parts_is es = part_parts x ts (trees_in (kept es)) ∙ sym (parts_kept x ts es)

  -- ---- either
  tree_group : (ws : List Way) (last : Way) (w : What) (from to : ℕ) (es : List Entry) → is_parts w ≡ false
      → taken ws last (part_of x ts (tree_by w from to (kept es))) ≡ []
  tree_group ws last vWhat.Leaf from to es e = group_leaf_none ws last from
  tree_group ws last (vWhat.Node label) from to es e = group_node_none ws last label from to es
  tree_group ws last (vWhat.Role label) from to es e = group_role_none ws last label (first_tree (trees_in (kept es)))
  tree_group ws last vWhat.Parts from to es e = absurd (let bad : ⊥ = cc in bad)
  tree_group ws last (vWhat.Lean lean) from to es e = group_lean_none ws last lean from (kept es)

  parts_tree : (w : What) (from to : ℕ) (es : List Entry) → is_parts w ≡ true
      → found (part_of x ts (tree_by w from to (kept es))) ≡ []
  parts_tree vWhat.Leaf from to es e = absurd (let bad : ⊥ = cc in bad)
  parts_tree (vWhat.Node label) from to es e = absurd (let bad : ⊥ = cc in bad)
  parts_tree (vWhat.Role label) from to es e = absurd (let bad : ⊥ = cc in bad)
  parts_tree vWhat.Parts from to es e = tree_parts (trees_in (kept es))
  parts_tree (vWhat.Lean lean) from to es e = absurd (let bad : ⊥ = cc in bad)

  -- a tree, as it is or where it may be a group
  pub either_tree : (g : Group) (w : What) (from to : ℕ) (es : List Entry) (s : Found) → is_parts w ≡ false
      → found (part_of x ts (tree_by w from to (kept es))) ≡ s
      → on (Either g) (part_of x ts (tree_by w from to (kept es))) ≡ s
  either_tree g w from to es s e is =
      let v = part_of x ts (tree_by w from to (kept es)) in
      ap (λ k. found v ++ k) (tree_group (ways g v) (rest g) w from to es e) ∙ append-nil (found v) ∙ is

  pub either_parts : (g : Group) (w : What) (from to : ℕ) (es : List Entry) (s : Found) → is_parts w ≡ true
      → taken (ways g (part_of x ts (tree_by w from to (kept es)))) (rest g)
      (part_of x ts (tree_by w from to (kept es)))
      ≡ s
      → on (Either g) (part_of x ts (tree_by w from to (kept es))) ≡ s
  either_parts g w from to es s e is =
      let v = part_of x ts (tree_by w from to (kept es)) in
      ap (λ k. k ++ taken (ways g v) (rest g) v) (parts_tree w from to es e) ∙ is

  -- ---- all trees of a row
  pub row_sites : (es : List Entry) → taken [] Tree (parts_of x ts es) ≡ flat_map (plain_sites x ts) (trees es)
  unfolding parts_of
  row_sites es = all_trees (map (part_of x ts) (trees es)) ∙ go (trees es)
    where
      go : (us : List Cst) → flat_map found (map (part_of x ts) us) ≡ flat_map (plain_sites x ts) us
      go [] = refl
      go (u ∷ us) = ap (λ s. plain_sites x ts u ++ s) (go us)

  pub all_sites : (es : List Entry)
      → taken (ways Trees (parts_of x ts es)) (rest Trees) (parts_of x ts es) ≡ flat_map (plain_sites x ts) (trees es)
  unfolding ways
  all_sites es = row_sites es
