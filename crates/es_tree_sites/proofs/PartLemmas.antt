-- The parts of a node, a group or a list, and what they are.
use Rattle.std.specs.Prelude.{ℕ, Bool, true, List, [], ◌∷◌, Option, Some, None, map}
use Rattle.std.proofs.Common.{◌≡◌, refl, sym, ap, subst, ◌∙◌}
use Rattle.es_token.specs.declared.token.Token.{Token}
use Rattle.es_grammar.specs.declared.rows.NodeKind.{NodeKind}
use Rattle.es_grammar.specs.declared.cst.tree.Cst.{Cst}
use Rattle.es_grammar.specs.declared.cst.tree.Cst.TheVariants as vCst
use Rattle.es_syntax.specs.declared.entry.Entry.{Entry}
use Rattle.es_syntax.specs.declared.entry.Lean.{Lean}
use Rattle.es_syntax.specs.declared.entry.Lean.TheVariants as vLean
use Rattle.es_syntax.specs.declared.cursor.Siblings.{Siblings}
use Rattle.es_syntax.specs.declared.cursor.Item.{Item}
use Rattle.es_syntax.specs.Held.{label_of}
use Rattle.es_syntax.specs.Trees.{Kept, leant_tree, trees_in, trees}
use Rattle.es_law_sites.specs.plain.Part.{Part, absent, nil, more, token, node, part, as_group, packed, as_target}
use Rattle.es_law_sites.specs.plain.Own.{made, part_of}
use Rattle.es_law_sites.proofs.plain.Equations.{part_leaf, part_node, part_role, part_parts}
use Rattle.es_tree_sites.specs.declared.source.TokenizedText.{TokenizedText}
use Rattle.es_tree_sites.specs.Parts.{kept, first_trees, parts_of, parts_in, first_in, is_other, IsOther, Seen}
use Rattle.es_tree_sites.proofs.RowLemmas.{trees_kept, trees_none}
use Rattle.es_tree_sites.proofs.LeanLemmas.{on_lean}

-- the first part, and those behind it
pub split_parts : (source : TokenizedText) (es : List Entry) (r : Option (Item × Siblings)) → trees es ≡ first_trees r
    → parts_of source.text.now source.tokens.now es ≡ first_in source r
unfolding parts_of
split_parts source es None e = ap (λ ts. packed (map (part_of source.text.now source.tokens.now) ts)) e
split_parts source es (Some p) e = ap (λ ts. packed (map (part_of source.text.now source.tokens.now) ts)) e

target_group : (v : Part) → nil ≡ as_group (as_target v)
target_group absent = refl
target_group nil = refl
target_group (more v vs) = refl
target_group (token n) = refl
target_group (node label p s) = refl

group_packed : (vs : List Part) → packed vs ≡ as_group (packed vs)
group_packed [] = refl
group_packed (v ∷ vs) = refl

other_target : (v : Part) → IsOther (as_target v)
other_target absent = tt
other_target nil = tt
other_target (more v vs) = tt
other_target (token n) = tt
other_target (node label p s) = refl

other_packed : (vs : List Part) → IsOther (packed vs)
other_packed [] = tt
other_packed (v ∷ vs) = tt

other_lean : (lean : Lean) → is_other (label_of lean) ≡ true
other_lean vLean.Binary = refl
other_lean vLean.TypedBinary = refl

-- the same as a truth
other : Part → Bool
other (node label p s) = is_other label
other _ = true

other_by : (v : Part) → other v ≡ true → IsOther v
unfolding other
other_by absent e = tt
other_by nil e = tt
other_by (more v vs) e = tt
other_by (token n) e = tt
other_by (node label p s) e = e

module _ (x : List ℕ) (ts : List Token) where
  pub parts_kept : (es : List Entry) → parts_of x ts es ≡ packed (map (part_of x ts) (trees_in (kept es)))
  unfolding parts_of
  parts_kept es = ap (λ us. packed (map (part_of x ts) us)) (trees_kept es)

  pub parts_none : parts_of x ts [] ≡ nil
  unfolding parts_of
  parts_none = ap (λ us. packed (map (part_of x ts) us)) (trees_none [] refl)

  -- ---- groups
  pub group_parts : (es : List Entry)
      → parts_of x ts es ≡ as_group (part_of x ts (vCst.Parts (trees_in (kept es))))
  group_parts es =
      parts_kept es ∙ group_packed (map (part_of x ts) (trees_in (kept es)))
      ∙ sym (ap as_group (part_parts x ts (trees_in (kept es))))

  pub group_leaf : (at : ℕ) → parts_of x ts [] ≡ as_group (part_of x ts (vCst.Leaf at))
  group_leaf at = parts_none ∙ sym (ap as_group (part_leaf x ts at))

  pub group_node : (label : NodeKind) (from to : ℕ) (us : List Cst)
      → parts_of x ts [] ≡ as_group (part_of x ts (vCst.Node label from to us))
  group_node label from to us = parts_none ∙ sym (ap as_group (part_node x ts label from to us))

  pub group_role : (label : NodeKind) (tree : Cst) → parts_of x ts [] ≡ as_group (part_of x ts (vCst.Role label tree))
  group_role label tree =
      parts_none ∙ target_group (part_of x ts tree) ∙ sym (ap as_group (part_role x ts label tree))

  pub group_lean : (lean : Lean) (from : ℕ) (us : List Kept)
      → parts_of x ts [] ≡ as_group (part_of x ts (leant_tree lean from us))
  group_lean lean from us =
      parts_none ∙ sym (on_lean x ts as_group nil lean refl (λ p s. refl) from us)

  -- ---- nodes
  pub seen_node : (label : NodeKind) (from to : ℕ) (es : List Entry)
      → part_of x ts (vCst.Node label from to (trees_in (kept es))) ≡ made x ts label (parts_of x ts es)
  seen_node label from to es =
      part_node x ts label from to (trees_in (kept es)) ∙ ap (made x ts label) (sym (parts_kept es))

  pub seen_leaf : (at : ℕ) → IsOther (part_of x ts (vCst.Leaf at))
  seen_leaf at = subst IsOther (sym (part_leaf x ts at)) tt

  pub seen_role : (label : NodeKind) (tree : Cst) → IsOther (part_of x ts (vCst.Role label tree))
  seen_role label tree = subst IsOther (sym (part_role x ts label tree)) (other_target (part_of x ts tree))

  pub seen_parts : (us : List Cst) → IsOther (part_of x ts (vCst.Parts us))
  seen_parts us = subst IsOther (sym (part_parts x ts us)) (other_packed (map (part_of x ts) us))

  pub seen_lean : (lean : Lean) (from : ℕ) (us : List Kept) → IsOther (part_of x ts (leant_tree lean from us))
  unfolding other
  seen_lean lean from us = other_by _ (on_lean x ts other true lean refl (λ p s. other_lean lean) from us)
