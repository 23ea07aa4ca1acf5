-- Which part is a token.
use Rattle.std.specs.Prelude.{ℕ, true, false, List, [], ◌∷◌, map}
use Rattle.std.proofs.Common.{◌≡◌, refl, ap, ◌∙◌}
use Rattle.es_token.specs.declared.token.Token.{Token}
use Rattle.es_grammar.specs.declared.rows.NodeKind.{NodeKind}
use Rattle.es_grammar.specs.declared.cst.tree.Cst.{Cst}
use Rattle.es_grammar.specs.declared.cst.tree.Cst.TheVariants as vCst
use Rattle.es_syntax.specs.declared.entry.Lean.{Lean}
use Rattle.es_syntax.specs.Trees.{Kept, leant_tree}
use Rattle.es_law_sites.specs.plain.Part.{Part, absent, nil, more, token, node, packed, as_target}
use Rattle.es_law_sites.specs.plain.Own.{part_of}
use Rattle.es_law_sites.proofs.plain.Equations.{part_leaf, part_node, part_role, part_parts}
use Rattle.es_tree_sites.specs.Plan.{is_token}
use Rattle.es_tree_sites.proofs.LeanLemmas.{on_lean}

module _ (x : List ℕ) (ts : List Token) where
  -- ---- a token
  token_target : (v : Part) → is_token (as_target v) ≡ false
  unfolding is_token
  token_target absent = refl
  token_target nil = refl
  token_target (more v vs) = refl
  token_target (token n) = refl
  token_target (node label p s) = refl

  token_packed : (vs : List Part) → is_token (packed vs) ≡ false
  unfolding is_token
  token_packed [] = refl
  token_packed (v ∷ vs) = refl

  pub token_leaf : (at : ℕ) → is_token (part_of x ts (vCst.Leaf at)) ≡ true
  unfolding is_token
  token_leaf at = ap is_token (part_leaf x ts at)

  pub token_node : (label : NodeKind) (from to : ℕ) (parts : List Cst)
      → is_token (part_of x ts (vCst.Node label from to parts)) ≡ false
  unfolding is_token
  token_node label from to parts = ap is_token (part_node x ts label from to parts)

  pub token_role : (label : NodeKind) (tree : Cst) → is_token (part_of x ts (vCst.Role label tree)) ≡ false
  token_role label tree = ap is_token (part_role x ts label tree) ∙ token_target (part_of x ts tree)

  pub token_parts : (us : List Cst) → is_token (part_of x ts (vCst.Parts us)) ≡ false
  token_parts us = ap is_token (part_parts x ts us) ∙ token_packed (map (part_of x ts) us)

  pub token_lean : (lean : Lean) (from : ℕ) (us : List Kept) → is_token (part_of x ts (leant_tree lean from us)) ≡ false
  unfolding is_token
  token_lean lean from us = on_lean x ts is_token false lean refl (λ p s. refl) from us
