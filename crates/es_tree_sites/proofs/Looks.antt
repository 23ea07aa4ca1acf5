-- What is told of a node by its alternative, and of what is no node of one that is looked for.
use Rattle.std.specs.Prelude.{ℕ, Bool, true, false, List, [], ◌∷◌, Option, Some, None, map, slice_get}
use Rattle.std.proofs.Common.{◌≡◌, refl, sym, ap, ◌∙◌}
use Rattle.es_ast.specs.declared.ts.leaf.Str.{Str}
use Rattle.es_token.specs.declared.token.Token.{Token}
use Rattle.es_grammar.specs.declared.rows.NodeKind.{NodeKind}
use Rattle.es_grammar.specs.declared.rows.NodeKind.TheVariants as l
use Rattle.es_grammar.specs.declared.cst.tree.Cst.{Cst}
use Rattle.es_grammar.specs.declared.cst.tree.Cst.TheVariants as vCst
use Rattle.es_syntax.specs.declared.entry.Lean.{Lean}
use Rattle.es_syntax.specs.Trees.{Kept, leant_tree}
use Rattle.es_site.specs.declared.site.Attribute.{Attribute}
use Rattle.es_site.specs.declared.site.Attribute.TheVariants.{Absent, Unknown}
use Rattle.es_site.specs.Sites.{Found}
use Rattle.es_law_sites.specs.plain.Part.{Part, absent, nil, more, token, node, packed, as_target}
use Rattle.es_law_sites.specs.plain.Own.{own, made, part_of, token_in, clause_attribute, src_by, src_in, is_word_key, key_says, is_plain, given_in, with_by, with_in, options_by, options_of}
use Rattle.es_law_sites.proofs.plain.Equations.{part_leaf, part_node, part_role, part_parts}
use Rattle.es_tree_sites.specs.Parts.{IsOther}
use Rattle.es_tree_sites.specs.Given.{is_word_label, clause_by, key_by, plain_by, given_by}
use Rattle.es_tree_sites.proofs.LeanLemmas.{on_lean}

target_token : (ts : List Token) (x : List ℕ) (v : Part) → token_in x ts (as_target v) ≡ None
target_token ts x absent = refl
target_token ts x nil = refl
target_token ts x (more v vs) = refl
target_token ts x (token n) = refl
target_token ts x (node label p s) = refl

packed_token : (ts : List Token) (x : List ℕ) (vs : List Part) → token_in x ts (packed vs) ≡ None
packed_token ts x [] = refl
packed_token ts x (v ∷ vs) = refl

module _ (x : List ℕ) (ts : List Token) where
  -- ---- tokens
  pub token_leaf : (at : ℕ) → token_in x ts (part_of x ts (vCst.Leaf at)) ≡ slice_get ts at
  token_leaf at = ap (token_in x ts) (part_leaf x ts at)

  pub token_node : (label : NodeKind) (from to : ℕ) (us : List Cst)
      → token_in x ts (part_of x ts (vCst.Node label from to us)) ≡ None
  token_node label from to us = ap (token_in x ts) (part_node x ts label from to us)

  pub token_role : (label : NodeKind) (tree : Cst) → token_in x ts (part_of x ts (vCst.Role label tree)) ≡ None
  token_role label tree = ap (token_in x ts) (part_role x ts label tree) ∙ target_token ts x (part_of x ts tree)

  pub token_parts : (us : List Cst) → token_in x ts (part_of x ts (vCst.Parts us)) ≡ None
  token_parts us = ap (token_in x ts) (part_parts x ts us) ∙ packed_token ts x (map (part_of x ts) us)

  pub token_lean : (lean : Lean) (from : ℕ) (us : List Kept)
      → token_in x ts (part_of x ts (leant_tree lean from us)) ≡ None
  token_lean lean from us = on_lean x ts (token_in x ts) None lean refl (λ p s. refl) from us

  -- ---- clause
  clause_label : (label : NodeKind) (p : Part) (s : Found)
      → clause_attribute x ts (node label p s) ≡ clause_by x ts label p
  clause_label l.Attributes p s = refl
  clause_label _ p s = refl

  pub clause_node : (v : Part) (label : NodeKind) (p : Part) → v ≡ made x ts label p
      → clause_by x ts label p ≡ clause_attribute x ts v
  clause_node v label p e = sym (ap (λ v. clause_attribute x ts v) e ∙ clause_label label p (own x ts label p))

  pub clause_other : (v : Part) → IsOther v → Absent ≡ clause_attribute x ts v
  clause_other absent other = refl
  clause_other nil other = refl
  clause_other (more v vs) other = refl
  clause_other (token n) other = refl
  clause_other (node l.Attributes p s) other = absurd (let bad : ⊥ = cc in bad)
  clause_other (node _ p s) other = refl

  -- ---- src
  src_label : (label : NodeKind) (p : Part) (s : Found)
      → src_in x ts (node label p s) ≡ src_by x ts label p
  src_label label p s = refl

  pub src_node : (v : Part) (label : NodeKind) (p : Part) → v ≡ made x ts label p
      → src_by x ts label p ≡ src_in x ts v
  src_node v label p e = sym (ap (λ v. src_in x ts v) e ∙ src_label label p (own x ts label p))

  pub src_other : (v : Part) → IsOther v → None ≡ src_in x ts v
  src_other absent other = refl
  src_other nil other = refl
  src_other (more v vs) other = refl
  src_other (token n) other = refl
  src_other (node l.Str p s) other = absurd (let bad : ⊥ = cc in bad)
  src_other (node _ p s) other = refl

  -- ---- word key
  word_key_label : (label : NodeKind) (p : Part) (s : Found)
      → is_word_key x ts (node label p s) ≡ is_word_label label
  word_key_label l.WordKey p s = refl
  word_key_label l.StrKey p s = refl
  word_key_label _ p s = refl

  pub word_key_node : (v : Part) (label : NodeKind) (p : Part) → v ≡ made x ts label p
      → is_word_label label ≡ is_word_key x ts v
  word_key_node v label p e = sym (ap (λ v. is_word_key x ts v) e ∙ word_key_label label p (own x ts label p))

  pub word_key_other : (v : Part) → IsOther v → false ≡ is_word_key x ts v
  word_key_other absent other = refl
  word_key_other nil other = refl
  word_key_other (more v vs) other = refl
  word_key_other (token n) other = refl
  word_key_other (node l.WordKey p s) other = absurd (let bad : ⊥ = cc in bad)
  word_key_other (node l.StrKey p s) other = absurd (let bad : ⊥ = cc in bad)
  word_key_other (node _ p s) other = refl

  -- ---- key
  key_label : (word : List ℕ) (label : NodeKind) (p : Part) (s : Found)
      → key_says x ts word (node label p s) ≡ key_by x ts word label p
  key_label word l.WordKey p s = refl
  key_label word l.StrKey p s = refl
  key_label word _ p s = refl

  pub key_node : (word : List ℕ) (v : Part) (label : NodeKind) (p : Part) → v ≡ made x ts label p
      → key_by x ts word label p ≡ key_says x ts word v
  key_node word v label p e = sym (ap (λ v. key_says x ts word v) e ∙ key_label word label p (own x ts label p))

  pub key_other : (word : List ℕ) (v : Part) → IsOther v → false ≡ key_says x ts word v
  key_other word absent other = refl
  key_other word nil other = refl
  key_other word (more v vs) other = refl
  key_other word (token n) other = refl
  key_other word (node l.WordKey p s) other = absurd (let bad : ⊥ = cc in bad)
  key_other word (node l.StrKey p s) other = absurd (let bad : ⊥ = cc in bad)
  key_other word (node _ p s) other = refl

  -- ---- plain
  plain_label : (label : NodeKind) (p : Part) (s : Found)
      → is_plain x ts (node label p s) ≡ plain_by x ts label p
  plain_label l.KeyValue p s = refl
  plain_label _ p s = refl

  pub plain_node : (v : Part) (label : NodeKind) (p : Part) → v ≡ made x ts label p
      → plain_by x ts label p ≡ is_plain x ts v
  plain_node v label p e = sym (ap (λ v. is_plain x ts v) e ∙ plain_label label p (own x ts label p))

  pub plain_other : (v : Part) → IsOther v → false ≡ is_plain x ts v
  plain_other absent other = refl
  plain_other nil other = refl
  plain_other (more v vs) other = refl
  plain_other (token n) other = refl
  plain_other (node l.KeyValue p s) other = absurd (let bad : ⊥ = cc in bad)
  plain_other (node _ p s) other = refl

  -- ---- given
  given_label : (word : List ℕ) (last : Option Part) (label : NodeKind) (p : Part) (s : Found)
      → given_in x ts word (node label p s) last ≡ given_by x ts word label p last
  given_label word last l.KeyValue p s = refl
  given_label word last _ p s = refl

  pub given_node : (word : List ℕ) (last : Option Part) (v : Part) (label : NodeKind) (p : Part) → v ≡ made x ts label p
      → given_by x ts word label p last ≡ given_in x ts word v last
  given_node word last v label p e =
      sym (ap (λ v. given_in x ts word v last) e ∙ given_label word last label p (own x ts label p))

  pub given_other : (word : List ℕ) (last : Option Part) (v : Part) → IsOther v → last ≡ given_in x ts word v last
  given_other word last absent other = refl
  given_other word last nil other = refl
  given_other word last (more v vs) other = refl
  given_other word last (token n) other = refl
  given_other word last (node l.KeyValue p s) other = absurd (let bad : ⊥ = cc in bad)
  given_other word last (node _ p s) other = refl

  -- ---- with
  with_label : (label : NodeKind) (p : Part) (s : Found)
      → with_in x ts (Some (node label p s)) ≡ with_by x ts label p
  with_label label p s = refl

  pub with_node : (v : Part) (label : NodeKind) (p : Part) → v ≡ made x ts label p
      → with_by x ts label p ≡ with_in x ts (Some v)
  with_node v label p e = sym (ap (λ v. with_in x ts (Some v)) e ∙ with_label label p (own x ts label p))

  pub with_other : (v : Part) → IsOther v → Unknown ≡ with_in x ts (Some v)
  with_other absent other = refl
  with_other nil other = refl
  with_other (more v vs) other = refl
  with_other (token n) other = refl
  with_other (node l.ObjectLiteral p s) other = absurd (let bad : ⊥ = cc in bad)
  with_other (node _ p s) other = refl

  -- ---- options
  options_label : (label : NodeKind) (p : Part) (s : Found)
      → options_of x ts (node label p s) ≡ options_by x ts label p
  options_label label p s = refl

  pub options_node : (v : Part) (label : NodeKind) (p : Part) → v ≡ made x ts label p
      → options_by x ts label p ≡ options_of x ts v
  options_node v label p e = sym (ap (λ v. options_of x ts v) e ∙ options_label label p (own x ts label p))

  pub options_other : (v : Part) → IsOther v → Unknown ≡ options_of x ts v
  options_other absent other = refl
  options_other nil other = refl
  options_other (more v vs) other = refl
  options_other (token n) other = refl
  options_other (node l.ObjectLiteral p s) other = absurd (let bad : ⊥ = cc in bad)
  options_other (node _ p s) other = refl
