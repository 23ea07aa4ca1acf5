-- Nodes that lean left, over a first operand and turns.
use Rattle.std.specs.Prelude.{ℕ, List, [], ◌∷◌, ◌++◌, map}
use Rattle.std.proofs.Common.{◌≡◌, refl, sym, ap, ◌∙◌}
use Rattle.std.proofs.lemmas.List.{append-nil, append_assoc}
use Rattle.es_token.specs.declared.token.Token.{Token}
use Rattle.es_grammar.specs.declared.cst.tree.Cst.{Cst, roll-Cst, out-Cst, roll-out-Cst}
use Rattle.es_grammar.specs.declared.cst.tree.Cst.TheVariants as vCst
use Rattle.es_grammar.specs.declared.cst.tree.Cst.TheOpen.{Cst-F}
use Rattle.es_grammar.specs.declared.cst.tree.Cst.TheFolds.{fold-roll-Cst}
use Rattle.es_syntax.specs.declared.entry.Lean.{Lean}
use Rattle.es_syntax.specs.declared.entry.Lean.TheVariants as vLean
use Rattle.es_syntax.specs.Held.{label_of}
use Rattle.es_syntax.specs.Trees.{Kept, turn_parts, leaning_tree, leaned_tree, leant_tree, trees_in}
use Rattle.es_site.specs.Sites.{Found}
use Rattle.es_law_sites.specs.plain.Part.{Part, absent, nil, more, token, node, part, as_group, group, found, at, packed, as_target}
use Rattle.es_law_sites.specs.plain.Own.{own, operand as lone, part_step, part_of}
use Rattle.es_law_sites.proofs.plain.Equations.{part_node, part_parts}
use Rattle.es_tree_sites.specs.declared.plan.Way.{Way}
use Rattle.es_tree_sites.specs.declared.plan.Way.TheVariants.{In}
use Rattle.es_tree_sites.specs.declared.plan.Group.TheVariants.{Second, Operands, Operand}
use Rattle.es_tree_sites.specs.Plan.{is_single, ways, rest, taken, on}
use Rattle.es_tree_sites.proofs.PlanLemmas.{skipped_none, second_is, operand_in}

-- the way of the operand in a turn
abbrev operand : Lean → Way
operand lean = rest (Operands lean)

second_in : (g : Part) → on (In Second) g ≡ at (as_group g) 1
unfolding taken
second_in absent = refl
second_in nil = refl
second_in (more v vs) = second_is (more v vs)
second_in (token n) = refl
second_in (node label p s) = refl

operand_in_turn : (g : Part) → on (In Operand) g ≡ at (group (as_group g) 0) 1
unfolding taken
operand_in_turn absent = refl
operand_in_turn nil = refl
operand_in_turn (more v vs) = operand_in (more v vs)
operand_in_turn (token n) = refl
operand_in_turn (node label p s) = refl

operand_is : (x : List ℕ) (ts : List Token) (g v : Part) → part g 1 ≡ v → lone x ts g v ≡ at g 1
operand_is x ts g absent is = refl
operand_is x ts g nil is = refl
operand_is x ts g (more v vs) is = sym (ap found is)
operand_is x ts g (token n) is = refl
operand_is x ts g (node label p s) is = refl

same_group : (vs : List Part) → packed vs ≡ as_group (packed vs)
same_group [] = refl
same_group (v ∷ vs) = refl

target_group : (v : Part) → nil ≡ as_group (as_target v)
target_group absent = refl
target_group nil = refl
target_group (more v vs) = refl
target_group (token n) = refl
target_group (node label p s) = refl

module _ (x : List ℕ) (ts : List Token) where
  -- what is told of a node that leans left, is told of all of these
  on_leaned : {A : Type 0} (f : Part → A) (a : A) (lean : Lean)
      → ((p : Part) (s : Found) → f (node (label_of lean) p s) ≡ a)
      → (from : ℕ) (t : Cst) (us : List Kept) → f (part_of x ts t) ≡ a
      → f (part_of x ts (leaned_tree lean from t us)) ≡ a
  unfolding leaned_tree
  on_leaned f a lean one from t [] e = e
  on_leaned f a lean one from t (u ∷ us) e =
      on_leaned f a lean one from (leaning_tree lean from t u) us
      (ap f (part_node x ts (label_of lean) from u.0 (t ∷ turn_parts (out-Cst u.1))) ∙ one _ _)

  pub on_lean : {A : Type 0} (f : Part → A) (a : A) (lean : Lean) → f nil ≡ a
      → ((p : Part) (s : Found) → f (node (label_of lean) p s) ≡ a)
      → (from : ℕ) (us : List Kept) → f (part_of x ts (leant_tree lean from us)) ≡ a
  on_lean f a lean none one from [] = ap f (part_parts x ts []) ∙ none
  on_lean f a lean none one from (u ∷ []) = ap f (part_parts x ts []) ∙ none
  on_lean f a lean none one from (t ∷ u ∷ us) =
      on_leaned f a lean one from (leaning_tree lean from t.1 u) us
      (ap f (part_node x ts (label_of lean) from u.0 (t.1 ∷ turn_parts (out-Cst u.1))) ∙ one _ _)

  -- the parts of a turn
  turn_part_of : (f : Cst-F Cst)
      → packed (map (part_of x ts) (turn_parts f)) ≡ as_group (part_of x ts (roll-Cst f))
  unfolding part_of
  turn_part_of (Cst-F.Leaf at) = rw (fold-roll-Cst Part (part_step x ts) (Cst-F.Leaf at)) refl
  turn_part_of (Cst-F.Node label from to us) =
      rw (fold-roll-Cst Part (part_step x ts) (Cst-F.Node label from to us)) refl
  turn_part_of (Cst-F.Role label u) =
      rw (fold-roll-Cst Part (part_step x ts) (Cst-F.Role label u)) (target_group (part_of x ts u))
  turn_part_of (Cst-F.Parts us) =
      rw (fold-roll-Cst Part (part_step x ts) (Cst-F.Parts us)) (same_group (map (part_of x ts) us))

  turn_part : (u : Cst) → packed (map (part_of x ts) (turn_parts (out-Cst u))) ≡ as_group (part_of x ts u)
  turn_part u = turn_part_of (out-Cst u) ∙ ap (λ (t : Cst). as_group (part_of x ts t)) (roll-out-Cst u)

  -- the sites of a node over what stands before a turn
  own_lean : (lean : Lean) (v g : Part)
      → own x ts (label_of lean) (more v (as_group g)) ≡ found v ++ on (operand lean) g
  own_lean vLean.Binary v g = ap (λ s. found v ++ s) (sym (second_in g))
  own_lean vLean.TypedBinary v g =
      ap (λ s. found v ++ s)
      (operand_is x ts (group (as_group g) 0) (part (group (as_group g) 0) 1) refl ∙ sym (operand_in_turn g))

  leaning_sites : (lean : Lean) (from : ℕ) (t : Cst) (u : Kept)
      → found (part_of x ts (leaning_tree lean from t u))
      ≡ found (part_of x ts t) ++ on (operand lean) (part_of x ts u.1)
  leaning_sites lean from t u =
      ap found (part_node x ts (label_of lean) from u.0 (t ∷ turn_parts (out-Cst u.1)))
      ∙ ap (λ g. own x ts (label_of lean) (more (part_of x ts t) g)) (turn_part u.1)
      ∙ own_lean lean (part_of x ts t) (part_of x ts u.1)

  leaned_sites : (lean : Lean) (from : ℕ) (t : Cst) (us : List Kept)
      → found (part_of x ts (leaned_tree lean from t us))
      ≡ found (part_of x ts t) ++ taken [] (operand lean) (packed (map (part_of x ts) (trees_in us)))
  unfolding leaned_tree taken
  leaned_sites lean from t [] = sym (append-nil (found (part_of x ts t)))
  leaned_sites lean from t (u ∷ us) =
      let rest = taken [] (operand lean) (packed (map (part_of x ts) (trees_in us))) in
      leaned_sites lean from (leaning_tree lean from t u) us
      ∙ ap (λ s. s ++ rest) (leaning_sites lean from t u)
      ∙ append_assoc (found (part_of x ts t)) (on (operand lean) (part_of x ts u.1)) rest

  -- the sites of nodes that lean left are those of the first operand, and of that in each turn
  pub leant_sites : (lean : Lean) (from : ℕ) (us : List Kept)
      → found (part_of x ts (leant_tree lean from us))
      ≡ taken (ways (Operands lean) (packed (map (part_of x ts) (trees_in us)))) (rest (Operands lean))
      (packed (map (part_of x ts) (trees_in us)))
  unfolding leaned_tree ways taken is_single
  leant_sites lean from [] = ap found (part_parts x ts [])
  leant_sites lean from (u ∷ []) =
      ap found (part_parts x ts []) ∙ sym (ap (λ s. s ++ []) (skipped_none (part_of x ts u.1)))
  leant_sites lean from (t ∷ u ∷ us) =
      let turns = packed (map (part_of x ts) (trees_in (u ∷ us))) in
      leaned_sites lean from t.1 (u ∷ us)
      ∙ ap (λ s. s ++ taken [] (operand lean) turns)
      (sym (ap (λ s. found (part_of x ts t.1) ++ s) (skipped_none (part_of x ts t.1))
      ∙ append-nil (found (part_of x ts t.1))))
