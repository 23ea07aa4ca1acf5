-- What a row of entries holds, by its first entry; and the kept trees of it.
use Rattle.std.specs.Prelude.{None, Option, Some, option_map}
use Rattle.std.proofs.Common.{◌≡◌, ℕ, zero, suc, ◌+◌, ◌≤◌, ◌<◌, ◌-◌, List, [], ◌∷◌, length, take, drop, refl, arith, length-drop, min, map, ap, sym, ◌∙◌}
use Rattle.std.proofs.lemmas.List.{length-take, take_min, drop_min}
use Rattle.es_token.specs.declared.token.Token.{Token}
use Rattle.es_grammar.specs.declared.cst.tree.Cst.{Cst, roll-Cst, out-Cst, roll-out-Cst}
use Rattle.es_grammar.specs.declared.cst.tree.Cst.TheVariants as vCst
use Rattle.es_grammar.specs.declared.cst.tree.Cst.TheOpen.{Cst-F}
use Rattle.es_grammar.specs.declared.cst.tree.Cst.TheFolds.{fold-roll-Cst}
use Rattle.es_grammar.specs.declared.rows.NodeKind.{NodeKind}
use Rattle.es_lowering.specs.Value.{Value, absent, nil, more, token, node, part, as_group, typed}
use Rattle.es_lowering.specs.Texts.{token_of, span_of}
use Rattle.es_lowering.specs.Lowering.{packed, value_step, value_of, as_target, build}
use Rattle.es_lowering.proofs.Equations.{value_leaf, value_node, value_role, value_parts}
use Rattle.es_syntax.specs.declared.entry.Lean.{Lean}
use Rattle.es_syntax.specs.declared.entry.What.{What}
use Rattle.es_syntax.specs.declared.entry.What.TheVariants as vWhat
use Rattle.es_syntax.specs.declared.entry.Entry.{Entry}
use Rattle.es_syntax.specs.Held.{label_of, Held, leaning, leaned, leant, made, row_of, read, parts_of, held}
use Rattle.es_syntax.specs.Trees.{Kept, first_tree, turn_parts, leaning_tree, leaned_tree, leant_tree, trees_in, tree_by, kept_by, trees}

module _ (x : List ℕ) (ts : List Token) where
  -- further steps read nothing else
  pub read_same : (n m : ℕ) (es : List Entry) → length es ≤ n → length es ≤ m → read x ts n es ≡ read x ts m es
  read_same zero zero es p q = refl
  read_same zero (suc m) [] p q = refl
  read_same zero (suc m) (e ∷ es) p q = absurd (omega arith)
  read_same (suc n) zero [] p q = refl
  read_same (suc n) zero (e ∷ es) p q = absurd (omega arith)
  read_same (suc n) (suc m) [] p q = refl
  read_same (suc n) (suc m) (e ∷ es) p q =
      let a = read_same n m (take e.size es) (omega (arith, length-take {A = Entry}))
      (omega (arith, length-take {A = Entry})) in
      let b = read_same n m (drop e.size es) (omega (arith, length-drop {A = Entry}))
      (omega (arith, length-drop {A = Entry})) in
      cc

  -- no entries hold nothing
  pub parts_none : (es : List Entry) → length es ≡ 0 → parts_of x ts es ≡ []
  unfolding parts_of
  parts_none [] e = refl
  parts_none (y ∷ es) e = absurd (omega arith)

  pub held_none : (es : List Entry) → length es ≡ 0 → held x ts es ≡ nil
  unfolding held
  held_none es e = rw (parts_none es e) refl

  pub held_nothing : held x ts [] ≡ nil
  held_nothing = held_none [] refl

  -- what a row holds is a group
  group_row : (ps : List Held) → as_group (row_of x ts ps) ≡ row_of x ts ps
  group_row [] = refl
  group_row (p ∷ ps) = refl

  pub held_group : (es : List Entry) → as_group (held x ts es) ≡ held x ts es
  unfolding held
  held_group es = group_row (parts_of x ts es)

  -- one in another role is no group
  pub group_role : (v : Value) → as_group (as_target x ts v) ≡ nil
  group_role absent = refl
  group_role nil = refl
  group_role (more v vs) = refl
  group_role (token n) = refl
  group_role (node from to m) = refl

  -- nodes that lean left are no group
  group_leaned : (lean : Lean) (from : ℕ) (v : Value) (ps : List Held) → as_group v ≡ nil
      → as_group (leaned x ts lean from v ps) ≡ nil
  unfolding leaned
  group_leaned lean from v [] e = e
  group_leaned lean from v (p ∷ ps) e = group_leaned lean from (leaning x ts lean from v p) ps refl

  pub group_leant : (lean : Lean) (from : ℕ) (ps : List Held) → as_group (leant x ts lean from ps) ≡ nil
  group_leant lean from [] = refl
  group_leant lean from (p ∷ []) = refl
  group_leant lean from (p ∷ q ∷ ps) = group_leaned lean from (leaning x ts lean from p.1 q) ps refl

  -- one in another role is no token, nor is what a row holds, nor nodes that lean left
  pub token_role : (v : Value) → token_of ts (as_target x ts v) ≡ None
  token_role absent = refl
  token_role nil = refl
  token_role (more v vs) = refl
  token_role (token n) = refl
  token_role (node from to m) = refl

  token_row : (ps : List Held) → token_of ts (row_of x ts ps) ≡ None
  token_row [] = refl
  token_row (p ∷ ps) = refl

  pub token_held : (es : List Entry) → token_of ts (held x ts es) ≡ None
  unfolding held
  token_held es = token_row (parts_of x ts es)

  token_leaned : (lean : Lean) (from : ℕ) (v : Value) (ps : List Held) → token_of ts v ≡ None
      → token_of ts (leaned x ts lean from v ps) ≡ None
  unfolding leaned
  token_leaned lean from v [] e = e
  token_leaned lean from v (p ∷ ps) e = token_leaned lean from (leaning x ts lean from v p) ps refl

  pub token_leant : (lean : Lean) (from : ℕ) (ps : List Held) → token_of ts (leant x ts lean from ps) ≡ None
  token_leant lean from [] = refl
  token_leant lean from (p ∷ []) = refl
  token_leant lean from (p ∷ q ∷ ps) = token_leaned lean from (leaning x ts lean from p.1 q) ps refl

  -- the first entry, its parts, and those behind it
  pub parts_some : (y : Entry) (es : List Entry)
      → parts_of x ts (y ∷ es)
      ≡ (
        y.to,
        made x ts y.what y.from y.to (held x ts (take (min y.size (length es)) es))
            (parts_of x ts (take (min y.size (length es)) es)),
      )
      ∷ parts_of x ts (drop (min y.size (length es)) es)
  unfolding held parts_of
  parts_some y es =
      rw (take_min, drop_min)
      (let a = read_same (length es) (length (take y.size es)) (take y.size es)
      (omega (arith, length-take {A = Entry})) (omega arith) in
      let b = read_same (length es) (length (drop y.size es)) (drop y.size es) (omega (arith, length-drop {A = Entry}))
      (omega arith) in
      cc)

  pub held_some : (y : Entry) (es : List Entry)
      → held x ts (y ∷ es)
      ≡ more (made x ts y.what y.from y.to (held x ts (take (min y.size (length es)) es))
      (parts_of x ts (take (min y.size (length es)) es)))
      (held x ts (drop (min y.size (length es)) es))
  unfolding held
  held_some y es = rw (parts_some y es) refl

  -- ---- a row holds what its kept trees are
  abbrev value_in : Kept → Held
  value_in p = (p.0, value_of x ts p.1)

  values_in : (us : List Kept) → packed (map (value_of x ts) (trees_in us)) ≡ row_of x ts (map value_in us)
  values_in [] = refl
  values_in (u ∷ us) = ap (more (value_of x ts u.1)) (values_in us)

  first_value : (us : List Cst)
      → as_target x ts (value_of x ts (first_tree us)) ≡ as_target x ts (part (packed (map (value_of x ts) us)) 0)
  first_value [] = ap (as_target x ts) (value_parts x ts [])
  first_value (u ∷ us) = refl

  group_values : (us : List Cst) → as_group (packed (map (value_of x ts) us)) ≡ packed (map (value_of x ts) us)
  group_values [] = refl
  group_values (u ∷ us) = refl

  turn_value_of : (f : Cst-F Cst)
      → packed (map (value_of x ts) (turn_parts f)) ≡ as_group (value_of x ts (roll-Cst f))
  unfolding value_of
  turn_value_of (Cst-F.Leaf at) = rw (fold-roll-Cst Value (value_step x ts) (Cst-F.Leaf at)) refl
  turn_value_of (Cst-F.Node label from to us) =
      rw (fold-roll-Cst Value (value_step x ts) (Cst-F.Node label from to us)) refl
  turn_value_of (Cst-F.Role label u) =
      rw (fold-roll-Cst Value (value_step x ts) (Cst-F.Role label u), group_role (value_of x ts u)) refl
  turn_value_of (Cst-F.Parts us) = rw (fold-roll-Cst Value (value_step x ts) (Cst-F.Parts us), group_values us) refl

  turn_value : (u : Cst) → packed (map (value_of x ts) (turn_parts (out-Cst u))) ≡ as_group (value_of x ts u)
  turn_value u = turn_value_of (out-Cst u) ∙ ap (λ (t : Cst). as_group (value_of x ts t)) (roll-out-Cst u)

  leaning_value : (lean : Lean) (from : ℕ) (t : Cst) (u : Kept)
      → value_of x ts (leaning_tree lean from t u) ≡ leaning x ts lean from (value_of x ts t) (value_in u)
  leaning_value lean from t u =
      value_node x ts (label_of lean) from u.0 (t ∷ turn_parts (out-Cst u.1))
      ∙ ap (λ (v : Value). node from u.0
      (build x ts (label_of lean) from (span_of ts from u.0) (more (value_of x ts t) v))) (turn_value u.1)

  leaned_value : (lean : Lean) (from : ℕ) (t : Cst) (us : List Kept)
      → value_of x ts (leaned_tree lean from t us) ≡ leaned x ts lean from (value_of x ts t) (map value_in us)
  unfolding leaned leaned_tree
  leaned_value lean from t [] = refl
  leaned_value lean from t (u ∷ us) =
      leaned_value lean from (leaning_tree lean from t u) us
      ∙ ap (λ (v : Value). leaned x ts lean from v (map value_in us)) (leaning_value lean from t u)

  leant_value : (lean : Lean) (from : ℕ) (us : List Kept)
      → value_of x ts (leant_tree lean from us) ≡ leant x ts lean from (map value_in us)
  leant_value lean from [] = value_parts x ts []
  leant_value lean from (u ∷ []) = value_parts x ts []
  leant_value lean from (t ∷ u ∷ us) =
      leaned_value lean from (leaning_tree lean from t.1 u) us
      ∙ ap (λ (v : Value). leaned x ts lean from v (map value_in us)) (leaning_value lean from t.1 u)

  made_value : (w : What) (from to : ℕ) (us : List Kept)
      → value_of x ts (tree_by w from to us) ≡ made x ts w from to (row_of x ts (map value_in us)) (map value_in us)
  made_value vWhat.Leaf from to us = value_leaf x ts from
  made_value (vWhat.Node label) from to us =
      value_node x ts label from to (trees_in us)
      ∙ ap (λ (v : Value). node from to (build x ts label from (span_of ts from to) v)) (values_in us)
  made_value (vWhat.Role label) from to us =
      value_role x ts label (first_tree (trees_in us))
      ∙ (first_value (trees_in us) ∙ ap (λ (v : Value). as_target x ts (part v 0)) (values_in us))
  made_value vWhat.Parts from to us = value_parts x ts (trees_in us) ∙ values_in us
  made_value (vWhat.Lean lean) from to us = leant_value lean from us

  read_kept : (n : ℕ) (es : List Entry) → map value_in (kept_by n es) ≡ read x ts n es
  read_kept zero es = refl
  read_kept (suc n) [] = refl
  read_kept (suc n) (e ∷ es) =
      let a = made_value e.what e.from e.to (kept_by n (take e.size es)) in
      let b = read_kept n (take e.size es) in
      let c = read_kept n (drop e.size es) in
      cc

  pub held_trees : (es : List Entry) → packed (map (value_of x ts) (trees es)) ≡ held x ts es
  unfolding held parts_of trees
  held_trees es = values_in (kept_by (length es) es) ∙ ap (row_of x ts) (read_kept (length es) es)
