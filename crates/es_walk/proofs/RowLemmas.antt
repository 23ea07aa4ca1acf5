-- The trees that a row of entries is, by its first entry.
use Rattle.std.specs.Prelude.{ℕ, zero, suc, ◌≤◌, List, [], ◌∷◌, Some, None, length, take, drop, min}
use Rattle.std.proofs.Common.{◌≡◌, refl, sym, ap, ◌∙◌, arith, length-drop}
use Rattle.std.proofs.lemmas.List.{length-take, take_min, drop_min}
use Rattle.es_grammar.specs.declared.rows.NodeKind.{NodeKind}
use Rattle.es_grammar.specs.declared.cst.tree.Cst.{Cst, roll-Cst, out-Cst, out-roll-Cst}
use Rattle.es_grammar.specs.declared.cst.tree.Cst.TheVariants as vCst
use Rattle.es_grammar.specs.declared.cst.tree.Cst.TheOpen.{Cst-F}
use Rattle.es_syntax.specs.declared.entry.Lean.{Lean}
use Rattle.es_syntax.specs.Held.{label_of}
use Rattle.es_syntax.specs.declared.entry.Entry.{Entry}
use Rattle.es_syntax.specs.Trees.{Kept, turn_parts, leaning_tree, leaned_tree, leant_tree, trees_in, tree_by, kept_by, trees}
use Rattle.es_walk.specs.Rows.{kept, group_of, number_by, number_of}

-- further steps read nothing else
kept_same : (n m : ℕ) (es : List Entry) → length es ≤ n → length es ≤ m → kept_by n es ≡ kept_by m es
kept_same zero zero es p q = refl
kept_same zero (suc m) [] p q = refl
kept_same zero (suc m) (e ∷ es) p q = absurd (omega arith)
kept_same (suc n) zero [] p q = refl
kept_same (suc n) zero (e ∷ es) p q = absurd (omega arith)
kept_same (suc n) (suc m) [] p q = refl
kept_same (suc n) (suc m) (e ∷ es) p q =
    let a = kept_same n m (take e.size es) (omega (arith, length-take {A = Entry}))
    (omega (arith, length-take {A = Entry})) in
    let b = kept_same n m (drop e.size es) (omega (arith, length-drop {A = Entry}))
    (omega (arith, length-drop {A = Entry})) in
    cc

kept_some : (y : Entry) (es : List Entry)
    → kept (y ∷ es)
    ≡ (y.to, tree_by y.what y.from y.to (kept (take (min y.size (length es)) es)))
    ∷ kept (drop (min y.size (length es)) es)
unfolding kept
kept_some y es =
    rw (take_min, drop_min)
    (let a = kept_same (length es) (length (take y.size es)) (take y.size es)
    (omega (arith, length-take {A = Entry})) (omega arith) in
    let b = kept_same (length es) (length (drop y.size es)) (drop y.size es) (omega (arith, length-drop {A = Entry}))
    (omega arith) in
    cc)

pub trees_kept : (es : List Entry) → trees es ≡ trees_in (kept es)
unfolding trees kept
trees_kept es = refl

-- no entries are no trees
pub trees_none : (es : List Entry) → length es ≡ 0 → trees es ≡ []
unfolding trees
trees_none [] e = refl
trees_none (y ∷ es) e = absurd (omega arith)

-- the first entry with its parts, and those after it
pub trees_some : (y : Entry) (es : List Entry)
    → trees (y ∷ es)
    ≡ tree_by y.what y.from y.to (kept (take (min y.size (length es)) es)) ∷ trees (drop (min y.size (length es)) es)
trees_some y es =
    rw (trees_kept (y ∷ es), trees_kept (drop (min y.size (length es)) es), kept_some y es) refl

-- ---- groups
group_roll : (f : Cst-F Cst) → group_of (roll-Cst f) ≡ turn_parts f
unfolding group_of
group_roll f = ap turn_parts (out-roll-Cst f)

pub group_none : trees [] ≡ []
group_none = trees_none [] refl

pub group_parts : (es : List Entry) → trees es ≡ group_of (vCst.Parts (trees_in (kept es)))
group_parts es =
    trees_kept es
    ∙ sym (ap group_of (sym (vCst.rolls-Parts (trees_in (kept es)))) ∙ group_roll (Cst-F.Parts (trees_in (kept es))))

pub group_leaf : (at : ℕ) → trees [] ≡ group_of (vCst.Leaf at)
group_leaf at = group_none ∙ sym (ap group_of (sym (vCst.rolls-Leaf at)) ∙ group_roll (Cst-F.Leaf at))

node_group : (label : NodeKind) (from to : ℕ) (us : List Cst) → group_of (vCst.Node label from to us) ≡ []
node_group label from to us =
    ap group_of (sym (vCst.rolls-Node label from to us)) ∙ group_roll (Cst-F.Node label from to us)

pub group_node : (label : NodeKind) (from to : ℕ) (us : List Cst) → trees [] ≡ group_of (vCst.Node label from to us)
group_node label from to us = group_none ∙ sym (node_group label from to us)

pub group_role : (label : NodeKind) (tree : Cst) → trees [] ≡ group_of (vCst.Role label tree)
group_role label tree =
    group_none ∙ sym (ap group_of (sym (vCst.rolls-Role label tree)) ∙ group_roll (Cst-F.Role label tree))

leaned_group : (lean : Lean) (from : ℕ) (t : Cst) (us : List Kept) → group_of t ≡ []
    → group_of (leaned_tree lean from t us) ≡ []
unfolding leaned_tree
leaned_group lean from t [] e = e
leaned_group lean from t (u ∷ us) e =
    leaned_group lean from (leaning_tree lean from t u) us
    (node_group (label_of lean) from u.0 (t ∷ turn_parts (out-Cst u.1)))

none_group : group_of (vCst.Parts []) ≡ []
none_group = ap group_of (sym (vCst.rolls-Parts [])) ∙ group_roll (Cst-F.Parts [])

lean_group : (lean : Lean) (from : ℕ) (us : List Kept) → group_of (leant_tree lean from us) ≡ []
lean_group lean from [] = none_group
lean_group lean from (u ∷ []) = none_group
lean_group lean from (t ∷ u ∷ us) =
    leaned_group lean from (leaning_tree lean from t.1 u) us
    (node_group (label_of lean) from u.0 (t.1 ∷ turn_parts (out-Cst u.1)))

pub group_lean : (lean : Lean) (from : ℕ) (us : List Kept) → trees [] ≡ group_of (leant_tree lean from us)
group_lean lean from us = group_none ∙ sym (lean_group lean from us)

-- ---- tokens
number_roll : (f : Cst-F Cst) → number_of (roll-Cst f) ≡ number_by f
unfolding number_of
number_roll f = ap number_by (out-roll-Cst f)

pub number_leaf : (at : ℕ) → number_of (vCst.Leaf at) ≡ Some at
number_leaf at = ap number_of (sym (vCst.rolls-Leaf at)) ∙ number_roll (Cst-F.Leaf at)

pub number_node : (label : NodeKind) (from to : ℕ) (us : List Cst) → number_of (vCst.Node label from to us) ≡ None
number_node label from to us =
    ap number_of (sym (vCst.rolls-Node label from to us)) ∙ number_roll (Cst-F.Node label from to us)

pub number_role : (label : NodeKind) (tree : Cst) → number_of (vCst.Role label tree) ≡ None
number_role label tree = ap number_of (sym (vCst.rolls-Role label tree)) ∙ number_roll (Cst-F.Role label tree)

pub number_parts : (us : List Cst) → number_of (vCst.Parts us) ≡ None
number_parts us = ap number_of (sym (vCst.rolls-Parts us)) ∙ number_roll (Cst-F.Parts us)

leaned_number : (lean : Lean) (from : ℕ) (t : Cst) (us : List Kept) → number_of t ≡ None
    → number_of (leaned_tree lean from t us) ≡ None
unfolding leaned_tree
leaned_number lean from t [] e = e
leaned_number lean from t (u ∷ us) e =
    leaned_number lean from (leaning_tree lean from t u) us
    (number_node (label_of lean) from u.0 (t ∷ turn_parts (out-Cst u.1)))

pub number_lean : (lean : Lean) (from : ℕ) (us : List Kept) → number_of (leant_tree lean from us) ≡ None
number_lean lean from [] = number_parts []
number_lean lean from (u ∷ []) = number_parts []
number_lean lean from (t ∷ u ∷ us) =
    leaned_number lean from (leaning_tree lean from t.1 u) us
    (number_node (label_of lean) from u.0 (t.1 ∷ turn_parts (out-Cst u.1)))
