-- The trees that a cursor over a row stands at, by its first entry, and by what stands there.
use Rattle.std.specs.Prelude.{List, [], ◌∷◌, Bool, true, false, ◌&&◌}
use Rattle.std.proofs.Common.{◌≡◌, ℕ, zero, suc, ◌≤◌, length, take, drop, min, refl, ap, ◌∙◌, arith, length-drop}
use Rattle.std.proofs.lemmas.List.{length-take, take_min, drop_min}
use Rattle.es_grammar.specs.declared.rows.NodeKind.{NodeKind}
use Rattle.es_grammar.specs.declared.rows.NodeKind.TheVariants as l
use Rattle.es_grammar.specs.declared.cst.tree.Cst.{Cst, out-Cst}
use Rattle.es_grammar.specs.declared.cst.tree.Cst.TheVariants as vCst
use Rattle.es_grammar.specs.declared.cst.tree.Cst.TheOpen.{Cst-F}
use Rattle.es_syntax.specs.declared.entry.Entry.{Entry}
use Rattle.es_syntax.specs.declared.entry.Lean.{Lean}
use Rattle.es_syntax.specs.declared.entry.Lean.TheVariants as vLean
use Rattle.es_syntax.specs.Held.{label_of}
use Rattle.es_syntax.specs.Trees.{Kept, turn_parts, leaning_tree, leaned_tree, leant_tree, trees_in, tree_by, kept_by, trees}
use Rattle.es_program_reader.specs.Sound.{is_member, is_non_null, first_in, turns_of, group_layer, is_assertion, asserted_target, is_simple, may_hold, is_sound, are_sound}
use Rattle.es_program_reader.specs.Rows.{kept_in, one_assertion, all_assert, leant_simple, turns_sound, leant_sound}
use Rattle.es_program_reader.proofs.Equations.{out_leaf, out_node, out_role, out_parts, member_node, member_parts, non_null_node, non_null_parts, assertion_node, assertion_parts, simple_node, simple_parts, sound_node, sound_parts}

-- further steps read nothing else
kept_same : (n m : ℕ) (es : List Entry) → length es ≤ n → length es ≤ m → kept_by n es ≡ kept_by m es
kept_same zero zero es p q = refl
kept_same zero (suc m) [] p q = refl
kept_same zero (suc m) (e ∷ es) p q = absurd (omega arith)
kept_same (suc n) zero [] p q = refl
kept_same (suc n) zero (e ∷ es) p q = absurd (omega arith)
kept_same (suc n) (suc m) [] p q = refl
kept_same (suc n) (suc m) (e ∷ es) p q =
    let a = kept_same n m (take e.size es) (omega (arith, length-take {A = Entry}))
    (omega (arith, length-take {A = Entry})) in
    let b = kept_same n m (drop e.size es) (omega (arith, length-drop {A = Entry}))
    (omega (arith, length-drop {A = Entry})) in
    cc

pub kept_none : (es : List Entry) → length es ≡ 0 → kept_in es ≡ []
unfolding kept_in
kept_none [] e = refl
kept_none (y ∷ es) e = absurd (omega arith)

pub kept_nothing : kept_in [] ≡ []
unfolding kept_in
kept_nothing = refl

pub kept_some : (y : Entry) (es : List Entry)
    → kept_in (y ∷ es)
    ≡ (y.to, tree_by y.what y.from y.to (kept_in (take (min y.size (length es)) es)))
    ∷ kept_in (drop (min y.size (length es)) es)
unfolding kept_in
kept_some y es =
    rw (take_min, drop_min)
    (let a = kept_same (length es) (length (take y.size es)) (take y.size es)
    (omega (arith, length-take {A = Entry})) (omega arith) in
    let b = kept_same (length es) (length (drop y.size es)) (drop y.size es) (omega (arith, length-drop {A = Entry}))
    (omega arith) in
    cc)

pub trees_kept : (es : List Entry) → trees es ≡ trees_in (kept_in es)
unfolding trees kept_in
trees_kept es = refl

-- ---- nodes that lean left, at their top
-- what holds of each node of theirs holds of them
leaned_has : (P : Cst → Type 0) (lean : Lean)
    → ((from to : ℕ) (ts : List Cst) → P (vCst.Node (label_of lean) from to ts))
    → (from : ℕ) (t : Cst) (us : List Kept) → P t → P (leaned_tree lean from t us)
unfolding leaned_tree
leaned_has P lean node from t [] e = e
leaned_has P lean node from t (u ∷ us) e =
    leaned_has P lean node from (leaning_tree lean from t u) us (node from u.0 (t ∷ turn_parts (out-Cst u.1)))

leant_has : (P : Cst → Type 0) (lean : Lean)
    → ((from to : ℕ) (ts : List Cst) → P (vCst.Node (label_of lean) from to ts)) → P (vCst.Parts [])
    → (from : ℕ) (us : List Kept) → P (leant_tree lean from us)
leant_has P lean node none from [] = none
leant_has P lean node none from (u ∷ []) = none
leant_has P lean node none from (t ∷ u ∷ us) =
    leaned_has P lean node from (leaning_tree lean from t.1 u) us (node from u.0 (t.1 ∷ turn_parts (out-Cst u.1)))

-- ---- the parts of a turn
pub turn_leaf : (at : ℕ) → turn_parts (out-Cst (vCst.Leaf at)) ≡ []
turn_leaf at = ap turn_parts (out_leaf at)

pub turn_node : (label : NodeKind) (from to : ℕ) (ts : List Cst)
    → turn_parts (out-Cst (vCst.Node label from to ts)) ≡ []
turn_node label from to ts = ap turn_parts (out_node label from to ts)

pub turn_role : (label : NodeKind) (t : Cst) → turn_parts (out-Cst (vCst.Role label t)) ≡ []
turn_role label t = ap turn_parts (out_role label t)

pub turn_group : (ts : List Cst) → turn_parts (out-Cst (vCst.Parts ts)) ≡ ts
turn_group ts = ap turn_parts (out_parts ts)

pub turn_leant : (lean : Lean) (from : ℕ) (us : List Kept) → turn_parts (out-Cst (leant_tree lean from us)) ≡ []
turn_leant lean from us =
    leant_has (λ t. turn_parts (out-Cst t) ≡ []) lean (turn_node (label_of lean)) (turn_group []) from us

-- ---- what is asked of parts of a chain
pub member_leant : (lean : Lean) (from : ℕ) (us : List Kept) → is_member (leant_tree lean from us) ≡ false
member_leant vLean.Binary from us =
    leant_has (λ t. is_member t ≡ false) vLean.Binary (member_node l.Binary) (member_parts []) from us
member_leant vLean.TypedBinary from us =
    leant_has (λ t. is_member t ≡ false) vLean.TypedBinary (member_node l.TypedBinary) (member_parts []) from us

pub non_null_leant : (lean : Lean) (from : ℕ) (us : List Kept) → is_non_null (leant_tree lean from us) ≡ false
non_null_leant vLean.Binary from us =
    leant_has (λ t. is_non_null t ≡ false) vLean.Binary (non_null_node l.Binary) (non_null_parts []) from us
non_null_leant vLean.TypedBinary from us =
    leant_has (λ t. is_non_null t ≡ false) vLean.TypedBinary (non_null_node l.TypedBinary) (non_null_parts []) from us

-- what a turn begins with
pub first_leaf : (at : ℕ) → first_in (vCst.Leaf at) (out-Cst (vCst.Leaf at)) ≡ vCst.Leaf at
first_leaf at = ap (first_in (vCst.Leaf at)) (out_leaf at)

pub first_node : (label : NodeKind) (from to : ℕ) (ts : List Cst)
    → first_in (vCst.Node label from to ts) (out-Cst (vCst.Node label from to ts)) ≡ vCst.Node label from to ts
first_node label from to ts = ap (first_in (vCst.Node label from to ts)) (out_node label from to ts)

pub first_role : (label : NodeKind) (t : Cst)
    → first_in (vCst.Role label t) (out-Cst (vCst.Role label t)) ≡ vCst.Role label t
first_role label t = ap (first_in (vCst.Role label t)) (out_role label t)

pub first_none : first_in (vCst.Parts []) (out-Cst (vCst.Parts [])) ≡ vCst.Parts []
first_none = ap (first_in (vCst.Parts [])) (out_parts [])

pub first_some : (t : Cst) (ts : List Cst) → first_in (vCst.Parts (t ∷ ts)) (out-Cst (vCst.Parts (t ∷ ts))) ≡ t
first_some t ts = ap (first_in (vCst.Parts (t ∷ ts))) (out_parts (t ∷ ts))

pub first_leant : (lean : Lean) (from : ℕ) (us : List Kept)
    → first_in (leant_tree lean from us) (out-Cst (leant_tree lean from us)) ≡ leant_tree lean from us
first_leant lean from us =
    leant_has (λ t. first_in t (out-Cst t) ≡ t) lean (first_node (label_of lean)) first_none from us

-- the turns of a list are the parts of a group
pub turns_same : (f : Cst-F Cst) → turns_of f ≡ turn_parts f
turns_same (Cst-F.Leaf at) = refl
turns_same (Cst-F.Node label from to ts) = refl
turns_same (Cst-F.Role label t) = refl
turns_same (Cst-F.Parts ts) = refl

-- a group that is there
pub group_leaf : (at : ℕ) → group_layer (out-Cst (vCst.Leaf at)) ≡ false
group_leaf at = ap group_layer (out_leaf at)

pub group_node : (label : NodeKind) (from to : ℕ) (ts : List Cst)
    → group_layer (out-Cst (vCst.Node label from to ts)) ≡ false
group_node label from to ts = ap group_layer (out_node label from to ts)

pub group_role : (label : NodeKind) (t : Cst) → group_layer (out-Cst (vCst.Role label t)) ≡ false
group_role label t = ap group_layer (out_role label t)

pub group_none : group_layer (out-Cst (vCst.Parts [])) ≡ false
group_none = ap group_layer (out_parts [])

pub group_some : (t : Cst) (ts : List Cst) → group_layer (out-Cst (vCst.Parts (t ∷ ts))) ≡ true
group_some t ts = ap group_layer (out_parts (t ∷ ts))

pub group_leant : (lean : Lean) (from : ℕ) (us : List Kept) → group_layer (out-Cst (leant_tree lean from us)) ≡ false
group_leant lean from us =
    leant_has (λ t. group_layer (out-Cst t) ≡ false) lean (group_node (label_of lean)) group_none from us

pub assertion_leant : (lean : Lean) (from : ℕ) (us : List Kept) → is_assertion (leant_tree lean from us) ≡ false
assertion_leant lean from us =
    leant_has (λ t. is_assertion t ≡ false) lean (assertion_node (label_of lean)) (assertion_parts []) from us

-- ---- targets
pub simple_binary : (from : ℕ) (us : List Kept) → is_simple (leant_tree vLean.Binary from us) ≡ false
simple_binary from us =
    leant_has (λ t. is_simple t ≡ false) vLean.Binary (simple_node l.Binary) (simple_parts []) from us

-- a turn behind what is a simple target or none
pub turn_target : (b : Bool) (t : Cst) (ts : List Cst) → asserted_target b (t ∷ ts) ≡ (one_assertion ts && b)
turn_target b t [] = refl
turn_target b t (assertion ∷ []) = refl
turn_target b t (p ∷ q ∷ ts) = refl

one_more : (from : ℕ) (t : Cst) (u : Kept)
    → is_simple (leaning_tree vLean.TypedBinary from t u) ≡ (one_assertion (turn_parts (out-Cst u.1)) && is_simple t)
one_more from t u =
    simple_node l.TypedBinary from u.0 (t ∷ turn_parts (out-Cst u.1))
    ∙ turn_target (is_simple t) t (turn_parts (out-Cst u.1))

move : (a b c : Bool) → (a && (b && c)) ≡ ((b && a) && c)
move true true c = refl
move true false c = refl
move false true c = refl
move false false c = refl

leaned_simple : (from : ℕ) (t : Cst) (us : List Kept)
    → is_simple (leaned_tree vLean.TypedBinary from t us) ≡ (all_assert (trees_in us) && is_simple t)
unfolding leaned_tree
leaned_simple from t [] = refl
leaned_simple from t (u ∷ us) =
    leaned_simple from (leaning_tree vLean.TypedBinary from t u) us
    ∙ (ap (λ b. all_assert (trees_in us) && b) (one_more from t u)
    ∙ move (all_assert (trees_in us)) (one_assertion (turn_parts (out-Cst u.1))) (is_simple t))

pub simple_typed : (from : ℕ) (us : List Kept)
    → is_simple (leant_tree vLean.TypedBinary from us) ≡ leant_simple (trees_in us)
unfolding leaned_tree
simple_typed from [] = simple_parts []
simple_typed from (t ∷ []) = simple_parts []
simple_typed from (t ∷ u ∷ us) = leaned_simple from t.1 (u ∷ us)

-- ---- sound nodes
flat : (a b c : Bool) → ((a && b) && c) ≡ (a && (b && c))
flat true b c = refl
flat false b c = refl

held_leaning : (lean : Lean) (ts : List Cst) → may_hold (label_of lean) ts ≡ true
unfolding may_hold
held_leaning vLean.Binary ts = refl
held_leaning vLean.TypedBinary ts = refl

pub are_some : (t : Cst) (ts : List Cst) → are_sound (t ∷ ts) ≡ (is_sound t && are_sound ts)
unfolding are_sound
are_some t ts = refl

sound_leaning : (lean : Lean) (from : ℕ) (t : Cst) (u : Kept)
    → is_sound (leaning_tree lean from t u) ≡ (is_sound t && are_sound (turn_parts (out-Cst u.1)))
sound_leaning lean from t u =
    sound_node (label_of lean) from u.0 (t ∷ turn_parts (out-Cst u.1))
    ∙ (ap (λ b. b && are_sound (t ∷ turn_parts (out-Cst u.1))) (held_leaning lean (t ∷ turn_parts (out-Cst u.1)))
    ∙ are_some t (turn_parts (out-Cst u.1)))

leaned_sound : (lean : Lean) (from : ℕ) (t : Cst) (us : List Kept)
    → is_sound (leaned_tree lean from t us) ≡ (is_sound t && turns_sound (trees_in us))
unfolding leaned_tree
leaned_sound lean from t [] = last (is_sound t)
  where
    last : (b : Bool) → b ≡ (b && true)
    last true = refl
    last false = refl
leaned_sound lean from t (u ∷ us) =
    leaned_sound lean from (leaning_tree lean from t u) us
    ∙ (ap (λ b. b && turns_sound (trees_in us)) (sound_leaning lean from t u)
    ∙ flat (is_sound t) (are_sound (turn_parts (out-Cst u.1))) (turns_sound (trees_in us)))

pub are_none : are_sound [] ≡ true
unfolding are_sound
are_none = refl

pub sound_leant : (lean : Lean) (from : ℕ) (us : List Kept)
    → is_sound (leant_tree lean from us) ≡ leant_sound (trees_in us)
unfolding leaned_tree
sound_leant lean from [] = sound_parts [] ∙ are_none
sound_leant lean from (t ∷ []) = sound_parts [] ∙ are_none
sound_leant lean from (t ∷ u ∷ us) = leaned_sound lean from t.1 (u ∷ us)
