-- What is said of each form of a tree, from what is said of its parts.
use Rattle.std.specs.Prelude.{List, [], ◌∷◌, Bool, true, false, ◌&&◌, map}
use Rattle.std.proofs.Common.{◌≡◌, ℕ, refl, sym, ap, ◌∙◌}
use Rattle.es_grammar.specs.declared.rows.NodeKind.{NodeKind}
use Rattle.es_grammar.specs.declared.rows.NodeKind.TheVariants as l
use Rattle.es_grammar.specs.declared.cst.tree.Cst.{Cst, out-Cst, roll-Cst, out-roll-Cst, map-Cst}
use Rattle.es_grammar.specs.declared.cst.tree.Cst.TheVariants as vCst
use Rattle.es_grammar.specs.declared.cst.tree.Cst.TheOpen.{Cst-F}
use Rattle.es_grammar.specs.declared.cst.tree.Cst.TheFolds.{para-roll-Cst}
use Rattle.es_program_reader.specs.Sound.{names_member, member_layer, is_member, names_non_null, non_null_layer, is_non_null, second_asserted, turn_layer, is_assertion, first_is, inner_parts, simple_by, simple_step, is_simple, may_hold, each_holds, sound_step, is_sound, are_sound}

firsts_of : {B : Type 0} (f : Cst → B) (ts : List Cst)
    → map (λ (part : Cst × B). part.0) (map (λ t. (t, f t)) ts) ≡ ts
firsts_of f [] = refl
firsts_of f (t ∷ ts) = ap (λ rest. t ∷ rest) (firsts_of f ts)

seconds_of : {B : Type 0} (f : Cst → B) (ts : List Cst)
    → map (λ (part : Cst × B). part.1) (map (λ t. (t, f t)) ts) ≡ map f ts
seconds_of f [] = refl
seconds_of f (t ∷ ts) = ap (λ rest. f t ∷ rest) (seconds_of f ts)

first_of : (f : Cst → Bool) (ts : List Cst)
    → first_is (λ (part : Cst × Bool). part.1) (map (λ t. (t, f t)) ts) ≡ first_is f ts
first_of f [] = refl
first_of f (t ∷ ts) = refl

-- ---- one level of a tree
pub out_leaf : (at : ℕ) → out-Cst (vCst.Leaf at) ≡ Cst-F.Leaf at
out_leaf at = ap out-Cst (sym (vCst.rolls-Leaf at)) ∙ out-roll-Cst (Cst-F.Leaf at)

pub out_node : (label : NodeKind) (from to : ℕ) (parts : List Cst)
    → out-Cst (vCst.Node label from to parts) ≡ Cst-F.Node label from to parts
out_node label from to parts =
    ap out-Cst (sym (vCst.rolls-Node label from to parts)) ∙ out-roll-Cst (Cst-F.Node label from to parts)

pub out_role : (label : NodeKind) (tree : Cst) → out-Cst (vCst.Role label tree) ≡ Cst-F.Role label tree
out_role label tree = ap out-Cst (sym (vCst.rolls-Role label tree)) ∙ out-roll-Cst (Cst-F.Role label tree)

pub out_parts : (parts : List Cst) → out-Cst (vCst.Parts parts) ≡ Cst-F.Parts parts
out_parts parts = ap out-Cst (sym (vCst.rolls-Parts parts)) ∙ out-roll-Cst (Cst-F.Parts parts)

-- ---- members
pub member_leaf : (at : ℕ) → is_member (vCst.Leaf at) ≡ false
unfolding is_member
member_leaf at = ap member_layer (out_leaf at)

pub member_node : (label : NodeKind) (from to : ℕ) (parts : List Cst)
    → is_member (vCst.Node label from to parts) ≡ names_member label
unfolding is_member
member_node label from to parts = ap member_layer (out_node label from to parts)

pub member_role : (label : NodeKind) (tree : Cst) → is_member (vCst.Role label tree) ≡ false
unfolding is_member
member_role label tree = ap member_layer (out_role label tree)

pub member_parts : (parts : List Cst) → is_member (vCst.Parts parts) ≡ false
unfolding is_member
member_parts parts = ap member_layer (out_parts parts)

-- ---- `!` behind a part
pub non_null_leaf : (at : ℕ) → is_non_null (vCst.Leaf at) ≡ false
unfolding is_non_null
non_null_leaf at = ap non_null_layer (out_leaf at)

pub non_null_node : (label : NodeKind) (from to : ℕ) (parts : List Cst)
    → is_non_null (vCst.Node label from to parts) ≡ names_non_null label
unfolding is_non_null
non_null_node label from to parts = ap non_null_layer (out_node label from to parts)

pub non_null_role : (label : NodeKind) (tree : Cst) → is_non_null (vCst.Role label tree) ≡ false
unfolding is_non_null
non_null_role label tree = ap non_null_layer (out_role label tree)

pub non_null_parts : (parts : List Cst) → is_non_null (vCst.Parts parts) ≡ false
unfolding is_non_null
non_null_parts parts = ap non_null_layer (out_parts parts)

-- ---- assertions
pub assertion_leaf : (at : ℕ) → is_assertion (vCst.Leaf at) ≡ false
unfolding is_assertion
assertion_leaf at = ap turn_layer (out_leaf at)

pub assertion_node : (label : NodeKind) (from to : ℕ) (parts : List Cst)
    → is_assertion (vCst.Node label from to parts) ≡ false
unfolding is_assertion
assertion_node label from to parts = ap turn_layer (out_node label from to parts)

pub assertion_role : (label : NodeKind) (tree : Cst) → is_assertion (vCst.Role label tree) ≡ false
unfolding is_assertion
assertion_role label tree = ap turn_layer (out_role label tree)

pub assertion_parts : (parts : List Cst) → is_assertion (vCst.Parts parts) ≡ second_asserted parts
unfolding is_assertion
assertion_parts parts = ap turn_layer (out_parts parts)

-- ---- simple targets
simple_at : (it : Cst-F Cst)
    → is_simple (roll-Cst it) ≡ simple_step (map-Cst Cst (Cst × Bool) (λ t. (t, is_simple t)) it)
unfolding is_simple
simple_at it = para-roll-Cst Bool simple_step it

pub simple_leaf : (at : ℕ) → is_simple (vCst.Leaf at) ≡ false
simple_leaf at = ap is_simple (sym (vCst.rolls-Leaf at)) ∙ simple_at (Cst-F.Leaf at)

-- the inner parts of pairs are the pairs of the inner parts
inner_of : (label : NodeKind) (parts : List Cst)
    → inner_parts {A = Cst × Bool} label (map (λ t. (t, is_simple t)) parts)
    ≡ map (λ t. (t, is_simple t)) (inner_parts label parts)
inner_of l.TypeAssertion [] = refl
inner_of l.TypeAssertion (asserted ∷ parts) = refl
inner_of _ parts = refl

pub simple_node : (label : NodeKind) (from to : ℕ) (parts : List Cst)
    → is_simple (vCst.Node label from to parts) ≡ simple_by label parts (first_is is_simple (inner_parts label parts))
simple_node label from to parts =
    ap is_simple (sym (vCst.rolls-Node label from to parts)) ∙ simple_at (Cst-F.Node label from to parts)
    ∙ ap (λ ps. simple_by label ps (first_is (λ (part : Cst × Bool). part.1)
    (inner_parts {A = Cst × Bool} label (map (λ t. (t, is_simple t)) parts)))) (firsts_of is_simple parts)
    ∙ ap (λ ps. simple_by label parts (first_is (λ (part : Cst × Bool). part.1) ps)) (inner_of label parts)
    ∙ ap (simple_by label parts) (first_of is_simple (inner_parts label parts))

pub simple_role : (label : NodeKind) (tree : Cst) → is_simple (vCst.Role label tree) ≡ false
simple_role label tree = ap is_simple (sym (vCst.rolls-Role label tree)) ∙ simple_at (Cst-F.Role label tree)

pub simple_parts : (parts : List Cst) → is_simple (vCst.Parts parts) ≡ false
simple_parts parts = ap is_simple (sym (vCst.rolls-Parts parts)) ∙ simple_at (Cst-F.Parts parts)

-- ---- sound trees
sound_at : (it : Cst-F Cst)
    → is_sound (roll-Cst it) ≡ sound_step (map-Cst Cst (Cst × Bool) (λ t. (t, is_sound t)) it)
unfolding is_sound
sound_at it = para-roll-Cst Bool sound_step it

pub sound_leaf : (at : ℕ) → is_sound (vCst.Leaf at) ≡ true
sound_leaf at = ap is_sound (sym (vCst.rolls-Leaf at)) ∙ sound_at (Cst-F.Leaf at)

pub sound_node : (label : NodeKind) (from to : ℕ) (parts : List Cst)
    → is_sound (vCst.Node label from to parts) ≡ (may_hold label parts && are_sound parts)
unfolding are_sound
sound_node label from to parts =
    ap is_sound (sym (vCst.rolls-Node label from to parts)) ∙ sound_at (Cst-F.Node label from to parts)
    ∙ ap (λ ps. may_hold label ps && each_holds
    (map (λ (part : Cst × Bool). part.1) (map (λ t. (t, is_sound t)) parts)))
    (firsts_of is_sound parts)
    ∙ ap (λ bs. may_hold label parts && each_holds bs) (seconds_of is_sound parts)

pub sound_role : (label : NodeKind) (tree : Cst) → is_sound (vCst.Role label tree) ≡ (is_simple tree && is_sound tree)
sound_role label tree = ap is_sound (sym (vCst.rolls-Role label tree)) ∙ sound_at (Cst-F.Role label tree)

pub sound_parts : (parts : List Cst) → is_sound (vCst.Parts parts) ≡ are_sound parts
unfolding are_sound
sound_parts parts =
    ap is_sound (sym (vCst.rolls-Parts parts)) ∙ sound_at (Cst-F.Parts parts)
    ∙ ap each_holds (seconds_of is_sound parts)
