-- Whether a kept tree is sound: what is assigned to, or updated, is a simple target (ECMA-262, "AssignmentTargetType"; the
-- handbook of TypeScript, "Everyday Types": a target may stand before `!`, `as` or `satisfies`, or behind its type).
use Rattle.std.specs.Prelude.{Bool, true, false, ◌&&◌, List, [], ◌∷◌, map, if◌then◌else◌}
use Rattle.es_grammar.specs.declared.rows.NodeKind.{NodeKind}
use Rattle.es_grammar.specs.declared.rows.NodeKind.TheVariants as l
use Rattle.es_grammar.specs.declared.cst.tree.Cst.{Cst, out-Cst}
use Rattle.es_grammar.specs.declared.cst.tree.Cst.TheOpen.{Cst-F}
use Rattle.es_grammar.specs.declared.cst.tree.Cst.TheFolds.{para-Cst}

-- ---- members

-- `.a` or `[a]`
abbrev pub names_member : NodeKind → Bool
names_member l.MemberPost = true
names_member l.IndexPost = true
names_member _ = false

abbrev pub member_layer : Cst-F Cst → Bool
member_layer (Cst-F.Node label from to parts) = names_member label
member_layer _ = false

unfoldable pub is_member : Cst → Bool
is_member t = member_layer (out-Cst t)

-- `!` behind a part
abbrev pub names_non_null : NodeKind → Bool
names_non_null l.NonNullPost = true
names_non_null _ = false

abbrev pub non_null_layer : Cst-F Cst → Bool
non_null_layer (Cst-F.Node label from to parts) = names_non_null label
non_null_layer _ = false

unfoldable pub is_non_null : Cst → Bool
is_non_null t = non_null_layer (out-Cst t)

-- what a further part of a chain leaves of the answer: that of the parts before it, where it is a `!`
unfoldable pub behind_part : Bool → Cst → Bool
behind_part before p = if is_non_null p then before else is_member p

-- what a turn of a chain begins with
abbrev pub first_in : Cst → Cst-F Cst → Cst
first_in turn (Cst-F.Parts (q ∷ parts)) = q
first_in turn _ = turn

-- what the turns of a chain leave of it
abbrev pub behind_turns : Bool → List Cst → Bool
behind_turns before [] = before
behind_turns before (turn ∷ turns) = behind_turns (behind_part before (first_in turn (out-Cst turn))) turns

abbrev pub turns_of : Cst-F Cst → List Cst
turns_of (Cst-F.Parts turns) = turns
turns_of _ = []

-- a chain, of whose base so much is known, ends in a member; its further parts are `p` and those in `more`
unfoldable pub ends_in_member : Bool → Cst → Cst → Bool
ends_in_member before p more = behind_turns (behind_part before p) (turns_of (out-Cst more))

abbrev pub chain_ends : Bool → List Cst → Bool
chain_ends before (base ∷ p ∷ more ∷ parts) = ends_in_member before p more
chain_ends before _ = false

-- ---- assertions

-- a group that is there
abbrev pub group_layer : Cst-F Cst → Bool
group_layer (Cst-F.Parts (q ∷ parts)) = true
group_layer _ = false

-- the second of these parts is such a group
abbrev pub second_asserted : List Cst → Bool
second_asserted (operator ∷ group ∷ parts) = group_layer (out-Cst group)
second_asserted _ = false

abbrev pub turn_layer : Cst-F Cst → Bool
turn_layer (Cst-F.Parts parts) = second_asserted parts
turn_layer _ = false

-- the parts of a turn are `as const`, or `as` or `satisfies` with a type
unfoldable pub is_assertion : Cst → Bool
is_assertion t = turn_layer (out-Cst t)

-- a simple target behind which such a turn alone stands
abbrev pub asserted_target : Bool → List Cst → Bool
asserted_target inner (q ∷ assertion ∷ []) = is_assertion assertion && inner
asserted_target inner _ = false

-- ---- simple targets

-- the first of these parts, by what it is
abbrev pub first_is : {A : Type 0} → (A → Bool) → List A → Bool
first_is test (q ∷ parts) = test q
first_is test [] = false

-- the parts from the one on by which a node is a simple target: what is asserted stands behind its type
abbrev pub inner_parts : {A : Type 0} → NodeKind → List A → List A
inner_parts l.TypeAssertion (asserted ∷ parts) = parts
inner_parts _ parts = parts

-- a name, a chain that ends in a member, one of them in parentheses, before `!`, `as` or `satisfies`, or behind its
-- type, by what its parts are
abbrev pub simple_by : NodeKind → List Cst → Bool → Bool
simple_by l.Name parts inner = true
simple_by l.Parenthesized parts inner = inner
simple_by l.Chain parts inner = chain_ends inner parts
simple_by l.TypedBinary parts inner = asserted_target inner parts
simple_by l.TypeAssertion parts inner = inner
simple_by _ parts inner = false

abbrev pub simple_step : Cst-F (Cst × Bool) → Bool
simple_step (Cst-F.Node label from to parts) =
    simple_by label (map (λ part. part.0) parts) (first_is (λ part. part.1) (inner_parts label parts))
simple_step _ = false

-- a simple target
unfoldable pub is_simple : Cst → Bool
is_simple = para-Cst Bool simple_step

-- the test holds of the part that is assigned to
abbrev pub first_simple : List Cst → Bool
first_simple (q ∷ parts) = is_simple q
first_simple [] = true

abbrev pub second_simple : List Cst → Bool
second_simple (operator ∷ parts) = first_simple parts
second_simple [] = true

-- the parts of a node are those that its alternative may have
unfoldable pub may_hold : NodeKind → List Cst → Bool
may_hold l.Assignment parts = first_simple parts
may_hold l.UpdatePostfix parts = first_simple parts
may_hold l.UpdatePrefix parts = second_simple parts
may_hold _ parts = true

-- all of them hold
abbrev pub each_holds : List Bool → Bool
each_holds [] = true
each_holds (b ∷ bs) = b && each_holds bs

abbrev pub sound_step : Cst-F (Cst × Bool) → Bool
sound_step (Cst-F.Leaf at) = true
sound_step (Cst-F.Node label from to parts) =
    may_hold label (map (λ part. part.0) parts) && each_holds (map (λ part. part.1) parts)
sound_step (Cst-F.Role label part) = is_simple part.0 && part.1
sound_step (Cst-F.Parts parts) = each_holds (map (λ part. part.1) parts)

-- each node of the tree holds what it may, and each target is simple
unfoldable pub is_sound : Cst → Bool
is_sound = para-Cst Bool sound_step

-- so do all these trees
unfoldable pub are_sound : List Cst → Bool
are_sound trees = each_holds (map is_sound trees)
