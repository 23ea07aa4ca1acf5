-- A tree that is kept of a plain tree of the table is sound exactly where the plain tree is.
use Rattle.std.specs.Prelude.{List, [], ◌∷◌, Bool, true, false, ◌&&◌, length, if◌then◌else◌}
use Rattle.std.proofs.Common.{◌≡◌, refl, sym, ap, ◌∙◌}
use Rattle.grammar_theory.specs.declared.error.Lang.{Lang}
use Rattle.grammar_theory.specs.declared.error.Mode.{Mode}
use Rattle.grammar_theory.specs.Key.{Key}
use Rattle.grammar_theory.specs.Plain.{Plain, node, leaf, nil, cons, mark, turn, via, made}
use Rattle.grammar_theory.specs.Fits.{free, Shape, most_nodes}
use Rattle.es_grammar.specs.declared.rows.NodeKind.{NodeKind}
use Rattle.es_grammar.specs.declared.rows.NodeKind.TheVariants.{Name, Parenthesized, Chain, TypeAssertion, TypedBinary, MemberPost, IndexPost, NonNullPost, Assignment, UpdatePostfix, UpdatePrefix}
use Rattle.es_grammar.specs.Table.{rule}
use Rattle.es_grammar.specs.Conditions as plains
use Rattle.es_grammar.specs.Conditions.{leans, program_row}
use Rattle.es_grammar.specs.declared.cst.tree.Cst.{Cst, out-Cst}
use Rattle.es_grammar.specs.declared.cst.tree.Cst.TheVariants as vCst
use Rattle.es_grammar.specs.cst.Slim.{parts_in, slim, tree_of}
use Rattle.es_program_reader.proofs.FormedLemmas.{IsList, Formed}
use Rattle.es_program_reader.proofs.Shapes.{EachBegins, IsPart, IsGroup, Stands}
use Rattle.es_program_reader.proofs.RowShapes.{formed}
use Rattle.es_program_reader.specs.Sound.{is_member, is_non_null, behind_part, first_in, behind_turns, turns_of, ends_in_member, group_layer, is_assertion, is_simple, may_hold, is_sound, are_sound}
use Rattle.es_grammar.proofs.Theorems.{one_program}
use Rattle.es_program_reader.specs.Program.{IsKept}
use Rattle.es_program_reader.proofs.Equations.{out_leaf, out_node, out_role, out_parts, member_leaf, member_node, member_role, member_parts, non_null_leaf, non_null_node, non_null_role, non_null_parts, assertion_parts, simple_leaf, simple_node, simple_role, simple_parts, sound_leaf, sound_node, sound_role, sound_parts}

-- the parts that are kept
abbrev parts_of : Plain NodeKind → List Cst
parts_of p = parts_in (made slim p)

-- what is kept of parts is a group
grouped : (p : Plain NodeKind) → IsList p → Formed Stands p → tree_of p ≡ vCst.Parts (parts_of p)
unfolding made
grouped (node l from to ps) list fine = absurd list
grouped (leaf s n) list fine = absurd list
grouped nil list fine = refl
grouped (cons p ps) list fine = refl
grouped (mark n ps) list fine = grouped ps fine.0 fine.1
grouped (turn p ps) list fine = refl
grouped (via w p) list fine = absurd list

-- ---- members
list_member : (p : Plain NodeKind) → IsList p → Formed Stands p → is_member (tree_of p) ≡ false
list_member p list fine = ap is_member (grouped p list fine) ∙ member_parts (parts_of p)

member_same : (p : Plain NodeKind) → Formed Stands p → is_member (tree_of p) ≡ plains.is_member p
unfolding made
member_same (node MemberPost from to ps) fine = member_node MemberPost from to (parts_of ps)
member_same (node IndexPost from to ps) fine = member_node IndexPost from to (parts_of ps)
member_same (node l from to ps) fine = member_node l from to (parts_of ps)
member_same (leaf s n) fine = member_leaf n
member_same nil fine = member_parts []
member_same (cons p ps) fine = list_member (cons p ps) tt fine
member_same (mark n ps) fine = list_member (mark n ps) tt fine
member_same (turn p ps) fine = list_member (turn p ps) tt fine
member_same (via w p) fine = member_role w (tree_of p)

-- ---- chains
list_non_null : (p : Plain NodeKind) → IsList p → Formed Stands p → is_non_null (tree_of p) ≡ false
list_non_null p list fine = ap is_non_null (grouped p list fine) ∙ non_null_parts (parts_of p)

-- a part that is no `!` leaves its own answer
own_answer : (before : Bool) (t : Cst) → is_non_null t ≡ false → behind_part before t ≡ is_member t
unfolding behind_part
own_answer before t e = ap (λ b. if b then before else is_member t) e

part_same : (before : Bool) (p : Plain NodeKind) → Formed Stands p
    → behind_part before (tree_of p) ≡ plains.unless_non_null p before
unfolding made behind_part
part_same before (node NonNullPost from to ps) fine =
    ap (λ b. if b then before else is_member (vCst.Node NonNullPost from to (parts_of ps)))
    (non_null_node NonNullPost from to (parts_of ps))
part_same before (node l from to ps) fine =
    own_answer before (vCst.Node l from to (parts_of ps)) (non_null_node l from to (parts_of ps))
    ∙ member_same (node l from to ps) fine
part_same before (leaf s n) fine = own_answer before (vCst.Leaf n) (non_null_leaf n) ∙ member_same (leaf s n) fine
part_same before nil fine = own_answer before (vCst.Parts []) (non_null_parts []) ∙ member_same nil fine
part_same before (cons p ps) fine =
    own_answer before (tree_of (cons p ps)) (list_non_null (cons p ps) tt fine) ∙ member_same (cons p ps) fine
part_same before (mark n ps) fine =
    own_answer before (tree_of (mark n ps)) (list_non_null (mark n ps) tt fine) ∙ member_same (mark n ps) fine
part_same before (turn p ps) fine =
    own_answer before (tree_of (turn p ps)) (list_non_null (turn p ps) tt fine) ∙ member_same (turn p ps) fine
part_same before (via w p) fine =
    own_answer before (vCst.Role w (tree_of p)) (non_null_role w (tree_of p)) ∙ member_same (via w p) fine

-- what a chain's turns leave, each of which begins with a part
turns_same : (before : Bool) (p more : Plain NodeKind) → Formed Stands p → Formed Stands more → EachBegins more
    → behind_turns (behind_part before (tree_of p)) (parts_of more) ≡ plains.ends_in_member before p more
unfolding made
turns_same before p nil fine more begun = part_same before p fine
turns_same before p (turn (cons q qs) rest) fine more begun =
    ap (λ b. behind_turns (behind_part b (first_in (tree_of (cons q qs)) (out-Cst (tree_of (cons q qs)))))
    (parts_of rest)) (part_same before p fine)
    ∙ ap (λ layer. behind_turns (behind_part (plains.unless_non_null p before)
    (first_in (vCst.Parts (tree_of q ∷ parts_of qs)) layer)) (parts_of rest)) (out_parts (tree_of q ∷ parts_of qs))
    ∙ turns_same (plains.unless_non_null p before) q rest more.0.0 more.2 begun.1
turns_same before p (turn _ rest) fine more begun = absurd begun.0
turns_same before p _ fine more begun = absurd begun

ends_same : (before : Bool) (p more : Plain NodeKind) → Formed Stands p → Formed Stands more → EachBegins more
    → ends_in_member before (tree_of p) (tree_of more) ≡ plains.ends_in_member before p more
unfolding made ends_in_member
ends_same before p nil fine more begun =
    ap (λ layer. behind_turns (behind_part before (tree_of p)) (turns_of layer)) (out_parts [])
    ∙ turns_same before p nil fine more begun
ends_same before p (turn q rest) fine more begun =
    ap (λ layer. behind_turns (behind_part before (tree_of p)) (turns_of layer)) (out_parts (parts_of (turn q rest)))
    ∙ turns_same before p (turn q rest) fine more begun
ends_same before p _ fine more begun = absurd begun

-- ---- assertions
-- parts that are there
abbrev shows_parts : Plain NodeKind → Bool
shows_parts (cons p ps) = true
shows_parts _ = false

group_same : (x : Plain NodeKind) → IsPart x → Formed Stands x → group_layer (out-Cst (tree_of x)) ≡ shows_parts x
unfolding made
group_same (node l from to ps) part fine = ap group_layer (out_node l from to (parts_of ps))
group_same (leaf s n) part fine = ap group_layer (out_leaf n)
group_same nil part fine = ap group_layer (out_parts [])
group_same (cons p ps) part fine = ap group_layer (out_parts (tree_of p ∷ parts_of ps))
group_same (mark n ps) part fine = absurd part
group_same (turn p ps) part fine = absurd part
group_same (via w p) part fine = ap group_layer (out_role w (tree_of p))

assertion_same : (p : Plain NodeKind) → IsGroup p → Formed Stands p → is_assertion (tree_of p) ≡ plains.is_assertion p
unfolding made
assertion_same (cons operator nil) group fine = assertion_parts (tree_of operator ∷ [])
assertion_same (cons operator (cons (cons q qs) ps)) group fine =
    assertion_parts (tree_of operator ∷ tree_of (cons q qs) ∷ parts_of ps) ∙ group_same (cons q qs) group fine.2.0
assertion_same (cons operator (cons x ps)) group fine =
    assertion_parts (tree_of operator ∷ tree_of x ∷ parts_of ps) ∙ group_same x group fine.2.0
assertion_same (cons operator _) group fine = absurd group
assertion_same (mark n nil) group fine = assertion_parts []
assertion_same _ group fine = absurd group

-- ---- simple targets
list_simple : (p : Plain NodeKind) → IsList p → Formed Stands p → is_simple (tree_of p) ≡ false
list_simple p list fine = ap is_simple (grouped p list fine) ∙ simple_parts (parts_of p)

simple_same : (p : Plain NodeKind) → Formed Stands p → is_simple (tree_of p) ≡ plains.is_simple p
unfolding made
simple_same (node Name from to ps) fine = simple_node Name from to (parts_of ps)
simple_same (node Parenthesized from to (mark n (cons q ps))) fine =
    simple_node Parenthesized from to (tree_of q ∷ parts_of ps) ∙ simple_same q fine.2.1.0
simple_same (node Parenthesized from to _) fine = absurd fine.1
simple_same (node Chain from to (cons q (cons p (cons more ps)))) fine =
    simple_node Chain from to (tree_of q ∷ tree_of p ∷ tree_of more ∷ parts_of ps)
    ∙ ap (λ b. ends_in_member b (tree_of p) (tree_of more)) (simple_same q fine.2.0)
    ∙ ends_same (plains.is_simple q) p more fine.2.2.0 fine.2.2.2.0 fine.1
simple_same (node Chain from to _) fine = absurd fine.1
simple_same (node TypedBinary from to (cons q (cons assertion nil))) fine =
    simple_node TypedBinary from to (tree_of q ∷ tree_of assertion ∷ [])
    ∙ ap (λ b. is_assertion (tree_of assertion) && b) (simple_same q fine.2.0)
    ∙ ap (λ b. b && plains.is_simple q) (assertion_same assertion fine.1 fine.2.2.0)
simple_same (node TypedBinary from to (cons q (cons p (cons more ps)))) fine =
    simple_node TypedBinary from to (tree_of q ∷ tree_of p ∷ tree_of more ∷ parts_of ps)
simple_same (node TypedBinary from to _) fine = absurd fine.1
simple_same (node TypeAssertion from to (mark n (cons asserted (mark m (cons q ps))))) fine =
    simple_node TypeAssertion from to (tree_of asserted ∷ tree_of q ∷ parts_of ps) ∙ simple_same q fine.2.1.2.1.0
simple_same (node TypeAssertion from to _) fine = absurd fine.1
simple_same (node l from to ps) fine = simple_node l from to (parts_of ps)
simple_same (leaf s n) fine = simple_leaf n
simple_same nil fine = simple_parts []
simple_same (cons p ps) fine = list_simple (cons p ps) tt fine
simple_same (mark n ps) fine = list_simple (mark n ps) tt fine
simple_same (turn p ps) fine = list_simple (turn p ps) tt fine
simple_same (via w p) fine = simple_role w (tree_of p)

-- ---- what nodes may hold
held_same : (l : NodeKind) (ps : Plain NodeKind) → Stands l ps → Formed Stands ps
    → may_hold l (parts_of ps) ≡ plains.may_hold l ps
unfolding made may_hold
held_same Assignment (cons q ps) stands fine = simple_same q fine.0
held_same Assignment _ stands fine = absurd stands
held_same UpdatePostfix (cons q ps) stands fine = simple_same q fine.0
held_same UpdatePostfix _ stands fine = absurd stands
held_same UpdatePrefix (cons operator (cons q ps)) stands fine = simple_same q fine.2.0
held_same UpdatePrefix _ stands fine = absurd stands
held_same l ps stands fine = refl

both_same : (a b c d : Bool) → a ≡ b → c ≡ d → (a && c) ≡ (b && d)
both_same a b c d e f = ap (λ x. x && c) e ∙ ap (λ x. b && x) f

Same : Plain NodeKind → Type 0
Same p = (is_sound (tree_of p) ≡ plains.is_sound p) × (IsList p → are_sound (parts_of p) ≡ plains.is_sound p)

-- what is kept of parts is sound where each of them is
of_list : (p : Plain NodeKind) → IsList p → Formed Stands p → are_sound (parts_of p) ≡ plains.is_sound p → Same p
unfolding Same
of_list p list fine e = (ap is_sound (grouped p list fine) ∙ sound_parts (parts_of p) ∙ e, λ here. e)

sound_same : (p : Plain NodeKind) → Formed Stands p → Same p
unfolding made are_sound Same
sound_same (node l from to ps) fine = (
  sound_node l from to (parts_of ps)
      ∙ both_same (may_hold l (parts_of ps)) (plains.may_hold l ps) (are_sound (parts_of ps)) (plains.is_sound ps)
      (held_same l ps fine.1 fine.2) ((sound_same ps fine.2).1 fine.0),
  λ list. absurd list,
)
sound_same (leaf s n) fine = (sound_leaf n, λ list. absurd list)
sound_same nil fine = of_list nil tt fine refl
sound_same (cons p ps) fine =
    of_list (cons p ps) tt fine
    (both_same (is_sound (tree_of p)) (plains.is_sound p) (are_sound (parts_of ps)) (plains.is_sound ps)
    (sound_same p fine.0).0 ((sound_same ps fine.2).1 fine.1))
sound_same (mark n ps) fine = of_list (mark n ps) tt fine ((sound_same ps fine.1).1 fine.0)
sound_same (turn p ps) fine =
    of_list (turn p ps) tt fine
    (both_same (is_sound (tree_of p)) (plains.is_sound p) (are_sound (parts_of ps)) (plains.is_sound ps)
    (sound_same p fine.0).0 ((sound_same ps fine.2).1 fine.1))
sound_same (via w p) fine = (
  sound_role w (tree_of p)
      ∙ both_same (is_simple (tree_of p)) (plains.is_simple p) (is_sound (tree_of p)) (plains.is_sound p)
      (simple_same p fine)
      (sound_same p fine).0,
  λ list. absurd list,
)

-- a tree that is kept of a plain tree of a program is sound exactly where the plain tree is
pub kept_sound : (l : Lang) (m : Mode) (K : List Key) (p : Plain NodeKind)
    → Shape leans free (rule l) (program_row m) K p
    → is_sound (tree_of p) ≡ plains.is_sound p
unfolding Shape Same
kept_sound l m K p shaped =
    (sound_same p (formed l free K most_nodes (program_row m) p 0 (length K) shaped.0)).0

-- such a tree is sound
pub sound_of : (l : Lang) (m : Mode) (K : List Key) (tree : Cst) → IsKept l m K tree → is_sound tree ≡ true
sound_of l m K tree of =
    ap is_sound (sym of.kept) ∙ kept_sound l m K of.plain of.program.shaped ∙ of.program.sound

-- a sound tree that is kept of a plain tree of this shape is kept of a program
pub program_of : (l : Lang) (m : Mode) (K : List Key) (p : Plain NodeKind) (tree : Cst)
    → Shape leans free (rule l) (program_row m) K p → tree_of p ≡ tree → is_sound tree ≡ true → IsKept l m K tree
program_of l m K p tree shaped kept sound = record {
  plain = p;
  program = record { shaped = shaped; sound = sym (kept_sound l m K p shaped) ∙ ap is_sound kept ∙ sound };
  kept = kept;
}

-- keys have at most one such tree
pub one_kept : (l : Lang) (m : Mode) (K : List Key) (s t : Cst) → IsKept l m K s → IsKept l m K t → s ≡ t
one_kept l m K s t of other =
    sym of.kept ∙ ap tree_of (one_program l m K of.plain other.plain of.program other.program) ∙ other.kept
