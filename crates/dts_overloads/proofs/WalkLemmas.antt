-- What is left while a walk is on its way.
use Rattle.std.specs.Prelude.{ℕ, ◌+◌, ◌*◌, Bool, true, false, List, [], ◌∷◌, ◌++◌, length, map, Option, Some, None, if◌then◌else◌}
use Rattle.std.proofs.Common.{◌≡◌, refl, sym, ap, subst, ◌∙◌, arith}
use Rattle.base.specs.declared.range.Range.{Range}
use Rattle.es_token.specs.declared.token.Token.{Token}
use Rattle.es_ast.specs.declared.ast.Program.{Program}
use Rattle.es_grammar.specs.declared.rows.NodeKind.{NodeKind}
use Rattle.es_grammar.specs.declared.cst.tree.Cst.TheVariants as vCst
use Rattle.es_lowering.specs.Value.{Value, part}
use Rattle.es_lowering.specs.Texts.{span_of}
use Rattle.es_syntax.specs.declared.entry.Entry.{Entry}
use Rattle.es_syntax.specs.declared.entry.Lean.{Lean}
use Rattle.es_syntax.specs.declared.cursor.Siblings.{Siblings}
use Rattle.es_syntax.specs.declared.cursor.Item.{Item}
use Rattle.es_syntax.specs.Held.{held}
use Rattle.es_syntax.specs.Roles.{program_in}
use Rattle.es_syntax.specs.Trees.{first_tree, leant_tree, trees_in, trees}
use Rattle.es_walk.specs.Rows.{kept, first_trees}
use Rattle.dts_rules.specs.Ranges.{has_range}
use Rattle.dts_overloads.specs.Overloads.{HasOverloads}
use Rattle.dts_overloads.specs.Among.{none, ◌∪◌, all_of, Among, of_program}
use Rattle.dts_overloads.specs.declared.lists.Act.{Act}
use Rattle.dts_overloads.specs.declared.shapes.Shape.TheVariants as sh
use Rattle.dts_overloads.specs.declared.walk.Frame.{Frame}
use Rattle.dts_overloads.specs.Plan.{plan, inner}
use Rattle.dts_overloads.specs.Met.{Told, both, Met, more, packed, one, rows, Way, inward, onward, reaches, met, IsSpot}
use Rattle.dts_overloads.specs.Own.{act_of, told_of, own_by, own, met_of, row_met, item_met}
use Rattle.dts_overloads.specs.Left.{operands_of, lean_told, Gives, Takes, frame_told, ahead, weight}
use Rattle.dts_overloads.proofs.Seen.{Sees, both_none, none_both, both_assoc, moved}
use Rattle.dts_overloads.proofs.Agrees.{first, rows_are, in_role, parts, met_group}
use Rattle.dts_overloads.proofs.Trees.{met_leaf, met_node, met_parts}
use Rattle.dts_overloads.proofs.Given.{gives_none, gives_both, takes_all, takes_same}
use Rattle.dts_overloads.proofs.RowLemmas.{spot_met, split_row, row_kept, lean_row, role_row, row_agrees, held_kept}

-- ---- stacks
module _ (x : List ℕ) (ts : List Token) where
  pub ahead_none : ahead x ts [] ≡ Some none
  unfolding ahead
  ahead_none = refl

  pub ahead_more : (fs : List Frame) (f : Frame)
      → ahead x ts (fs ++ f ∷ []) ≡ both (frame_told x ts f) (ahead x ts fs)
  unfolding ahead
  ahead_more [] f = none_both (frame_told x ts f) ∙ sym (both_none (frame_told x ts f))
  ahead_more (k ∷ fs) f =
      ap (λ (z : Told). both z (frame_told x ts k)) (ahead_more fs f)
      ∙ both_assoc (frame_told x ts f) (ahead x ts fs) (frame_told x ts k)

pub weight_more : (fs : List Frame) (f : Frame)
    → weight (fs ++ f ∷ []) ≡ weight fs + (2 * length f.row.entries.now + 1)
unfolding weight
weight_more [] f = omega arith
weight_more (k ∷ fs) f = let more = weight_more fs f in omega (arith, more)

-- ---- nodes
module _ (label : NodeKind) (p : Value) (q : Met) (s0 s1 : Told) where
  pub plain_takes : (o : Option Act) (f : List Range) → o ≡ act_of label → o ≡ None
      → s1 ≡ both (met q (rows (plan label))) s0 → Takes (both (own label p q) s0) s1 f f
  plain_takes o f is none told =
      takes_same _ s1 f (told ∙ ap (λ (o : Option Act). both (own_by o label p q) s0) (sym none ∙ is))

  own_takes_by : (a : Told) (w : Told) (old new : List Range) → Gives a old new → s1 ≡ both w s0
      → Takes (both (both a w) s0) s1 old new
  own_takes_by a w old new g told = record {
    takes = λ last h.
        subst (λ (t : Told). Gives t old last) (sym (both_assoc a w s0))
        (gives_both a (both w s0) old new last g (subst (λ (t : Told). Gives t new last) told h));
  }

  pub own_takes : (act : Act) (old new : List Range) → Some act ≡ act_of label
      → Gives (told_of act p) old new → s1 ≡ both (met q (rows (plan label))) s0
      → Takes (both (own label p q) s0) s1 old new
  own_takes act old new is g told =
      subst (λ (t : Told). Takes (both t s0) s1 old new)
      (ap (λ (o : Option Act). own_by o label p q) is)
      (own_takes_by (told_of act p) (met q (rows (plan label))) old new g told)

-- ---- chains of operators
module _ (x : List ℕ) (ts : List Token) (lean : Lean) (s0 : Told) where
  pub lean_none : (es : List Entry) → trees es ≡ [] → s0 ≡ both (lean_told lean (row_met x ts es)) s0
  lean_none es e =
      sym (none_both s0) ∙ ap (λ (v : Met). both (lean_told lean v) s0) (sym (split_row x ts es None e))

  pub lean_one : (es : List Entry) (i : Item × Siblings) → trees es ≡ first_trees (Some i)
      → trees i.1.entries.now ≡ [] → s0 ≡ both (lean_told lean (row_met x ts es)) s0
  lean_one es i e f =
      sym (none_both s0)
      ∙ ap (λ (v : Met). both (lean_told lean v) s0)
      (sym (split_row x ts es (Some i) e ∙ ap (more (item_met x ts i.0)) (split_row x ts i.1.entries.now None f)))

  pub lean_more : (es : List Entry) (i j : Item × Siblings) (s1 : Told) → trees es ≡ first_trees (Some i)
      → trees i.1.entries.now ≡ first_trees (Some j)
      → s1 ≡ both (met (row_met x ts es) (rows (inner (operands_of lean)))) s0
      → s1 ≡ both (lean_told lean (row_met x ts es)) s0
  lean_more es i j s1 e f told =
      let row = split_row x ts es (Some i) e
      ∙ ap (more (item_met x ts i.0)) (split_row x ts i.1.entries.now (Some j) f) in
      told
      ∙ ap (λ (v : Met). both (met v (rows (inner (operands_of lean)))) s0) row
      ∙ ap (λ (v : Met). both (lean_told lean v) s0) (sym row)

-- ---- items
module _ (x : List ℕ) (ts : List Token) (s0 s1 : Told) where
  pub one_leaf : (at : ℕ) (f : List Range) → Takes (both (met (met_of x ts (vCst.Leaf at)) one) s0) s0 f f
  one_leaf at f =
      takes_same _ s0 f
      (sym (none_both s0) ∙ ap (λ (v : Met). both (met v one) s0) (sym (met_leaf x ts at)))

  packed_one : (vs : List Met) → met (packed vs) one ≡ Some none
  packed_one [] = refl
  packed_one (v ∷ vs) = met_group v (packed vs)

  pub one_parts : (es : List Entry) (f : List Range)
      → Takes (both (met (met_of x ts (vCst.Parts (trees_in (kept es)))) one) s0) s0 f f
  one_parts es f =
      takes_same _ s0 f
      (sym (none_both s0)
      ∙ ap (λ (t : Told). both t s0)
      (sym (ap (λ (v : Met). met v one) (met_parts x ts (trees_in (kept es)))
      ∙ packed_one (map (met_of x ts) (trees_in (kept es))))))

  pub one_node : (label : NodeKind) (from to : ℕ) (es : List Entry) (old new : List Range)
      → Takes (both (own label (held x ts es) (row_met x ts es)) s0) s1 old new
      → Takes (both (met (met_of x ts (vCst.Node label from to (trees_in (kept es)))) one) s0) s1 old new
  one_node label from to es old new t =
      subst (λ (a : Told). Takes (both a s0) s1 old new)
      (sym (ap (λ (v : Met). met v one) (met_node x ts label from to (trees_in (kept es)))
      ∙ ap (λ (p : Value). own label p (packed (map (met_of x ts) (trees_in (kept es)))))
      (held_kept x ts es)
      ∙ ap (λ (q : Met). own label (held x ts es) q) (sym (row_kept x ts es)))) t

  pub one_role : (label : NodeKind) (es : List Entry) (f : List Range)
      → s1 ≡ both (met (row_met x ts es) (rows (sh.Node ∷ []))) s0
      → Takes (both (met (met_of x ts (vCst.Role label (first_tree (trees_in (kept es))))) one) s0) s1 f f
  one_role label es f told =
      takes_same _ s1 f (told ∙ ap (λ (t : Told). both t s0) (sym (role_row x ts label es)))

  pub one_lean : (lean : Lean) (from : ℕ) (es : List Entry) (f : List Range)
      → s1 ≡ both (lean_told lean (row_met x ts es)) s0
      → Takes (both (met (met_of x ts (leant_tree lean from (kept es))) one) s0) s1 f f
  one_lean lean from es f told =
      takes_same _ s1 f (told ∙ ap (λ (t : Told). both t s0) (sym (lean_row x ts lean from es)))

-- ---- on a way
module _ (v : Met) (way : Way) (s0 s1 : Told) where
  pub group_takes : (w : Met) (f : List Range) → v ≡ w → s1 ≡ both (met w way) s0 → Takes (both (met v way) s0) s1 f f
  group_takes w f is told = takes_same _ s1 f (told ∙ ap (λ (z : Met). both (met z way) s0) (sym is))

  spot_with : (b : Bool) → IsSpot v → reaches way ≡ b → met v way ≡ (if b then met v one else Some none)
  spot_with b s e = spot_met v s way ∙ ap (λ (b : Bool). if b then met v one else Some none) e

  pub spot_takes : (old new : List Range) → IsSpot v → reaches way ≡ true → Takes (both (met v one) s0) s1 old new
      → Takes (both (met v way) s0) s1 old new
  spot_takes old new s e t =
      subst (λ (a : Told). Takes (both a s0) s1 old new) (sym (spot_with true s e)) t

  pub passed_takes : (f : List Range) → IsSpot v → reaches way ≡ false → Takes (both (met v way) s0) s0 f f
  passed_takes f s e =
      takes_same _ s0 f (sym (none_both s0) ∙ ap (λ (a : Told). both a s0) (sym (spot_with false s e)))

-- ---- a level
module _ (x : List ℕ) (ts : List Token) (es : List Entry) (way : Way) (s0 : Told) where
  pub none_takes : (f : List Range) → trees es ≡ [] → Takes (both (met (row_met x ts es) way) s0) s0 f f
  none_takes f e =
      takes_same _ s0 f
      (sym (none_both s0) ∙ ap (λ (v : Met). both (met v way) s0) (sym (split_row x ts es None e)))

  pub some_takes : (i : Item × Siblings) (into on : Way) (s1 s2 : Told) (old new : List Range)
      → trees es ≡ first_trees (Some i) → inward way (item_met x ts i.0) ≡ into → onward way (item_met x ts i.0) ≡ on
      → s1 ≡ both (met (row_met x ts i.1.entries.now) on) s0
      → Takes (both (met (item_met x ts i.0) into) s1) s2 old new
      → Takes (both (met (row_met x ts es) way) s0) s2 old new
  some_takes i into on s1 s2 old new e a b told t =
      subst (λ (z : Told). Takes z s2 old new)
      (ap (both (met (item_met x ts i.0) into)) told
      ∙ sym (both_assoc (met (item_met x ts i.0) into) (met (row_met x ts i.1.entries.now) on) s0)
      ∙ ap (λ (w : Way). both (both (met (item_met x ts i.0) w) (met (row_met x ts i.1.entries.now) on)) s0) (sym a)
      ∙ ap (λ (w : Way). both (both (met (item_met x ts i.0) (inward way (item_met x ts i.0)))
      (met (row_met x ts i.1.entries.now) w)) s0) (sym b)
      ∙ ap (λ (v : Met). both (met v way) s0) (sym (split_row x ts es (Some i) e))) t

-- ---- a walk
module _ (x : List ℕ) (ts : List Token) (all : List Frame) where
  pub walk_start : (f : List Range) → Takes (ahead x ts all) (ahead x ts all) f f
  walk_start f = takes_all (ahead x ts all) f

  pub walk_next : (left fewer new : List Frame) (frame : Frame) (start now last_found : List Range)
      → Takes (ahead x ts all) (ahead x ts left) start now → left ≡ fewer ++ frame ∷ []
      → Takes (both (frame_told x ts frame) (ahead x ts fewer)) (ahead x ts new) now last_found
      → Takes (ahead x ts all) (ahead x ts new) start last_found
  walk_next left fewer new frame start now last_found before e t = record {
    takes = λ last g.
        before.takes last
        (subst (λ (z : Told). Gives z now last) (sym (ap (ahead x ts) e ∙ ahead_more x ts fewer frame))
        (t.takes last g));
  }

  pub walk_done : (left : List Frame) (start now : List Range) → Takes (ahead x ts all) (ahead x ts left) start now
      → left ≡ [] → Gives (ahead x ts all) start now
  walk_done left start now before e =
      before.takes now
      (subst (λ (z : Told). Gives z now now) (sym (ap (ahead x ts) e ∙ ahead_none x ts)) (gives_none now))

-- ---- a program
program_sees : (x : List ℕ) (ts : List Token) (es : List Entry)
    → Sees of_program (program_in (part (held x ts es) 0)) (met (row_met x ts es) (rows (sh.Node ∷ [])))
program_sees x ts es =
    moved of_program _ _ _
    (rows_are (sh.Node ∷ []) refl (row_met x ts es) ∙ both_none (met (first (row_met x ts es)) one))
    (in_role of_program (λ m. m.program) (λ m t s. s.program) (part (held x ts es) 0) (first (row_met x ts es))
    (parts (held x ts es) (row_met x ts es) (row_agrees x ts es) 0))

found_by : (o : Option Program) (told : Told) (new : List Range) → Sees of_program o told → Gives told [] new
    → HasOverloads o new
unfolding of_program
found_by None told new s g = record { has = tt }
found_by (Some p) told new s g =
    let e : has_range new ≡ of_program p = subst (λ (t : Told). Gives t [] new) s.sees g in
    record { has = λ r. ap (λ (f : Among). f r) e }

pub finds : (x : List ℕ) (ts : List Token) (es : List Entry) (stack new_stack : List Frame) (start new : List Range)
    → stack ≡ [] → ahead x ts new_stack ≡ both (met (row_met x ts es) (rows (sh.Node ∷ []))) (ahead x ts stack)
    → start ≡ [] → Gives (ahead x ts new_stack) start new → HasOverloads (program_in (part (held x ts es) 0)) new
finds x ts es stack new_stack start new e told a g =
    found_by (program_in (part (held x ts es) 0)) (met (row_met x ts es) (rows (sh.Node ∷ []))) new
    (program_sees x ts es)
    (subst (λ (t : Told). Gives t [] new)
    (told ∙ ap (λ (fs : List Frame). both (met (row_met x ts es) (rows (sh.Node ∷ []))) (ahead x ts fs)) e
    ∙ ap (both (met (row_met x ts es) (rows (sh.Node ∷ [])))) (ahead_none x ts)
    ∙ both_none (met (row_met x ts es) (rows (sh.Node ∷ []))))
    (subst (λ (f : List Range). Gives (ahead x ts new_stack) f new) a g))
