-- A row in which all is kept is printed as the program's row is.
use Rattle.std.specs.Prelude.{ℕ, zero, suc, List, [], ◌∷◌, length, take, drop, map, Option}
use Rattle.std.proofs.Common.{◌≡◌, refl, sym, ap, subst, ◌∙◌}
use Rattle.es_token.specs.declared.token.Token.{Token}
use Rattle.es_comments.specs.Placed.{Placed}
use Rattle.es_grammar.specs.declared.rows.NodeKind.{NodeKind}
use Rattle.es_grammar.specs.declared.cst.tree.Cst.{Cst, out-Cst}
use Rattle.es_grammar.specs.declared.cst.tree.Cst.TheVariants as vCst
use Rattle.es_syntax.specs.declared.entry.Lean.{Lean}
use Rattle.es_syntax.specs.declared.entry.What.{What}
use Rattle.es_syntax.specs.declared.entry.What.TheVariants as what
use Rattle.es_syntax.specs.declared.entry.Entry.{Entry}
use Rattle.es_syntax.specs.Held.{label_of}
use Rattle.es_syntax.specs.Trees.{Kept, turn_parts, first_tree, trees_in, tree_by, kept_by, trees}
use Rattle.es_changed.specs.declared.entry.Change.TheVariants as change
use Rattle.es_changed.specs.Shape.{old_entry}
use Rattle.es_changed.proofs.Rows.{take_map, drop_map, length_map}
use Rattle.es_printer.specs.declared.style.Style.{Style}
use Rattle.es_printer.specs.declared.style.Style.TheVariants.{Plain, Operator}
use Rattle.es_printer.specs.Table.{style}
use Rattle.es_printer.specs.Sheet as sheet
use Rattle.es_printer.specs.Sheet.{Sheet, put, before, behind, up_to, node}
use Rattle.es_printer.specs.Lines as lines
use Rattle.es_printer.specs.Rows as rows
use Rattle.es_printer.proofs.Equations.{shown_leaf, shown_node, shown_role, shown_parts}
use Rattle.es_printer.proofs.LeanLemmas.{shown_lean}
use Rattle.es_printer.proofs.TurnLemmas.{turn_leaf, turn_node, turn_role, turn_group, turn_lean}
use Rattle.es_changed_printer.specs.Pieces.{Part, last_of, all, first, turn, turned, leant, leaning, part_by, read, parts, pieces, printed}

module _ (ts : List Token) where
  -- a part and a kept tree end at one token, are printed alike, and so are their parts as those of a turn
  record SamePart (p : Part) (u : Kept) : Type 0 where
    to : p.to ≡ u.0
    prints : (here : Style) (s : Sheet) → p.shown here s ≡ sheet.shown ts u.1 here s
    turns : (s : Sheet) → turn p.is_group p.shown s ≡ rows.all ts (turn_parts (out-Cst u.1)) Operator s

  abbrev Same : List Part → List Kept → Type 0
  Same [] [] = Unit {0}
  Same (p ∷ ps) (u ∷ us) = SamePart p u × Same ps us
  Same _ _ = ⊥

  same_all : (ps : List Part) (us : List Kept) → Same ps us → (own : Style) (s : Sheet)
      → all ps own s ≡ rows.all ts (trees_in us) own s
  unfolding all rows.all
  same_all [] [] e own s = refl
  same_all [] (u ∷ us) e own s = absurd e
  same_all (p ∷ ps) [] e own s = absurd e
  same_all (p ∷ ps) (u ∷ us) e own s =
      same_all ps us e.1 own (p.shown own s) ∙ ap (rows.all ts (trees_in us) own) (e.0.prints own s)

  same_first : (ps : List Part) (us : List Kept) → Same ps us → (here : Style) (s : Sheet)
      → first ps here s ≡ sheet.shown ts (first_tree (trees_in us)) here s
  unfolding rows.all
  same_first [] [] e here s = sym (shown_parts ts [] here s)
  same_first [] (u ∷ us) e here s = absurd e
  same_first (p ∷ ps) [] e here s = absurd e
  same_first (p ∷ ps) (u ∷ us) e here s = e.0.prints here s

  same_last : (ps : List Part) (us : List Kept) → Same ps us → (to : ℕ) → last_of to ps ≡ rows.last_of to us
  same_last [] [] e to = refl
  same_last [] (u ∷ us) e to = absurd e
  same_last (p ∷ ps) [] e to = absurd e
  same_last (p ∷ ps) (u ∷ us) e to = same_last ps us e.1 p.to ∙ ap (λ n. rows.last_of n us) e.0.to

  same_turned : (ps : List Part) (us : List Kept) → Same ps us → (s : Sheet) → turned ts ps s ≡ rows.turned ts us s
  same_turned [] [] e s = refl
  same_turned [] (u ∷ us) e s = absurd e
  same_turned (p ∷ ps) [] e s = absurd e
  same_turned (p ∷ ps) (u ∷ us) e s =
      same_turned ps us e.1 (up_to ts Operator p.to (turn p.is_group p.shown s))
      ∙ ap (rows.turned ts us) (ap (λ n. up_to ts Operator n (turn p.is_group p.shown s)) e.0.to
      ∙ ap (up_to ts Operator u.0) (e.0.turns s))

  same_leaning : (lean : Lean) (from : ℕ) (ps : List Part) (us : List Kept) → Same ps us → (here : Style) (s : Sheet)
      → leaning ts lean from ps here s ≡ rows.leaning ts lean from us here s
  unfolding leaning leant rows.leaning rows.leant
  same_leaning lean from [] [] e here s = refl
  same_leaning lean from [] (u ∷ us) e here s = absurd e
  same_leaning lean from (p ∷ ps) [] e here s = absurd e
  same_leaning lean from (p ∷ []) (u ∷ []) e here s = refl
  same_leaning lean from (p ∷ []) (u ∷ v ∷ us) e here s = absurd e.1
  same_leaning lean from (p ∷ q ∷ ps) (u ∷ []) e here s = absurd e.1
  same_leaning lean from (p ∷ q ∷ ps) (u ∷ v ∷ us) e here s =
      let begun = put (before here Operator from) (up_to ts here from s) in
      ap (λ n. put (behind ts here (label_of lean) n) (turned ts (q ∷ ps) (p.shown Operator begun)))
      (same_last (q ∷ ps) (v ∷ us) e.1 from)
      ∙ ap (put (behind ts here (label_of lean) (rows.last_of from (v ∷ us))))
      (same_turned (q ∷ ps) (v ∷ us) e.1 (p.shown Operator begun)
      ∙ ap (rows.turned ts (v ∷ us)) (e.0.prints Operator begun))

  same_node : (label : NodeKind) (from to : ℕ) (ps : List Part) (us : List Kept) → Same ps us → (here : Style) (s : Sheet)
      → node ts label from to (all ps) here s ≡ node ts label from to (rows.all ts (trees_in us)) here s
  unfolding node
  same_node label from to ps us e here s =
      ap (λ t. put (behind ts here label to) (up_to ts (style label) to t))
      (same_all ps us e (style label) (put (before here (style label) from) (up_to ts here from s)))

  nothing_turns : (t : Cst) → turn_parts (out-Cst t) ≡ [] → (s : Sheet)
      → s ≡ rows.all ts (turn_parts (out-Cst t)) Operator s
  unfolding rows.all
  nothing_turns t e s = sym (ap (λ us. rows.all ts us Operator s) e)

  same_part : (w : What) (from to : ℕ) (ps : List Part) (us : List Kept) → Same ps us
      → SamePart (part_by ts (change.Old w) from to ps) (to, tree_by w from to us)
  same_part what.Leaf from to ps us e = record {
    to = refl;
    prints = λ here s. sym (shown_leaf ts from here s);
    turns = nothing_turns (vCst.Leaf from) (turn_leaf from);
  }
  same_part (what.Node label) from to ps us e = record {
    to = refl;
    prints = λ here s.
        same_node label from to ps us e here s ∙ sym (shown_node ts label from to (trees_in us) here s);
    turns = nothing_turns (vCst.Node label from to (trees_in us)) (turn_node label from to (trees_in us));
  }
  same_part (what.Role label) from to ps us e = record {
    to = refl;
    prints = λ here s.
        same_first ps us e here s ∙ sym (shown_role ts label (first_tree (trees_in us)) here s);
    turns = nothing_turns (vCst.Role label (first_tree (trees_in us))) (turn_role label (first_tree (trees_in us)));
  }
  same_part what.Parts from to ps us e = record {
    to = refl;
    prints = λ here s. same_all ps us e here s ∙ sym (shown_parts ts (trees_in us) here s);
    turns = λ s.
        same_all ps us e Operator s ∙ sym (ap (λ ts_. rows.all ts ts_ Operator s) (turn_group (trees_in us)));
  }
  same_part (what.Lean lean) from to ps us e = record {
    to = refl;
    prints = λ here s. same_leaning lean from ps us e here s ∙ sym (shown_lean ts lean from us here s);
    turns = nothing_turns (tree_by (what.Lean lean) from to us) (turn_lean lean from us);
  }

  same_read : (n : ℕ) (es : List Entry) → Same (read ts n (map old_entry es)) (kept_by n es)
  same_read zero es = tt
  same_read (suc n) [] = tt
  same_read (suc n) (e ∷ es) = (
    same_part e.what e.from e.to _ _
        (subst (λ fs. Same (read ts n fs) (kept_by n (take e.size es))) (sym (take_map e.size es))
        (same_read n (take e.size es))),
    subst (λ fs. Same (read ts n fs) (kept_by n (drop e.size es))) (sym (drop_map e.size es))
        (same_read n (drop e.size es)),
  )

  same_pieces : (es : List Entry) → pieces ts (map old_entry es) ≡ sheet.pieces ts (first_tree (trees es))
  unfolding parts trees
  same_pieces es =
      let whole = subst (λ n. Same (read ts n (map old_entry es)) (kept_by (length es) es)) (sym (length_map es))
      (same_read (length es) es) in
      ap (λ (s : Sheet). s.pieces)
      (same_first (parts ts (map old_entry es)) (kept_by (length es) es) whole Plain (record { pieces = []; next = 0 }))

-- the text of a row in which all is kept is that of the program's row
pub kept_printed : (x : List ℕ) (ts : List Token) (comments : Option Placed) (es : List Entry)
    → printed x ts comments (map old_entry es) ≡ lines.printed x ts comments (first_tree (trees es))
unfolding printed lines.printed
kept_printed x ts comments es =
    ap (λ qs. lines.finished (lines.laid x ts comments lines.start qs)) (same_pieces ts es)
