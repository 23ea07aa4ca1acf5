-- What is printed of a changed row, piece by piece: the tokens of what is kept and changed, each as the innermost node around it
-- says, and the tokens that no text has. What is gone is printed up to, and the text goes on with the token of its end.
use Rattle.std.specs.Prelude.{ℕ, zero, suc, Bool, true, false, List, [], ◌∷◌, length, take, drop, map, Option, Some, None}
use Rattle.es_token.specs.declared.token.Token.{Token}
use Rattle.es_grammar.specs.declared.rows.NodeKind.{NodeKind}
use Rattle.es_comments.specs.Placed.{Placed}
use Rattle.es_syntax.specs.declared.entry.Lean.{Lean}
use Rattle.es_syntax.specs.declared.entry.What.TheVariants as what
use Rattle.es_syntax.specs.Held.{label_of}
use Rattle.es_changed.specs.declared.entry.Form.{Form}
use Rattle.es_changed.specs.declared.entry.Change.{Change}
use Rattle.es_changed.specs.declared.entry.Change.TheVariants as change
use Rattle.es_changed.specs.declared.entry.ChangedEntry.{ChangedEntry}
use Rattle.es_changed.specs.declared.cursor.ChangedSiblings.{ChangedSiblings}
use Rattle.es_changed.specs.declared.cursor.ChangedItem.{ChangedItem}
use Rattle.es_printer.specs.declared.piece.Piece.{Piece}
use Rattle.es_printer.specs.declared.piece.Piece.TheVariants as piece
use Rattle.es_printer.specs.declared.style.Style.TheVariants.{Plain, Operator}
use Rattle.es_printer.specs.Sheet.{Sheet, Shown, put, before, behind, up_to, each, node}
use Rattle.es_printer.specs.Lines.{start, laid, finished}
use Rattle.es_changed_printer.specs.declared.signs.Place.{Place}
use Rattle.es_changed_printer.specs.declared.signs.Place.TheVariants.{First}
use Rattle.es_changed_printer.specs.Signs.{word_sign, alternative, style_in, opens, shuts, ahead, counted}

-- what stands at a place: the token behind it, whether it is a part, whether it is a group, and what is printed of it
pub record Part : Type 0 where
  pub to : ℕ
  pub is_part : Bool
  pub is_group : Bool
  pub shown : Shown

-- the token behind the last of these; this one where there is none
abbrev pub last_of : ℕ → List Part → ℕ
last_of to [] = to
last_of to (p ∷ ps) = last_of p.to ps

-- the text goes on with this token
abbrev pub go_on : ℕ → Sheet → Sheet
go_on to s = record { pieces = s.pieces; next = to }

-- one after the other
unfoldable pub all : List Part → Shown
all ps = each (map (λ (p : Part). p.shown) ps)

-- the first one
abbrev pub first : List Part → Shown
first [] here s = s
first (p ∷ ps) here s = p.shown here s

-- the parts of a form, each behind what is printed before it
abbrev pub run : Form → Place → List Part → Shown
run f place [] own s = s
run f place (p ∷ ps) own s =
    run f (counted place p.is_part) ps own (p.shown own (put (ahead f place p.is_part) s))

-- a form that no text has
unfoldable pub made_form : Form → ℕ → List Part → Shown
made_form f from ps here s = put (shuts f) (run f First ps (style_in f here) (put (opens f from) s))

abbrev pub is_part : Change → Bool
is_part change.Gone = false
is_part _ = true

abbrev pub is_group : Change → Bool
is_group (change.Old what.Parts) = true
is_group _ = false

-- of a turn, its parts
abbrev pub turn : (is_group : Bool) → Shown → Sheet → Sheet
turn true shown s = shown Operator s
turn false shown s = s

module _ (ts : List Token) where
  -- ---- nodes that lean left
  -- operators with their operands
  abbrev pub turned : List Part → Sheet → Sheet
  turned [] s = s
  turned (u ∷ us) s = turned us (up_to ts Operator u.to (turn u.is_group u.shown s))

  -- a first operand, and turns
  unfoldable pub leant : Lean → ℕ → Part → List Part → Shown
  leant lean from p us here s =
      put (behind ts here (label_of lean) (last_of from us)) (turned us (p.shown Operator
      (put (before here Operator from) (up_to ts here from s))))

  -- fewer than one turn are no node
  unfoldable pub leaning : Lean → ℕ → List Part → Shown
  leaning lean from (p ∷ u ∷ us) here s = leant lean from p (u ∷ us) here s
  leaning lean from _ here s = s

  -- ---- forms
  -- one that stands in the text, as a node of this alternative
  unfoldable pub standing : NodeKind → Form → ℕ → ℕ → List Part → Shown
  standing label f from to ps =
      node ts label from to (λ own s. put (shuts f) (up_to ts own to (run f First ps own (put (opens f from) s))))

  abbrev pub form_by : Option NodeKind → Form → ℕ → ℕ → List Part → Shown
  form_by (Some label) f from to ps = standing label f from to ps
  form_by None f from to ps = made_form f from ps

  -- ---- the whole
  abbrev pub shown : Change → ℕ → ℕ → List Part → Shown
  shown (change.Old what.Leaf) from to ps here s = s
  shown (change.Old (what.Node label)) from to ps here s = node ts label from to (all ps) here s
  shown (change.Old (what.Role label)) from to ps here s = first ps here s
  shown (change.Old what.Parts) from to ps here s = all ps here s
  shown (change.Old (what.Lean lean)) from to ps here s = leaning lean from ps here s
  shown (change.Form f) from to ps here s = form_by (alternative f) f from to ps here s
  shown (change.Word w) from to ps here s = put (piece.Made (word_sign w) ∷ []) s
  shown change.Gone from to ps here s = go_on to (up_to ts here from s)

  abbrev pub part_by : Change → ℕ → ℕ → List Part → Part
  part_by c from to ps = record { to = to; is_part = is_part c; is_group = is_group c; shown = shown c from to ps }

  -- what the entries are, by at most so many steps
  abbrev pub read : ℕ → List ChangedEntry → List Part
  read zero es = []
  read (suc n) [] = []
  read (suc n) (e ∷ es) = part_by e.change e.from e.to (read n (take e.size es)) ∷ read n (drop e.size es)

  unfoldable pub parts : List ChangedEntry → List Part
  parts es = read (length es) es

  -- what stands where a cursor does
  abbrev pub part_at : ChangedItem → Part
  part_at i = part_by i.change i.from i.to (parts i.parts.entries.now)

  -- what stands first, and what stands behind it
  abbrev pub first_part : Option (ChangedItem × ChangedSiblings) → List Part
  first_part (Some p) = part_at p.0 ∷ parts p.1.entries.now
  first_part None = []

  -- what is printed of the program that stands first
  abbrev pub pieces : List ChangedEntry → List Piece
  pieces es = (first (parts es) Plain (record { pieces = []; next = 0 })).pieces

-- its text, with the comments before its items, where they are printed
unfoldable pub printed : List ℕ → List Token → Option Placed → List ChangedEntry → List ℕ
printed x ts comments es = finished (laid x ts comments start (pieces ts es))
