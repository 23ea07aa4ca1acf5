-- The trees in a row of entries, and what is printed of them.
use Rattle.std.specs.Prelude.{ℕ, List, [], ◌∷◌, length, Option, Some, None, map}
use Rattle.es_token.specs.declared.token.Token.{Token}
use Rattle.es_grammar.specs.declared.cst.tree.Cst.{Cst, out-Cst}
use Rattle.es_syntax.specs.declared.entry.Entry.{Entry}
use Rattle.es_syntax.specs.declared.cursor.Siblings.{Siblings}
use Rattle.es_syntax.specs.declared.cursor.Item.{Item}
use Rattle.es_syntax.specs.declared.entry.Lean.{Lean}
use Rattle.es_syntax.specs.Held.{label_of}
use Rattle.es_syntax.specs.Trees.{Kept, kept_by, tree_by, turn_parts}
use Rattle.es_printer.specs.declared.style.Style.TheVariants.{Operator}
use Rattle.es_printer.specs.Sheet.{Sheet, Shown, put, before, behind, up_to, each, shown}

-- the trees that the entries are, each with the token behind it
unfoldable pub kept : List Entry → List Kept
kept es = kept_by (length es) es

-- the tree that stands at a place
abbrev pub tree_at : Item → Cst
tree_at i = tree_by i.what i.from i.to (kept i.parts.entries.now)

-- the first tree, and those behind it
abbrev pub first_kept : Option (Item × Siblings) → List Kept
first_kept (Some p) = (p.0.to, tree_at p.0) ∷ kept p.1.entries.now
first_kept None = []

-- the token behind the last of these trees; this one where there is none
abbrev pub last_of : ℕ → List Kept → ℕ
last_of to [] = to
last_of to (u ∷ us) = last_of u.0 us

module _ (ts : List Token) where
  -- what is printed of trees side by side
  unfoldable pub all : List Cst → Shown
  all us = each (map (shown ts) us)

  -- operators with their operands
  abbrev pub turned : List Kept → Sheet → Sheet
  turned [] s = s
  turned (u ∷ us) s = turned us (up_to ts Operator u.0 (all (turn_parts (out-Cst u.1)) Operator s))

  -- a first operand, and turns
  unfoldable pub leant : Lean → ℕ → Cst → List Kept → Shown
  leant lean from t us here s =
      put (behind ts here (label_of lean) (last_of from us)) (turned us (shown ts t Operator
      (put (before here Operator from) (up_to ts here from s))))

  -- fewer than one turn are no node
  unfoldable pub leaning : Lean → ℕ → List Kept → Shown
  leaning lean from (t ∷ u ∷ us) here s = leant lean from t.1 (u ∷ us) here s
  leaning lean from _ here s = s
