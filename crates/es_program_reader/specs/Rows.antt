-- The trees that a cursor over a row stands at, and what is asked of those that lean left.
use Rattle.std.specs.Prelude.{Bool, true, false, ◌&&◌, List, [], ◌∷◌, length, take, Option, Some, None}
use Rattle.es_grammar.specs.declared.cst.tree.Cst.{Cst, out-Cst}
use Rattle.es_syntax.specs.declared.entry.What.{What}
use Rattle.es_syntax.specs.declared.entry.What.TheVariants as vWhat
use Rattle.es_syntax.specs.declared.entry.Entry.{Entry}
use Rattle.es_syntax.specs.declared.cursor.Siblings.{Siblings}
use Rattle.es_syntax.specs.declared.cursor.Item.{Item}
use Rattle.es_syntax.specs.Trees.{Kept, turn_parts, trees_in, tree_by, kept_by}
use Rattle.es_program_reader.specs.Sound.{is_assertion, first_is, is_simple, may_hold, is_sound, are_sound}

-- the trees that the entries are, each with the token behind its last one
unfoldable pub kept_in : List Entry → List Kept
kept_in es = kept_by (length es) es

abbrev pub trees_at : Siblings → List Cst
trees_at row = trees_in (kept_in row.entries.now)

abbrev pub tree_at : Item → Cst
tree_at i = tree_by i.what i.from i.to (kept_in i.parts.entries.now)

-- the first part and those behind it
abbrev pub first_kept : Option (Item × Siblings) → List Kept
first_kept None = []
first_kept (Some p) = (p.0.to, tree_at p.0) ∷ kept_in p.1.entries.now

-- a sound node that is a simple target
abbrev pub target_sound : Cst → Bool
target_sound t = is_simple t && is_sound t

-- ---- a first operand and turns: the nodes that lean left over them

-- the parts of a turn are an assertion alone
abbrev pub one_assertion : List Cst → Bool
one_assertion (assertion ∷ []) = is_assertion assertion
one_assertion _ = false

-- so are those of each of these
abbrev pub all_assert : List Cst → Bool
all_assert [] = true
all_assert (turn ∷ turns) = one_assertion (turn_parts (out-Cst turn)) && all_assert turns

-- a simple target with assertions behind it, one at least
abbrev pub leant_simple : List Cst → Bool
leant_simple (first ∷ turn ∷ turns) = all_assert (turn ∷ turns) && is_simple first
leant_simple _ = false

-- the parts of each turn are sound
abbrev pub turns_sound : List Cst → Bool
turns_sound [] = true
turns_sound (turn ∷ turns) = are_sound (turn_parts (out-Cst turn)) && turns_sound turns

abbrev pub leant_sound : List Cst → Bool
leant_sound (first ∷ turn ∷ turns) = is_sound first && turns_sound (turn ∷ turns)
leant_sound _ = true

-- ---- entry by entry

-- what is assigned to, or updated, by what stands there over these parts is a simple target
abbrev pub holds_target : What → List Cst → Bool
holds_target (vWhat.Node label) ts = may_hold label ts
holds_target (vWhat.Role label) ts = first_is is_simple ts
holds_target _ ts = true

-- so it is by each entry, over as many of those behind it as its parts take
abbrev pub each_holds_target : List Entry → Bool
each_holds_target [] = true
each_holds_target (e ∷ es) = holds_target e.what (trees_in (kept_in (take e.size es))) && each_holds_target es

-- by the first entry and those behind it
abbrev pub next_holds_target : Option (Item × Siblings) → Bool
next_holds_target None = true
next_holds_target (Some p) = holds_target p.0.what (trees_at p.0.parts) && each_holds_target p.1.entries.now
