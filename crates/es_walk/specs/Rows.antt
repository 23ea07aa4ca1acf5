-- The parts of a node, of a group and of a list, as a row of entries has them.
use Rattle.std.specs.Prelude.{ℕ, zero, suc, List, [], ◌∷◌, ◌++◌, length, Option, Some, None, map}
use Rattle.es_grammar.specs.declared.cst.tree.Cst.{Cst, out-Cst}
use Rattle.es_grammar.specs.declared.cst.tree.Cst.TheOpen.{Cst-F}
use Rattle.es_syntax.specs.declared.entry.Entry.{Entry}
use Rattle.es_syntax.specs.declared.entry.Lean.{Lean}
use Rattle.es_syntax.specs.declared.cursor.Siblings.{Siblings}
use Rattle.es_syntax.specs.declared.cursor.Item.{Item}
use Rattle.es_syntax.specs.Trees.{Kept, kept_by, tree_by, turn_parts, trees}
use Rattle.es_walk.specs.declared.step.Path.{Path}
use Rattle.es_walk.specs.declared.step.Path.TheVariants as path
use Rattle.es_walk.specs.Part.{Part, absent, nil, more, packed}
use Rattle.es_walk.specs.Walk.{Analysis, found, each, stands, by_steps, most_turns, part_of}

-- the trees that the entries are, each with the token after it
unfoldable pub kept : List Entry → List Kept
kept es = kept_by (length es) es

-- the tree that stands at a place
abbrev pub tree_at : Item → Cst
tree_at i = tree_by i.what i.from i.to (kept i.parts.entries.now)

-- the first tree, and those after it
abbrev pub first_trees : Option (Item × Siblings) → List Cst
first_trees (Some p) = tree_at p.0 ∷ trees p.1.entries.now
first_trees None = []

-- ---- parts, by the trees that they are
abbrev pub nth : List Cst → ℕ → Option Cst
nth [] n = None
nth (t ∷ ts) zero = Some t
nth (t ∷ ts) (suc n) = nth ts n

abbrev pub tree_there : Option Item → Option Cst
tree_there (Some item) = Some (tree_at item)
tree_there None = None

-- the parts of a group
unfoldable pub group_of : Cst → List Cst
group_of t = turn_parts (out-Cst t)

abbrev pub group_there : Option Cst → List Cst
group_there (Some t) = group_of t
group_there None = []

abbrev pub follow_trees : List Cst → Path → Option Cst
follow_trees us (path.At n) = nth us n
follow_trees us (path.In n m) = nth (group_there (nth us n)) m
follow_trees us (path.Deep n m j) = nth (group_there (nth (group_there (nth us n)) m)) j
follow_trees us (path.Deeper n m j i) =
    nth (group_there (nth (group_there (nth (group_there (nth us n)) m)) j)) i

-- the token that a tree is, by its number
abbrev pub number_by : Cst-F Cst → Option ℕ
number_by (Cst-F.Leaf at) = Some at
number_by _ = None

unfoldable pub number_of : Cst → Option ℕ
number_of t = number_by (out-Cst t)

module _ {H W A T M : Type 0} (r : Analysis H W A T M) where
  -- what the parts in a row are
  unfoldable pub parts_of : List Entry → Part (H → List M)
  parts_of es = packed (map (part_of r) (trees es))

  abbrev pub part_in : Item → Part (H → List M)
  part_in item = part_of r (tree_at item)

  -- the first part, and those after it
  abbrev pub first_in : Option (Item × Siblings) → Part (H → List M)
  first_in (Some p) = more (part_in p.0) (parts_of p.1.entries.now)
  first_in None = nil

  -- what a part is, where it is there
  abbrev pub there : Option Cst → Part (H → List M)
  there (Some t) = part_of r t
  there None = absent

  abbrev pub there_in : Option Item → Part (H → List M)
  there_in (Some item) = part_in item
  there_in None = absent

  -- nodes that lean left: a first operand, and turns; fewer are no node
  unfoldable pub leaning_in : Lean → Part (H → List M) → H → List M
  leaning_in lean (more first (more turn turns)) here =
      found first (stands (r.operands lean) here)
      ++ each (by_steps r most_turns (r.operand lean) (stands (r.operands lean) here)) (more turn turns)
  leaning_in lean _ here = []
