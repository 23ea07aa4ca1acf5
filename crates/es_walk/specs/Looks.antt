-- What an analysis may ask of a part, by the tree that it is.
use Rattle.std.specs.Prelude.{ℕ, Bool, true, false, if◌then◌else◌, List, [], ◌∷◌, Option, Some, None}
use Rattle.es_grammar.specs.declared.rows.NodeKind.{NodeKind}
use Rattle.es_grammar.specs.declared.cst.tree.Cst.{Cst, out-Cst}
use Rattle.es_grammar.specs.declared.cst.tree.Cst.TheOpen.{Cst-F}
use Rattle.es_syntax.specs.declared.cursor.Siblings.{Siblings}
use Rattle.es_syntax.specs.Trees.{trees}
use Rattle.es_walk.specs.Part.{Part, is_plain}
use Rattle.es_walk.specs.Walk.{Analysis}
use Rattle.es_walk.specs.Rows.{number_of, parts_of}

abbrev pub number_there : Option Cst → Option ℕ
number_there (Some t) = number_of t
number_there None = None

-- the token that a tree is, or the first one of the group that it is, by its number
abbrev pub own_number_by : Cst-F Cst → Option ℕ
own_number_by (Cst-F.Leaf at) = Some at
own_number_by (Cst-F.Parts (t ∷ ts)) = number_of t
own_number_by _ = None

unfoldable pub own_number_of : Cst → Option ℕ
own_number_of t = own_number_by (out-Cst t)

abbrev pub own_number_there : Option Cst → Option ℕ
own_number_there (Some t) = own_number_of t
own_number_there None = None

-- ---- how many parts there are
abbrev pub has_one : List Cst → Bool
has_one (t ∷ ts) = true
has_one [] = false

abbrev pub has_two : List Cst → Bool
has_two (t ∷ u ∷ us) = true
has_two _ = false

-- ---- nodes, but not chains and nodes in another role
abbrev pub plain_node : {X : Type 0} → NodeKind → X → Option (NodeKind × X)
plain_node label parts = if is_plain label then Some (label, parts) else None

abbrev pub node_by : Cst-F Cst → Option (NodeKind × List Cst)
node_by (Cst-F.Node label from to us) = plain_node label us
node_by _ = None

-- the alternative and the parts of the node that a tree is
unfoldable pub node_of : Cst → Option (NodeKind × List Cst)
node_of t = node_by (out-Cst t)

abbrev pub node_there : Option Cst → Option (NodeKind × List Cst)
node_there (Some t) = node_of t
node_there None = None

-- the parts by their trees, and by the rules of an analysis
abbrev pub node_trees : Option (NodeKind × Siblings) → Option (NodeKind × List Cst)
node_trees (Some n) = Some (n.0, trees n.1.entries.now)
node_trees None = None

module _ {H W A T M : Type 0} (r : Analysis H W A T M) where
  abbrev pub node_parts : Option (NodeKind × Siblings) → Option (NodeKind × Part (H → List M))
  node_parts (Some n) = Some (n.0, parts_of r n.1.entries.now)
  node_parts None = None
