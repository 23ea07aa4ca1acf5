-- The nodes of a tree, in the order of the text, a node before those in it.
use Rattle.std.specs.Prelude.{ℕ, Bool, if◌then◌else◌, List, [], ◌∷◌, map}
use Rattle.std.specs.List.{flat_map}
use Rattle.es_grammar.specs.declared.rows.NodeKind.{NodeKind}
use Rattle.es_grammar.specs.declared.cst.tree.Cst.{Cst}
use Rattle.es_grammar.specs.declared.cst.tree.Cst.TheOpen.{Cst-F}
use Rattle.es_grammar.specs.declared.cst.tree.Cst.TheFolds.{para-Cst}
use Rattle.es_syntax.specs.Trees.{trees}
use Rattle.es_mentions.specs.declared.nodes.NodeAt.{NodeAt}

-- a node: its alternative, its first token, the token after its last one, and its parts
pub record Node : Type 0 where
  pub label : NodeKind
  pub from : ℕ
  pub to : ℕ
  pub parts : List Cst

abbrev pub node_made : NodeKind → ℕ → ℕ → List Cst → Node
node_made label from to parts = record { label = label; from = from; to = to; parts = parts }

abbrev pub node_now : NodeAt → Node
node_now n = node_made n.label n.from n.to (trees n.parts.entries.now)

-- what holds the test is passed over, but for the node itself
module _ (closed : Node → Bool) where
  abbrev pub below : Node → List Node → List Node
  below n inner = n ∷ (if closed n then [] else inner)

  abbrev pub node_step : Cst-F (Cst × List Node) → List Node
  node_step (Cst-F.Leaf at) = []
  node_step (Cst-F.Node label from to parts) =
      below (node_made label from to (map (λ part. part.0) parts)) (flat_map (λ part. part.1) parts)
  node_step (Cst-F.Role label part) = part.1
  node_step (Cst-F.Parts parts) = flat_map (λ part. part.1) parts

  unfoldable pub nodes : Cst → List Node
  nodes = para-Cst (List Node) node_step
