-- What a reader keeps of a plain tree: its nodes, lists and kept tokens, without the tokens that are dropped.
use Rattle.std.specs.Prelude.{List, [], ◌∷◌}
use Rattle.grammar_theory.specs.Plain.{Plain, Makes, made}
use Rattle.es_grammar.specs.declared.rows.NodeKind.{NodeKind}
use Rattle.es_grammar.specs.declared.cst.tree.Cst.{Cst}
use Rattle.es_grammar.specs.declared.cst.tree.Cst.TheVariants.{Leaf, Node, Role, Parts}

-- what is kept: a tree, or the parts of a node or of a list
pub data Kept : Type 0 where
  one : Cst → Kept
  several : List Cst → Kept

-- it as one tree
abbrev pub tree_in : Kept → Cst
tree_in (one t) = t
tree_in (several ts) = Parts ts

-- the parts in it
abbrev pub parts_in : Kept → List Cst
parts_in (one t) = []
parts_in (several ts) = ts

-- what is kept of each part
abbrev pub slim : Makes NodeKind Kept
slim = record {
  of_node = λ l from to v. one (Node l from to (parts_in v));
  of_leaf = λ s n. one (Leaf n);
  of_nil = several [];
  of_cons = λ v vs. several (tree_in v ∷ parts_in vs);
  of_mark = λ n vs. vs;
  of_turn = λ v vs. several (tree_in v ∷ parts_in vs);
  of_via = λ l v. one (Role l (tree_in v));
}

-- the tree that is kept of a plain tree
abbrev pub tree_of : Plain NodeKind → Cst
tree_of p = tree_in (made slim p)
