-- Plain trees, which know of the tokens only their numbers, and what is made of them part by part.
use Rattle.std.specs.Prelude.{ℕ, zero, suc, max, Bool, true, false}
use Rattle.grammar_theory.specs.Productions.{LeafKind}

-- a tree, or the parts of a node in order
pub data Plain (NodeKind : Type 0) : Type 0 where
  -- a node: the alternative read, its first token, the token after its last, its parts
  node : NodeKind → ℕ → ℕ → Plain NodeKind → Plain NodeKind
  -- a token that is kept, by its number
  leaf : LeafKind → ℕ → Plain NodeKind
  -- no more parts, or a part that is absent, or no more turns of a list
  nil : Plain NodeKind
  -- a part, and those after it
  cons : Plain NodeKind → Plain NodeKind → Plain NodeKind
  -- a token that is dropped, by its number, and the parts after it
  mark : ℕ → Plain NodeKind → Plain NodeKind
  -- one turn of a list, and the turns after it
  turn : Plain NodeKind → Plain NodeKind → Plain NodeKind
  -- a node in another role
  via : NodeKind → Plain NodeKind → Plain NodeKind

-- the most nodes on a path of a node, by that of its first part and that of the others: where the node leans, its first
-- part stands as deep as the node itself
abbrev pub over : Bool → ℕ → ℕ → ℕ
over true first rest = max first (suc rest)
over false first rest = suc (max first rest)

-- no alternative leans
abbrev pub none_leans : {NodeKind : Type 0} → NodeKind → Bool
none_leans l = false

-- the most nodes on a path of a tree, where `leans` tells the alternatives of operators behind whose first operand
-- turns stand
abbrev pub tall : {NodeKind : Type 0} → (NodeKind → Bool) → Plain NodeKind → ℕ
tall leans (node l from to (cons q ps)) = over (leans l) (tall leans q) (tall leans ps)
tall leans (node l from to ps) = suc (tall leans ps)
tall leans (leaf s n) = zero
tall leans nil = zero
tall leans (cons p ps) = max (tall leans p) (tall leans ps)
tall leans (mark n ps) = tall leans ps
tall leans (turn p ps) = max (tall leans p) (tall leans ps)
tall leans (via w p) = tall leans p

-- what is made of each part of a plain tree
pub record Makes (NodeKind Made : Type 0) : Type 0 where
  pub of_node : NodeKind → ℕ → ℕ → Made → Made
  pub of_leaf : LeafKind → ℕ → Made
  pub of_nil : Made
  pub of_cons : Made → Made → Made
  pub of_mark : ℕ → Made → Made
  pub of_turn : Made → Made → Made
  pub of_via : NodeKind → Made → Made

-- what is made of a whole tree
unfoldable pub made : {NodeKind Made : Type 0} → Makes NodeKind Made → Plain NodeKind → Made
made m (node l from to ps) = m.of_node l from to (made m ps)
made m (leaf s n) = m.of_leaf s n
made m nil = m.of_nil
made m (cons p ps) = m.of_cons (made m p) (made m ps)
made m (mark n ps) = m.of_mark n (made m ps)
made m (turn p ps) = m.of_turn (made m p) (made m ps)
made m (via w p) = m.of_via w (made m p)

-- the plain tree itself
abbrev pub plain : {NodeKind : Type 0} → Makes NodeKind (Plain NodeKind)
plain = record {
  of_node = node;
  of_leaf = leaf;
  of_nil = nil;
  of_cons = cons;
  of_mark = mark;
  of_turn = turn;
  of_via = via;
}
