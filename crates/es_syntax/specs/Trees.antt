-- The kept trees that a row of entries is.
use Rattle.std.specs.Prelude.{ℕ, zero, suc, List, [], ◌∷◌, length, take, drop, map}
use Rattle.es_grammar.specs.declared.cst.tree.Cst.{Cst, out-Cst}
use Rattle.es_grammar.specs.declared.cst.tree.Cst.TheVariants as vCst
use Rattle.es_grammar.specs.declared.cst.tree.Cst.TheOpen.{Cst-F}
use Rattle.es_syntax.specs.declared.entry.Lean.{Lean}
use Rattle.es_syntax.specs.declared.entry.What.{What}
use Rattle.es_syntax.specs.declared.entry.What.TheVariants as vWhat
use Rattle.es_syntax.specs.declared.entry.Entry.{Entry}
use Rattle.es_syntax.specs.Held.{label_of}

-- a tree, and the token behind its last one
abbrev pub Kept : Type 0
Kept = ℕ × Cst

abbrev pub first_tree : List Cst → Cst
first_tree [] = vCst.Parts []
first_tree (t ∷ ts) = t

-- the parts of a turn
abbrev pub turn_parts : Cst-F Cst → List Cst
turn_parts (Cst-F.Parts ts) = ts
turn_parts _ = []

-- what stands before a turn, as a node with that turn
abbrev pub leaning_tree : Lean → ℕ → Cst → Kept → Cst
leaning_tree lean from t turn = vCst.Node (label_of lean) from turn.0 (t ∷ turn_parts (out-Cst turn.1))

-- with all of these, from the left
unfoldable pub leaned_tree : Lean → ℕ → Cst → List Kept → Cst
leaned_tree lean from t [] = t
leaned_tree lean from t (turn ∷ turns) = leaned_tree lean from (leaning_tree lean from t turn) turns

abbrev pub leant_tree : Lean → ℕ → List Kept → Cst
leant_tree lean from (first ∷ turn ∷ turns) = leaned_tree lean from (leaning_tree lean from first.1 turn) turns
leant_tree lean from _ = vCst.Parts []

abbrev pub trees_in : List Kept → List Cst
trees_in = map (λ p. p.1)

abbrev pub tree_by : What → ℕ → ℕ → List Kept → Cst
tree_by vWhat.Leaf from to ps = vCst.Leaf from
tree_by (vWhat.Node label) from to ps = vCst.Node label from to (trees_in ps)
tree_by (vWhat.Role label) from to ps = vCst.Role label (first_tree (trees_in ps))
tree_by vWhat.Parts from to ps = vCst.Parts (trees_in ps)
tree_by (vWhat.Lean lean) from to ps = leant_tree lean from ps

abbrev pub kept_by : ℕ → List Entry → List Kept
kept_by zero es = []
kept_by (suc n) [] = []
kept_by (suc n) (e ∷ es) =
    (e.to, tree_by e.what e.from e.to (kept_by n (take e.size es))) ∷ kept_by n (drop e.size es)

-- the trees that the entries are
unfoldable pub trees : List Entry → List Cst
trees es = trees_in (kept_by (length es) es)
