-- When a tree has the shape of a whole program, and when a row of entries is such a tree.
use Rattle.std.specs.Prelude.{◌≡◌, List, [], ◌∷◌, Result, Ok, Err}
use Rattle.std.specs.Global.{Vec}
use Rattle.grammar_theory.specs.declared.error.Lang.{Lang}
use Rattle.grammar_theory.specs.declared.error.Mode.{Mode}
use Rattle.grammar_theory.specs.declared.error.SyntaxError.{SyntaxError}
use Rattle.grammar_theory.specs.declared.error.SyntaxError.TheVariants.{Syntax, OutOfMemory}
use Rattle.grammar_theory.specs.Key.{Key}
use Rattle.grammar_theory.specs.Plain.{Plain}
use Rattle.grammar_theory.specs.Fits.{free, Shape}
use Rattle.es_grammar.specs.declared.rows.NodeKind.{NodeKind}
use Rattle.es_grammar.specs.Table.{rule}
use Rattle.es_grammar.specs.Conditions.{leans, program_row}
use Rattle.es_grammar.specs.declared.cst.tree.Cst.{Cst}
use Rattle.es_grammar.specs.cst.Slim.{tree_of}
use Rattle.es_syntax.specs.declared.entry.Entry.{Entry}
use Rattle.es_syntax.specs.Trees.{trees}
use Rattle.es_syntax.specs.Forest.{Forest, entries_of}

-- the tree is that of a plain tree which has the shape of a program over the keys of all tokens
pub record IsShaped (l : Lang) (m : Mode) (K : List Key) (tree : Cst) : Type 0 where
  pub plain : Plain NodeKind
  pub shaped : Shape leans free (rule l) (program_row m) K plain
  pub kept : tree_of plain ≡ tree

-- the row is this tree, and no other
abbrev pub IsRowOf : Cst → List Entry → Type 0
IsRowOf tree es = trees es ≡ tree ∷ []

-- the row is as a writer leaves it: trees side by side, each before its parts
pub record IsWritten (es : List Entry) : Type 0 where
  pub forest : Forest
  pub row : es ≡ entries_of forest

-- the row is a tree of this shape
pub record HoldsShaped (l : Lang) (m : Mode) (K : List Key) (es : List Entry) : Type 0 where
  pub tree : Cst
  pub row : IsRowOf tree es
  pub shaped : IsShaped l m K tree

-- the row of this tree, or out of memory
abbrev pub GivesTree : Result (Vec Entry) SyntaxError → Cst → Type 0
GivesTree (Ok row) tree = IsRowOf tree row.items
GivesTree (Err (Syntax token)) tree = ⊥
GivesTree (Err OutOfMemory) tree = Unit {0}
