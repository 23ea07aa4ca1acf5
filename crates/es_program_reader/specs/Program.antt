-- When a tree is kept of a plain tree of a program, and when a row of entries is such a tree.
use Rattle.std.specs.Prelude.{◌≡◌, List}
use Rattle.grammar_theory.specs.declared.error.Lang.{Lang}
use Rattle.grammar_theory.specs.declared.error.Mode.{Mode}
use Rattle.grammar_theory.specs.Key.{Key}
use Rattle.grammar_theory.specs.Plain.{Plain}
use Rattle.es_grammar.specs.declared.rows.NodeKind.{NodeKind}
use Rattle.es_grammar.specs.Conditions.{IsProgram}
use Rattle.es_grammar.specs.declared.cst.tree.Cst.{Cst}
use Rattle.es_grammar.specs.cst.Slim.{tree_of}
use Rattle.es_syntax.specs.declared.entry.Entry.{Entry}
use Rattle.es_program_reader.specs.Derived.{IsRowOf}

-- the tree is kept of a plain tree of a program over these keys
pub record IsKept (l : Lang) (m : Mode) (K : List Key) (tree : Cst) : Type 0 where
  pub plain : Plain NodeKind
  pub program : IsProgram l m K plain
  pub kept : tree_of plain ≡ tree

-- the row is a tree that is kept of a plain tree of a program
pub record HoldsKept (l : Lang) (m : Mode) (K : List Key) (es : List Entry) : Type 0 where
  pub tree : Cst
  pub row : IsRowOf tree es
  pub kept : IsKept l m K tree
