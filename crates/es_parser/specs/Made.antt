-- What the row of a plain tree is made to.
use Rattle.std.specs.Prelude.{◌≡◌, ℕ, List, Some}
use Rattle.es_token.specs.declared.token.Token.{Token}
use Rattle.es_ast.specs.declared.ast.Program.{Program}
use Rattle.es_grammar.specs.declared.cst.tree.Cst.{Cst}
use Rattle.es_syntax.specs.declared.entry.Entry.{Entry}
use Rattle.es_program_reader.specs.Derived.{IsRowOf}
use Rattle.es_site.specs.Sites.{sites_of}
use Rattle.es_lowering.specs.Lowering.{value_of}
use Rattle.es_lowering.specs.derives.Derives.{program_in}
use Rattle.es_law_sites.specs.plain.Own.{plain_sites}

-- a plain tree has a typed one, whose sites are its own
pub record IsTyped (x : List ℕ) (ts : List Token) (tree : Cst) : Type 0 where
  pub program : Program
  pub typed : program_in (value_of x ts tree) ≡ Some program
  pub sites : sites_of program ≡ plain_sites x ts tree

-- the row is such a tree
pub record HoldsTyped (x : List ℕ) (ts : List Token) (es : List Entry) : Type 0 where
  pub tree : Cst
  pub row : IsRowOf tree es
  pub made : IsTyped x ts tree
