-- What a printed program is: its own text, tokens and row tell it, since a typed tree doesn't keep the order of modifiers, or
-- whether `x => y` has brackets.
use Rattle.std.specs.Prelude.{◌≡◌, ℕ, Bool, true, false, List, Option, Some, None}
use Rattle.es_ast.specs.declared.ast.Program.{Program}
use Rattle.es_syntax.specs.Trees.{first_tree, trees}
use Rattle.es_comments.specs.Placed.{Placed}
use Rattle.es_program.specs.Owned.{Owned}
use Rattle.es_printer.specs.Lines.{printed}

-- this is how the program is printed
pub record IsPrinted (p : Owned Program) (comments : Option Placed) (text : List ℕ) : Type 0 where
  pub is : text ≡ printed p.text p.tokens comments (first_tree (trees p.entries))

-- the comments, unless they are left out
abbrev pub kept_comments : Bool → Placed → Option Placed
kept_comments true comments = None
kept_comments false comments = Some comments
