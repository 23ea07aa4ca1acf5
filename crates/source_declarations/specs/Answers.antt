-- What is answered of a source: the declarations of its tree, printed, and what couldn't be determined.
use Rattle.std.specs.Prelude.{◌≡◌, ℕ, Bool, not, List, [], Some, Result, Ok, Err}
use Rattle.base.specs.declared.range.Range.{Range}
use Rattle.es_token.specs.declared.token.Token.{Token}
use Rattle.es_token.specs.declared.token.Comment.{Comment}
use Rattle.grammar_theory.specs.declared.error.SyntaxError.{SyntaxError}
use Rattle.grammar_theory.specs.declared.error.SyntaxError.TheVariants.{Syntax, OutOfMemory}
use Rattle.es_ast.specs.declared.ast.Program.{Program}
use Rattle.es_lexer.specs.Reads.{Reads}
use Rattle.es_comments.specs.Placed.{Placed}
use Rattle.es_comments.specs.Standing.{ArePlaced}
use Rattle.es_program.specs.Owned.{Owned}
use Rattle.es_program_printer.specs.Printed.{kept_comments}
use Rattle.es_changed_printer.specs.Pieces.{printed}
use Rattle.deno_ast.specs.Scopes.{AreIds}
use Rattle.dts_rules.specs.Programs.{declared}
use Rattle.dts_rules.specs.Ranges.{has_range, overloads}
use Rattle.dts_rules.specs.Rules.{State}
use Rattle.dts_rules.specs.Sets.{Numbers}
use Rattle.dts_sets.specs.Ids.{Numbered}
use Rattle.deno_dts.specs.Kept.{Kept}
use Rattle.deno_dts.specs.Declarations.{declarations_in}
use Rattle.deno_dts.specs.Drafted.{env_with, state_after}
use Rattle.media_type.specs.declared.media_type.MediaType.{MediaType}
use Rattle.source_reading.specs.Tree.{IsTree}
use Rattle.source_declarations.specs.declared.read.SourceDeclarations.{SourceDeclarations}

-- these ranges are those of the program's bodies of overloads
abbrev pub AreRanges : Program → List Range → Type 0
AreRanges program ranges = (r : Range) → has_range ranges r ≡ has_range (overloads program) r

-- the program as the rules declare it, and what they find, where 0 is the number of names that are declared nowhere
abbrev pub Declares : List Range → Program → Numbers → Kept → State → Type 0
Declares ranges program number kept s =
    (declarations_in kept ≡ Some (declared (env_with number 0 ranges) program (state_after [] 0)).0)
    × (s ≡ (declared (env_with number 0 ranges) program (state_after [] 0)).1)

-- the declarations of a program, whose text has these comments
pub record AreOf (comments : List Comment) (with_comments : Bool) (program : Owned Program) (it : SourceDeclarations) :
    Type 0 where
  pub kept : Kept
  pub text_is : kept.text ≡ program.text
  pub tokens_are : kept.tokens ≡ program.tokens
  pub numbers : AreIds program kept.numbers
  pub ranges : List Range
  pub are_ranges : AreRanges program.typed ranges
  pub made : ℕ
  pub declares : (number : Numbers) → Numbered program.tokens kept.numbers number
      → Declares ranges program.typed number kept (state_after it.found made)
  pub placed : Placed
  pub are_placed : ArePlaced program.text program.tokens comments placed
  pub text : it.text ≡ printed kept.text kept.tokens (kept_comments (not with_comments) placed) kept.entries

-- those of this tree, over these tokens
pub record OfTree (text : List ℕ) (tokens : List Token) (comments : List Comment) (with_comments : Bool) (tree : Program)
    (it : SourceDeclarations) : Type 0 where
  pub program : Owned Program
  pub text_is : program.text ≡ text
  pub tokens_are : program.tokens ≡ tokens
  pub typed_is : program.typed ≡ tree
  pub are : AreOf comments with_comments program it

-- those of the tree of a source of this media type
pub record AreDeclarations (media : MediaType) (text : List ℕ) (tokens : List Token) (comments : List Comment)
    (with_comments : Bool) (it : SourceDeclarations) : Type 0 where
  pub tree : Program
  pub is_tree : IsTree media text tokens tree
  pub of_tree : OfTree text tokens comments with_comments tree it

-- those of this tree, or "out of memory"
abbrev pub GivesOf : List ℕ → List Token → List Comment → Bool → Program → Result SourceDeclarations SyntaxError → Type 0
GivesOf text tokens comments with_comments tree (Ok it) = OfTree text tokens comments with_comments tree it
GivesOf text tokens comments with_comments tree (Err (Syntax token)) = ⊥
GivesOf text tokens comments with_comments tree (Err OutOfMemory) = Unit {0}

-- ---- of a text

-- what its tokens and comments have
pub record HasDeclarations (media : MediaType) (text : List ℕ) (with_comments : Bool) (it : SourceDeclarations) : Type 0 where
  pub tokens : List Token
  pub comments : List Comment
  pub reads : Reads text tokens comments
  pub are : AreDeclarations media text tokens comments with_comments it

-- no tokens read it, or they have no tree
abbrev pub IsNoProgram : MediaType → List ℕ → Type 0
IsNoProgram media text =
    (tokens : List Token) (comments : List Comment) → Reads text tokens comments → (tree : Program)
    → ¬ IsTree media text tokens tree
