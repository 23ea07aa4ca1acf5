-- A printed program, by its parts.
use Rattle.std.specs.Prelude.{ℕ, List, Option}
use Rattle.std.proofs.Common.{◌≡◌}
use Rattle.es_token.specs.declared.token.Token.{Token}
use Rattle.es_ast.specs.declared.ast.Program.{Program}
use Rattle.es_syntax.specs.declared.entry.Entry.{Entry}
use Rattle.es_syntax.specs.Trees.{first_tree, trees}
use Rattle.es_comments.specs.Placed.{Placed}
use Rattle.es_program.specs.Owned.{Owned}
use Rattle.es_printer.specs.Lines.{printed}
use Rattle.es_program_printer.specs.Printed.{IsPrinted}

pub is_printed : (p : Owned Program) (x : List ℕ) (ts : List Token) (es : List Entry) → x ≡ p.text → ts ≡ p.tokens
    → es ≡ p.entries → (comments : Option Placed) (text : List ℕ)
    → text ≡ printed x ts comments (first_tree (trees es)) → IsPrinted p comments text
is_printed p x ts es e f g comments text is = record { is = rw (← e, ← f, ← g) is }
