-- The fault of a text.
use Rattle.std.proofs.Common.{◌≡◌, ℕ, List, Err}
use Rattle.std.specs.Prelude.{Result}
use Rattle.es_token.specs.declared.token.Token.{Token}
use Rattle.es_token.specs.declared.token.Comment.{Comment}
use Rattle.es_token.specs.declared.token.Lexed.{Lexed}
use Rattle.es_lexer.specs.declared.error.LexicalError.{LexicalError}
use Rattle.es_lexer.specs.declared.error.LexError.{LexError}
use Rattle.es_lexer.specs.declared.error.LexError.TheVariants as lex
use Rattle.es_lexer.specs.Stops.{Stops}
use Rattle.graph_c.specs.declared.finding.Finding.{Finding}
use Rattle.graph_c.specs.Finding.{OfText, no_tokens, IsFault}

-- the first fault is what there is to tell
pub first_fault : (Has : List ℕ → List Token → List Comment → Finding → Type 0) (text : List ℕ)
    (answer : Result Lexed LexError) (error : LexError) (found : Finding) → answer ≡ Err error
    → ((fault : LexicalError) → answer ≡ Err (lex.Lexical fault) → Stops text fault.kind fault.at)
    → IsFault error found → OfText Has text found
first_fault Has text answer (lex.Lexical fault) found answered stops is =
    no_tokens fault.kind fault.at (stops fault answered) is
first_fault Has text answer lex.OutOfMemory found answered stops is = absurd is
