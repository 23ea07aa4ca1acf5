-- What an answer of `lex_tokens` is, "out of memory" aside.
use Rattle.std.specs.Prelude.{◌≡◌, ℕ, List, Result, Ok, Err}
use Rattle.es_token.specs.declared.token.Token.{Token}
use Rattle.es_token.specs.declared.token.Comment.{Comment}
use Rattle.es_token.specs.declared.token.Lexed.{Lexed}
use Rattle.es_lexer.specs.declared.error.LexicalKind.{LexicalKind}
use Rattle.es_lexer.specs.declared.error.LexError.{LexError}
use Rattle.es_lexer.specs.declared.error.LexError.TheVariants.{Lexical, OutOfMemory}

-- these lists, or "out of memory"
abbrev pub GivesLists : Result Lexed LexError → List Token → List Comment → Type 0
GivesLists (Ok lexed) tokens comments = (lexed.tokens ≡ tokens) × (lexed.comments ≡ comments)
GivesLists (Err (Lexical e)) tokens comments = ⊥
GivesLists (Err OutOfMemory) tokens comments = Unit {0}

-- this fault, or "out of memory"
abbrev pub GivesFault : Result Lexed LexError → LexicalKind → ℕ → Type 0
GivesFault (Ok lexed) kind at = ⊥
GivesFault (Err (Lexical e)) kind at = (e.kind ≡ kind) × (e.at ≡ at)
GivesFault (Err OutOfMemory) kind at = Unit {0}
