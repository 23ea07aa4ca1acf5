-- What is answered is the one reading or the one fault that there is.
use Rattle.std.proofs.Common.{◌≡◌, ℕ, List, Result, Ok, Err, IfOk, refl}
use Rattle.es_token.specs.declared.token.Token.{Token}
use Rattle.es_token.specs.declared.token.Comment.{Comment}
use Rattle.es_token.specs.declared.token.Lexed.{Lexed}
use Rattle.es_lexer.specs.declared.error.LexicalKind.{LexicalKind}
use Rattle.es_lexer.specs.declared.error.LexicalError.{LexicalError}
use Rattle.es_lexer.specs.declared.error.LexError.{LexError}
use Rattle.es_lexer.specs.declared.error.LexError.TheVariants.{Lexical, OutOfMemory}
use Rattle.es_lexer.specs.Reads.{Reads}
use Rattle.es_lexer.specs.Stops.{Stops}
use Rattle.es_lexer.specs.Answers.{GivesLists, GivesFault}
use Rattle.es_lexer.proofs.Theorems.{one_reading, one_fault, no_reading_stops}

pub only_lists : (x : List ℕ) (result : Result Lexed LexError)
    → IfOk result (λ lexed. Reads x lexed.tokens lexed.comments)
    → ((e : LexicalError) → result ≡ Err (Lexical e) → Stops x e.kind e.at)
    → (ts : List Token) (cs : List Comment) → Reads x ts cs → GivesLists result ts cs
only_lists x (Ok lexed) read stopped ts cs r = one_reading x lexed.tokens ts lexed.comments cs read r
only_lists x (Err (Lexical e)) read stopped ts cs r = no_reading_stops x ts cs e.kind e.at r (stopped e refl)
only_lists x (Err OutOfMemory) read stopped ts cs r = tt

pub only_fault : (x : List ℕ) (result : Result Lexed LexError)
    → IfOk result (λ lexed. Reads x lexed.tokens lexed.comments)
    → ((e : LexicalError) → result ≡ Err (Lexical e) → Stops x e.kind e.at)
    → (kind : LexicalKind) (at : ℕ) → Stops x kind at → GivesFault result kind at
only_fault x (Ok lexed) read stopped kind at s = no_reading_stops x lexed.tokens lexed.comments kind at read s
only_fault x (Err (Lexical e)) read stopped kind at s = one_fault x e.kind kind e.at at (stopped e refl) s
only_fault x (Err OutOfMemory) read stopped kind at s = tt
