-- What the calls for sources tell beside their buffers, by the numbers of the header.
use Rattle.std.specs.Prelude.{ℕ, Bool, true, false, List, ◌++◌, length, drop}
use Rattle.es_lexer.specs.declared.error.LexicalKind.{LexicalKind}
use Rattle.es_lexer.specs.declared.error.LexicalKind.TheVariants.{UnterminatedString, UnterminatedComment, UnterminatedTemplate, UnterminatedRegExp, InvalidEscape, InvalidChar, Unbalanced}
use Rattle.graph_c.specs.declared.text.NoText.TheVariants.{TooLong, NoUtf8}
use Rattle.graph_c.specs.declared.finding.Finding.{Finding}
use Rattle.graph_c.specs.declared.finding.Finding.TheVariants.{Found, Calls, Exports, Mentions, Declared, Lexical, Syntax, NoText, NotRead, NoMediaType}

abbrev pub lexical_number : LexicalKind → ℕ
lexical_number UnterminatedString = 1
lexical_number UnterminatedComment = 2
lexical_number UnterminatedTemplate = 3
lexical_number UnterminatedRegExp = 4
lexical_number InvalidEscape = 5
lexical_number InvalidChar = 6
lexical_number Unbalanced = 7

-- how a call ended, by whether the buffers are large enough
abbrev pub status_of : Bool → Finding → ℕ
status_of true (Found sites) = 0
status_of false (Found sites) = 4
status_of true (Calls calls) = 0
status_of false (Calls calls) = 4
status_of true (Exports found) = 0
status_of false (Exports found) = 4
status_of true (Mentions found) = 0
status_of false (Mentions found) = 4
status_of true (Declared found) = 0
status_of false (Declared found) = 4
status_of room (NoText TooLong) = 6
status_of room (NoText (NoUtf8 place)) = 7
status_of room NoMediaType = 8
status_of room NotRead = 9
status_of room (Lexical fault) = 10
status_of room (Syntax place) = 11

-- the kind of the lexical fault, or 0
abbrev pub fault_of : Finding → ℕ
fault_of (Lexical fault) = lexical_number fault.kind
fault_of _ = 0

-- where a fault is, or 0
abbrev pub place_of : Finding → ℕ
place_of (Lexical fault) = fault.at
place_of (Syntax place) = place
place_of (NoText (NoUtf8 place)) = place
place_of _ = 0

-- a buffer with the items in its front, where they fit
abbrev pub after : {A : Type 0} → Bool → List A → List A → List A
after true items room = items ++ drop (length items) room
after false items room = room
