-- What the functions of the crate promise each other: words and punctuators that their first bytes tell.
use Rattle.std.specs.Prelude.{ℕ, ◌+◌, ◌||◌, ◌==◌, List, [], ◌∷◌, Option, Some, None, if◌then◌else◌}
use Rattle.std.specs.Char.{is_ascii_digit}
use Rattle.es_lexer.specs.Brackets.{is_open}
use Rattle.es_lexer.specs.declared.bracket.BracketKind.{BracketKind}
use Rattle.es_lexer.specs.declared.bracket.BracketKind.TheVariants.{Round, Square, Curly, Template}
use Rattle.es_lexer.specs.declared.bracket.Role.{Role}
use Rattle.es_lexer.specs.declared.bracket.Role.TheVariants as role
use Rattle.es_lexer.specs.declared.look.Look.{Look}
use Rattle.es_lexer.specs.declared.look.Look.TheVariants as look
use Rattle.es_lexer.specs.declared.look.Word.{Word}
use Rattle.es_lexer.specs.declared.short.Stop.{Stop}
use Rattle.es_lexer.specs.declared.short.Stop.TheVariants as stop
use Rattle.es_lexer.specs.declared.short.Short.{Short}
use Rattle.es_lexer.specs.declared.short.Short.TheVariants as short
use Rattle.es_token.specs.declared.token.TokenKind.{TokenKind}
use Rattle.es_token.specs.declared.token.TokenKind.TheVariants as kind

-- the token that a word is
abbrev pub word_found : Word → Look
word_found word = look.Token word.kind word.end

unfoldable pub stop_kind : Stop → TokenKind
stop_kind stop.Semicolon = kind.Semicolon
stop_kind stop.Comma = kind.Comma
stop_kind stop.Colon = kind.Colon

-- what opens such a bracket
unfoldable pub opener_kind : BracketKind → TokenKind
opener_kind Round = kind.OpenParen
opener_kind Square = kind.OpenBracket
opener_kind Curly = kind.OpenBrace
opener_kind Template = kind.TemplateHead

-- what closes it
unfoldable pub closer_kind : BracketKind → TokenKind
closer_kind Round = kind.CloseParen
closer_kind Square = kind.CloseBracket
closer_kind Curly = kind.CloseBrace
closer_kind Template = kind.TemplateTail

unfoldable pub short_kind : Short → TokenKind
short_kind (short.Stops s) = stop_kind s
short_kind short.Dot = kind.Dot
short_kind (short.Opens b) = opener_kind b
short_kind (short.Closes b) = closer_kind b

unfoldable pub short_role : Short → Role
short_role (short.Stops s) = role.Plain
short_role short.Dot = role.Plain
short_role (short.Opens b) = role.Opens b
short_role (short.Closes b) = role.Closes b

-- the token of one byte that it is at `at`
abbrev pub short_found : ℕ → Short → Look
short_found at s = look.Token (short_kind s) (at + 1)

-- a bracket that closes, where such a one is the innermost open one
unfoldable pub closing : Option BracketKind → BracketKind → Option Short
closing bracket b = if is_open bracket b then Some (short.Closes b) else None

-- the punctuator of this byte, where this is the innermost open bracket, if this next byte tells that it is no longer
unfoldable pub short_of : Option BracketKind → ℕ → ℕ → Option Short
short_of bracket b c =
    if b == 59 then Some (short.Stops stop.Semicolon)
    else (if b == 44 then Some (short.Stops stop.Comma)
    else (if b == 58 then Some (short.Stops stop.Colon)
    else (if b == 46 then (if is_ascii_digit c || c == 46 then None else Some short.Dot)
    else (if b == 40 then Some (short.Opens Round)
    else (if b == 91 then Some (short.Opens Square)
    else (if b == 123 then Some (short.Opens Curly)
    else (if b == 41 then closing bracket Round
    else (if b == 93 then closing bracket Square
    else (if b == 125 then closing bracket Curly
    else None)))))))))

-- the same at the front of a text; the last two bytes of a text are left to the look at all tokens
unfoldable pub short_at : Option BracketKind → List ℕ → Option Short
short_at bracket [] = None
short_at bracket (b ∷ []) = None
short_at bracket (b ∷ c ∷ []) = None
short_at bracket (b ∷ c ∷ d ∷ rest) = short_of bracket b c
