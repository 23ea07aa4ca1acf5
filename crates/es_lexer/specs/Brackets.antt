-- Which tokens open and close brackets (ECMA-262, "Punctuators", "Template Literal Lexical Components").
use Rattle.std.specs.Prelude.{Bool, true, false, Option, Some}
use Rattle.es_lexer.specs.declared.bracket.BracketKind.{BracketKind}
use Rattle.es_lexer.specs.declared.bracket.BracketKind.TheVariants.{Round, Square, Curly, Template}
use Rattle.es_lexer.specs.declared.bracket.Role.{Role}
use Rattle.es_lexer.specs.declared.bracket.Role.TheVariants.{Opens, Closes, Continues, Plain}
use Rattle.es_token.specs.declared.token.TokenKind.{TokenKind}
use Rattle.es_token.specs.declared.token.TokenKind.TheVariants as kind

-- what a token of this kind does to the brackets around it
unfoldable pub role_of : TokenKind → Role
role_of kind.OpenParen = Opens Round
role_of kind.CloseParen = Closes Round
role_of kind.OpenBracket = Opens Square
role_of kind.CloseBracket = Closes Square
role_of kind.OpenBrace = Opens Curly
role_of kind.CloseBrace = Closes Curly
role_of kind.TemplateHead = Opens Template
role_of kind.TemplateMiddle = Continues
role_of kind.TemplateTail = Closes Template
role_of k = Plain

-- the innermost open bracket is of this kind
unfoldable pub is_open : Option BracketKind → BracketKind → Bool
is_open (Some Round) Round = true
is_open (Some Square) Square = true
is_open (Some Curly) Curly = true
is_open (Some Template) Template = true
is_open bracket k = false

-- a token of this role may stand where this is the innermost open bracket
unfoldable pub may_close : Option BracketKind → Role → Bool
may_close bracket (Closes k) = is_open bracket k
may_close bracket Continues = is_open bracket Template
may_close bracket (Opens k) = true
may_close bracket Plain = true
