-- Kinds of tokens that tell a call, or nothing where there is no token.
use Rattle.std.specs.Prelude.{Bool, true, false, Option, Some}
use Rattle.es_token.specs.declared.token.TokenKind.{TokenKind}
use Rattle.es_token.specs.declared.token.TokenKind.TheVariants.{OpenParen, CloseParen, Comma, Str, Colon, OpenBrace, Equal, Dot, QuestionDot, FunctionWord, ExtendsWord, NewWord, ImportWord, TypeWord, SourceWord, DeferWord}

abbrev pub is_opening : Option TokenKind → Bool
is_opening (Some OpenParen) = true
is_opening _ = false

abbrev pub is_closing : Option TokenKind → Bool
is_closing (Some CloseParen) = true
is_closing _ = false

-- what may stand behind an argument
abbrev pub ends_argument : Option TokenKind → Bool
ends_argument (Some CloseParen) = true
ends_argument (Some Comma) = true
ends_argument _ = false

abbrev pub is_string : Option TokenKind → Bool
is_string (Some Str) = true
is_string _ = false

abbrev pub is_colon : Option TokenKind → Bool
is_colon (Some Colon) = true
is_colon _ = false

abbrev pub is_brace : TokenKind → Bool
is_brace OpenBrace = true
is_brace _ = false

abbrev pub is_equal : Option TokenKind → Bool
is_equal (Some Equal) = true
is_equal _ = false

-- behind it a word is a name: of a property, or of a function
abbrev pub names : Option TokenKind → Bool
names (Some Dot) = true
names (Some QuestionDot) = true
names (Some FunctionWord) = true
names _ = false

-- behind it a call may be what a class extends, so that a `{` may follow
abbrev pub is_heritage : Option TokenKind → Bool
is_heritage (Some ExtendsWord) = true
is_heritage (Some NewWord) = true
is_heritage _ = false

-- in front of the name that `import a = require("b")` declares
abbrev pub declares : Option TokenKind → Bool
declares (Some ImportWord) = true
declares (Some TypeWord) = true
declares _ = false

abbrev pub is_dot : Option TokenKind → Bool
is_dot (Some Dot) = true
is_dot _ = false

abbrev pub is_import : Option TokenKind → Bool
is_import (Some ImportWord) = true
is_import _ = false

-- the words of phases
abbrev pub is_phase : Option TokenKind → Bool
is_phase (Some SourceWord) = true
is_phase (Some DeferWord) = true
is_phase _ = false
