-- The punctuators (ECMA-262, "Punctuators"; `>` is always single, since the grammar joins them).
use Rattle.std.specs.Prelude.{ℕ, ◌&&◌, ◌==◌, List, [], ◌∷◌, Option, Some, None, codes, bytes_eq, if◌then◌else◌}
use Rattle.std.specs.Char.{is_ascii_digit}
use Rattle.es_token.specs.declared.token.TokenKind.{TokenKind}
use Rattle.es_token.specs.declared.token.TokenKind.TheVariants as k
use Rattle.es_lexer.specs.declared.signs.Sign.{Sign}
use Rattle.es_lexer.specs.Words.{WordTable}

-- the punctuators of one byte
unfoldable pub signs_of_one : WordTable
signs_of_one =
    (codes "{", k.OpenBrace) ∷
    (codes "}", k.CloseBrace) ∷
    (codes "(", k.OpenParen) ∷
    (codes ")", k.CloseParen) ∷
    (codes "[", k.OpenBracket) ∷
    (codes "]", k.CloseBracket) ∷
    (codes ";", k.Semicolon) ∷
    (codes ",", k.Comma) ∷
    (codes ".", k.Dot) ∷
    (codes "<", k.Less) ∷
    (codes ">", k.Greater) ∷
    (codes "=", k.Equal) ∷
    (codes "+", k.Plus) ∷
    (codes "-", k.Minus) ∷
    (codes "*", k.Star) ∷
    (codes "/", k.Slash) ∷
    (codes "%", k.Percent) ∷
    (codes "&", k.Ampersand) ∷
    (codes "|", k.Bar) ∷
    (codes "^", k.Caret) ∷
    (codes "!", k.Exclamation) ∷
    (codes "~", k.Tilde) ∷
    (codes "?", k.Question) ∷
    (codes ":", k.Colon) ∷
    []

-- the punctuators of two bytes
unfoldable pub signs_of_two : WordTable
signs_of_two =
    (codes "<=", k.LessEqual) ∷
    (codes "==", k.EqualEqual) ∷
    (codes "!=", k.NotEqual) ∷
    (codes "**", k.StarStar) ∷
    (codes "++", k.PlusPlus) ∷
    (codes "--", k.MinusMinus) ∷
    (codes "<<", k.LessLess) ∷
    (codes "&&", k.AmpersandAmpersand) ∷
    (codes "||", k.BarBar) ∷
    (codes "??", k.QuestionQuestion) ∷
    (codes "?.", k.QuestionDot) ∷
    (codes "+=", k.PlusEqual) ∷
    (codes "-=", k.MinusEqual) ∷
    (codes "*=", k.StarEqual) ∷
    (codes "/=", k.SlashEqual) ∷
    (codes "%=", k.PercentEqual) ∷
    (codes "&=", k.AmpersandEqual) ∷
    (codes "|=", k.BarEqual) ∷
    (codes "^=", k.CaretEqual) ∷
    (codes "=>", k.Arrow) ∷
    []

-- the punctuators of three bytes
unfoldable pub signs_of_three : WordTable
signs_of_three =
    (codes "...", k.Ellipsis) ∷
    (codes "===", k.EqualEqualEqual) ∷
    (codes "!==", k.NotEqualEqual) ∷
    (codes "**=", k.StarStarEqual) ∷
    (codes "<<=", k.LessLessEqual) ∷
    (codes "&&=", k.AmpersandAmpersandEqual) ∷
    (codes "||=", k.BarBarEqual) ∷
    (codes "??=", k.QuestionQuestionEqual) ∷
    []

-- the kind that a table gives a text
unfoldable pub sign_in : WordTable → List ℕ → Option TokenKind
sign_in [] s = None
sign_in (entry ∷ table) s = if bytes_eq s entry.0 then Some entry.1 else sign_in table s

-- the punctuator that a text spells
unfoldable pub sign_kind : List ℕ → Option TokenKind
sign_kind [] = None
sign_kind (a ∷ []) = sign_in signs_of_one (a ∷ [])
sign_kind (a ∷ b ∷ []) = sign_in signs_of_two (a ∷ b ∷ [])
sign_kind (a ∷ b ∷ c ∷ []) = sign_in signs_of_three (a ∷ b ∷ c ∷ [])
sign_kind (a ∷ b ∷ c ∷ d ∷ rest) = None

-- ---- the longest one at the front of a text
-- a punctuator of this size, if there is one
unfoldable pub sized : ℕ → Option TokenKind → Option Sign → Option Sign
sized size (Some kind) other = Some (record { kind = kind; size = size })
sized size None other = other

-- `?.` is none before a digit
unfoldable pub two_before : ℕ → ℕ → ℕ → Option TokenKind
two_before a b c = if a == 63 && b == 46 && is_ascii_digit c then None else sign_kind (a ∷ b ∷ [])

-- the longest that begins three bytes
abbrev pub longest : ℕ → ℕ → ℕ → Option Sign
longest a b c = sized 3 (sign_kind (a ∷ b ∷ c ∷ [])) (sized 2 (two_before a b c) (sized 1 (sign_kind (a ∷ [])) None))

-- the one of this kind and of one byte
abbrev pub single : TokenKind → Option Sign
single kind = Some (record { kind = kind; size = 1 })

-- the longest at the front of a text
unfoldable pub sign_at : List ℕ → Option Sign
sign_at [] = None
sign_at (a ∷ []) = sized 1 (sign_kind (a ∷ [])) None
sign_at (a ∷ b ∷ []) = sized 2 (sign_kind (a ∷ b ∷ [])) (sized 1 (sign_kind (a ∷ [])) None)
sign_at (a ∷ b ∷ c ∷ rest) = longest a b c
