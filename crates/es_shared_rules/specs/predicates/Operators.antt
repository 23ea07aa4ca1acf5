-- Kinds of tokens that may stand behind an operand, by groups of levels: wide enough that a token of no such kind begins
-- no turn of the group.
use Rattle.std.specs.Prelude.{Bool, ◌||◌}
use Rattle.es_token.specs.declared.token.TokenKind.{TokenKind}
use Rattle.es_token.specs.declared.token.TokenKind.TheVariants as k
use Rattle.grammar_theory.specs.Key.{same_kind}
use Rattle.es_grammar.specs.types.Words.{is_between}

-- `in`, `instanceof`, `as`, `satisfies`
unfoldable pub is_operator_word : TokenKind → Bool
is_operator_word kind =
    same_kind kind k.InWord || (same_kind kind k.InstanceofWord || (same_kind kind k.AsWord
    || same_kind kind k.SatisfiesWord))

-- from `+` to `%`
unfoldable pub is_arithmetic : TokenKind → Bool
is_arithmetic kind = is_between k.Plus k.Percent kind

-- from `<` to `**`, `<<`, and words
unfoldable pub is_comparing : TokenKind → Bool
is_comparing kind =
    is_between k.Less k.StarStar kind || (same_kind kind k.LessLess || is_operator_word kind)

-- `&`, `|`, `^`
unfoldable pub is_bitwise : TokenKind → Bool
is_bitwise kind = is_between k.Ampersand k.Caret kind

-- `&&`, `||`, `??`
unfoldable pub is_logical : TokenKind → Bool
is_logical kind = is_between k.AmpersandAmpersand k.QuestionQuestion kind

-- any of these, `?`, or an assignment operator
unfoldable pub is_operator : TokenKind → Bool
is_operator kind =
    is_between k.Less k.Question kind || (is_between k.PlusEqual k.QuestionQuestionEqual kind || is_operator_word kind)
