-- What the functions of the crate promise each other: what stands at a place, found by one look forward.
-- A look at a text goes over it once; places count from the start of the whole text.
use Rattle.std.specs.Prelude.{ℕ, ◌+◌, ◌-◌, Bool, true, false, not, ◌&&◌, ◌||◌, ◌==◌, List, [], ◌∷◌, take, drop, Option, Some, None, if◌then◌else◌}
use Rattle.es_lexer.specs.declared.bytes.First.{First}
use Rattle.es_lexer.specs.declared.bytes.First.TheVariants as first
use Rattle.es_lexer.specs.declared.bracket.BracketKind.{BracketKind}
use Rattle.es_lexer.specs.declared.goal.Goal.{Goal}
use Rattle.es_lexer.specs.declared.signs.Sign.{Sign}
use Rattle.es_lexer.specs.declared.look.Look.{Look}
use Rattle.es_lexer.specs.declared.look.Look.TheVariants as look
use Rattle.es_token.specs.declared.token.CommentKind.TheVariants.{Line, Block}
use Rattle.es_token.specs.declared.token.TokenKind.TheVariants as kind
use Rattle.es_lexer.specs.declared.error.LexicalKind.TheVariants.{UnterminatedString, UnterminatedComment, UnterminatedTemplate, UnterminatedRegExp, InvalidEscape, InvalidChar, Unbalanced}
use Rattle.es_lexer.specs.Bytes.{joins, begins_name, begins_backslash, first_of, is_blank, part_unit, word_unit, begins_closer}
use Rattle.es_lexer.specs.Words.{kind_at}
use Rattle.es_lexer.specs.declared.bracket.BracketKind.TheVariants.{Template}
use Rattle.es_literal.specs.declared.spelling.template.TemplateEnd.{TemplateEnd}
use Rattle.es_literal.specs.declared.spelling.template.TemplateEnd.TheVariants.{Closes, Substitutes, Unclosed}
use Rattle.es_literal.specs.spelling.Templates.{template_end}
use Rattle.es_literal.specs.spelling.Lines.{begins_line_end}
use Rattle.es_literal.specs.spelling.Units.{units_end}
use Rattle.es_unicode.specs.Wide.{wide_size, wide_blank, wide_line}
use Rattle.es_literal.specs.spelling.RegExps.{body_end}
use Rattle.es_literal.specs.declared.spelling.number.NumberEnd.{NumberEnd}
use Rattle.es_literal.specs.spelling.Numbers.{number_end}
use Rattle.es_literal.specs.declared.string.StringEnd.{StringEnd}
use Rattle.es_literal.specs.declared.string.StringEnd.TheVariants as string
use Rattle.es_literal.specs.Strings.{string_end}
use Rattle.es_lexer.specs.Goal.{begins_digit}
use Rattle.es_lexer.specs.Stops.{backslash_fault}
use Rattle.es_lexer.specs.Spelling.{template_kind, number_kind}
use Rattle.es_lexer.specs.Brackets.{role_of, is_open, may_close}
use Rattle.es_lexer.specs.Signs.{sign_at}

-- where the line ends
unfoldable pub line_stop : ℕ → List ℕ → ℕ
line_stop at [] = at
line_stop at (b ∷ rest) = if begins_line_end (b ∷ rest) then at else line_stop (at + 1) rest

-- where the blanks of one byte end
unfoldable pub blanks_end : ℕ → List ℕ → ℕ
blanks_end at [] = at
blanks_end at (b ∷ rest) = if is_blank b then blanks_end (at + 1) rest else at

-- where the parts of a name end
unfoldable pub word_end : ℕ → List ℕ → ℕ
word_end at text = units_end word_unit at 0 text

-- where flags end
unfoldable pub flags_end : ℕ → List ℕ → ℕ
flags_end at text = units_end part_unit at 0 text

-- the word that stands at `at`, at the front of `text`, right after `.` or not
unfoldable pub word_look : Bool → ℕ → List ℕ → Look
word_look member at text =
    let end = word_end at text in look.Token (kind_at member (take (end - at) text)) end

-- a string literal at `at`, by its end
unfoldable pub string_look : ℕ → StringEnd → Look
string_look at (string.Closes end) = look.Token kind.Str end
string_look at (string.InvalidEscape place) = look.Fault InvalidEscape place
string_look at string.Unclosed = look.Fault UnterminatedString at

-- the block comment that began at `start`, from `at` on; `line` says whether a line end stood in it so far
unfoldable pub block_look : ℕ → Bool → ℕ → List ℕ → Look
block_look start line at [] = look.Fault UnterminatedComment start
block_look start line at (b ∷ rest) =
    if begins_closer (b ∷ rest) then look.Comment Block (at + 2) line
    else block_look start (line || begins_line_end (b ∷ rest)) (at + 1) rest

-- a punctuator at `at`, where this is the innermost open bracket
unfoldable pub sign_look : Option BracketKind → ℕ → Option Sign → Look
sign_look bracket at None = look.Fault InvalidChar at
sign_look bracket at (Some sign) =
    if may_close bracket (role_of sign.kind) then look.Token sign.kind (at + sign.size) else look.Fault Unbalanced at

-- a regular expression at `at`, by the place behind its body, before the text behind its first `/`
unfoldable pub regexp_look : ℕ → Option ℕ → List ℕ → Look
regexp_look at None rest = look.Fault UnterminatedRegExp at
regexp_look at (Some end) rest = look.Token kind.RegExp (flags_end end (drop (end - (at + 1)) rest))

-- a `/` at `at` that begins no comment
unfoldable pub divide_look : Goal → ℕ → List ℕ → Look
divide_look goal at rest =
    if goal.regexp then regexp_look at (body_end (at + 1) rest) rest
    else sign_look goal.bracket at (sign_at (47 ∷ rest))

-- what begins with a `/` at `at`, before `rest`
unfoldable pub slash_look : Goal → ℕ → List ℕ → Look
slash_look goal at [] = divide_look goal at []
slash_look goal at (b ∷ rest) =
    if b == 47 then look.Comment Line (line_stop (at + 2) rest) false
    else (if b == 42 then block_look at false (at + 2) rest
    else divide_look goal at (b ∷ rest))

-- a template that begins at `at`, or what goes on in one, by what ends it
unfoldable pub template_look : Bool → ℕ → TemplateEnd → Look
template_look opens at (Closes end) = look.Token (template_kind opens false) end
template_look opens at (Substitutes end) = look.Token (template_kind opens true) end
template_look opens at Unclosed = look.Fault UnterminatedTemplate at

-- a `}` at `at`, before `rest`
unfoldable pub brace_look : Goal → ℕ → List ℕ → Look
brace_look goal at rest =
    if is_open goal.bracket Template then template_look false at (template_end (at + 1) rest)
    else sign_look goal.bracket at (sign_at (125 ∷ rest))

-- a `#` at `at`, before this text
unfoldable pub name_look : ℕ → List ℕ → Look
name_look at text =
    if begins_name text then look.Token kind.PrivateName (word_end (at + 1) text)
    else (if begins_backslash text then look.Fault (backslash_fault text) (at + 1)
    else look.Fault InvalidChar at)

-- a `#` at `at`, at the text's front or not, before `rest`
unfoldable pub hash_look : Bool → ℕ → List ℕ → Look
hash_look front at [] = look.Fault InvalidChar at
hash_look front at (b ∷ rest) =
    if front && b == 33 then look.Token kind.Shebang (line_stop (at + 2) rest) else name_look at (b ∷ rest)

-- a number, before this text
unfoldable pub number_stop : NumberEnd → List ℕ → Look
number_stop number after =
    if joins after then look.Fault InvalidChar number.end else look.Token (number_kind number.big) number.end

-- a number at `at`, at the front of `text`
unfoldable pub number_look : ℕ → List ℕ → Look
number_look at text =
    let number = number_end at text in number_stop number (drop (number.end - at) text)

-- a point at `at`, before `rest`
unfoldable pub dot_look : Goal → ℕ → List ℕ → Look
dot_look goal at rest =
    if begins_digit rest then number_look at (46 ∷ rest) else sign_look goal.bracket at (sign_at (46 ∷ rest))

-- a character past ASCII at `at`, at the front of `text`
unfoldable pub wide_look : Goal → ℕ → List ℕ → Look
wide_look goal at text =
    if not (wide_size text == 0) then word_look goal.member at text
    else (if not (wide_blank text == 0) then look.Blank (at + wide_blank text)
    else (if not (wide_line text == 0) then look.LineEnd (at + wide_line text)
    else look.Fault InvalidChar at))

-- a `\` at `at`, at the front of `text`
unfoldable pub backslash_look : Goal → ℕ → List ℕ → Look
backslash_look goal at text =
    if begins_name text then word_look goal.member at text else look.Fault (backslash_fault text) at

-- what begins with a byte of this class at `at`, before `rest`
unfoldable pub class_look : First → Goal → ℕ → ℕ → List ℕ → Look
class_look first.Blank goal at b rest = look.Blank (at + 1)
class_look first.LineEnd goal at b rest = look.LineEnd (at + 1)
class_look first.Start goal at b rest = word_look goal.member at (b ∷ rest)
class_look first.Quote goal at b rest = string_look at (string_end at (b ∷ rest))
class_look first.Slash goal at b rest = slash_look goal at rest
class_look first.Backtick goal at b rest = template_look true at (template_end (at + 1) rest)
class_look first.Brace goal at b rest = brace_look goal at rest
class_look first.Hash goal at b rest = hash_look goal.front at rest
class_look first.Digit goal at b rest = number_look at (b ∷ rest)
class_look first.Dot goal at b rest = dot_look goal at rest
class_look first.Backslash goal at b rest = backslash_look goal at (b ∷ rest)
class_look first.Wide goal at b rest = wide_look goal at (b ∷ rest)
class_look first.Other goal at b rest = sign_look goal.bracket at (sign_at (b ∷ rest))

-- the end of the text, where this is the innermost open bracket
unfoldable pub end_look : Option BracketKind → ℕ → Look
end_look None at = look.End
end_look (Some bracket) at = look.Fault Unbalanced at

-- what stands at `at`, at the front of `text`
unfoldable pub look_at : Goal → ℕ → List ℕ → Look
look_at goal at [] = end_look goal.bracket at
look_at goal at (b ∷ rest) = class_look (first_of b) goal at b rest
