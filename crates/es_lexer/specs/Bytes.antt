-- Classes of bytes (ECMA-262, "White Space", "Line Terminators", "Names and Keywords").
-- A character past ASCII is told by all its bytes.
use Rattle.std.specs.Prelude.{ℕ, Bool, true, false, not, nat_le, nat_lt, ◌&&◌, ◌||◌, ◌==◌, List, [], ◌∷◌, if◌then◌else◌}
use Rattle.std.specs.Char.{is_ascii_alphabetic, is_ascii_digit}
use Rattle.es_literal.specs.spelling.Lines.{begins_line_end}
use Rattle.es_unicode.specs.Wide.{wide_size}
use Rattle.es_unicode.specs.Escapes.{escaped_start, escaped_part}
use Rattle.es_lexer.specs.declared.bytes.First.{First}
use Rattle.es_lexer.specs.declared.bytes.First.TheVariants.{Blank, LineEnd, Start, Quote, Slash, Backtick, Brace, Hash, Digit, Dot, Backslash, Wide, Other}

-- U+0009, U+000B, U+000C and U+0020
abbrev pub is_blank : ℕ → Bool
is_blank b = b == 9 || b == 11 || b == 12 || b == 32

-- U+000A and U+000D; the other line ends are U+2028 and U+2029, past ASCII
abbrev pub is_line_end : ℕ → Bool
is_line_end b = b == 10 || b == 13

-- what begins a word: a letter, `$`, `_` (IdentifierStart)
abbrev pub is_start : ℕ → Bool
is_start b = is_ascii_alphabetic b || b == 36 || b == 95

-- what continues a word (IdentifierPart)
abbrev pub is_part : ℕ → Bool
is_part b = is_start b || is_ascii_digit b

-- `"` and `'`
abbrev pub is_quote : ℕ → Bool
is_quote b = b == 34 || b == 39

-- the table of first bytes
unfoldable pub first_of : ℕ → First
first_of b =
    if is_blank b then Blank
    else (if is_line_end b then LineEnd
    else (if is_start b then Start
    else (if is_quote b then Quote
    else (if b == 47 then Slash
    else (if b == 96 then Backtick
    else (if b == 125 then Brace
    else (if b == 35 then Hash
    else (if is_ascii_digit b then Digit
    else (if b == 46 then Dot
    else (if b == 92 then Backslash
    else (if nat_le 128 b then Wide
    else Other)))))))))))

-- a letter, `$` or `_`
unfoldable pub is_letter : First → Bool
is_letter Start = true
is_letter class = false

-- `//` or `/*` stands here (Comment)
unfoldable pub begins_comment : List ℕ → Bool
begins_comment [] = false
begins_comment (a ∷ []) = false
begins_comment (a ∷ b ∷ rest) = a == 47 && (b == 47 || b == 42)

-- `*/` stands here
unfoldable pub begins_closer : List ℕ → Bool
begins_closer [] = false
begins_closer (a ∷ []) = false
begins_closer (a ∷ b ∷ rest) = a == 42 && b == 47

-- `*/` stands somewhere in the text
unfoldable pub has_closer : List ℕ → Bool
has_closer [] = false
has_closer (a ∷ rest) = begins_closer (a ∷ rest) || has_closer rest

-- a line end stands somewhere in the text
unfoldable pub has_line_end : List ℕ → Bool
has_line_end [] = false
has_line_end (b ∷ rest) = begins_line_end (b ∷ rest) || has_line_end rest

-- the text ends here, or a line end stands here
unfoldable pub ends_line : List ℕ → Bool
ends_line [] = true
ends_line (b ∷ rest) = begins_line_end (b ∷ rest)

-- `!` stands here
unfoldable pub begins_mark : List ℕ → Bool
begins_mark [] = false
begins_mark (b ∷ rest) = b == 33

-- `\` stands here
unfoldable pub begins_backslash : List ℕ → Bool
begins_backslash [] = false
begins_backslash (b ∷ rest) = b == 92

-- `\u` stands here
unfoldable pub begins_escape : List ℕ → Bool
begins_escape [] = false
begins_escape (a ∷ []) = false
begins_escape (a ∷ b ∷ rest) = a == 92 && b == 117

-- the size of the character of a name that stands here, or 0 (IdentifierPartChar)
unfoldable pub part_unit : List ℕ → ℕ
part_unit [] = 0
part_unit (b ∷ rest) = if is_part b then 1 else wide_size (b ∷ rest)

-- the size of the part of a name that stands here, or 0: such a character or an escape of one (IdentifierPart)
unfoldable pub word_unit : List ℕ → ℕ
word_unit [] = 0
word_unit (b ∷ rest) = if b == 92 then escaped_part (b ∷ rest) else part_unit (b ∷ rest)

-- what may not stand right behind a number: a character of a name, or a `\`
unfoldable pub joins : List ℕ → Bool
joins text = not (part_unit text == 0) || begins_backslash text

-- the start of a name stands here: a character or an escape of one (IdentifierStart)
unfoldable pub begins_name : List ℕ → Bool
begins_name [] = false
begins_name (b ∷ rest) =
    is_start b || (not (wide_size (b ∷ rest) == 0) || not (escaped_start (b ∷ rest) == 0))

-- a letter, `$` or `_` stands here
unfoldable pub begins_letter : List ℕ → Bool
begins_letter [] = false
begins_letter (b ∷ rest) = is_letter (first_of b)

-- the text ends here, or a byte of ASCII stands here that is no part of a word and begins none
unfoldable pub ends_plainly : List ℕ → Bool
ends_plainly [] = true
ends_plainly (b ∷ rest) = if is_part b then false else (if b == 92 then false else nat_lt b 128)
