-- How the tokens stand that belong to a node and to none of its parts, by the node's style.
use Rattle.std.specs.Prelude.{ℕ, ◌+◌, ◌-◌, Bool, true, false, not, ◌&&◌, ◌||◌, if◌then◌else◌, List, Option, Some, None, slice_get}
use Rattle.es_token.specs.declared.token.Token.{Token}
use Rattle.es_token.specs.declared.token.TokenKind.{TokenKind}
use Rattle.es_token.specs.declared.token.TokenKind.TheVariants as k
use denote.Enum.Bare.{sameb}
use Rattle.grammar_theory.specs.Key.{same_kind}
use Rattle.es_grammar.specs.types.Words.{is_word}
use Rattle.es_printer.specs.contracts.style.Style.{the_type}
use Rattle.es_printer.specs.declared.style.Style.{Style}
use Rattle.es_printer.specs.declared.style.Style.TheVariants.{Member, Block, Body, Fields, Enum, Object, Types, Cases, Inline, Star, Empty, Loop, Condition, Operator, Prefix, Index, Question}
use Rattle.es_printer.specs.declared.piece.Left.{Left}
use Rattle.es_printer.specs.declared.piece.Left.TheVariants as left
use Rattle.es_printer.specs.declared.piece.Right.{Right}
use Rattle.es_printer.specs.declared.piece.Right.TheVariants as right
use Rattle.es_printer.specs.declared.piece.Stand.{Stand}

-- ---- where a token may stand
abbrev pub on_line : Left → Right → Stand
on_line l r = record { out = None; left = l; right = r; into = None }

-- the line ends behind it, and the next one stands so much deeper
abbrev pub into : ℕ → Left → Stand
into n l = record { out = None; left = l; right = right.Tight; into = Some n }

-- the line ends before it, and it stands so much less deep
abbrev pub out : ℕ → Right → Stand
out n r = record { out = Some n; left = left.Never; right = r; into = None }

abbrev pub word : Stand
word = on_line left.Word right.Word

abbrev pub literal : Stand
literal = on_line left.Begins right.Ends

abbrev pub begins : Stand
begins = on_line left.Begins right.Tight

abbrev pub between : Stand
between = on_line left.Apart right.Apart

abbrev pub run : Stand
run = on_line left.Run right.Run

abbrev pub behind : Stand
behind = on_line left.Tight right.Apart

abbrev pub tight : Stand
tight = on_line left.Tight right.Tight

abbrev pub closer : Stand
closer = on_line left.Never right.Tight

abbrev pub headed : Stand
headed = on_line left.Apart right.Tight

-- ---- the style of a node
abbrev pub is : Style → Style → Bool
is a style = sameb the_type style a

-- ---- tokens by their kinds
abbrev pub kind_is : TokenKind → Option Token → Bool
kind_is kind (Some t) = same_kind t.kind kind
kind_is kind None = false

unfoldable pub is_closer : Option Token → Bool
is_closer t =
    kind_is k.CloseParen t || (kind_is k.CloseBracket t || (kind_is k.CloseBrace t || kind_is k.Greater t))

-- ---- signs and words
-- those of an operator: `>` and `=` make a run, as in `>>=`
unfoldable pub operator : TokenKind → Stand
operator kind =
    if same_kind kind k.Greater || same_kind kind k.Equal then run
    else if same_kind kind k.ConstWord || same_kind kind k.PrivateName then word
    else between

unfoldable pub is_literal : TokenKind → Bool
is_literal kind =
    same_kind kind k.Number || (same_kind kind k.BigInt || (same_kind kind k.Str || (same_kind kind k.RegExp
    || same_kind kind k.TemplateWhole)))

-- what stands before an operand
unfoldable pub is_prefix : TokenKind → Bool
is_prefix kind =
    same_kind kind k.Plus || (same_kind kind k.Minus || (same_kind kind k.Exclamation || (same_kind kind k.Tilde
    || (same_kind kind k.PlusPlus || same_kind kind k.MinusMinus))))

-- `.`, `?.`, `<`, and `<<` that opens two lists
unfoldable pub is_tight : TokenKind → Bool
is_tight kind =
    same_kind kind k.Dot || (same_kind kind k.QuestionDot || (same_kind kind k.Less || same_kind kind k.LessLess))

unfoldable pub closes : TokenKind → Bool
closes kind = same_kind kind k.CloseParen || (same_kind kind k.CloseBracket || same_kind kind k.Greater)

unfoldable pub prefix : Style → Stand
prefix style = if is Prefix style then begins else tight

unfoldable pub starred : Style → Stand
starred style = if is Star style then between else tight

unfoldable pub question : Style → Stand
question style = if is Question style then between else tight

unfoldable pub colon : Style → Stand
colon style = if is Question style then between else if is Cases style then into 1 left.Tight else behind

unfoldable pub bracket : Style → Stand
bracket style = if is Index style then tight else begins

unfoldable pub parenthesis : Style → Stand
parenthesis style = if is Loop style || (is Condition style || is Cases style) then headed else tight

unfoldable pub sign : Style → TokenKind → Stand
sign style kind =
    if is_prefix kind then prefix style
    else if is_tight kind then prefix style
    else if closes kind then closer
    else if same_kind kind k.Star then starred style
    else if same_kind kind k.Question then question style
    else if same_kind kind k.Colon then colon style
    else if same_kind kind k.OpenBracket then bracket style
    else if same_kind kind k.OpenParen then parenthesis style
    else if same_kind kind k.Ellipsis then begins
    else between

-- a piece of a template, and the line of a program that begins with `#!`
unfoldable pub piece : Style → TokenKind → Stand
piece style kind =
    if same_kind kind k.TemplateHead then begins
    else if same_kind kind k.TemplateMiddle then closer
    else if same_kind kind k.TemplateTail then on_line left.Never right.Ends
    else if same_kind kind k.Shebang then into 0 left.Begins
    else sign style kind

-- `case` and `default` of a `switch` stand less deep than what follows them
unfoldable pub head : Style → TokenKind → Stand
head style kind =
    if is Cases style && (same_kind kind k.CaseWord || same_kind kind k.DefaultWord)
    then record { out = Some 1; left = left.Word; right = right.Word; into = None }
    else word

-- a token that is no brace, no `,` and no `;`
unfoldable pub plain : Style → TokenKind → Stand
plain style kind =
    if is_word kind || same_kind kind k.PrivateName then head style kind
    else if is_literal kind then literal
    else piece style kind

unfoldable pub by_kind : Style → TokenKind → Stand
by_kind style kind = if is Operator style then operator kind else plain style kind

-- ---- braces, `,` and `;`
abbrev pub opening : Style → (is_empty : Bool) → Stand
opening Inline true = begins
opening Inline false = on_line left.Begins right.Apart
opening Block true = headed
opening Block false = into 1 left.Apart
opening Object true = begins
opening Object false = into 1 left.Begins
opening Types _ = into 1 left.Begins
opening Body _ = into 1 left.Apart
opening Fields _ = into 1 left.Apart
opening Enum _ = into 1 left.Apart
opening Cases _ = into 2 left.Apart
opening _ _ = begins

abbrev pub closing : Style → (is_empty : Bool) → Stand
closing Inline true = on_line left.Never right.Ends
closing Inline false = on_line left.Apart right.Ends
closing Block true = on_line left.Never right.Body
closing Block false = out 1 right.Body
closing Object true = on_line left.Never right.Ends
closing Object false = out 1 right.Ends
closing Types _ = out 1 right.Ends
closing Body _ = out 1 right.Body
closing Fields _ = out 1 right.Body
closing Enum _ = out 1 right.Body
closing Cases _ = out 2 right.Body
closing _ _ = on_line left.Never right.Ends

-- `,`: of a list on one line, or between items that stand on lines; that behind a member is dropped
unfoldable pub comma : Style → Option Stand
comma style =
    if is Member style then None
    else if is Object style || is Enum style then Some (into 0 left.Tight)
    else Some behind

-- `;` is made, but where it stands alone, and in the head of a `for`
unfoldable pub semicolon : Style → Option Stand
semicolon style = if is Empty style || is Loop style then Some closer else None

module _ (ts : List Token) where
  -- a `,` before the closer of its list, which isn't that of a hole
  unfoldable pub is_trailing : ℕ → Bool
  is_trailing at =
      is_closer (slice_get ts (at + 1))
      && not (kind_is k.Comma (slice_get ts (at - 1)) || kind_is k.OpenBracket (slice_get ts (at - 1)))

  abbrev pub listed : Style → ℕ → Option Stand
  listed style at = if is_trailing at then None else comma style

  -- how a token of this kind stands, where it is printed
  unfoldable pub stand : Style → TokenKind → ℕ → Option Stand
  stand style kind at =
      if same_kind kind k.Semicolon then semicolon style
      else if same_kind kind k.Comma then listed style at
      else if same_kind kind k.OpenBrace then Some (opening style (kind_is k.CloseBrace (slice_get ts (at + 1))))
      else if same_kind kind k.CloseBrace then Some (closing style (kind_is k.OpenBrace (slice_get ts (at - 1))))
      else Some (by_kind style kind)
