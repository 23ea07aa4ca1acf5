-- Tokens that no text has: how each stands, what kind it is, and how it is spelled.
use Rattle.std.specs.Prelude.{ℕ, List, [], ◌++◌, Option, Some, None, codes}
use Rattle.std.specs.Fmt.{decimal}
use Rattle.es_token.specs.declared.token.TokenKind.{TokenKind}
use Rattle.es_token.specs.declared.token.TokenKind.TheVariants as k
use Rattle.es_printer.specs.declared.piece.Left.TheVariants as left
use Rattle.es_printer.specs.declared.piece.Right.TheVariants as right
use Rattle.es_printer.specs.declared.piece.Stand.{Stand}
use Rattle.es_printer.specs.declared.made.Made.{Made}
use Rattle.es_printer.specs.declared.made.Made.TheVariants as made
use Rattle.es_printer.specs.Own.{into, out, word, begins, between, behind, tight, closer}

-- as such a token of a text stands in a type, and the braces of a type with members
abbrev pub stand_of : Made → Stand
stand_of made.OpenParen = tight
stand_of made.CloseParen = closer
stand_of made.OpenBracket = begins
stand_of made.CloseBracket = closer
stand_of made.OpenBrace = into 1 left.Begins
stand_of made.CloseBrace = out 1 right.Ends
stand_of made.Colon = behind
stand_of made.Comma = behind
stand_of made.Question = tight
stand_of made.Arrow = between
stand_of made.Ellipsis = begins
stand_of _ = word

abbrev pub kind_of : Made → TokenKind
kind_of made.Any = k.AnyWord
kind_of made.BigInt = k.BigintWord
kind_of made.Boolean = k.BooleanWord
kind_of made.Const = k.ConstWord
kind_of made.Declare = k.DeclareWord
kind_of made.Default = k.DefaultWord
kind_of made.Export = k.ExportWord
kind_of made.Null = k.NullWord
kind_of made.Number = k.NumberWord
kind_of made.Readonly = k.ReadonlyWord
kind_of made.String = k.StringWord
kind_of made.Typeof = k.TypeofWord
kind_of made.Undefined = k.UndefinedWord
kind_of made.RegExp = k.Name
kind_of (made.Name n) = k.Name
kind_of made.OpenParen = k.OpenParen
kind_of made.CloseParen = k.CloseParen
kind_of made.OpenBracket = k.OpenBracket
kind_of made.CloseBracket = k.CloseBracket
kind_of made.OpenBrace = k.OpenBrace
kind_of made.CloseBrace = k.CloseBrace
kind_of made.Colon = k.Colon
kind_of made.Comma = k.Comma
kind_of made.Question = k.Question
kind_of made.Arrow = k.Arrow
kind_of made.Ellipsis = k.Ellipsis

abbrev pub front_of : Made → List ℕ
front_of made.Any = codes "any"
front_of made.BigInt = codes "bigint"
front_of made.Boolean = codes "boolean"
front_of made.Const = codes "const"
front_of made.Declare = codes "declare"
front_of made.Default = codes "default"
front_of made.Export = codes "export"
front_of made.Null = codes "null"
front_of made.Number = codes "number"
front_of made.Readonly = codes "readonly"
front_of made.String = codes "string"
front_of made.Typeof = codes "typeof"
front_of made.Undefined = codes "undefined"
front_of made.RegExp = codes "RegExp"
front_of (made.Name n) = codes "_dts_"
front_of made.OpenParen = codes "("
front_of made.CloseParen = codes ")"
front_of made.OpenBracket = codes "["
front_of made.CloseBracket = codes "]"
front_of made.OpenBrace = codes "{"
front_of made.CloseBrace = codes "}"
front_of made.Colon = codes ":"
front_of made.Comma = codes ","
front_of made.Question = codes "?"
front_of made.Arrow = codes "=>"
front_of made.Ellipsis = codes "..."

-- the number behind a name
abbrev pub number_of : Made → Option ℕ
number_of (made.Name n) = Some n
number_of _ = None

abbrev pub digits_of : Option ℕ → List ℕ
digits_of (Some n) = decimal n
digits_of None = []

abbrev pub text_of : Made → List ℕ
text_of it = front_of it ++ digits_of (number_of it)
