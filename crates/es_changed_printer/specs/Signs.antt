-- What is printed of each form beside its parts: tokens that no text has, before and behind them all and before one of them.
use Rattle.std.specs.Prelude.{ℕ, Bool, true, false, List, [], ◌∷◌, ◌++◌, Option, Some, None}
use Rattle.es_grammar.specs.declared.rows.NodeKind.{NodeKind}
use Rattle.es_grammar.specs.declared.rows.NodeKind.TheVariants as l
use Rattle.es_changed.specs.declared.entry.Word.{Word}
use Rattle.es_changed.specs.declared.entry.Word.TheVariants as word
use Rattle.es_changed.specs.declared.entry.Form.{Form}
use Rattle.es_changed.specs.declared.entry.Form.TheVariants as form
use Rattle.es_printer.specs.declared.made.Made.{Made}
use Rattle.es_printer.specs.declared.made.Made.TheVariants as made
use Rattle.es_printer.specs.declared.piece.Piece.{Piece}
use Rattle.es_printer.specs.declared.piece.Piece.TheVariants as piece
use Rattle.es_printer.specs.declared.style.Style.{Style}
use Rattle.es_printer.specs.declared.style.Style.TheVariants.{Plain, Types}
use Rattle.es_changed_printer.specs.declared.signs.Place.{Place}
use Rattle.es_changed_printer.specs.declared.signs.Place.TheVariants.{First, Second, Later}

abbrev pub word_sign : Word → Made
word_sign word.Any = made.Any
word_sign word.String = made.String
word_sign word.Number = made.Number
word_sign word.Boolean = made.Boolean
word_sign word.BigInt = made.BigInt
word_sign word.Undefined = made.Undefined
word_sign word.Null = made.Null

-- ---- before the parts, of which a name has its number
abbrev pub first_sign : Form → ℕ → Option Made
first_sign form.Rest n = Some made.Ellipsis
first_sign form.Tuple n = Some made.OpenBracket
first_sign form.Readonly n = Some made.Readonly
first_sign form.Typeof n = Some made.Typeof
first_sign form.RegExp n = Some made.RegExp
first_sign form.Members n = Some made.OpenBrace
first_sign form.ReadonlyProperty n = Some made.Readonly
first_sign form.ReadonlyMember n = Some made.Readonly
first_sign form.Parameters n = Some made.OpenParen
first_sign form.RestParam n = Some made.Ellipsis
first_sign form.MadeName n = Some (made.Name n)
first_sign form.StrKey n = Some made.OpenBracket
first_sign form.NumberKey n = Some made.OpenBracket
first_sign form.EntityKey n = Some made.OpenBracket
first_sign form.Annotation n = Some made.Colon
first_sign form.Optional n = Some made.Question
first_sign form.Declare n = Some made.Declare
first_sign form.DefaultConst n = Some made.Declare
first_sign form.DefaultName n = Some made.Export
first_sign _ n = None

abbrev pub second_sign : Form → Option Made
second_sign form.DefaultConst = Some made.Const
second_sign form.DefaultName = Some made.Default
second_sign _ = None

-- ---- before a part
abbrev pub sign_ahead : Form → Place → Option Made
sign_ahead form.Tuple Second = Some made.Comma
sign_ahead form.Tuple Later = Some made.Comma
sign_ahead form.Parameters Second = Some made.Comma
sign_ahead form.Parameters Later = Some made.Comma
sign_ahead form.Property Second = Some made.Colon
sign_ahead form.ReadonlyProperty Second = Some made.Colon
sign_ahead form.DefaultConst Second = Some made.Colon
sign_ahead form.Function Later = Some made.Arrow
sign_ahead _ place = None

-- ---- behind the parts
abbrev pub last_sign : Form → Option Made
last_sign form.Tuple = Some made.CloseBracket
last_sign form.Members = Some made.CloseBrace
last_sign form.Parameters = Some made.CloseParen
last_sign form.StrKey = Some made.CloseBracket
last_sign form.NumberKey = Some made.CloseBracket
last_sign form.EntityKey = Some made.CloseBracket
last_sign _ = None

-- `;` and a line end
abbrev pub ends_line : Form → Bool
ends_line form.Property = true
ends_line form.ReadonlyProperty = true
ends_line form.DefaultConst = true
ends_line _ = false

-- ---- how its parts and its own tokens of the text are printed
-- a form that stands in the text has its tokens printed, as those of this alternative
abbrev pub alternative : Form → Option NodeKind
alternative form.Named = Some l.EntityOfType
alternative form.Path = Some l.EntityOfType
alternative form.ThisPath = Some l.EntityOfType
alternative form.ThisPattern = Some l.NamePatternOfType
alternative form.StrKey = Some l.StrKeyOfType
alternative form.NumberKey = Some l.NumberKeyOfType
alternative form.Declare = Some l.Declared
alternative form.Undeclare = Some l.Declared
alternative form.DefaultName = Some l.ExportDefaultExpression
alternative form.Field = Some l.TypedFieldMember
alternative form.Method = Some l.TypedMethodMember
alternative form.Getter = Some l.TypedAccessorMember
alternative form.Setter = Some l.TypedAccessorMember
alternative form.AsyncMethod = Some l.TypedAsyncMember
alternative form.GeneratorMethod = Some l.TypedGeneratorMember
alternative form.AsyncGeneratorMethod = Some l.TypedAsyncMember
alternative _ = None

-- the parts of any other form, in a node of this style
abbrev pub style_in : Form → Style → Style
style_in form.Same here = here
style_in form.Pattern here = here
style_in form.Members here = Types
style_in form.ReadonlyMember here = Types
style_in _ here = Plain

-- ---- as pieces
abbrev pub sign : Option Made → List Piece
sign (Some it) = piece.Made it ∷ []
sign None = []

abbrev pub line_end : Bool → List Piece
line_end true = piece.End ∷ piece.Line ∷ []
line_end false = []

unfoldable pub opens : Form → ℕ → List Piece
opens f n = sign (first_sign f n) ++ sign (second_sign f)

unfoldable pub shuts : Form → List Piece
shuts f = sign (last_sign f) ++ line_end (ends_line f)

-- nothing stands before what is no part
abbrev pub ahead : Form → Place → (is_part : Bool) → List Piece
ahead f place true = sign (sign_ahead f place)
ahead f place false = []

abbrev pub next_place : Place → Place
next_place First = Second
next_place _ = Later

abbrev pub counted : Place → (is_part : Bool) → Place
counted place true = next_place place
counted place false = place
