-- What may stand at a place, by the pieces before it, the latest first (ECMA-262, "Lexical Grammar", its goal symbols).
use Rattle.std.specs.Prelude.{ℕ, Bool, true, false, not, ◌&&◌, ◌||◌, List, [], ◌∷◌, Option, Some, None}
use Rattle.std.specs.Char.{is_ascii_digit}
use Rattle.es_lexer.specs.declared.bracket.BracketKind.{BracketKind}
use Rattle.es_lexer.specs.declared.goal.Goal.{Goal}
use Rattle.es_lexer.specs.declared.goal.State.{State}
use Rattle.es_lexer.specs.declared.goal.SlashRule.{SlashRule}
use Rattle.es_lexer.specs.declared.goal.SlashRule.TheVariants.{Divides, ByParenthesis, ByLine, Begins}
use Rattle.es_token.specs.declared.token.TokenKind.{TokenKind}
use Rattle.es_token.specs.declared.token.TokenKind.TheVariants as kind
use Rattle.es_lexer.specs.Bytes.{joins, ends_line}
use Rattle.es_lexer.specs.Brackets.{role_of, may_close}
use Rattle.es_lexer.specs.Pieces.{Piece, blank, line_end, comment, token, Open, open_at, bracket_of, is_behind, line_since}

-- ---- regular expressions
-- what a token of this kind says of a `/` behind it
unfoldable pub slash_rule : TokenKind → SlashRule
slash_rule kind.Name = Divides
slash_rule kind.PrivateName = Divides
slash_rule kind.Number = Divides
slash_rule kind.BigInt = Divides
slash_rule kind.Str = Divides
slash_rule kind.TemplateWhole = Divides
slash_rule kind.TemplateTail = Divides
slash_rule kind.RegExp = Divides
slash_rule kind.CloseBracket = Divides
slash_rule kind.CloseBrace = Divides
slash_rule kind.PlusPlus = Divides
slash_rule kind.MinusMinus = Divides
slash_rule kind.ThisWord = Divides
slash_rule kind.SuperWord = Divides
slash_rule kind.NullWord = Divides
slash_rule kind.TrueWord = Divides
slash_rule kind.FalseWord = Divides
slash_rule kind.AbstractWord = Divides
slash_rule kind.AccessorWord = Divides
slash_rule kind.AnyWord = Divides
slash_rule kind.AsWord = Divides
slash_rule kind.AssertsWord = Divides
slash_rule kind.AsyncWord = Divides
slash_rule kind.BigintWord = Divides
slash_rule kind.BooleanWord = Divides
slash_rule kind.ConstructorWord = Divides
slash_rule kind.DeclareWord = Divides
slash_rule kind.DeferWord = Divides
slash_rule kind.FromWord = Divides
slash_rule kind.GetWord = Divides
slash_rule kind.GlobalWord = Divides
slash_rule kind.ImplementsWord = Divides
slash_rule kind.InferWord = Divides
slash_rule kind.InterfaceWord = Divides
slash_rule kind.IsWord = Divides
slash_rule kind.KeyofWord = Divides
slash_rule kind.MetaWord = Divides
slash_rule kind.ModuleWord = Divides
slash_rule kind.NamespaceWord = Divides
slash_rule kind.NeverWord = Divides
slash_rule kind.NumberWord = Divides
slash_rule kind.ObjectWord = Divides
slash_rule kind.OfWord = Divides
slash_rule kind.OutWord = Divides
slash_rule kind.OverrideWord = Divides
slash_rule kind.PrivateWord = Divides
slash_rule kind.ProtectedWord = Divides
slash_rule kind.PublicWord = Divides
slash_rule kind.ReadonlyWord = Divides
slash_rule kind.RequireWord = Divides
slash_rule kind.SatisfiesWord = Divides
slash_rule kind.SetWord = Divides
slash_rule kind.SourceWord = Divides
slash_rule kind.StaticWord = Divides
slash_rule kind.StringWord = Divides
slash_rule kind.SymbolWord = Divides
slash_rule kind.TargetWord = Divides
slash_rule kind.TypeWord = Divides
slash_rule kind.UndefinedWord = Divides
slash_rule kind.UniqueWord = Divides
slash_rule kind.UnknownWord = Divides
slash_rule kind.UsingWord = Divides
slash_rule kind.CloseParen = ByParenthesis
slash_rule kind.Exclamation = ByLine
slash_rule k = Begins

-- whether `/` divides behind a token with this rule: whether a line end stands before that token, whether `/` divides
-- before it, and whether the parenthesis that it closes belongs to a statement's head
unfoldable pub divides_behind : SlashRule → Bool → Bool → Bool → Bool
divides_behind Divides line before headed = true
divides_behind ByParenthesis line before headed = not headed
divides_behind ByLine line before headed = before && not line
divides_behind Begins line before headed = false

unfoldable pub is_for : TokenKind → Bool
is_for kind.ForWord = true
is_for k = false

-- the latest token is `for`
unfoldable pub after_for : List Piece → Bool
after_for [] = false
after_for (blank s ∷ before) = after_for before
after_for (line_end s ∷ before) = after_for before
after_for (comment c text ∷ before) = after_for before
after_for (token k s ∷ before) = is_for k

-- a parenthesis behind a token of this kind belongs to the head of a statement
unfoldable pub is_headed : TokenKind → Bool → Bool
is_headed kind.IfWord for = true
is_headed kind.ForWord for = true
is_headed kind.WhileWord for = true
is_headed kind.WithWord for = true
is_headed kind.AwaitWord for = for
is_headed k for = false

-- the latest token is `if`, `for`, `while`, `with`, or the `await` of `for await`
unfoldable pub headed : List Piece → Bool
headed [] = false
headed (blank s ∷ before) = headed before
headed (line_end s ∷ before) = headed before
headed (comment c text ∷ before) = headed before
headed (token k s ∷ before) = is_headed k (after_for before)

-- so it is before the open bracket
abbrev pub open_headed : Option Open → Bool
open_headed None = false
open_headed (Some bracket) = headed bracket.before

-- `/` divides
unfoldable pub divides : List Piece → Bool
divides [] = false
divides (blank s ∷ before) = divides before
divides (line_end s ∷ before) = divides before
divides (comment c text ∷ before) = divides before
divides (token k s ∷ before) =
    divides_behind (slash_rule k) (line_since before) (divides before) (open_headed (open_at 0 before))

-- ---- names of members
unfoldable pub is_member : TokenKind → Bool
is_member kind.Dot = true
is_member kind.QuestionDot = true
is_member k = false

-- the latest token is `.` or `?.`
unfoldable pub member : List Piece → Bool
member [] = false
member (blank s ∷ before) = member before
member (line_end s ∷ before) = member before
member (comment c text ∷ before) = member before
member (token k s ∷ before) = is_member k

-- ---- the front
unfoldable pub is_front : List Piece → Bool
is_front [] = true
is_front (p ∷ before) = false

-- ---- the goal
unfoldable pub goal_of : List Piece → Goal
goal_of before = record {
  bracket = bracket_of (open_at 0 before);
  regexp = not (divides before);
  member = member before;
  front = is_front before;
}

unfoldable pub begins_digit : List ℕ → Bool
begins_digit [] = false
begins_digit (b ∷ rest) = is_ascii_digit b

-- where `/` begins a regular expression or not, a token of this kind may stand before this text
unfoldable pub may_stand : Bool → TokenKind → List ℕ → Bool
may_stand regexp kind.RegExp after = regexp
may_stand regexp kind.Slash after = not regexp
may_stand regexp kind.SlashEqual after = not regexp
may_stand regexp kind.QuestionDot after = not (begins_digit after)
may_stand regexp kind.Dot after = not (begins_digit after)
may_stand regexp kind.Shebang after = ends_line after
may_stand regexp k after = true

-- whether a token of this kind may stand there, before this text
unfoldable pub allows : Goal → TokenKind → List ℕ → Bool
allows goal k after = may_close goal.bracket (role_of k) && may_stand goal.regexp k after

-- neither a character of a name nor a `\` stands right behind a number
unfoldable pub stands_apart : TokenKind → List ℕ → Bool
stands_apart kind.Number after = not (joins after)
stands_apart kind.BigInt after = not (joins after)
stands_apart k after = true

-- ---- what the code keeps of the pieces
unfoldable pub state_of : List Piece → State
state_of before = record {
  any = is_behind before;
  line = line_since before;
  divides = divides before;
  member = member before;
  headed = headed before;
  after_for = after_for before;
  front = is_front before;
}

unfoldable pub token_state : State → TokenKind → Bool → State
token_state state k closed = record {
  any = true;
  line = false;
  divides = divides_behind (slash_rule k) state.line state.divides closed;
  member = is_member k;
  headed = is_headed k state.after_for;
  after_for = is_for k;
  front = false;
}

abbrev pub blank_state : State → State
blank_state state = record state { front = false }

abbrev pub line_state : State → State
line_state state = record state { line = state.any; front = false }

abbrev pub comment_state : State → Bool → State
comment_state state lines = record state { line = state.line || state.any && lines; front = false }

abbrev pub goal_in : State → Option BracketKind → Goal
goal_in state bracket =
    record { bracket = bracket; regexp = not state.divides; member = state.member; front = state.front }
