-- A test that holds at the end and at a token of each kind, behind a line end and on the line of the token before, holds of all
-- that can be seen: so a claim of a table is proved by computing it once for each kind.
use Rattle.std.specs.Prelude.{List, [], ◌∷◌, Option, Some, None, Bool, true, false, ◌&&◌}
use Rattle.std.proofs.Common.{◌≡◌, ℕ, zero, suc, refl}
use denote.Enum.Declared.{tag_of}
use Rattle.es_token.specs.declared.token.TokenKind.{TokenKind}
use Rattle.es_token.specs.declared.token.TokenKind.TheVariants as k
use Rattle.es_token.specs.contracts.token.TokenKind.{the_type}
use Rattle.grammar_theory.specs.Key.{Seen, TokenTest}
use Rattle.grammar_theory.proofs.Progress.{both_hold}

-- every kind of token
kinds : List TokenKind
kinds =
    k.Shebang ∷ k.Name ∷ k.PrivateName ∷ k.Number ∷ k.BigInt ∷ k.Str ∷ k.TemplateWhole ∷ k.TemplateHead ∷
    k.TemplateMiddle ∷ k.TemplateTail ∷ k.RegExp ∷ k.AwaitWord ∷ k.BreakWord ∷ k.CaseWord ∷ k.CatchWord ∷
    k.ClassWord ∷ k.ConstWord ∷ k.ContinueWord ∷ k.DebuggerWord ∷ k.DefaultWord ∷ k.DeleteWord ∷ k.DoWord ∷
    k.ElseWord ∷ k.EnumWord ∷ k.ExportWord ∷ k.ExtendsWord ∷ k.FalseWord ∷ k.FinallyWord ∷ k.ForWord ∷
    k.FunctionWord ∷ k.IfWord ∷ k.ImportWord ∷ k.InWord ∷ k.InstanceofWord ∷ k.LetWord ∷ k.NewWord ∷ k.NullWord ∷
    k.ReturnWord ∷ k.SuperWord ∷ k.SwitchWord ∷ k.ThisWord ∷ k.ThrowWord ∷ k.TrueWord ∷ k.TryWord ∷ k.TypeofWord ∷
    k.VarWord ∷ k.VoidWord ∷ k.WhileWord ∷ k.WithWord ∷ k.YieldWord ∷ k.AbstractWord ∷ k.AccessorWord ∷ k.AnyWord ∷
    k.AsWord ∷ k.AssertsWord ∷ k.AsyncWord ∷ k.BigintWord ∷ k.BooleanWord ∷ k.ConstructorWord ∷ k.DeclareWord ∷
    k.DeferWord ∷ k.FromWord ∷ k.GetWord ∷ k.GlobalWord ∷ k.ImplementsWord ∷ k.InferWord ∷ k.InterfaceWord ∷
    k.IsWord ∷ k.KeyofWord ∷ k.MetaWord ∷ k.ModuleWord ∷ k.NamespaceWord ∷ k.NeverWord ∷ k.NumberWord ∷ k.ObjectWord ∷
    k.OfWord ∷ k.OutWord ∷ k.OverrideWord ∷ k.PrivateWord ∷ k.ProtectedWord ∷ k.PublicWord ∷ k.ReadonlyWord ∷
    k.RequireWord ∷ k.SatisfiesWord ∷ k.SetWord ∷ k.SourceWord ∷ k.StaticWord ∷ k.StringWord ∷ k.SymbolWord ∷
    k.TargetWord ∷ k.TypeWord ∷ k.UndefinedWord ∷ k.UniqueWord ∷ k.UnknownWord ∷ k.UsingWord ∷ k.OpenBrace ∷
    k.CloseBrace ∷ k.OpenParen ∷ k.CloseParen ∷ k.OpenBracket ∷ k.CloseBracket ∷ k.Semicolon ∷ k.Comma ∷ k.Dot ∷
    k.Ellipsis ∷ k.Less ∷ k.LessEqual ∷ k.Greater ∷ k.Equal ∷ k.EqualEqual ∷ k.NotEqual ∷ k.EqualEqualEqual ∷
    k.NotEqualEqual ∷ k.Plus ∷ k.Minus ∷ k.Star ∷ k.Slash ∷ k.Percent ∷ k.StarStar ∷ k.PlusPlus ∷ k.MinusMinus ∷
    k.LessLess ∷ k.Ampersand ∷ k.Bar ∷ k.Caret ∷ k.Exclamation ∷ k.Tilde ∷ k.AmpersandAmpersand ∷ k.BarBar ∷
    k.QuestionQuestion ∷ k.Question ∷ k.QuestionDot ∷ k.Colon ∷ k.PlusEqual ∷ k.MinusEqual ∷ k.StarEqual ∷
    k.SlashEqual ∷ k.PercentEqual ∷ k.StarStarEqual ∷ k.LessLessEqual ∷ k.AmpersandEqual ∷ k.BarEqual ∷ k.CaretEqual ∷
    k.AmpersandAmpersandEqual ∷ k.BarBarEqual ∷ k.QuestionQuestionEqual ∷ k.Arrow ∷ []

-- the kind at a place of a list
abbrev kind_at : List TokenKind → ℕ → Option TokenKind
kind_at [] n = None
kind_at (kind ∷ rest) zero = Some kind
kind_at (kind ∷ rest) (suc n) = kind_at rest n

-- each kind is listed, at the place of its number
kind_listed : (kind : TokenKind) → kind_at kinds (tag_of the_type kind) ≡ Some kind
unfolding kinds
kind_listed k.Shebang = refl
kind_listed _ = refl

-- the test holds at tokens of these kinds
abbrev holds_at : TokenTest → List TokenKind → Bool
holds_at t [] = true
holds_at t (kind ∷ rest) =
    t (Some (record { kind = kind; line_before = true }))
    && (t (Some (record { kind = kind; line_before = false })) && holds_at t rest)

-- the test holds at the end and at tokens of each kind
unfoldable pub holds_everywhere : TokenTest → Bool
unfolding kinds
holds_everywhere t = t None && holds_at t kinds

holds_listed : (t : TokenTest) (list : List TokenKind) → holds_at t list ≡ true → (n : ℕ) (kind : TokenKind)
    → kind_at list n ≡ Some kind → (line : Bool) → t (Some (record { kind = kind; line_before = line })) ≡ true
holds_listed t [] holds n kind at line = absurd (let bad : ⊥ = cc in bad)
holds_listed t (first ∷ rest) holds zero kind at line =
    let one = both_hold (t (Some (record { kind = first; line_before = true })))
    (t (Some (record { kind = first; line_before = false })) && holds_at t rest) holds in
    let other = both_hold (t (Some (record { kind = first; line_before = false }))) (holds_at t rest) one.1 in
    let same : first ≡ kind = cc in
    rw (← same) (either_line line one.0 other.0)
  where
    either_line : (line : Bool) → t (Some (record { kind = first; line_before = true })) ≡ true
        → t (Some (record { kind = first; line_before = false })) ≡ true
        → t (Some (record { kind = first; line_before = line })) ≡ true
    either_line true a b = a
    either_line false a b = b
holds_listed t (first ∷ rest) holds (suc n) kind at line =
    let one = both_hold (t (Some (record { kind = first; line_before = true })))
    (t (Some (record { kind = first; line_before = false })) && holds_at t rest) holds in
    let other = both_hold (t (Some (record { kind = first; line_before = false }))) (holds_at t rest) one.1 in
    holds_listed t rest other.1 n kind at line

-- what holds everywhere holds of all that can be seen
pub holds_of_each : (t : TokenTest) → holds_everywhere t ≡ true → (x : Option Seen) → t x ≡ true
unfolding holds_everywhere
holds_of_each t holds None = (both_hold (t None) (holds_at t kinds) holds).0
holds_of_each t holds (Some seen) =
    holds_listed t kinds (both_hold (t None) (holds_at t kinds) holds).1 (tag_of the_type seen.kind) seen.kind
    (kind_listed seen.kind) seen.line_before
