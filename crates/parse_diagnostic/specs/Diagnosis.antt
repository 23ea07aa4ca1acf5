-- What a diagnostic of a text means.
use Rattle.std.specs.Prelude.{◌≡◌, ℕ, Bool, ◌&&◌, List, [], ◌∷◌, bytes_eq, codes, Option, Some, None}
use Rattle.std.specs.Str.{IsCharBoundary}
use Rattle.base.specs.declared.range.Range.{Range}
use Rattle.es_lexer.specs.declared.error.LexicalKind.TheVariants.{UnterminatedString, UnterminatedComment, UnterminatedTemplate, UnterminatedRegExp, InvalidEscape, InvalidChar, Unbalanced}
use Rattle.source_text.specs.declared.display.LineAndColumnDisplay.{LineAndColumnDisplay}
use Rattle.source_text.specs.Lines.{IsDisplay}
use Rattle.parse_diagnostic.specs.declared.kind.SyntaxErrorKind.{SyntaxErrorKind}
use Rattle.parse_diagnostic.specs.declared.kind.SyntaxErrorKind.TheVariants.{Lexical, Syntax}

-- the text of the specifier, the fault, its range, and the line and the column of the range's start
pub record Diagnosis : Type 0 where
  pub specifier : List ℕ
  pub kind : SyntaxErrorKind
  pub range : Range
  pub position : LineAndColumnDisplay

-- the line and the column are those of the range's start in the text, where that stands between characters
abbrev pub IsShown : List ℕ → Diagnosis → Type 0
IsShown text d = IsCharBoundary text d.range.start → IsDisplay text d.range.start d.position

-- a diagnosis of a text, of this fault at this range
pub record IsDiagnosis (text at : List ℕ) (fault : SyntaxErrorKind) (place : Range) (d : Diagnosis) : Type 0 where
  pub specifier : d.specifier ≡ at
  pub kind : d.kind ≡ fault
  pub range : d.range ≡ place
  pub shown : IsShown text d

-- ---- what is told of a fault where the range of a fault among the tokens is left free

-- the text of the specifier, the fault, and the range of a lexical fault
pub record Told : Type 0 where
  pub specifier : List ℕ
  pub kind : SyntaxErrorKind
  pub range : Option Range

-- the range of a fault among the tokens is left free
abbrev pub told_range : SyntaxErrorKind → Range → Option Range
told_range (Lexical kind) range = Some range
told_range Syntax range = None

abbrev pub told : Diagnosis → Told
told d = record { specifier = d.specifier; kind = d.kind; range = told_range d.kind d.range }

-- the name of a fault, as reports write it
abbrev pub name_of_kind : SyntaxErrorKind → List ℕ
name_of_kind (Lexical UnterminatedString) = codes "UnterminatedString"
name_of_kind (Lexical UnterminatedComment) = codes "UnterminatedComment"
name_of_kind (Lexical UnterminatedTemplate) = codes "UnterminatedTemplate"
name_of_kind (Lexical UnterminatedRegExp) = codes "UnterminatedRegExp"
name_of_kind (Lexical InvalidEscape) = codes "InvalidEscape"
name_of_kind (Lexical InvalidChar) = codes "InvalidChar"
name_of_kind (Lexical Unbalanced) = codes "Unbalanced"
name_of_kind Syntax = codes "Syntax"

-- ---- two diagnoses are the same: by their specifiers, their kinds, and their ranges

abbrev pub ends_of : Range → List ℕ
ends_of range = range.start ∷ range.end ∷ []

abbrev pub same : Diagnosis → Diagnosis → Bool
same a b =
    bytes_eq a.specifier b.specifier
    && (bytes_eq (name_of_kind a.kind) (name_of_kind b.kind) && bytes_eq (ends_of a.range) (ends_of b.range))
