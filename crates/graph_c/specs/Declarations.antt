-- What joravelsu_declarations leaves in the caller's buffers.
use Rattle.std.specs.Prelude.{◌≡◌, ℕ, Bool, ◌&&◌, nat_le, List, [], length, map, Option, Some, MatchOption}
use Rattle.es_token.specs.declared.token.Token.{Token}
use Rattle.es_token.specs.declared.token.Comment.{Comment}
use Rattle.es_ast.specs.declared.ast.Program.{Program}
use Rattle.dts_rules.specs.declared.found.Found.{Found}
use Rattle.dts_rules.specs.declared.found.FoundKind.{FoundKind}
use Rattle.dts_rules.specs.declared.found.FoundKind.TheVariants as kind
use Rattle.source_reading.specs.Tree.{IsTree}
use Rattle.source_declarations.specs.declared.read.SourceDeclarations.{SourceDeclarations}
use Rattle.source_declarations.specs.Answers.{AreDeclarations}
use Rattle.media_type.specs.declared.media_type.MediaType.{MediaType}
use Rattle.media_type.specs.declared.media_type.ModuleKind.{ModuleKind}
use Rattle.media_type.specs.declared.media_type.ModuleKind.TheVariants.{Source}
use Rattle.media_type.specs.MediaType.{kind_of}
use Rattle.graph_c.specs.declared.declarations.SourceDiagnostic.{SourceDiagnostic}
use Rattle.graph_c.specs.declared.declarations.DeclarationsAnswer.{DeclarationsAnswer}
use Rattle.graph_c.specs.declared.finding.Finding.{Finding}
use Rattle.graph_c.specs.declared.finding.Finding.TheVariants as finding
use Rattle.graph_c.specs.Finding.{OfBytes, OfText}
use Rattle.graph_c.specs.MediaTypes.{media_type_at}
use Rattle.graph_c.specs.Told.{fault_of, place_of, status_of, after}

-- ---- what there is to tell

-- the declarations of the tree of tokens
pub data OfDeclarations (with_comments : Bool) (media : MediaType) (text : List ℕ) (tokens : List Token)
    (comments : List Comment) (found : Finding) : Type 0 where
  of_tree : (it : SourceDeclarations) → AreDeclarations media text tokens comments with_comments it
      → found ≡ finding.Declared it → OfDeclarations with_comments media text tokens comments found
  -- they have no tree; no place is promised
  of_none : ((program : Program) → ¬ IsTree media text tokens program) → (place : ℕ) → found ≡ finding.Syntax place
      → OfDeclarations with_comments media text tokens comments found

-- the declarations of bytes of this media type, by how its modules are read
abbrev pub DeclarationsOfKind : Bool → Option ModuleKind → MediaType → List ℕ → Finding → Type 0
DeclarationsOfKind with_comments (Some Source) media bytes found =
    OfBytes (OfText (OfDeclarations with_comments media)) bytes found
DeclarationsOfKind with_comments _ media bytes found = found ≡ finding.NotRead

-- the declarations of bytes whose media type has this number
abbrev pub HasDeclarations : Bool → ℕ → List ℕ → Finding → Type 0
HasDeclarations with_comments number bytes found =
    MatchOption (media_type_at number) (found ≡ finding.NoMediaType)
    (λ media. DeclarationsOfKind with_comments (kind_of media) media bytes found)

-- ---- what is told

-- the number of the header
abbrev pub kind_number : FoundKind → ℕ
kind_number kind.UnableToInferType = 0
kind_number kind.UnableToInferTypeFallbackAny = 1
kind_number kind.UnableToInferTypeFromProp = 2
kind_number kind.UnableToInferTypeFromSpread = 3
kind_number kind.UnsupportedUsing = 4

abbrev pub diagnostic_record : Found → SourceDiagnostic
diagnostic_record f = record { kind = kind_number f.kind; start = f.range.start; end = f.range.end }

-- what couldn't be determined
abbrev pub diagnostics_in : Finding → List Found
diagnostics_in (finding.Declared it) = it.found
diagnostics_in _ = []

-- the printed declarations
abbrev pub declared_text : Finding → List ℕ
declared_text (finding.Declared it) = it.text
declared_text _ = []

-- both buffers are large enough
abbrev pub declarations_fit : Finding → List SourceDiagnostic → List ℕ → Bool
declarations_fit found diagnostics room =
    nat_le (length (diagnostics_in found)) (length diagnostics) && nat_le (length (declared_text found)) (length room)

-- what is told of a finding
pub record TellsDeclarations (found : Finding) (diagnostics new_diagnostics : List SourceDiagnostic) (room new_room : List ℕ)
    (answer : DeclarationsAnswer) (status : ℕ) : Type 0 where
  pub counts : answer ≡ record {
    diagnostics = length (diagnostics_in found);
    text_bytes = length (declared_text found);
    fault = fault_of found;
    place = place_of found;
  }
  pub records : new_diagnostics
      ≡ after (declarations_fit found diagnostics room) (map diagnostic_record (diagnostics_in found)) diagnostics
  pub text : new_room ≡ after (declarations_fit found diagnostics room) (declared_text found) room
  pub ends : status ≡ status_of (declarations_fit found diagnostics room) found

-- what a call answers of a source in these bytes whose media type has this number; with comments where a number other than 0
-- asks for them
pub data AnswersDeclarations (with_comments : Bool) (number : ℕ) (bytes : List ℕ)
    (diagnostics new_diagnostics : List SourceDiagnostic) (room new_room : List ℕ) (answer : DeclarationsAnswer)
    (status : ℕ) : Type 0 where
  told : (found : Finding) → HasDeclarations with_comments number bytes found
      → TellsDeclarations found diagnostics new_diagnostics room new_room answer status
      → AnswersDeclarations with_comments number bytes diagnostics new_diagnostics room new_room answer status
  -- memory ran out
  no_memory : new_diagnostics ≡ diagnostics → new_room ≡ room
      → answer ≡ record { diagnostics = 0; text_bytes = 0; fault = 0; place = 0 } → status ≡ 5
      → AnswersDeclarations with_comments number bytes diagnostics new_diagnostics room new_room answer status
