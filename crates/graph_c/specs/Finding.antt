-- What there is to tell of a source: its sites, or its unread calls, or the first step that refuses it.
use Rattle.std.specs.Prelude.{◌≡◌, ℕ, List, ◌++◌, Option, Some, MatchOption}
use Rattle.es_token.specs.declared.token.Token.{Token}
use Rattle.es_token.specs.declared.token.Comment.{Comment}
use Rattle.es_lexer.specs.declared.error.LexicalKind.{LexicalKind}
use Rattle.es_lexer.specs.declared.error.LexError.{LexError}
use Rattle.es_lexer.specs.declared.error.LexError.TheVariants as lex
use Rattle.es_lexer.specs.Reads.{Reads}
use Rattle.es_lexer.specs.Stops.{Stops}
use Rattle.es_ast.specs.declared.ast.Program.{Program}
use Rattle.es_site.specs.Sites.{sites_of}
use Rattle.source_reading.specs.Tree.{IsTree}
use Rattle.source_reading.specs.Read.{references_in}
use Rattle.unread_calls.specs.Unread.{unread_of}
use Rattle.media_type.specs.declared.media_type.MediaType.{MediaType}
use Rattle.media_type.specs.declared.media_type.ModuleKind.{ModuleKind}
use Rattle.media_type.specs.declared.media_type.ModuleKind.TheVariants.{Source}
use Rattle.media_type.specs.MediaType.{kind_of}
use Rattle.graph_c.specs.declared.text.NoText.{NoText}
use Rattle.graph_c.specs.declared.finding.Finding.{Finding}
use Rattle.graph_c.specs.declared.finding.Finding.TheVariants as finding
use Rattle.graph_c.specs.Text.{IsText, IsNoText}
use Rattle.graph_c.specs.MediaTypes.{media_type_at}

-- ---- what the tokens and comments of a text have

-- the sites of its reference comments, where it is a typed one, and those of the tokens' tree
pub data OfTree (media : MediaType) (text : List ℕ) (tokens : List Token) (comments : List Comment)
    (found : Finding) : Type 0 where
  with_tree : (program : Program) → IsTree media text tokens program
      → found ≡ finding.Found (references_in media tokens comments ++ sites_of program)
      → OfTree media text tokens comments found
  -- they have no tree; no place is promised
  no_tree : ((program : Program) → ¬ IsTree media text tokens program) → (place : ℕ) → found ≡ finding.Syntax place
      → OfTree media text tokens comments found

-- the calls among the tokens that no edge stands for
abbrev pub OfCalls : List ℕ → List Token → List Comment → Finding → Type 0
OfCalls text tokens comments found = found ≡ finding.Calls (unread_of tokens)

-- ---- what a text has

pub data OfText (Has : List ℕ → List Token → List Comment → Finding → Type 0) (text : List ℕ) (found : Finding) :
    Type 0 where
  -- what its tokens and comments have
  with_tokens : (tokens : List Token) (comments : List Comment) → Reads text tokens comments
      → Has text tokens comments found → OfText Has text found
  -- no tokens read it: the first fault
  no_tokens : (kind : LexicalKind) (place : ℕ) → Stops text kind place
      → found ≡ finding.Lexical (record { kind = kind; at = place }) → OfText Has text found

-- what bytes have
pub data OfBytes (Has : List ℕ → Finding → Type 0) (bytes : List ℕ) (found : Finding) : Type 0 where
  with_text : (text : List ℕ) → IsText bytes text → Has text found → OfBytes Has bytes found
  no_text : (why : NoText) → IsNoText bytes why → found ≡ finding.NoText why → OfBytes Has bytes found

-- ---- what is asked

-- what bytes of this media type have, by how its modules are read: sites are those of a source
abbrev pub OfKind : Option ModuleKind → MediaType → List ℕ → Finding → Type 0
OfKind (Some Source) media bytes found = OfBytes (OfText (OfTree media)) bytes found
OfKind _ media bytes found = found ≡ finding.NotRead

-- the sites that bytes have whose media type has this number
abbrev pub IsFinding : ℕ → List ℕ → Finding → Type 0
IsFinding number bytes found =
    MatchOption (media_type_at number) (found ≡ finding.NoMediaType) (λ media. OfKind (kind_of media) media bytes found)

-- the unread calls that bytes have
abbrev pub HasUnread : List ℕ → Finding → Type 0
HasUnread bytes found = OfBytes (OfText OfCalls) bytes found

-- ---- what the functions inside the crate promise each other

-- the fault of a text
abbrev pub IsFault : LexError → Finding → Type 0
IsFault (lex.Lexical fault) found = found ≡ finding.Lexical fault
IsFault lex.OutOfMemory found = ⊥
