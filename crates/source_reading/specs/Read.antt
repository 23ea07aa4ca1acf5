-- What a text is read as: the tree that is derived from its tokens in the first allowed mode, and what it refers to in
-- comments; or why it isn't read.
use Rattle.std.specs.Prelude.{◌≡◌, ℕ, List, [], ◌++◌, Option, Some, None, if◌then◌else◌}
use Rattle.base.specs.declared.range.Range.{Range}
use Rattle.es_token.specs.declared.token.Token.{Token}
use Rattle.es_token.specs.declared.token.Comment.{Comment}
use Rattle.es_lexer.specs.declared.error.LexicalKind.{LexicalKind}
use Rattle.es_lexer.specs.Reads.{Reads, ReadsTokens}
use Rattle.es_lexer.specs.Stops.{Stops}
use Rattle.grammar_theory.specs.declared.error.Lang.{Lang}
use Rattle.grammar_theory.specs.declared.error.Mode.{Mode}
use Rattle.es_ast.specs.declared.ast.Program.{Program}
use Rattle.es_site.specs.declared.site.Site.{Site}
use Rattle.es_site.specs.Sites.{sites_of}
use Rattle.es_references.specs.References.{references_of}
use Rattle.media_type.specs.declared.media_type.MediaType.{MediaType}
use Rattle.media_type.specs.MediaType.{is_typed}
use Rattle.parse_diagnostic.specs.declared.kind.SyntaxErrorKind.{SyntaxErrorKind}
use Rattle.parse_diagnostic.specs.declared.kind.SyntaxErrorKind.TheVariants.{Lexical, Syntax}
use Rattle.source_reading.specs.Tree.{language_of, modes_of, IsFirstTree}

-- comments of typed sources alone refer
abbrev pub references_in : MediaType → List Token → List Comment → List Site
references_in media tokens comments = if is_typed media then references_of tokens comments else []

-- the text is read as this tree, in the first of these modes that derives one, and its comments refer so
pub record IsRead (lang : Lang) (modes : List Mode) (media : MediaType) (text : List ℕ) (tree : Program)
    (references : List Site) : Type 0 where
  pub tokens : List Token
  pub comments : List Comment
  pub reads : Reads text tokens comments
  pub is_tree : IsFirstTree lang text tokens modes tree
  pub refers : references ≡ references_in media tokens comments

-- the empty range at a place
abbrev pub at_place : ℕ → Range
at_place place = record { start = place; end = place }

-- the text isn't read in any of these modes: the fault, and its range if that is part of the meaning
pub data IsRefused (lang : Lang) (modes : List Mode) (text : List ℕ) (kind : SyntaxErrorKind)
    (range : Option Range) : Type 0 where
  -- no tokens read it: the first fault
  no_tokens : (fault : LexicalKind) (place : ℕ) → Stops text fault place → kind ≡ Lexical fault
      → range ≡ Some (at_place place) → IsRefused lang modes text kind range
  -- its tokens have no tree
  no_tree : (tokens : List Token) → ReadsTokens text tokens
      → ((tree : Program) → ¬ IsFirstTree lang text tokens modes tree) → kind ≡ Syntax → range ≡ None
      → IsRefused lang modes text kind range

-- ---- a source of a media type

-- its sites in this language: reference comments come first, then those of its tree
pub record HasSitesIn (lang : Lang) (media : MediaType) (text : List ℕ) (found : List Site) : Type 0 where
  pub tree : Program
  pub references : List Site
  pub read : IsRead lang (modes_of media) media text tree references
  pub both : found ≡ references ++ sites_of tree

-- its sites in the language of the media type
abbrev pub HasSites : MediaType → List ℕ → List Site → Type 0
HasSites media text found = HasSitesIn (language_of media) media text found

-- it is no program
abbrev pub IsFaulty : MediaType → List ℕ → SyntaxErrorKind → Option Range → Type 0
IsFaulty media text kind range = IsRefused (language_of media) (modes_of media) text kind range
