-- Parsed sources.
use Rattle.std.specs.Prelude.{◌≡◌, ℕ, Bool, List, Option, Some, None, if◌then◌else◌}
use Rattle.url.specs.Parts.{serialize}
use Rattle.es_token.specs.declared.token.Token.{Token}
use Rattle.es_comments.specs.Standing.{ArePlaced}
use Rattle.grammar_theory.specs.declared.error.Lang.{Lang}
use Rattle.grammar_theory.specs.declared.error.Lang.TheVariants as lang
use Rattle.grammar_theory.specs.declared.error.Mode.{Mode}
use Rattle.es_ast.specs.declared.ast.Program.{Program}
use Rattle.es_ast.specs.declared.ast.Program.TheVariants as program
use Rattle.es_ast.specs.declared.ast.Module.{Module}
use Rattle.es_ast.specs.declared.ast.Script.{Script}
use Rattle.es_program.specs.Owned.{Owned, as_typed, of_module, of_script}
use Rattle.es_parser.specs.Answers.{IsOwn}
use Rattle.media_type.specs.declared.media_type.MediaType.{MediaType}
use Rattle.parse_diagnostic.specs.Diagnosis.{Diagnosis}
use Rattle.deno_ast.specs.declared.syntax.Syntax.{Syntax}
use Rattle.deno_ast.specs.declared.syntax.Syntax.TheVariants.{Es, Typescript, Jsx, Tsx, Wide}
use Rattle.deno_ast.specs.declared.params.ParseParams.{ParseParams}
use Rattle.source_reading.specs.Tree.{language_of}
use Rattle.source_reading.specs.Read.{IsRead}
use Rattle.source_reading.specs.Fault.{IsFaultIn}
use Rattle.deno_ast.specs.Parsed.{Parsed}
use Rattle.deno_ast.specs.Scopes.{AreScoped}

-- the syntax that a language has
abbrev pub lang_of : Syntax → Lang
lang_of Es = lang.Es
lang_of Typescript = lang.Typescript
lang_of Jsx = lang.Jsx
lang_of Tsx = lang.Tsx
lang_of Wide = lang.Wide

-- the language that was asked for, else that of the media type
abbrev pub lang_in : Option Syntax → MediaType → Lang
lang_in (Some syntax) media = lang_of syntax
lang_in None media = language_of media

abbrev pub lang_for : ParseParams → Lang
lang_for params = lang_in params.maybe_syntax params.media_type

-- the tokens that are kept
abbrev pub captured : Bool → List Token → Option (List Token)
captured capture tokens = if capture then Some tokens else None

-- a source of this text, read in one of these modes: the tree that was read is that of its text and its tokens; P tells of
-- this tree and the one that is kept; the comments stand at their places, and the tokens are kept where that was asked
-- for, and so are the scope numbers of the kept tree
pub record IsParsedWith (P : Owned Program → Owned Program → Type 0) (modes : List Mode) (params : ParseParams) (text : List ℕ)
    (s : Parsed) : Type 0 where
  pub specifier : s.specifier ≡ params.specifier
  pub media_type : s.media_type ≡ params.media_type
  pub text_is : s.text ≡ text
  pub tree : Owned Program
  pub read : IsRead (lang_for params) modes params.media_type text tree.typed s.references
  pub own : IsOwn (lang_for params) text read.tokens tree
  pub kept : P tree s.tree
  pub comments_are : ArePlaced text read.tokens read.comments s.comments
  pub tokens_are : s.tokens ≡ captured params.capture_tokens read.tokens
  pub scopes_are : AreScoped params.scope_analysis s.tree s.scopes

-- the tree that was read is kept
abbrev pub IsParsed : List Mode → ParseParams → List ℕ → Parsed → Type 0
IsParsed modes params text s = IsParsedWith (λ tree kept. kept ≡ tree) modes params text s

-- what is kept of a module is what P tells
abbrev pub of_module_by : (Owned Module → Owned Module → Type 0) → Owned Program → Owned Program → Program → Type 0
of_module_by P read kept (program.Module m) = (other : Owned Module) × (kept ≡ of_module other) × P (as_typed read m) other
of_module_by P read kept (program.Script s) = kept ≡ read

abbrev pub OfModule : (Owned Module → Owned Module → Type 0) → Owned Program → Owned Program → Type 0
OfModule P read kept = of_module_by P read kept read.typed

-- what is kept of a script is what P tells
abbrev pub of_script_by : (Owned Script → Owned Script → Type 0) → Owned Program → Owned Program → Program → Type 0
of_script_by P read kept (program.Script s) = (other : Owned Script) × (kept ≡ of_script other) × P (as_typed read s) other
of_script_by P read kept (program.Module m) = kept ≡ read

abbrev pub OfScript : (Owned Script → Owned Script → Type 0) → Owned Program → Owned Program → Type 0
OfScript P read kept = of_script_by P read kept read.typed

-- why a source of this text isn't read in any of these modes
abbrev pub IsFault : List Mode → ParseParams → List ℕ → Diagnosis → Type 0
IsFault modes params text d = IsFaultIn (serialize params.specifier) (lang_for params) modes text d
