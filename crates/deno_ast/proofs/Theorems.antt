-- The laws of parsed sources that other crates name.
use Rattle.std.proofs.Common.{◌≡◌, ◌≢◌, ◌∙◌, refl, sym, ap, subst, ℕ, Bool, true, List, ◌++◌, Some, None}
use Rattle.std.specs.Prelude.{Option}
use Rattle.grammar_theory.specs.declared.error.Mode.{Mode}
use Rattle.es_ast.specs.declared.ast.Program.{Program}
use Rattle.es_program.specs.Owned.{Owned}
use Rattle.es_site.specs.Sites.{sites_of}
use Rattle.parse_diagnostic.specs.Diagnosis.{Diagnosis, told_range}
use Rattle.source_reading.specs.Tree.{modes_of}
use Rattle.source_reading.specs.Read.{IsRead, IsRefused, HasSites, IsFaulty}
use Rattle.deno_ast.specs.declared.syntax.Syntax.{Syntax}
use Rattle.deno_ast.specs.declared.params.ParseParams.{ParseParams}
use Rattle.deno_ast.specs.Parsed.{Parsed, parsed_sites, with_scopes}
use Rattle.es_syntax.specs.Trees.{first_tree, trees}
use Rattle.es_scopes.specs.Numbers.{ids}
use Rattle.es_variables.specs.Numbers.{AreNumbers}
use Rattle.deno_ast.specs.Scopes.{AreIds}
use Rattle.deno_ast.specs.Source.{lang_in, captured, IsParsed, IsParsedWith, IsFault}

-- ---- what is parsed by the syntax of its media type

-- the sites of a source are those of its text
pub source_sites : (params : ParseParams) (text : List ℕ) (p : Parsed) → params.maybe_syntax ≡ None
    → IsParsed (modes_of params.media_type) params text p → HasSites params.media_type text (parsed_sites p)
source_sites params text p plain is = record {
  tree = is.tree.typed;
  references = p.references;
  read = subst (λ (o : Option Syntax). IsRead (lang_in o params.media_type) (modes_of params.media_type)
      params.media_type text is.tree.typed p.references) plain is.read;
  both = ap (λ (t : Owned Program). p.references ++ sites_of t.typed) is.kept;
}

-- and its fault is the text's
pub source_fault : (params : ParseParams) (text : List ℕ) (d : Diagnosis) → params.maybe_syntax ≡ None
    → IsFault (modes_of params.media_type) params text d
    → IsFaulty params.media_type text d.kind (told_range d.kind d.range)
source_fault params text d plain is =
    subst (λ (o : Option Syntax). IsRefused (lang_in o params.media_type) (modes_of params.media_type) text d.kind
    (told_range d.kind d.range)) plain is.1

-- a source that was to keep its tokens has them
pub tokens_kept : (P : Owned Program → Owned Program → Type 0) (modes : List Mode) (params : ParseParams) (text : List ℕ)
    (s : Parsed) → params.capture_tokens ≡ true → IsParsedWith P modes params text s → s.tokens ≢ None
tokens_kept P modes params text s capture is none =
    let kept : s.tokens ≡ Some is.read.tokens =
    is.tokens_are ∙ ap (λ (b : Bool). captured b is.read.tokens) capture in
    let gone : Some is.read.tokens ≡ None = sym kept ∙ none in cc

module _ (modes : List Mode) (params : ParseParams) (text : List ℕ) (s : Parsed) (is : IsParsed modes params text s) where
  -- a source whose tree no closure replaced has the program of its text, over the tokens that read it
  pub own_program : (s.tree.text ≡ text) × (s.tree.tokens ≡ is.read.tokens)
  own_program = (
    ap (λ (t : Owned Program). t.text) is.kept ∙ is.own.text_is,
    ap (λ (t : Owned Program). t.tokens) is.kept ∙ is.own.tokens_are,
  )

  -- so its scope numbers are those of this text and these tokens
  pub own_numbers : (numbers : List ℕ) → AreIds s.tree numbers
      → AreNumbers numbers (ids text is.read.tokens (first_tree (trees s.tree.entries)))
  own_numbers numbers are = rw (own_program.0, own_program.1) at are.are

-- without its scope numbers a source is the old one, whatever numbers it was given
pub scopes_alone : (s : Parsed) (scopes : Option (List ℕ))
    → with_scopes (with_scopes s scopes) None ≡ with_scopes s None
scopes_alone s scopes = refl
