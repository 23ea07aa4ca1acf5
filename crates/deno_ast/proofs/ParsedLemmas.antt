-- The source of what was read.
use Rattle.std.proofs.Common.{◌≡◌, refl, sym, ap, subst, ℕ, List}
use Rattle.std.specs.Prelude.{Result, IfOk}
use Rattle.std.proofs.lemmas.Result.{IfOk-weaker}
use Rattle.grammar_theory.specs.declared.error.Mode.{Mode}
use Rattle.es_ast.specs.declared.ast.Program.{Program}
use Rattle.es_program.specs.Owned.{Owned}
use Rattle.deno_ast.specs.declared.params.ParseParams.{ParseParams}
use Rattle.deno_ast.specs.declared.reading.Reading.{Reading}
use Rattle.deno_ast.specs.Parsed.{Parsed}
use Rattle.es_comments.specs.Standing.{ArePlaced}
use Rattle.deno_ast.specs.Source.{IsParsed, IsParsedWith}
use Rattle.deno_ast.specs.Scopes.{AreScoped}
use Rattle.deno_ast.specs.Steps.{with_text, parsed_of, IsReading}

module _ (P : Owned Program → Owned Program → Type 0) (modes : List Mode) (params : ParseParams) (text : List ℕ)
    (r : Reading) (kept : Owned Program) where
  -- a text in the place of the parameters' own
  parsed_of_text : (s : Parsed) → IsReading modes (with_text params text) r → P r.program kept
      → s ≡ parsed_of (with_text params text) (record r { program = kept }) s.comments s.scopes
      → ArePlaced text r.tokens r.comments s.comments → AreScoped params.scope_analysis kept s.scopes
      → IsParsedWith P modes params text s
  parsed_of_text s read of same placed scoped = record {
    specifier = ap (λ (x : Parsed). x.specifier) same;
    media_type = ap (λ (x : Parsed). x.media_type) same;
    text_is = ap (λ (x : Parsed). x.text) same;
    tree = r.program;
    read = record {
      tokens = r.tokens;
      comments = r.comments;
      reads = read.reads;
      is_tree = read.is_tree;
      refers = ap (λ (x : Parsed). x.references) same;
    };
    own = read.own;
    kept = subst (P r.program) (sym (ap (λ (x : Parsed). x.tree) same)) of;
    comments_are = placed;
    tokens_are = ap (λ (x : Parsed). x.tokens) same;
    scopes_are = subst (λ (p : Owned Program). AreScoped params.scope_analysis p s.scopes)
        (sym (ap (λ (x : Parsed). x.tree) same)) scoped;
  }

  -- another tree is kept than was read
  pub parsed_with : (p : ParseParams) (s : Parsed) → p ≡ with_text params text → IsReading modes p r
      → P r.program kept → s ≡ parsed_of p (record r { program = kept }) s.comments s.scopes
      → ArePlaced p.text r.tokens r.comments s.comments → AreScoped p.scope_analysis kept s.scopes
      → IsParsedWith P modes params text s
  parsed_with p s is =
      subst
      (λ (q : ParseParams). IsReading modes q r → P r.program kept
      → s ≡ parsed_of q (record r { program = kept }) s.comments s.scopes
      → ArePlaced q.text r.tokens r.comments s.comments → AreScoped q.scope_analysis kept s.scopes
      → IsParsedWith P modes params text s)
      (sym is) (parsed_of_text s)

-- the tree that was read is kept
pub parsed_here : (modes : List Mode) (p : ParseParams) (r : Reading) (s : Parsed) → IsReading modes p r
    → s ≡ parsed_of p r s.comments s.scopes → ArePlaced p.text r.tokens r.comments s.comments
    → AreScoped p.scope_analysis r.program s.scopes → IsParsed modes p p.text s
parsed_here modes p r s read same placed scoped =
    parsed_with (λ tree kept. kept ≡ tree) modes p p.text r r.program p s refl read refl same placed scoped

-- the same in modes that are those given
pub parsed_in : (P : Owned Program → Owned Program → Type 0) (given modes : List Mode) (params p : ParseParams) (text : List ℕ)
    (r : Reading) (made : Owned Program) (s : Parsed) → modes ≡ given → p ≡ with_text params text → IsReading modes p r
    → P r.program made → s ≡ parsed_of p (record r { program = made }) s.comments s.scopes
    → ArePlaced p.text r.tokens r.comments s.comments → AreScoped p.scope_analysis made s.scopes
    → IsParsedWith P given params text s
parsed_in P given modes params p text r made s allowed is read of same placed scoped =
    subst (λ (ms : List Mode). IsParsedWith P ms params text s) allowed
    (parsed_with P modes params text r made p s is read of same placed scoped)

module _ (modes : List Mode) (params : ParseParams) (text : List ℕ) where
  -- a source of the changed parameters is one of those that were given, with this text
  with_other_text : (s : Parsed) → IsParsed modes (with_text params text) text s → IsParsed modes params text s
  with_other_text s is = record {
    specifier = is.specifier;
    media_type = is.media_type;
    text_is = is.text_is;
    tree = is.tree;
    read = is.read;
    own = is.own;
    kept = is.kept;
    comments_are = is.comments_are;
    tokens_are = is.tokens_are;
    scopes_are = is.scopes_are;
  }

  pub other_source_if : {E : Type 0} (p : ParseParams) (r : Result Parsed E) → p ≡ with_text params text
      → IfOk r (IsParsed modes p p.text) → IfOk r (IsParsed modes params text)
  other_source_if p r is told =
      IfOk-weaker r _ _ with_other_text (subst (λ (q : ParseParams). IfOk r (IsParsed modes q q.text)) is told)
