-- The laws of sources that other crates name.
use Rattle.std.proofs.Common.{◌≡◌, ◌∙◌, sym, ap, subst, ℕ, List, ◌++◌, Some, None, inl}
use Rattle.std.specs.Prelude.{All, Option}
use Rattle.std.proofs.lemmas.List.Elements.{All-append, All-weaker}
use Rattle.base.specs.declared.range.Range.{Range}
use Rattle.es_token.specs.declared.token.Token.{Token}
use Rattle.es_lexer.specs.declared.error.LexicalKind.{LexicalKind}
use Rattle.es_lexer.proofs.Theorems.{one_reading, one_fault, no_reading_stops}
use Rattle.grammar_theory.specs.declared.error.Lang.{Lang}
use Rattle.grammar_theory.specs.declared.error.Mode.{Mode}
use Rattle.es_ast.specs.declared.ast.Program.{Program}
use Rattle.es_site.specs.declared.site.Site.{Site}
use Rattle.es_site.specs.Sites.{sites_of, CutsLiteral}
use Rattle.media_type.specs.declared.media_type.MediaType.{MediaType}
use Rattle.parse_diagnostic.specs.declared.kind.SyntaxErrorKind.{SyntaxErrorKind}
use Rattle.parse_diagnostic.specs.declared.kind.SyntaxErrorKind.TheVariants.{Lexical}
use Rattle.source_reading.specs.Tree.{language_of, modes_of, IsFirstTree}
use Rattle.source_reading.specs.Read.{references_in, IsRead, IsRefused, no_tokens, no_tree, at_place, HasSitesIn, HasSites, IsFaulty}
use Rattle.source_reading.specs.Cuts.{Cuts}
use Rattle.source_reading.proofs.TreeLemmas.{first_once, tree_cuts}
use Rattle.source_reading.proofs.ReferenceLemmas.{references_cut}

module _ (lang : Lang) (modes : List Mode) (text : List ℕ) where
  -- a text is read as one tree at most, and refers so in its comments
  pub one_read : (media : MediaType) (t u : Program) (r q : List Site) → IsRead lang modes media text t r
      → IsRead lang modes media text u q → (t ≡ u) × (r ≡ q)
  one_read media t u r q one other =
      let same = one_reading text one.tokens other.tokens one.comments other.comments one.reads other.reads in
      let tree : IsFirstTree lang text one.tokens modes u
      = subst (λ (ts : List Token). IsFirstTree lang text ts modes u) (sym same.0) other.is_tree in (
        first_once lang text one.tokens modes t u one.is_tree tree,
        one.refers ∙ ap (λ (ts : List Token). references_in media ts one.comments) same.0
            ∙ ap (references_in media other.tokens) same.1 ∙ sym other.refers,
      )

  -- or it isn't read
  pub not_both : (media : MediaType) (t : Program) (r : List Site) (kind : SyntaxErrorKind) (range : Option Range)
      → IsRead lang modes media text t r → IsRefused lang modes text kind range → ⊥
  not_both media t r kind range read (no_tokens fault place stops k a) =
      no_reading_stops text read.tokens read.comments fault place read.reads stops
  not_both media t r kind range read (no_tree tokens reads none k a) =
      let same = one_reading text read.tokens tokens read.comments reads.0 read.reads reads.1 in
      none t (subst (λ (ts : List Token). IsFirstTree lang text ts modes t) same.0 read.is_tree)

  -- for one fault, whose range is one where it is part of the meaning
  pub one_refusal : (k l : SyntaxErrorKind) (r q : Option Range) → IsRefused lang modes text k r
      → IsRefused lang modes text l q → (k ≡ l) × (r ≡ q)
  one_refusal k l r q (no_tokens fault place stops is at) (no_tokens other by also so to) =
      let same = one_fault text fault other place by stops also in (
        is ∙ ap (λ (x : LexicalKind). Lexical x) same.0 ∙ sym so,
        at ∙ ap (λ (p : ℕ). Some (at_place p)) same.1 ∙ sym to,
      )
  one_refusal k l r q (no_tokens fault place stops is at) (no_tree tokens reads none so to) =
      absurd (no_reading_stops text tokens reads.0 fault place reads.1 stops)
  one_refusal k l r q (no_tree tokens reads none is at) (no_tokens fault place stops so to) =
      absurd (no_reading_stops text tokens reads.0 fault place reads.1 stops)
  one_refusal k l r q (no_tree tokens reads none is at) (no_tree others also nothing so to) =
      (is ∙ sym so, at ∙ sym to)

-- ---- a source of a media type, in a language

module _ (lang : Lang) (media : MediaType) (text : List ℕ) where
  -- its sites are one list at most
  pub one_sites_in : (found other : List Site) → HasSitesIn lang media text found → HasSitesIn lang media text other
      → found ≡ other
  one_sites_in found other one also =
      let same = one_read lang (modes_of media) text media one.tree also.tree one.references
      also.references one.read also.read in
      one.both ∙ ap (λ (r : List Site). r ++ sites_of one.tree) same.1
      ∙ ap (λ (t : Program). also.references ++ sites_of t) same.0 ∙ sym also.both

  pub sites_or_refusal : (found : List Site) (kind : SyntaxErrorKind) (range : Option Range)
      → HasSitesIn lang media text found → IsRefused lang (modes_of media) text kind range → ⊥
  sites_or_refusal found kind range has refused =
      not_both lang (modes_of media) text media has.tree has.references kind range has.read refused

  -- and each cuts its value
  pub sites_in_cut : (found : List Site) → HasSitesIn lang media text found
      → All (λ site. Cuts text site.range site.value) found
  sites_in_cut found has =
      let P : Site → Type 0 = λ site. Cuts text site.range site.value in
      subst (All P) (sym has.both)
      (All-append P has.references (sites_of has.tree)
      (references_cut media text has.read.tokens has.read.comments has.references has.read.reads has.read.refers)
      (All-weaker (λ site. CutsLiteral text site.range site.value) P (λ site cut. inl cut) (sites_of has.tree)
      (tree_cuts lang (modes_of media) text has.read.tokens has.tree
      (has.read.comments, has.read.reads) has.read.is_tree)))

-- ---- in that of its media type

module _ (media : MediaType) (text : List ℕ) where
  pub one_sites : (found other : List Site) → HasSites media text found → HasSites media text other → found ≡ other
  one_sites = one_sites_in (language_of media) media text

  pub sites_or_fault : (found : List Site) (kind : SyntaxErrorKind) (range : Option Range) → HasSites media text found
      → IsFaulty media text kind range → ⊥
  sites_or_fault = sites_or_refusal (language_of media) media text

  pub one_fault_of : (k l : SyntaxErrorKind) (r q : Option Range) → IsFaulty media text k r → IsFaulty media text l q
      → (k ≡ l) × (r ≡ q)
  one_fault_of = one_refusal (language_of media) (modes_of media) text

  pub sites_cut : (found : List Site) → HasSites media text found
      → All (λ site. Cuts text site.range site.value) found
  sites_cut = sites_in_cut (language_of media) media text
