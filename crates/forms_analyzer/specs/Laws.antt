-- A source is read as one thing at most: a law that analysers owe.
use Rattle.std.specs.Prelude.{Bool, true, false, Option, Ok, Err}
use Rattle.std.proofs.Common.{◌≡◌, sym, ap, subst, ◌∙◌, ℕ, List, [], ◌∷◌, ◌++◌, inl, inr}
use Rattle.base.specs.declared.range.Range.{Range}
use Rattle.es_token.specs.declared.token.Token.{Token}
use Rattle.es_lexer.proofs.Theorems.{one_reading}
use Rattle.grammar_theory.specs.declared.error.Lang.{Lang}
use Rattle.grammar_theory.specs.declared.error.Mode.{Mode}
use Rattle.grammar_theory.specs.Key.{Key, keys_of}
use Rattle.es_grammar.specs.declared.cst.tree.Cst.{Cst}
use Rattle.es_program_reader.proofs.SoundTheorems.{one_kept}
use Rattle.es_site.specs.declared.site.Site.{Site}
use Rattle.es_forms.specs.declared.chosen.Forms.{Forms}
use Rattle.es_forms.specs.Chosen.{is_any}
use Rattle.es_forms.specs.Forms.{forms_in}
use Rattle.media_type.specs.declared.media_type.MediaType.{MediaType}
use Rattle.parse_diagnostic.specs.declared.kind.SyntaxErrorKind.{SyntaxErrorKind}
use Rattle.source_reading.specs.Tree.{language_of, modes_of}
use Rattle.source_reading.specs.Read.{HasSitesIn, IsRefused, IsFaulty}
use Rattle.source_reading.proofs.Theorems.{one_sites_in, sites_or_refusal, one_fault_of}
use Rattle.graph_entry.specs.Reading.{Sites, IsFunction, diagnosis_at}
use Rattle.graph_entry.specs.ReadingLaws.{reads_once}
use Rattle.forms_analyzer.specs.Forms.{full_language, IsFirstKept, HasChosen, HasForms, HasBy, ReadsAs, with_forms, no_program, ReadsElse, in_own, in_full, in_none, ReadsWhere, ReadsBy}

module _ (l : Lang) (K : List Key) where
  first_once : (modes : List Mode) (s t : Cst) → IsFirstKept l K modes s → IsFirstKept l K modes t → s ≡ t
  first_once [] s t is so = absurd is
  first_once (m ∷ modes) s t (inl is) (inl so) = one_kept l m K s t is so
  first_once (m ∷ modes) s t (inl is) (inr so) = absurd (so.0 s is)
  first_once (m ∷ modes) s t (inr is) (inl so) = absurd (is.0 t so)
  first_once (m ∷ modes) s t (inr is) (inr so) = first_once modes s t is.1 so.1

module _ (chosen : Forms) (l : Lang) (media : MediaType) (text : List ℕ) where
  -- the sites of the forms are one list at most
  one_chosen : (found other : List Site) → HasChosen chosen l media text found → HasChosen chosen l media text other
      → found ≡ other
  one_chosen found other one also =
      let same : one.tokens ≡ also.tokens
      = (one_reading text one.tokens also.tokens one.reads.0 also.reads.0 one.reads.1 also.reads.1).0 in
      let first : IsFirstKept l (keys_of one.tokens) (modes_of media) also.tree
      = subst (λ (ts : List Token). IsFirstKept l (keys_of ts) (modes_of media) also.tree) (sym same)
      also.first in
      let tree = first_once l (keys_of one.tokens) (modes_of media) one.tree also.tree one.first first in
      one.forms ∙ ap (λ (ts : List Token). forms_in chosen text ts one.tree) same
      ∙ ap (λ (t : Cst). forms_in chosen text also.tokens t) tree ∙ sym also.forms

  one_forms : (found other : List Site) → HasForms chosen l media text found → HasForms chosen l media text other
      → found ≡ other
  one_forms found other one also =
      one.both ∙ ap (λ (s : List Site). s ++ one.more) (one_sites_in l media text one.sites also.sites one.has also.has)
      ∙ ap (λ (s : List Site). also.sites ++ s) (one_chosen one.more also.more one.has_more also.has_more)
      ∙ sym also.both

  forms_or_refusal : (found : List Site) (kind : SyntaxErrorKind) (range : Option Range)
      → HasForms chosen l media text found → IsRefused l (modes_of media) text kind range → ⊥
  forms_or_refusal found kind range has refused = sites_or_refusal l media text has.sites kind range has.has refused

-- a fault of a source is told one way
faults_once : (s : List ℕ) (media : MediaType) (text : List ℕ) (a b : Sites) (k l : SyntaxErrorKind)
    (r q : Option Range) → IsFaulty media text k r → IsFaulty media text l q → a ≡ Err (diagnosis_at s k r)
    → b ≡ Err (diagnosis_at s l q) → a ≡ b
faults_once s media text a b k l r q refused also is so =
    let same = one_fault_of media text k l r q refused also in
    is ∙ ap (λ (kind : SyntaxErrorKind). Err (diagnosis_at s kind r)) same.0
    ∙ ap (λ (range : Option Range). Err (diagnosis_at s l range)) same.1 ∙ sym so

-- what is told of a source is one list at most, and nothing of what is no program
module _ (Has : Lang → MediaType → List ℕ → List Site → Type 0)
    (one : (l : Lang) (media : MediaType) (text : List ℕ) (found other : List Site) → Has l media text found
    → Has l media text other → found ≡ other)
    (apart : (l : Lang) (media : MediaType) (text : List ℕ) (found : List Site) (kind : SyntaxErrorKind)
    (range : Option Range) → Has l media text found → IsRefused l (modes_of media) text kind range → ⊥) where
  reads_as_once : IsFunction (ReadsAs Has)
  reads_as_once s media text a b (with_forms found has is) (with_forms others also so) =
      is ∙ ap (λ (sites : List Site). Ok sites) (one (language_of media) media text found others has also) ∙ sym so
  reads_as_once s media text a b (with_forms found has is) (no_program kind range refused so) =
      absurd (apart (language_of media) media text found kind range has refused)
  reads_as_once s media text a b (no_program kind range refused is) (with_forms others also so) =
      absurd (apart (language_of media) media text others kind range also refused)
  reads_as_once s media text a b (no_program k r refused is) (no_program l q also so) =
      faults_once s media text a b k l r q refused also is so

  reads_else_once : IsFunction (ReadsElse Has)
  reads_else_once s media text a b (in_own found has is) (in_own others also so) =
      is ∙ ap (λ (sites : List Site). Ok sites) (one (language_of media) media text found others has also) ∙ sym so
  reads_else_once s media text a b (in_own found has is) (in_full kind range refused others also so) =
      absurd (apart (language_of media) media text found kind range has refused)
  reads_else_once s media text a b (in_own found has is) (in_none kind range refused o p none so) =
      absurd (apart (language_of media) media text found kind range has refused)
  reads_else_once s media text a b (in_full kind range refused found has is) (in_own others also so) =
      absurd (apart (language_of media) media text others kind range also refused)
  reads_else_once s media text a b (in_full kind range refused found has is) (in_full k r again others also so) =
      is ∙ ap (λ (sites : List Site). Ok sites) (one (full_language media) media text found others has also) ∙ sym so
  reads_else_once s media text a b (in_full kind range refused found has is) (in_none k r again o p none so) =
      absurd (apart (full_language media) media text found o p has none)
  reads_else_once s media text a b (in_none kind range refused o p none is) (in_own others also so) =
      absurd (apart (language_of media) media text others kind range also refused)
  reads_else_once s media text a b (in_none kind range refused o p none is) (in_full k r again others also so) =
      absurd (apart (full_language media) media text others o p also none)
  reads_else_once s media text a b (in_none k r refused o p none is) (in_none l q also m n nothing so) =
      faults_once s media text a b k l r q refused also is so

has_once : (any : Bool) (chosen : Forms) (l : Lang) (media : MediaType) (text : List ℕ) (found other : List Site)
    → HasBy any chosen l media text found → HasBy any chosen l media text other → found ≡ other
has_once true chosen = one_forms chosen
has_once false chosen = one_sites_in

has_or_refusal : (any : Bool) (chosen : Forms) (l : Lang) (media : MediaType) (text : List ℕ) (found : List Site)
    (kind : SyntaxErrorKind) (range : Option Range) → HasBy any chosen l media text found
    → IsRefused l (modes_of media) text kind range → ⊥
has_or_refusal true chosen = forms_or_refusal chosen
has_or_refusal false chosen = sites_or_refusal

reads_where_once : (any : Bool) (chosen : Forms) (all : Bool) → IsFunction (ReadsWhere any chosen all)
reads_where_once any chosen true = reads_else_once (HasBy any chosen) (has_once any chosen) (has_or_refusal any chosen)
reads_where_once true chosen false = reads_as_once (HasForms chosen) (one_forms chosen) (forms_or_refusal chosen)
reads_where_once false chosen false = reads_once

-- a source is read as one thing at most
pub reads_by_once : (chosen : Forms) (all : Bool) → IsFunction (ReadsBy chosen all)
reads_by_once chosen all = reads_where_once (is_any chosen) chosen all
