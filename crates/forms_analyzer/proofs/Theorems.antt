-- The laws of sources that other crates name.
use Rattle.std.specs.Prelude.{Bool, true, false, All, Option, Ok, Err}
use Rattle.std.proofs.Common.{◌≡◌, sym, subst, ℕ, List, inl}
use Rattle.std.proofs.lemmas.List.Elements.{All-append, All-weaker}
use Rattle.base.specs.declared.range.Range.{Range}
use Rattle.es_site.specs.declared.site.Site.{Site}
use Rattle.es_site.specs.Sites.{CutsLiteral}
use Rattle.es_forms.specs.declared.chosen.Forms.{Forms}
use Rattle.es_forms.specs.Chosen.{is_any}
use Rattle.es_forms.proofs.Theorems.{forms_cut as chosen_cut}
use Rattle.grammar_theory.specs.declared.error.Lang.{Lang}
use Rattle.media_type.specs.declared.media_type.MediaType.{MediaType}
use Rattle.parse_diagnostic.specs.declared.kind.SyntaxErrorKind.{SyntaxErrorKind}
use Rattle.source_reading.specs.Tree.{language_of}
use Rattle.source_reading.specs.Cuts.{Cuts}
use Rattle.source_reading.specs.Read.{HasSitesIn}
use Rattle.source_reading.proofs.Theorems.{sites_cut, sites_in_cut}
use Rattle.graph_entry.specs.Reading.{Sites, CutsSites, ReadsSource, diagnosis_at, with_sites, no_program as no_source}
use Rattle.forms_analyzer.specs.Forms.{full_language, HasForms, HasBy, ReadsAs, with_forms, no_program, ReadsElse, in_own, in_full, in_none, ReadsWhere, ReadsBy}

module _ (chosen : Forms) (l : Lang) (media : MediaType) (text : List ℕ) where
  -- each site cuts its literal
  pub forms_cut : (found : List Site) → HasForms chosen l media text found
      → All (λ site. Cuts text site.range site.value) found
  forms_cut found has =
      let P : Site → Type 0 = λ site. Cuts text site.range site.value in
      let more = has.has_more in
      subst (All P) (sym has.both)
      (All-append P has.sites has.more (sites_in_cut l media text has.sites has.has)
      (All-weaker (λ site. CutsLiteral text site.range site.value) P (λ site cut. inl cut) has.more
      (subst (All (λ (site : Site). CutsLiteral text site.range site.value)) (sym more.forms)
      (chosen_cut text more.tokens more.reads chosen more.tree))))

ok_sites : (a b : List Site) → (let one : Sites = Ok a in one) ≡ Ok b → a ≡ b
ok_sites a b e = cc

ok_err : (a : List Site) (s : List ℕ) (kind : SyntaxErrorKind) (range : Option Range)
    → (let one : Sites = Ok a in one) ≡ Err (diagnosis_at s kind range) → ⊥
ok_err a s kind range e = cc

source_cuts : CutsSites ReadsSource
source_cuts s media text sites (with_sites found has is) =
    subst (All (λ (site : Site). Cuts text site.range site.value)) (sym (ok_sites sites found is))
    (sites_cut media text found has)
source_cuts s media text sites (no_source kind range faulty is) = absurd (ok_err sites s kind range is)

-- where all that is told of a source does
module _ (Has : Lang → MediaType → List ℕ → List Site → Type 0)
    (cut : (l : Lang) (media : MediaType) (text : List ℕ) (found : List Site) → Has l media text found
    → All (λ site. Cuts text site.range site.value) found) where
  reads_as_cuts : CutsSites (ReadsAs Has)
  reads_as_cuts s media text sites (with_forms found has is) =
      subst (All (λ (site : Site). Cuts text site.range site.value)) (sym (ok_sites sites found is))
      (cut (language_of media) media text found has)
  reads_as_cuts s media text sites (no_program kind range refused is) = absurd (ok_err sites s kind range is)

  reads_else_cuts : CutsSites (ReadsElse Has)
  reads_else_cuts s media text sites (in_own found has is) =
      subst (All (λ (site : Site). Cuts text site.range site.value)) (sym (ok_sites sites found is))
      (cut (language_of media) media text found has)
  reads_else_cuts s media text sites (in_full kind range refused found has is) =
      subst (All (λ (site : Site). Cuts text site.range site.value)) (sym (ok_sites sites found is))
      (cut (full_language media) media text found has)
  reads_else_cuts s media text sites (in_none kind range refused o p none is) = absurd (ok_err sites s kind range is)

has_cut : (any : Bool) (chosen : Forms) (l : Lang) (media : MediaType) (text : List ℕ) (found : List Site)
    → HasBy any chosen l media text found → All (λ site. Cuts text site.range site.value) found
has_cut true chosen = forms_cut chosen
has_cut false chosen = sites_in_cut

where_cuts : (any : Bool) (chosen : Forms) (all : Bool) → CutsSites (ReadsWhere any chosen all)
where_cuts any chosen true = reads_else_cuts (HasBy any chosen) (has_cut any chosen)
where_cuts true chosen false = reads_as_cuts (HasForms chosen) (forms_cut chosen)
where_cuts false chosen false = source_cuts

-- and each site cuts its literal
pub reads_by_cuts : (chosen : Forms) (all : Bool) → CutsSites (ReadsBy chosen all)
reads_by_cuts chosen all = where_cuts (is_any chosen) chosen all
