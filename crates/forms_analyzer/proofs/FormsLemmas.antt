-- The sites of the tree of a row, and those of the forms.
use Rattle.std.specs.Prelude.{Err}
use Rattle.std.specs.List.{flat_map}
use Rattle.std.proofs.Common.{◌≡◌, sym, ap, ◌∙◌, ℕ, List, ◌++◌}
use Rattle.std.proofs.lemmas.List.{append-nil}
use Rattle.es_token.specs.declared.token.Token.{Token}
use Rattle.es_token.specs.declared.token.Comment.{Comment}
use Rattle.es_lexer.specs.Reads.{Reads}
use Rattle.grammar_theory.specs.declared.error.Lang.{Lang}
use Rattle.grammar_theory.specs.declared.error.SyntaxError.{SyntaxError}
use Rattle.grammar_theory.specs.Key.{keys_of}
use Rattle.es_ast.specs.declared.ast.Program.{Program}
use Rattle.es_grammar.specs.declared.cst.tree.Cst.{Cst}
use Rattle.es_site.specs.declared.site.Site.{Site}
use Rattle.es_syntax.specs.declared.entry.Entry.{Entry}
use Rattle.es_syntax.specs.Trees.{trees, first_tree}
use Rattle.es_law_sites.specs.plain.Own.{plain_sites}
use Rattle.es_program_reader.specs.Derived.{GivesTree}
use Rattle.es_forms.specs.declared.chosen.Forms.{Forms}
use Rattle.es_forms.specs.Forms.{forms_in}
use Rattle.media_type.specs.declared.media_type.MediaType.{MediaType}
use Rattle.source_reading.specs.Tree.{modes_of, IsFirstTree}
use Rattle.source_reading.specs.Read.{references_in, HasSitesIn}
use Rattle.source_sites.proofs.SitesLemmas.{has_sites}
use Rattle.forms_analyzer.specs.Forms.{IsFirstKept, HoldsFirst, HasChosen, HasForms}
use Rattle.forms_analyzer.proofs.TreeLemmas.{first_typed, first_plain}

module _ (l : Lang) (media : MediaType) (x : List ℕ) (ts : List Token) (cs : List Comment) (reads : Reads x ts cs)
    (es : List Entry) (holds : HoldsFirst l (keys_of ts) (modes_of media) es) where
  row_sites : (found : List Site) → found ≡ flat_map (plain_sites x ts) (trees es)
      → found ≡ plain_sites x ts holds.tree
  row_sites found same =
      same ∙ ap (λ (us : List Cst). flat_map (plain_sites x ts) us) holds.row
      ∙ append-nil (plain_sites x ts holds.tree)

  pub row_has_sites : (references found all : List Site) → references ≡ references_in media ts cs
      → found ≡ flat_map (plain_sites x ts) (trees es) → all ≡ references ++ found → HasSitesIn l media x all
  row_has_sites references found all refers same both =
      let typed = first_typed l x ts (modes_of media) holds.tree holds.first in
      has_sites l media x ts cs found all reads
      (record { tree = typed.0; is = typed.1; sites = row_sites found same ∙ sym typed.2 })
      (both ∙ ap (λ (r : List Site). r ++ found) refers)

  row_has_chosen : (chosen : Forms) (more : List Site) → more ≡ forms_in chosen x ts (first_tree (trees es))
      → HasChosen chosen l media x more
  row_has_chosen chosen more is = record {
    tokens = ts;
    reads = (cs, reads);
    tree = holds.tree;
    first = holds.first;
    forms = is ∙ ap (λ (us : List Cst). forms_in chosen x ts (first_tree us)) holds.row;
  }

  pub row_has_forms : (chosen : Forms) (sites more all : List Site) → HasSitesIn l media x sites
      → more ≡ forms_in chosen x ts (first_tree (trees es)) → all ≡ sites ++ more → HasForms chosen l media x all
  row_has_forms chosen sites more all has is both =
      record { sites = sites; has = has; more = more; has_more = row_has_chosen chosen more is; both = both }

-- where no plain tree is given, there is no typed one
pub no_typed : (l : Lang) (media : MediaType) (x : List ℕ) (ts : List Token) (token : ℕ)
    → ((tree : Cst) → IsFirstKept l (keys_of ts) (modes_of media) tree
    → GivesTree (Err (SyntaxError.Syntax token)) tree)
    → (p : Program) → ¬ IsFirstTree l x ts (modes_of media) p
no_typed l media x ts token none p is =
    let plain = first_plain l x ts (modes_of media) p is in
    none plain.0 plain.1
