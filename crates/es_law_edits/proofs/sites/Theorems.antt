-- The sites of the tree of a text with other string literals are those of the old tree, moved.
use Rattle.std.specs.Prelude.{ℕ, List, length}
use Rattle.std.proofs.Common.{◌≡◌, sym, ap, ◌∙◌, subst}
use Rattle.es_token.specs.declared.token.Token.{Token}
use Rattle.es_token.specs.declared.token.Comment.{Comment}
use Rattle.es_lexer.specs.Reads.{Reads}
use Rattle.grammar_theory.specs.declared.error.Lang.{Lang}
use Rattle.grammar_theory.specs.declared.error.Mode.{Mode}
use Rattle.grammar_theory.specs.Key.{Key, keys_of}
use Rattle.grammar_theory.specs.Fits.{free, Shape, most_nodes}
use Rattle.grammar_theory.specs.Plain.{Plain}
use Rattle.es_ast.specs.declared.ast.Program.{Program}
use Rattle.es_grammar.proofs.types_lemmas.OrderLemmas.{row_stands}
use Rattle.es_grammar.specs.declared.rows.NodeKind.{NodeKind}
use Rattle.es_grammar.specs.Table.{rule}
use Rattle.es_grammar.specs.Conditions.{IsProgram, program_row}
use Rattle.es_grammar.specs.cst.Slim.{tree_of}
use Rattle.es_site.specs.declared.site.Site.{Site}
use Rattle.es_site.specs.Sites.{sites_of}
use Rattle.es_lowering.specs.derives.Derives.{Derives}
use Rattle.es_law_programs.proofs.total.Theorems.{derives}
use Rattle.es_law_sites.specs.plain.Own.{plain_sites}
use Rattle.es_law_sites.proofs.plain.Theorems.{derived_sites, program_sites}
use Rattle.source_text.specs.declared.text_changes.change.TextChange.{TextChange}
use Rattle.es_law_edits.specs.tokens.Moved.{Chosen}
use Rattle.es_law_edits.proofs.tokens.Theorems.{literals_move}
use Rattle.es_law_edits.specs.sites.Moved.{SitesMove, AtSites, attributes_of}
use Rattle.es_law_edits.proofs.sites.Parts.{Moves}
use Rattle.es_law_edits.proofs.sites.Texts.{edited, tokens_to, strs_move, texts_stay, tokens_apart, all_safe}
use Rattle.es_law_edits.proofs.sites.Trees.{plain_moves}

-- ---- the tree of the new text
-- it has one, in the same language and mode, and the sites of both are those of one plain tree
pub record StillDerives (l : Lang) (m : Mode) (x : List ℕ) (ts : List Token) (changes : List TextChange)
    (tree : Program)
    : Type 0 where
  pub new : Program
  pub derived : Derives l m (edited x changes) (tokens_to changes ts) new
  pub sites : SitesMove changes (sites_of tree) (sites_of new)
  -- where all changes are of sites, attributes stay
  pub attributes : AtSites (sites_of tree) changes → attributes_of (sites_of new) ≡ attributes_of (sites_of tree)

-- the sites of a plain tree of a program
moves_by : (l : Lang) (m : Mode) (x : List ℕ) (ts : List Token) (cs : List Comment) (changes : List TextChange)
    (plain : Plain NodeKind) → Reads x ts cs → Chosen ts changes → IsProgram l m (keys_of ts) plain
    → Moves changes ts 0 (length (keys_of ts)) (plain_sites x ts (tree_of plain))
    (plain_sites (edited x changes) (tokens_to changes ts) (tree_of plain))
unfolding Shape
moves_by l m x ts cs changes plain r c program =
    plain_moves changes x ts (edited x changes) (tokens_to changes ts) (strs_move x ts cs changes r c)
    (texts_stay x ts cs changes r c) 0 (length (keys_of ts)) plain
    (row_stands free (keys_of ts) (rule l) most_nodes (program_row m) plain 0 (length (keys_of ts)) program.shaped.0)

pub sites_move : (l : Lang) (m : Mode) (x : List ℕ) (ts : List Token) (cs : List Comment) (changes : List TextChange)
    (tree : Program) → Reads x ts cs → Chosen ts changes → Derives l m x ts tree → StillDerives l m x ts changes tree
sites_move l m x ts cs changes tree r c d =
    let keys : keys_of ts ≡ keys_of (tokens_to changes ts) = (literals_move x ts cs changes r c).keys in
    let program : IsProgram l m (keys_of (tokens_to changes ts)) d.plain =
    subst (λ (ks : List Key). IsProgram l m ks d.plain) keys d.program in
    let made = derives l m (edited x changes) (tokens_to changes ts) d.plain program in
    let old : sites_of tree ≡ plain_sites x ts (tree_of d.plain) = derived_sites l m x ts tree d in
    let new : sites_of made.0 ≡ plain_sites (edited x changes) (tokens_to changes ts) (tree_of d.plain) =
    program_sites l m (edited x changes) (tokens_to changes ts) d.plain made.0 program made.1 in
    let move = moves_by l m x ts cs changes d.plain r c d.program in
    record {
      new = made.0;
      derived = made.1;
      sites = subst (λ (ss : List Site). SitesMove changes ss (sites_of made.0)) (sym old)
          (subst (λ (ss : List Site). SitesMove changes (plain_sites x ts (tree_of d.plain)) ss) (sym new) move.move);
      attributes = λ at.
          let safe : AtSites (plain_sites x ts (tree_of d.plain)) changes =
          subst (λ (ss : List Site). AtSites ss changes) old at in
          ap attributes_of new
          ∙ (move.attributes (tokens_apart x ts cs r)
          (all_safe (plain_sites x ts (tree_of d.plain)) changes ts 0 (length (keys_of ts)) safe)
          ∙ ap attributes_of (sym old));
    }

-- where the old text had none, the new one has none
pub none_derives : (l : Lang) (m : Mode) (x : List ℕ) (ts : List Token) (cs : List Comment) (changes : List TextChange)
    (tree : Program) → Reads x ts cs → Chosen ts changes → ((old : Program) → ¬ Derives l m x ts old)
    → Derives l m (edited x changes) (tokens_to changes ts) tree → ⊥
none_derives l m x ts cs changes tree r c none d =
    let keys : keys_of ts ≡ keys_of (tokens_to changes ts) = (literals_move x ts cs changes r c).keys in
    let program : IsProgram l m (keys_of ts) d.plain =
    subst (λ (ks : List Key). IsProgram l m ks d.plain) (sym keys) d.program in
    let made = derives l m x ts d.plain program in none made.0 made.1
