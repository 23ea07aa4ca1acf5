-- The laws of the order of the sites of derived trees.
use Rattle.std.specs.Prelude.{List}
use Rattle.std.proofs.Common.{ℕ, length, sym, subst}
use Rattle.es_token.specs.declared.token.Token.{Token}
use Rattle.es_lexer.specs.Reads.{ReadsTokens}
use Rattle.grammar_theory.specs.declared.error.Lang.{Lang}
use Rattle.grammar_theory.specs.declared.error.Mode.{Mode}
use Rattle.es_ast.specs.declared.ast.Program.{Program}
use Rattle.grammar_theory.specs.Key.{keys_of}
use Rattle.grammar_theory.specs.Fits.{free, Shape, most_nodes}
use Rattle.es_grammar.specs.Table.{rule}
use Rattle.es_grammar.specs.Conditions.{program_row}
use Rattle.es_grammar.proofs.types_lemmas.OrderLemmas.{row_stands}
use Rattle.es_lookahead.proofs.TokenLemmas.{length-keys_of}
use Rattle.es_grammar.specs.cst.Slim.{tree_of}
use Rattle.es_site.specs.declared.site.Site.{Site}
use Rattle.es_site.specs.Sites.{sites_of}
use Rattle.es_law_sites.specs.plain.Own.{plain_sites}
use Rattle.es_law_sites.proofs.plain.Theorems.{derived_sites}
use Rattle.es_lowering.specs.derives.Derives.{Derives}
use Rattle.es_law_texts.specs.site_order.Order.{Ascend, token_range, site_range, StandOn}
use Rattle.es_law_texts.proofs.site_order.Trees.{plain_stand}
use Rattle.es_law_texts.proofs.site_order.AscendLemmas.{tokens_ascend, stand_ascend}

-- each site of a derived tree has the range of a token of its own, in the order of the tokens, whatever the tokens are
pub derives_stand : (l : Lang) (m : Mode) (x : List ℕ) (ts : List Token) (p : Program) → Derives l m x ts p
    → StandOn ts 0 (length ts) (sites_of p)
unfolding Shape
derives_stand l m x ts p derived =
    let plain : StandOn ts 0 (length (keys_of ts)) (plain_sites x ts (tree_of derived.plain)) =
    plain_stand x ts 0 (length (keys_of ts)) derived.plain
    (row_stands free (keys_of ts) (rule l) most_nodes (program_row m) derived.plain 0 (length (keys_of ts))
    derived.program.shaped.0) in
    let stand : StandOn ts 0 (length (keys_of ts)) (sites_of p) =
    subst (λ (ss : List Site). StandOn ts 0 (length (keys_of ts)) ss) (sym (derived_sites l m x ts p derived)) plain in
    subst (λ (n : ℕ). StandOn ts 0 n (sites_of p)) (length-keys_of ts) stand

-- where the tokens ascend, so do the sites
pub sites_ascend : (l : Lang) (m : Mode) (x : List ℕ) (ts : List Token) (p : Program) → Ascend token_range ts
    → Derives l m x ts p → Ascend site_range (sites_of p)
sites_ascend l m x ts p ascend derived =
    stand_ascend ts 0 (length ts) (sites_of p) ascend (derives_stand l m x ts p derived)

-- the tokens that read a text ascend, so the sites of a tree derived from them do
pub derives_ascend : (l : Lang) (m : Mode) (x : List ℕ) (ts : List Token) (p : Program) → ReadsTokens x ts
    → Derives l m x ts p → Ascend site_range (sites_of p)
derives_ascend l m x ts p reads derived = sites_ascend l m x ts p (tokens_ascend x ts reads.0 reads.1) derived
