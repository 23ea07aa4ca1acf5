-- The sites of a derived tree are those of its plain tree.
use Rattle.std.specs.Prelude.{List}
use Rattle.std.proofs.Common.{◌≡◌, ℕ, ap, ◌∙◌}
use Rattle.es_token.specs.declared.token.Token.{Token}
use Rattle.grammar_theory.specs.declared.error.Lang.{Lang}
use Rattle.grammar_theory.specs.declared.error.Mode.{Mode}
use Rattle.grammar_theory.specs.Key.{keys_of}
use Rattle.grammar_theory.specs.Plain.{Plain}
use Rattle.es_ast.specs.declared.ast.Program.{Program}
use Rattle.es_grammar.specs.declared.rows.NodeKind.{NodeKind}
use Rattle.es_grammar.specs.Conditions.{IsProgram}
use Rattle.es_grammar.proofs.Theorems.{one_program}
use Rattle.es_grammar.specs.cst.Slim.{tree_of}
use Rattle.es_site.specs.Sites.{sites_of}
use Rattle.es_lowering.specs.derives.Derives.{Derives}
use Rattle.es_law_sites.specs.plain.Own.{plain_sites}
use Rattle.es_law_sites.proofs.plain.Build.{build_is}
use Rattle.es_law_sites.proofs.plain.Kept.{sites_are}

-- the sites of a derived tree are those of its plain tree
pub derived_sites : (lang : Lang) (mode : Mode) (x : List ℕ) (ts : List Token) (tree : Program)
    (derived : Derives lang mode x ts tree)
    → sites_of tree ≡ plain_sites x ts (tree_of derived.plain)
derived_sites lang mode x ts tree derived = sites_are x ts (build_is x ts) lang mode tree derived

-- so the sites are told from the one plain tree of the tokens, whatever typed tree is derived from them
pub program_sites : (lang : Lang) (mode : Mode) (x : List ℕ) (ts : List Token) (plain : Plain NodeKind) (tree : Program)
    → IsProgram lang mode (keys_of ts) plain → Derives lang mode x ts tree
    → sites_of tree ≡ plain_sites x ts (tree_of plain)
program_sites lang mode x ts plain tree program derived =
    derived_sites lang mode x ts tree derived
    ∙ ap (λ p. plain_sites x ts (tree_of p))
    (one_program lang mode (keys_of ts) derived.plain plain derived.program program)
