-- The sites of the tree that a reader of programs keeps are those of the typed tree of the tokens, which there is.
use Rattle.std.specs.Prelude.{List}
use Rattle.std.proofs.Common.{◌≡◌, ℕ, ap, ◌∙◌}
use Rattle.es_token.specs.declared.token.Token.{Token}
use Rattle.grammar_theory.specs.declared.error.Lang.{Lang}
use Rattle.grammar_theory.specs.declared.error.Mode.{Mode}
use Rattle.grammar_theory.specs.Key.{keys_of}
use Rattle.grammar_theory.specs.Plain.{Plain}
use Rattle.es_ast.specs.declared.ast.Program.{Program}
use Rattle.es_grammar.specs.declared.rows.NodeKind.{NodeKind}
use Rattle.es_grammar.specs.Conditions.{IsProgram}
use Rattle.es_grammar.specs.declared.cst.tree.Cst.{Cst}
use Rattle.es_grammar.specs.cst.Slim.{tree_of}
use Rattle.es_site.specs.Sites.{sites_of}
use Rattle.es_lowering.specs.derives.Derives.{Derives}
use Rattle.es_law_programs.proofs.total.Theorems.{derives}
use Rattle.es_law_sites.specs.plain.Own.{plain_sites}
use Rattle.es_law_sites.proofs.plain.Theorems.{program_sites}

-- what `read_program` keeps (`IsKept`) has a typed tree, whose sites are those of the kept tree
pub kept_sites : (l : Lang) (m : Mode) (x : List ℕ) (ts : List Token) (plain : Plain NodeKind) (kept : Cst)
    → IsProgram l m (keys_of ts) plain → tree_of plain ≡ kept
    → (tree : Program) × Derives l m x ts tree × (sites_of tree ≡ plain_sites x ts kept)
kept_sites l m x ts plain kept program is =
    let typed = derives l m x ts plain program in
    (typed.0, typed.1, program_sites l m x ts plain typed.0 program typed.1 ∙ ap (plain_sites x ts) is)
