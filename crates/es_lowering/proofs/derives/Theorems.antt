-- The laws of derivations that other crates name.
use Rattle.std.specs.Prelude.{List, Some}
use Rattle.std.proofs.Common.{◌≡◌, ℕ, sym, ap, ◌∙◌}
use Rattle.es_token.specs.declared.token.Token.{Token}
use Rattle.grammar_theory.specs.declared.error.Lang.{Lang}
use Rattle.grammar_theory.specs.declared.error.Mode.{Mode}
use Rattle.es_ast.specs.declared.ast.Program.{Program}
use Rattle.grammar_theory.specs.Key.{keys_of}
use Rattle.es_grammar.proofs.Theorems.{one_program}
use Rattle.es_grammar.specs.cst.Slim.{tree_of}
use Rattle.es_lowering.specs.Lowering.{value_of}
use Rattle.es_lowering.specs.derives.Derives.{program_in, Derives}

same_some : (p q : Program) → Some p ≡ Some q → p ≡ q
same_some p q e = cc

-- tokens have at most one tree
pub one_tree : (l : Lang) (m : Mode) (x : List ℕ) (ts : List Token) (p q : Program) → Derives l m x ts p
    → Derives l m x ts q → p ≡ q
one_tree l m x ts p q one other =
    same_some p q (sym one.lowered
    ∙ ap (λ plain. program_in (value_of x ts (tree_of plain)))
    (one_program l m (keys_of ts) one.plain other.plain one.program other.program)
    ∙ other.lowered)
