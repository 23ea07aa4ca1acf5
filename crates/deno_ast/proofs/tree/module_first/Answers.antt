use Rattle.std.proofs.Common.{subst, Err}
use Rattle.grammar_theory.specs.declared.error.SyntaxError.{SyntaxError}
use Rattle.es_parser.specs.Answers.{GivesTree}
use Rattle.deno_ast.proofs.tree.module_first.Goals as goal

-- it is no module
pub no_module-requires-clause-none : goal.no_module-requires-clause-none
no_module-requires-clause-none c = λ tree is.
    subst (λ (e : SyntaxError). GivesTree (Err e) tree) c.in-Err-Syntax.field-0-is
    (c.in-Err-Syntax.ensures.only tree is)
