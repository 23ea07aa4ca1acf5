use Rattle.std.proofs.Common.{subst, Err, inl, [], ◌∷◌}
use Rattle.grammar_theory.specs.declared.error.SyntaxError.{SyntaxError}
use Rattle.grammar_theory.specs.declared.error.SyntaxError.TheVariants.{Syntax}
use Rattle.grammar_theory.specs.declared.error.Mode.TheVariants as mode
use Rattle.es_parser.specs.Answers.{GivesTree}
use Rattle.source_reading.proofs.TreeLemmas.{first_once}
use Rattle.deno_ast.proofs.TreeLemmas.{first_given}
use Rattle.deno_ast.proofs.tree.no_module.Goals as goal

-- it is a script
pub returns-in-Ok-clause-only : goal.returns-in-Ok-clause-only
returns-in-Ok-clause-only c = λ tree is.
    first_once c.args.lang c.args.text.now c.args.tokens.now (mode.Script ∷ mode.Module ∷ []) c.in-Ok.program.typed tree
    (inl c.in-Ok.ensures.derived) is

-- it is neither
pub returns-in-Err-Syntax-clause-only : goal.returns-in-Err-Syntax-clause-only
returns-in-Err-Syntax-clause-only c = λ tree is.
    first_given c.args.lang c.args.text.now c.args.tokens.now mode.Script mode.Module (Err (Syntax c.args.token)) tree
    (λ tree script. subst (λ (e : SyntaxError). GivesTree (Err e) tree) c.in-Err-Syntax.field-0-is
    (c.in-Err-Syntax.ensures.only tree script))
    (λ tree as_module. absurd (c.requires.none tree as_module)) is
