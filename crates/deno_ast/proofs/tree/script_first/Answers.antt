use Rattle.std.proofs.Common.{subst, Err, inl, [], ◌∷◌}
use Rattle.std.proofs.lemmas.Result.{IfOk-weaker}
use Rattle.grammar_theory.specs.declared.error.SyntaxError.{SyntaxError}
use Rattle.grammar_theory.specs.declared.error.Mode.TheVariants as mode
use Rattle.es_ast.specs.declared.ast.Program.{Program as Typed}
use Rattle.es_lowering.specs.derives.Derives.{Derives}
use Rattle.es_parser.specs.Answers.{GivesTree}
use Rattle.source_reading.proofs.TreeLemmas.{later, first_once}
use Rattle.deno_ast.proofs.TreeLemmas.{first_given}
use Rattle.deno_ast.proofs.tree.script_first.Goals as goal

-- it is no script, and what is read is a module
pub returns-in-Err-Syntax-clause-made : goal.returns-in-Err-Syntax-clause-made
returns-in-Err-Syntax-clause-made c =
    let none = λ (tree : Typed) (is : Derives c.args.lang mode.Script c.args.text.now c.args.tokens.now tree).
    subst (λ (e : SyntaxError). GivesTree (Err e) tree) c.in-Err-Syntax.field-0-is
    (c.in-Err-Syntax.ensures.only tree is) in
    IfOk-weaker c.parse_tokens-in-Err-Syntax.result _ _
    (λ tree is. later c.args.lang c.args.text.now c.args.tokens.now mode.Script mode.Module tree.typed none is)
    c.parse_tokens-in-Err-Syntax.ensures.derived

-- it is no script, and a module is read if it is one
pub returns-in-Err-Syntax-clause-only : goal.returns-in-Err-Syntax-clause-only
returns-in-Err-Syntax-clause-only c = λ tree is.
    first_given c.args.lang c.args.text.now c.args.tokens.now mode.Script mode.Module
    c.parse_tokens-in-Err-Syntax.result tree
    (λ tree script. absurd (subst (λ (e : SyntaxError). GivesTree (Err e) tree) c.in-Err-Syntax.field-0-is
    (c.in-Err-Syntax.ensures.only tree script)))
    c.parse_tokens-in-Err-Syntax.ensures.only is

-- it is a script: the one that was read
pub returns-in-Ok-clause-only : goal.returns-in-Ok-clause-only
returns-in-Ok-clause-only c = λ tree is.
    first_once c.args.lang c.args.text.now c.args.tokens.now (mode.Script ∷ mode.Module ∷ []) c.in-Ok.program.typed tree
    (inl c.in-Ok.ensures.derived) is
