use Rattle.std.proofs.Common.{subst, sym, ap, ◌∙◌, Err, inl, [], ◌∷◌}
use Rattle.std.specs.List.{list_any}
use Rattle.grammar_theory.specs.declared.error.SyntaxError.{SyntaxError}
use Rattle.grammar_theory.specs.declared.error.Mode.TheVariants as mode
use Rattle.es_ast.specs.declared.ast.Program.{Program as Typed}
use Rattle.es_program.specs.Owned.{Owned}
use Rattle.es_parser.specs.Answers.{GivesTree}
use Rattle.source_reading.proofs.TreeLemmas.{first_once, later}
use Rattle.deno_ast.specs.Refs.{items_of}
use Rattle.deno_ast.specs.Steps.{is_decl}
use Rattle.deno_ast.proofs.ModeLemmas.{is_module}
use Rattle.deno_ast.proofs.tree.script_or.Goals as goal

-- with an import or an export it is no script
pub returns-then-has_decl-clause-made : goal.returns-then-has_decl-clause-made
returns-then-has_decl-clause-made c =
    is_module c.args.lang c.args.text.now c.args.tokens.now c.args.read.typed c.requires.derived
    (ap (λ (t : Owned Typed). list_any is_decl (items_of t.typed)) (sym c.of.ensures)
    ∙ ap (list_any is_decl) (sym c.body.ensures) ∙ (sym c.has_decl.ensures ∙ c.if-has_decl.true))

pub returns-then-has_decl-clause-only : goal.returns-then-has_decl-clause-only
returns-then-has_decl-clause-only c = λ tree is.
    first_once c.args.lang c.args.text.now c.args.tokens.now (mode.Script ∷ mode.Module ∷ []) c.args.read.typed tree
    (is_module c.args.lang c.args.text.now c.args.tokens.now c.args.read.typed c.requires.derived
    (ap (λ (t : Owned Typed). list_any is_decl (items_of t.typed)) (sym c.of.ensures)
    ∙ ap (list_any is_decl) (sym c.body.ensures) ∙ (sym c.has_decl.ensures ∙ c.if-has_decl.true))) is

-- it is a script
pub returns-in-Ok-clause-only : goal.returns-in-Ok-clause-only
returns-in-Ok-clause-only c = λ tree is.
    first_once c.args.lang c.args.text.now c.args.tokens.now (mode.Script ∷ mode.Module ∷ []) c.in-Ok.program.typed tree
    (inl c.in-Ok.ensures.derived) is

-- it is none
pub returns-in-Err-Syntax-clause-made : goal.returns-in-Err-Syntax-clause-made
returns-in-Err-Syntax-clause-made c =
    later c.args.lang c.args.text.now c.args.tokens.now mode.Script mode.Module c.args.read.typed
    (λ tree is. subst (λ (e : SyntaxError). GivesTree (Err e) tree) c.in-Err-Syntax.field-0-is
    (c.in-Err-Syntax.ensures.only tree is))
    c.requires.derived

pub returns-in-Err-Syntax-clause-only : goal.returns-in-Err-Syntax-clause-only
returns-in-Err-Syntax-clause-only c = λ tree is.
    first_once c.args.lang c.args.text.now c.args.tokens.now (mode.Script ∷ mode.Module ∷ []) c.args.read.typed tree
    (later c.args.lang c.args.text.now c.args.tokens.now mode.Script mode.Module c.args.read.typed
    (λ tree is. subst (λ (e : SyntaxError). GivesTree (Err e) tree) c.in-Err-Syntax.field-0-is
    (c.in-Err-Syntax.ensures.only tree is))
    c.requires.derived) is
