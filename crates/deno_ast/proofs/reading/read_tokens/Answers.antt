use Rattle.std.proofs.Common.{subst, Err}
use Rattle.url.specs.Parts.{serialize}
use Rattle.grammar_theory.specs.declared.error.SyntaxError.{SyntaxError}
use Rattle.es_ast.specs.declared.ast.Program.{Program as Typed}
use Rattle.es_parser.specs.Answers.{GivesTree}
use Rattle.source_reading.specs.Tree.{IsFirstTree}
use Rattle.deno_ast.specs.Source.{lang_for}
use Rattle.source_sites.specs.Modes.{modes_in}
use Rattle.source_sites.proofs.FaultLemmas.{Refuses-weaker, syntax_refusal}
use Rattle.deno_ast.proofs.reading.read_tokens.Goals as goal

-- a refusal says that the tokens have no tree
pub returns-in-Err-Syntax-clause-refused : goal.returns-in-Err-Syntax-clause-refused
returns-in-Err-Syntax-clause-refused c =
    let params = c.args.params.now in
    let modes = modes_in c.args.modes in
    let none = λ (tree : Typed) (is : IsFirstTree (lang_for params) params.text c.args.tokens modes tree).
    subst (λ (e : SyntaxError). GivesTree (Err e) tree) c.in-Err-Syntax.field-0-is
    (c.in-Err-Syntax.ensures.only tree is) in
    Refuses-weaker _ _
    (λ d told. syntax_refusal (serialize params.specifier) (lang_for params) modes params.text d told.0
    c.args.tokens (c.args.comments, c.requires) none told.1)
    c.syntax_fault.result c.syntax_fault.ensures
