use Rattle.std.proofs.Common.{refl, subst, Err}
use Rattle.std.proofs.lemmas.Result.{IfOk-weaker}
use Rattle.es_ast.specs.declared.ast.Program.{Program}
use Rattle.grammar_theory.specs.declared.error.SyntaxError.{SyntaxError}
use Rattle.es_parser.specs.Answers.{GivesTree}
use Rattle.source_reading.specs.Tree.{IsTree}
use Rattle.graph_c.specs.Exports.{of_tree, of_none}
use Rattle.graph_c.proofs.exporting.of_tokens.Goals as goal

-- what the tree exports that there is
pub returns-in-Ok : goal.returns-in-Ok
returns-in-Ok c =
    IfOk-weaker c.of_program.result _ _ (λ found is. of_tree c.in-Ok.program.typed c.in-Ok.ensures.made is) c.of_program.ensures

-- a refusal says that there is none
pub returns-in-Err-Syntax : goal.returns-in-Err-Syntax
returns-in-Err-Syntax c =
    let nothing = λ (tree : Program) (is : IsTree c.args.media_type c.args.text.now c.args.tokens.now tree).
    subst (λ (e : SyntaxError). GivesTree (Err e) tree) c.in-Err-Syntax.field-0-is (c.in-Err-Syntax.ensures.only tree is)
    in
    of_none nothing c.start_of.result refl
