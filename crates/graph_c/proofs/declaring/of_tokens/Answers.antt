use Rattle.std.proofs.Common.{refl, subst, Err}
use Rattle.es_ast.specs.declared.ast.Program.{Program}
use Rattle.grammar_theory.specs.declared.error.SyntaxError.{SyntaxError}
use Rattle.source_reading.specs.Tree.{IsTree}
use Rattle.source_declarations.specs.Answers.{GivesOf}
use Rattle.graph_c.specs.Declarations.{of_tree, of_none}
use Rattle.graph_c.proofs.declaring.of_tokens.Goals as goal

-- the declarations of the tree that there is
pub returns-in-Ok : goal.returns-in-Ok
returns-in-Ok c =
    of_tree c.in-Ok.it
    (rw c.as_slice.ensures at c.in-Ok.ensures.made)
    refl

-- a refusal says that there is none
pub returns-in-Err-Syntax : goal.returns-in-Err-Syntax
returns-in-Err-Syntax c =
    let nothing = λ (tree : Program) (is : IsTree c.args.media_type c.args.text.now c.args.tokens.now tree).
    subst (λ (e : SyntaxError). GivesOf c.args.text.now c.args.tokens.now c.as_slice.result.now c.args.with_comments tree (Err e))
    c.in-Err-Syntax.field-0-is (c.in-Err-Syntax.ensures.only tree is) in
    of_none nothing c.start_of.result refl
