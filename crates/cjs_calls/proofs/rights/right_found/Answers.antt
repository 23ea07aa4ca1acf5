use Rattle.es_syntax.specs.Held.{valued}
use Rattle.es_syntax.specs.Roles.{expr_in}
use Rattle.cjs_calls.proofs.RightForms.{rights_paren, rights_number, rights_sequence, rights_function}
use Rattle.cjs_calls.proofs.rights.right_found.Goals as goal

pub returns-in-Paren : goal.returns-in-Paren
returns-in-Paren c =
    rights_paren (expr_in (valued c.args.text.now c.args.tokens.now c.args.it.now)) c.args.found.now _
    c.in-Paren.ensures.kind

pub returns-in-Number : goal.returns-in-Number
returns-in-Number c =
    rights_number (expr_in (valued c.args.text.now c.args.tokens.now c.args.it.now)) c.args.found.now _
    c.in-Number.ensures.kind

pub returns-in-Sequence : goal.returns-in-Sequence
returns-in-Sequence c =
    rights_sequence (expr_in (valued c.args.text.now c.args.tokens.now c.args.it.now)) c.args.found.now _ _ _
    c.in-Sequence.ensures.kind

pub returns-in-Function : goal.returns-in-Function
returns-in-Function c =
    rights_function (expr_in (valued c.args.text.now c.args.tokens.now c.args.it.now)) c.args.found.now _
    c.in-Function.ensures.kind
