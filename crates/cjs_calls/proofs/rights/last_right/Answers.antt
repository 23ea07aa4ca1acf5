use Rattle.es_syntax.specs.Held.{valued}
use Rattle.es_syntax.specs.Roles.{expr_in}
use Rattle.cjs_calls.proofs.RightForms.{last_next}
use Rattle.cjs_calls.proofs.rights.last_right.Goals as goal

pub loop-right-preserved : goal.loop-right-preserved
loop-right-preserved c =
    let x = c.args.text.now in
    let ts = c.args.tokens.now in
    last_next (expr_in (valued x ts c.args.it.now)) (expr_in (valued x ts c.loop-right.last))
    (expr_in (valued x ts c.in-Some.right)) c.loop-right.invariant c.in-Some.ensures.value
