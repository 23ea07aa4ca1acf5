use Rattle.es_syntax.specs.Held.{valued}
use Rattle.es_syntax.specs.Roles.{expr_in}
use Rattle.cjs_looks.specs.Seen.{look_of}
use Rattle.cjs_calls.proofs.Getters.{look_returned}
use Rattle.cjs_calls.proofs.getter.body_look.Goals as goal

pub returns-in-Some : goal.returns-in-Some
returns-in-Some c =
    let x = c.args.text.now in
    let ts = c.args.tokens.now in
    look_returned x ts c.args.body.now (expr_in (valued x ts c.in-Some.expr)) (look_of x ts c.look_at.result)
    (c.in-Some.ensures x ts) c.look_at.ensures
