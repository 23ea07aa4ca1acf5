use Rattle.es_syntax.specs.Held.{valued}
use Rattle.es_syntax.specs.Roles.{expr_in}
use Rattle.cjs_looks.specs.Seen.{look_of}
use Rattle.cjs_calls.proofs.Callees.{brackets_second}
use Rattle.cjs_calls.proofs.callee.bracketed_look.Goals as goal

pub returns-in-Some : goal.returns-in-Some
returns-in-Some c =
    let x = c.args.text.now in
    let ts = c.args.tokens.now in
    brackets_second (expr_in (valued x ts c.args.inner.now)) (expr_in (valued x ts c.in-Some.second))
    (look_of x ts c.look_at.result) c.in-Some.ensures c.look_at.ensures
