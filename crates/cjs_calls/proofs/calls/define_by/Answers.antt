use Rattle.es_lowering.specs.Value.{as_group}
use Rattle.es_lowering.specs.Expressions.{argument}
use Rattle.es_syntax.specs.Held.{valued}
use Rattle.cjs_looks.specs.Seen.{look_of}
use Rattle.cjs_calls.proofs.Answered.{on_ok}
use Rattle.cjs_calls.proofs.CallForms.{defines_by, defines_spread}
use Rattle.cjs_calls.proofs.calls.define_by.Goals as goal

pub returns-in-Some : goal.returns-in-Some
returns-in-Some c =
    let x = c.args.text.now in
    let ts = c.args.tokens.now in
    on_ok c.define.result (λ q.
    defines_by x ts (argument ts (as_group (valued x ts c.args.object.now)))
    (argument ts (as_group (valued x ts c.args.name.now))) (argument ts (as_group (valued x ts c.args.last.now)))
    (look_of x ts c.argument_look-object.result) (look_of x ts c.argument_look-name.result) c.args.found.now
    c.define.new.found c.in-Some.props c.in_ok-is.is' c.argument_look-object.ensures c.in_ok-is.ensures c.if-is.true
    c.in-Some.ensures c.argument_look-name.ensures q) c.define.ensures

pub returns-in-None : goal.returns-in-None
returns-in-None c =
    let x = c.args.text.now in
    let ts = c.args.tokens.now in
    defines_spread (argument ts (as_group (valued x ts c.args.object.now)))
    (argument ts (as_group (valued x ts c.args.name.now))) (argument ts (as_group (valued x ts c.args.last.now)))
    (look_of x ts c.argument_look-object.result) c.args.found.now x ts c.in_ok-is.is' c.argument_look-object.ensures
    c.in_ok-is.ensures c.if-is.true c.in-None.ensures
