use Rattle.std.proofs.Common.{slice_get}
use Rattle.es_syntax.specs.Held.{held, valued}
use Rattle.cjs_calls.proofs.Answered.{on_ok}
use Rattle.cjs_calls.proofs.Binds.{name_valued}
use Rattle.cjs_calls.proofs.declarators.name_bound.Goals as goal

pub returns-in-Some : goal.returns-in-Some
returns-in-Some c =
    let x = c.args.text.now in
    let ts = c.args.tokens.now in
    on_ok c.bind_value.result (λ q.
    name_valued x (slice_get ts c.args.name) (held x ts c.args.value.now.entries.now) (valued x ts c.in-Some.value)
    (held x ts c.in-Some.field-0-1.entries.now) c.args.found.now c.bind_value.new.found (c.in-Some.ensures.value x ts) q)
    c.bind_value.ensures
