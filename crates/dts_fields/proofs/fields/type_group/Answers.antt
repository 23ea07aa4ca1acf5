use Rattle.std.proofs.Common.{◌∙◌}
use Rattle.es_syntax.specs.Held.{held}
use Rattle.dts_fields.proofs.FieldLemmas.{type_kept, type_made}
use Rattle.dts_fields.proofs.fields.type_group.Goals as goal

-- its own type
pub returns-in-Some-clause-written : goal.returns-in-Some-clause-written
returns-in-Some-clause-written c = λ e by knows.
    let x = c.args.env.now.text.now in
    let ts = c.args.env.now.tokens.now in
    type_kept by x ts c.args.out.now c.keep_part.new.out c.drop_value.new.out (held x ts c.args.parts.now.entries.now)
    _ _ _ 3 _ (c.group_at.ensures.value x ts) (c.in-Some.ensures.value x ts)
    (c.keep_part.ensures.written (c.drop_value.ensures.before e) x ts) (c.drop_value.ensures.written e x ts)
    (c.drop_value.ensures.state ∙ c.keep_part.ensures.state)

-- that of the value
pub returns-in-None-clause-written : goal.returns-in-None-clause-written
returns-in-None-clause-written c = λ e by knows.
    let x = c.args.env.now.text.now in
    let ts = c.args.env.now.tokens.now in
    type_made by x ts c.args.out.now c.value_group.new.out (held x ts c.args.parts.now.entries.now) _ 3 _
    (c.group_at.ensures.value x ts) (c.in-None.ensures.value x ts)
    (rw (c.group_at-value.ensures.value x ts) at (c.value_group.ensures.written e by knows))
