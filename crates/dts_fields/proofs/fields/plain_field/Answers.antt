use Rattle.es_syntax.specs.Held.{held}
use Rattle.es_lowering.specs.Texts.{span_of}
use Rattle.dts_fields.proofs.FieldLemmas.{plain_accessor}
use Rattle.dts_fields.proofs.fields.plain_field.Goals as goal

-- one with `accessor` goes
pub returns-then-is_accessor-clause-written : goal.returns-then-is_accessor-clause-written
returns-then-is_accessor-clause-written c = λ e by knows.
    let x = c.args.env.now.text.now in
    let ts = c.args.env.now.tokens.now in
    plain_accessor by x ts c.args.out.now c.args.is_accessor (span_of ts c.args.from c.args.to)
    (held x ts c.args.parts.now.entries.now) c.if-is_accessor.true

pub returns-in-Some-clause-written : goal.returns-in-Some-clause-written
returns-in-Some-clause-written c = λ e. rw c.if-is_accessor.false (c.plain_keyed.ensures.written e)
