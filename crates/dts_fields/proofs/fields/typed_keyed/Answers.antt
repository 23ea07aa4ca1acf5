use Rattle.es_syntax.specs.Held.{held, valued}
use Rattle.es_lowering.specs.Texts.{span_of}
use Rattle.dts_draft.proofs.There.{lifted}
use Rattle.dts_fields.proofs.FieldLemmas.{typed_dropped, typed_made}
use Rattle.dts_fields.proofs.fields.typed_keyed.Goals as goal

-- its key goes
pub returns-then-is_dropped-clause-written : goal.returns-then-is_dropped-clause-written
returns-then-is_dropped-clause-written c = λ e by knows.
    let x = c.args.env.now.text.now in
    let ts = c.args.env.now.tokens.now in
    typed_dropped by x ts c.args.out.now (span_of ts c.args.from c.args.to) (held x ts c.args.parts.now.entries.now)
    (valued x ts c.args.key.now) (c.requires.key x ts)
    (lifted (λ key told. c.is_dropped.ensures.none c.if-is_dropped.true x ts _ told)
    (c.member_key-shown.ensures by knows))

pub returns-clause-written : goal.returns-clause-written
returns-clause-written c = λ e by knows.
    let x = c.args.env.now.text.now in
    let ts = c.args.env.now.tokens.now in
    typed_made by x ts c.args.out.now c.typed_node.new.out (span_of ts c.args.from c.args.to)
    (held x ts c.args.parts.now.entries.now) (valued x ts c.args.key.now) (c.requires.key x ts)
    (lifted (λ key told. c.typed_node.ensures.written e by knows _ told) (c.member_key-shown.ensures by knows))
