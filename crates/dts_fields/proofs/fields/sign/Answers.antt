use Rattle.std.proofs.Common.{◌∙◌}
use Rattle.es_syntax.specs.Held.{held}
use Rattle.dts_fields.proofs.FieldLemmas.{other_goes, question_stays}
use Rattle.dts_fields.proofs.fields.sign.Goals as goal

pub returns-then-is_kind-clause-written : goal.returns-then-is_kind-clause-written
returns-then-is_kind-clause-written c = λ e x there.
    let ts = c.args.tokens.now in
    question_stays x ts _ _ (held x ts c.args.parts.now.entries.now) 2 c.args.at there
    (c.is_kind.ensures ∙ c.if-is_kind.true) (c.keep_part.ensures.written e x ts)

pub returns-else-is_kind-clause-written : goal.returns-else-is_kind-clause-written
returns-else-is_kind-clause-written c = λ e x there.
    let ts = c.args.tokens.now in
    other_goes x ts _ _ _ (held x ts c.args.parts.now.entries.now) 2 c.args.at there
    (c.is_kind.ensures ∙ c.if-is_kind.false) (c.absent.ensures.written (c.dropped.ensures.before e) x ts)
    (c.dropped.ensures.written e x ts)
