use Rattle.std.proofs.Common.{sym, ap, ◌∙◌}
use Rattle.es_lowering.specs.Value.{Value}
use Rattle.es_lowering.specs.Texts.{token_at}
use Rattle.es_syntax.specs.Held.{held}
use Rattle.dts_fields.proofs.FieldLemmas.{no_mark}
use Rattle.dts_fields.proofs.fields.field_mark.Goals as goal

pub returns-in-Some-clause-written : goal.returns-in-Some-clause-written
returns-in-Some-clause-written c = λ e x.
    let ts = c.args.tokens.now in
    c.sign.ensures.written e x
    (ap (λ (row : Value). token_at ts row 0) (sym (c.group_at.ensures.value x ts)) ∙ c.in-Some.ensures x ts)

pub returns-in-None-clause-written : goal.returns-in-None-clause-written
returns-in-None-clause-written c = λ e x.
    let ts = c.args.tokens.now in
    no_mark x ts _ _ (held x ts c.args.parts.now.entries.now) _ 2 (c.group_at.ensures.value x ts)
    (c.in-None.ensures x ts) (c.absent.ensures.written e x ts)
