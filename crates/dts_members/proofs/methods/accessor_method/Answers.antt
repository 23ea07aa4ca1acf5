use Rattle.std.specs.Prelude.{false, slice_get}
use Rattle.std.proofs.Common.{sym, subst}
use Rattle.es_lowering.specs.Texts.{span_of}
use Rattle.es_changed.specs.declared.entry.Form.{Form}
use Rattle.es_syntax.specs.Held.{held}
use Rattle.dts_fields.specs.Fields.{MemberMade}
use Rattle.dts_members.specs.Methods.{IsForm}
use Rattle.dts_members.proofs.MemberLemmas.{plain_accessor}
use Rattle.dts_members.proofs.methods.accessor_method.Goals as goal

pub returns-in-Some-clause-written : goal.returns-in-Some-clause-written
returns-in-Some-clause-written c = λ e by knows known.
    let x = c.args.env.now.text.now in
    let ts = c.args.env.now.tokens.now in
    plain_accessor ts (MemberMade x ts by c.args.out.now c.worded_method.new.out c.worded_method.result)
    (span_of ts c.args.it.now.from c.args.it.now.to) (held x ts c.args.it.now.parts.entries.now) c.is_kind-setter.result
    (slice_get ts c.in-Some.word) (c.in-Some.ensures x ts) c.is_kind-setter.ensures
    (λ kind is. c.worded_method.ensures.written e kind false false
    (subst (λ (f : Form). IsForm f kind false false) (sym c.accessor_form.ensures) is) by knows known)
