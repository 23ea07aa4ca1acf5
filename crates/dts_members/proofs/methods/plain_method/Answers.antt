use Rattle.std.proofs.Common.{sym, subst}
use Rattle.es_changed.specs.declared.entry.Form.{Form}
use Rattle.es_ast.specs.declared.ts.leaf.MethodKind.TheVariants as vMethod
use Rattle.es_lowering.specs.Texts.{span_of}
use Rattle.es_syntax.specs.Held.{held, valued}
use Rattle.std.specs.Prelude.{false}
use Rattle.dts_members.specs.Methods.{IsForm}
use Rattle.dts_members.proofs.MemberLemmas.{method_forms}
use Rattle.dts_members.proofs.PlainLemmas.{plain_parts}
use Rattle.dts_members.proofs.methods.plain_method.Goals as goal

pub returns-in-Some-part-2-clause-written : goal.returns-in-Some-part-2-clause-written
returns-in-Some-part-2-clause-written c = λ e by knows known.
    let x = c.args.env.now.text.now in
    let ts = c.args.env.now.tokens.now in
    plain_parts by x ts c.args.out.now c.keyed_method.new.out c.keyed_method.result vMethod.Method false
    c.args.is_generator (span_of ts c.args.it.now.from c.args.it.now.to) (held x ts c.args.it.now.parts.entries.now) 1
    (valued x ts c.in-Some.key) (valued x ts c.in-Some-part.params) (valued x ts c.in-Some-part-2.body)
    (c.in-Some.ensures.value x ts) (c.in-Some-part.ensures.value x ts) (c.in-Some-part-2.ensures.value x ts)
    (c.keyed_method.ensures.written e vMethod.Method false c.args.is_generator
    (subst (λ (f : Form). IsForm f vMethod.Method false c.args.is_generator) (sym c.method_form.ensures)
    (method_forms false c.args.is_generator)) by knows known)
