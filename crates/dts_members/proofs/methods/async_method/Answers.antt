use Rattle.std.specs.Prelude.{Bool, true}
use Rattle.std.proofs.Common.{sym, subst}
use Rattle.es_ast.specs.declared.ts.leaf.MethodKind.TheVariants as vMethod
use Rattle.es_lowering.specs.Texts.{span_of}
use Rattle.es_lowering.specs.Classes.{method_member}
use Rattle.es_changed.specs.declared.entry.Form.{Form}
use Rattle.es_syntax.specs.Held.{held}
use Rattle.dts_draft.specs.Written.{IfThere}
use Rattle.dts_fields.specs.Fields.{MemberMade}
use Rattle.dts_members.specs.Methods.{IsForm}
use Rattle.dts_members.proofs.MemberLemmas.{method_forms}
use Rattle.dts_members.proofs.methods.async_method.Goals as goal

pub returns-clause-written : goal.returns-clause-written
returns-clause-written c = λ e by knows known.
    let x = c.args.env.now.text.now in
    let ts = c.args.env.now.tokens.now in
    let p = held x ts c.args.it.now.parts.entries.now in
    let P : Bool → Type 0 = λ g. IfThere (MemberMade x ts by c.args.out.now c.worded_method.new.out
    c.worded_method.result)
    (method_member ts vMethod.Method true g (span_of ts c.args.it.now.from c.args.it.now.to) p 2) in
    subst P (sym (c.has.ensures x ts)) (c.worded_method.ensures.written e vMethod.Method true c.has.result
    (subst (λ (f : Form). IsForm f vMethod.Method true c.has.result) (sym c.method_form.ensures)
    (method_forms true c.has.result)) by knows known)
