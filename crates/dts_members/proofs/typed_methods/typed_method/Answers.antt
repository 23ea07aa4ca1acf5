use Rattle.std.specs.Prelude.{false}
use Rattle.std.proofs.Common.{refl, sym, subst}
use Rattle.es_grammar.specs.declared.rows.NodeKind.{NodeKind}
use Rattle.es_ast.specs.declared.ts.leaf.MethodKind.TheVariants as vMethod
use Rattle.es_lowering.specs.Value.{part}
use Rattle.es_lowering.specs.Texts.{span_of}
use Rattle.es_syntax.specs.Held.{held, valued}
use Rattle.dts_members.specs.Methods.{between, IsTyped}
use Rattle.dts_members.proofs.MemberLemmas.{method_labels}
use Rattle.dts_members.proofs.TypedLemmas.{typed_member}
use Rattle.dts_members.proofs.typed_methods.typed_method.Goals as goal

pub returns-in-Some-clause-written : goal.returns-in-Some-clause-written
returns-in-Some-clause-written c = λ e by knows known.
    let x = c.args.env.now.text.now in
    let ts = c.args.env.now.tokens.now in
    let p = held x ts c.args.it.now.parts.entries.now in
    typed_member by x ts c.args.out.now c.headed_method.new.out c.headed_method.result vMethod.Method false
    c.args.is_generator (span_of ts c.args.it.now.from c.args.it.now.to) p 1
    (held x ts c.group_at.result.entries.now) (valued x ts c.in-Some.body) (c.group_at.ensures.value x ts)
    (c.in-Some.ensures.value x ts)
    (c.headed_method.ensures.written e vMethod.Method false c.args.is_generator refl
    (subst (λ (label : NodeKind). IsTyped x ts label (part p 0) (between false p) vMethod.Method false
    c.args.is_generator) (sym c.typed_label.ensures) (method_labels x ts c.args.is_generator p)) by knows known)
