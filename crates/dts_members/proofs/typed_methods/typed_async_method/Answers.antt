use Rattle.std.specs.Prelude.{true}
use Rattle.std.proofs.Common.{refl}
use Rattle.es_ast.specs.declared.ts.leaf.MethodKind.TheVariants as vMethod
use Rattle.es_lowering.specs.Value.{group, is_there}
use Rattle.es_lowering.specs.Texts.{span_of}
use Rattle.es_syntax.specs.Held.{held, valued}
use Rattle.dts_members.proofs.MemberLemmas.{async_label}
use Rattle.dts_members.proofs.TypedLemmas.{typed_member}
use Rattle.dts_members.proofs.typed_methods.typed_async_method.Goals as goal

pub returns-in-Some-clause-written : goal.returns-in-Some-clause-written
returns-in-Some-clause-written c = λ e by knows known.
    let x = c.args.env.now.text.now in
    let ts = c.args.env.now.tokens.now in
    let p = held x ts c.args.it.now.parts.entries.now in
    typed_member by x ts c.args.out.now c.headed_method.new.out c.headed_method.result vMethod.Method true
    (is_there (group p 1)) (span_of ts c.args.it.now.from c.args.it.now.to) p 2
    (held x ts c.group_at.result.entries.now) (valued x ts c.in-Some.body) (c.group_at.ensures.value x ts)
    (c.in-Some.ensures.value x ts)
    (c.headed_method.ensures.written e vMethod.Method true (is_there (group p 1)) refl (async_label x ts p) by knows
    known)
