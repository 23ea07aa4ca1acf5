use Rattle.std.specs.Prelude.{false, slice_get}
use Rattle.es_lowering.specs.Texts.{span_of}
use Rattle.es_syntax.specs.Held.{held, valued}
use Rattle.dts_fields.specs.Fields.{MemberMade}
use Rattle.dts_members.proofs.MemberLemmas.{typed_accessor}
use Rattle.dts_members.proofs.TypedLemmas.{typed_member}
use Rattle.dts_members.proofs.typed_methods.typed_accessor_method.Goals as goal

pub returns-in-Some-part-clause-written : goal.returns-in-Some-part-clause-written
returns-in-Some-part-clause-written c = λ e by knows known.
    let x = c.args.env.now.text.now in
    let ts = c.args.env.now.tokens.now in
    let p = held x ts c.args.it.now.parts.entries.now in
    let r = span_of ts c.args.it.now.from c.args.it.now.to in
    typed_accessor ts (MemberMade x ts by c.args.out.now c.headed_method.new.out c.headed_method.result) r p
    c.is_kind.result (slice_get ts c.in-Some.word) x (c.in-Some.ensures x ts) c.is_kind.ensures
    (λ kind same is. typed_member by x ts c.args.out.now c.headed_method.new.out c.headed_method.result kind false false
    r p 2
    (held x ts c.group_at.result.entries.now) (valued x ts c.in-Some-part.body) (c.group_at.ensures.value x ts)
    (c.in-Some-part.ensures.value x ts)
    (c.headed_method.ensures.written e kind false false same is by knows known))
