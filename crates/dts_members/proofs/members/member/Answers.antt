use Rattle.std.specs.Prelude.{Option}
use Rattle.std.proofs.Common.{sym, subst}
use Rattle.es_ast.specs.declared.ast.ClassMember.{ClassMember}
use Rattle.dts_draft.specs.Written.{IfThere}
use Rattle.dts_fields.specs.Fields.{MemberMade}
use Rattle.dts_members.proofs.MemberLemmas.{member_there}
use Rattle.dts_members.proofs.members.member.Goals as goal

pub returns-in-Node-clause-written : goal.returns-in-Node-clause-written
returns-in-Node-clause-written c = λ e by knows known.
    let x = c.args.env.now.text.now in
    let ts = c.args.env.now.tokens.now in
    subst (λ (o : Option ClassMember). IfThere (MemberMade x ts by c.args.out.now c.labelled.new.out c.labelled.result)
    o)
    (sym (member_there x ts c.args.it.now c.in-Node.label c.in-Node.is))
    (c.labelled.ensures.written e c.in-Node.is by knows known)
