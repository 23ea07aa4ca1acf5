use Rattle.dts_members.proofs.HeadLemmas.{signature_there}
use Rattle.dts_members.proofs.heads.signature_up_to.Goals as goal

pub returns-in-TypedSignature-clause-written : goal.returns-in-TypedSignature-clause-written
returns-in-TypedSignature-clause-written c = λ e by knows.
    let x = c.args.env.now.text.now in
    let ts = c.args.env.now.tokens.now in
    signature_there by x ts c.args.setter c.args.out.now c.signature_node.new.out c.args.to c.args.it.now
    c.in-Node.label
    c.in-Node.is c.in-TypedSignature.is (c.signature_node.ensures.written e by knows)
