use Rattle.dts_member_keys.proofs.looks.called_look.Goals as goal

pub returns-in-Some-Chain-clause-tells : goal.returns-in-Some-Chain-clause-tells
returns-in-Some-Chain-clause-tells c = λ by knows.
    let x = c.args.env.now.text.now in
    let ts = c.args.env.now.tokens.now in
    rw (c.in-Some-Chain.ensures.form x ts, c.in-Some-Chain.field-0-is) (c.chain_look.ensures.tells by knows)
