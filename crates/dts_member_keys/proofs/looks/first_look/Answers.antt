use Rattle.dts_member_keys.proofs.LookLemmas.{bang_sees, other_none}
use Rattle.dts_member_keys.proofs.looks.first_look.Goals as goal

pub returns-in-NonNull-clause-tells : goal.returns-in-NonNull-clause-tells
returns-in-NonNull-clause-tells c = λ by knows.
    let x = c.args.env.now.text.now in
    let ts = c.args.env.now.tokens.now in
    bang_sees by x ts _ _ _ (rw c.in-NonNull.is at (c.further_at.ensures by x ts))

pub returns-in-Dot-clause-tells : goal.returns-in-Dot-clause-tells
returns-in-Dot-clause-tells c = λ by knows.
    let x = c.args.env.now.text.now in
    let ts = c.args.env.now.tokens.now in
    let dot = rw c.in-Dot.is at (c.further_at.ensures by x ts) in
    c.symbol_look.ensures.tells dot.range dot.is by knows

pub returns-in-Other-clause-tells : goal.returns-in-Other-clause-tells
returns-in-Other-clause-tells c = λ by knows.
    let x = c.args.env.now.text.now in
    let ts = c.args.env.now.tokens.now in
    other_none by x ts _ _ _ (rw c.in-Other.is at (c.further_at.ensures by x ts))
