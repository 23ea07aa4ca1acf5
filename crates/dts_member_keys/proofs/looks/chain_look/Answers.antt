use Rattle.es_syntax.specs.Held.{held}
use Rattle.dts_member_keys.proofs.LookLemmas.{chain_none, chain_sees, look_of, post_quiet}
use Rattle.dts_member_keys.proofs.looks.chain_look.Goals as goal

pub returns-then-are_non_null-clause-tells : goal.returns-then-are_non_null-clause-tells
returns-then-are_non_null-clause-tells c = λ by knows.
    let x = c.args.env.now.text.now in
    let ts = c.args.env.now.tokens.now in
    look_of by x ts c.first_look.result _ _
    (chain_sees by x ts _ _ _ (held x ts c.args.others.now.entries.now) c.are_non_null.result
    (post_quiet by x ts c.args.first.now) c.if-are_non_null.true (c.are_non_null.ensures by x ts))
    (c.first_look.ensures.tells by knows)

pub returns-clause-tells : goal.returns-clause-tells
returns-clause-tells c = λ by knows.
    let x = c.args.env.now.text.now in
    let ts = c.args.env.now.tokens.now in
    chain_none by x ts _ _ _ (held x ts c.args.others.now.entries.now) c.are_non_null.result
    (post_quiet by x ts c.args.first.now) c.if-are_non_null.false (c.are_non_null.ensures by x ts)
