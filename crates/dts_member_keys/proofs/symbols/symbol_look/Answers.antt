use Rattle.dts_member_keys.proofs.LookLemmas.{symbol_told, unbound_none, unknown_none}
use Rattle.dts_member_keys.proofs.symbols.symbol_look.Goals as goal

pub returns-then-not-is_known_at-clause-tells : goal.returns-then-not-is_known_at-clause-tells
returns-then-not-is_known_at-clause-tells c = λ r is by knows.
    let x = c.args.env.now.text.now in
    let ts = c.args.env.now.tokens.now in
    unknown_none by x ts _ r _ _ _ c.is_known_at.result is c.if-not-is_known_at.true c.is_known_at.ensures

pub returns-then-not-is_symbol-clause-tells : goal.returns-then-not-is_symbol-clause-tells
returns-then-not-is_symbol-clause-tells c = λ r is by knows.
    let x = c.args.env.now.text.now in
    let ts = c.args.env.now.tokens.now in
    unbound_none by x ts _ r _ _ _ c.is_symbol.result is c.if-not-is_symbol.true (c.is_symbol.ensures by knows)

pub returns-clause-tells : goal.returns-clause-tells
returns-clause-tells c = λ r is by knows.
    let x = c.args.env.now.text.now in
    let ts = c.args.env.now.tokens.now in
    symbol_told by x ts c.args.chain.now c.args.base.now c.args.first.now r _ c.is_known_at.result c.is_symbol.result is
    c.if-not-is_known_at.false c.is_known_at.ensures c.if-not-is_symbol.false (c.is_symbol.ensures by knows)
