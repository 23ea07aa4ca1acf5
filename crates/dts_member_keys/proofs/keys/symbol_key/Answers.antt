use Rattle.dts_member_keys.proofs.KeyLemmas.{symbol_put}
use Rattle.dts_member_keys.proofs.keys.symbol_key.Goals as goal

-- opened, written, closed
pub returns-clause-written : goal.returns-clause-written
returns-clause-written c = λ e x ts o told.
    let f = c.close_node.ensures.before e in
    let g = c.dropped-2.ensures.before f in
    let h = c.symbol_chain.ensures.before g in
    let i = c.dropped.ensures.before h in
    symbol_put x ts c.args.out.now.row _ _ _ _ _ _ _ _ c.args.chain.now c.args.base.now c.args.first.now o
    (c.open-place.ensures.written i) (c.open-place.ensures.place i) (c.dropped.ensures.written h x ts)
    (c.symbol_chain.ensures.written g x ts) (c.dropped-2.ensures.written f x ts) (c.close_node.ensures.written e) told
