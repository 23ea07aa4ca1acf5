use Rattle.dts_member_keys.proofs.KeyLemmas.{chain_written}
use Rattle.dts_member_keys.proofs.keys.symbol_chain.Goals as goal

-- opened, written, closed
pub returns-clause-written : goal.returns-clause-written
returns-clause-written c = λ e x ts.
    let f = c.close_node.ensures.before e in
    let g = c.dropped.ensures.before f in
    let h = c.absent.ensures.before g in
    let i = c.keep_there-2.ensures.before h in
    let j = c.keep_there.ensures.before i in
    chain_written x ts c.args.out.now.row _ _ _ _ _ _ _ c.args.chain.now c.args.base.now c.args.first.now
    (c.open-place.ensures.written j) (c.open-place.ensures.place j) (c.keep_there.ensures.written i x ts)
    (c.keep_there-2.ensures.written h x ts) (c.absent.ensures.written g x ts) (c.dropped.ensures.written f x ts)
    (c.close_node.ensures.written e)
