use Rattle.dts_member_keys.proofs.KeyLemmas.{str_put}
use Rattle.dts_member_keys.proofs.keys.str_key.Goals as goal

pub returns-clause-written : goal.returns-clause-written
returns-clause-written c = λ e x ts o told.
    let f = c.dropped-2.ensures.before e in
    let g = c.leaf_node.ensures.before f in
    str_put x ts c.args.out.now.row _ _ _ c.args.at o (c.dropped.ensures.written g x ts)
    (c.leaf_node.ensures.written f x ts) (c.dropped-2.ensures.written e x ts) told
