use Rattle.dts_member_keys.proofs.KeyLemmas.{name_put}
use Rattle.dts_member_keys.proofs.keys.name_key.Goals as goal

-- opened, written, closed
pub returns-clause-written : goal.returns-clause-written
returns-clause-written c = λ e x ts o told.
    let f = c.close_node.ensures.before e in
    let g = c.dropped-2.ensures.before f in
    let h = c.keep_there.ensures.before g in
    let i = c.dropped.ensures.before h in
    name_put x ts c.args.out.now.row _ _ _ _ _ _ _ _ c.args.name.now o (c.open-place.ensures.written i)
    (c.open-place.ensures.place i) (c.dropped.ensures.written h x ts) (c.keep_there.ensures.written g x ts)
    (c.dropped-2.ensures.written f x ts) (c.close_node.ensures.written e) told
