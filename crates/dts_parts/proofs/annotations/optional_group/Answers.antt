use Rattle.es_changed.proofs.Written.{group_written}
use Rattle.dts_parts.proofs.annotations.optional_group.Goals as goal

-- opened, written, closed
pub returns-clause-written : goal.returns-clause-written
returns-clause-written c = λ e x ts.
    let f = c.close_group.ensures.before e in
    let g = c.bare.ensures.before f in
    group_written x ts 0 0 _ c.args.out.now.row _ _ _ _ (c.open-group.ensures.written g) (c.open-group.ensures.place g)
    (c.bare.ensures.written f x ts) (c.close_group.ensures.written e)
