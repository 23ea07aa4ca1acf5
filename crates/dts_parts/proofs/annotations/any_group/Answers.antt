use Rattle.dts_parts.proofs.GroupLemmas.{any_group}
use Rattle.dts_parts.proofs.annotations.any_group.Goals as goal

-- opened, written, closed
pub returns-clause-written : goal.returns-clause-written
returns-clause-written c = λ e x ts.
    let f = c.close_group.ensures.before e in
    let g = c.close.ensures.before f in
    let h = c.word.ensures.before g in
    let i = c.open-place.ensures.before h in
    any_group x ts c.args.out.now.row _ _ _ _ _ _ _ c.args.to (c.open-group.ensures.written i)
    (c.open-group.ensures.place i) (c.open-place.ensures.written h) (c.open-place.ensures.place h)
    (c.word.ensures.written g x ts) (c.close.ensures.written f) (c.close_group.ensures.written e)
