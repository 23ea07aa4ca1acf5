use Rattle.dts_leaves.proofs.NumberLemmas.{own_written}
use Rattle.dts_leaves.proofs.numbers.own_up_to.Goals as goal

-- opened, no sign, the number, closed
pub returns-clause-written : goal.returns-clause-written
returns-clause-written c = λ e x ts.
    let f = c.close_node.ensures.before e in
    let g = c.token.ensures.before f in
    let h = c.absent.ensures.before g in
    let i = c.open-place.ensures.before h in
    own_written x ts _ (c.gone.ensures.written i x ts) (c.open-place.ensures.written h) (c.open-place.ensures.place h)
    (c.absent.ensures.written g x ts) (c.token.ensures.written f x ts) (c.close_node.ensures.written e)
