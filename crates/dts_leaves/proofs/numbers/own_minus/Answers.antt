use Rattle.dts_leaves.proofs.NumberLemmas.{minus_written}
use Rattle.dts_leaves.proofs.numbers.own_minus.Goals as goal

-- opened, the sign, the number, closed
pub returns-clause-written : goal.returns-clause-written
returns-clause-written c = λ e x ts.
    let f = c.close_node.ensures.before e in
    let g = c.token.ensures.before f in
    let h = c.sign_group.ensures.before g in
    let i = c.open-place.ensures.before h in
    minus_written x ts _ _ (c.gone.ensures.written i x ts) (c.open-place.ensures.written h)
    (c.open-place.ensures.place h)
    (c.sign_group.ensures.written g x ts) (c.token.ensures.written f x ts) (c.close_node.ensures.written e)
