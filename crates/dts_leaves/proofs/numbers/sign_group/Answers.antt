use Rattle.dts_leaves.proofs.NumberLemmas.{sign_written}
use Rattle.dts_leaves.proofs.numbers.sign_group.Goals as goal

-- opened, written, closed
pub returns-clause-written : goal.returns-clause-written
returns-clause-written c = λ e x ts.
    let f = c.close_group.ensures.before e in
    let g = c.token.ensures.before f in
    sign_written x ts (c.open-group.ensures.written g) (c.open-group.ensures.place g) (c.token.ensures.written f x ts)
    (c.close_group.ensures.written e)
