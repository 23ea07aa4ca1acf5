use Rattle.dts_keys.proofs.KeyLemmas.{name_written}
use Rattle.dts_keys.proofs.keys.name_key.Goals as goal

-- opened, written, closed
pub returns-clause-written : goal.returns-clause-written
returns-clause-written c = λ e env x ts.
    let f = c.close_form.ensures.before e in
    let g = c.leaf_form.ensures.before f in
    let h = c.gone.ensures.before g in
    name_written env x ts _ (c.open-place.ensures.written h) (c.open-place.ensures.place h)
    (c.gone.ensures.written g x ts)
    (c.leaf_form.ensures.written f x ts) (c.close_form.ensures.written e)
