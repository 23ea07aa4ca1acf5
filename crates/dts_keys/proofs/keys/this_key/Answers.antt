use Rattle.dts_keys.proofs.KeyLemmas.{this_written}
use Rattle.dts_keys.proofs.keys.this_key.Goals as goal

-- opened, written, closed
pub returns-clause-written : goal.returns-clause-written
returns-clause-written c = λ e env x ts is.
    let f = c.close_form.ensures.before e in
    let g = c.leaf_form.ensures.before f in
    let h = c.gone.ensures.before g in
    this_written env x ts _ (c.open-place.ensures.written h) (c.open-place.ensures.place h)
    (c.gone.ensures.written g x ts)
    (c.leaf_form.ensures.written f x ts) (c.close_form.ensures.written e) is
