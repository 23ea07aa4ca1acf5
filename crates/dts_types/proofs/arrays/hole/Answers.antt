use Rattle.es_changed.specs.declared.entry.Form.TheVariants as form
use Rattle.es_changed.proofs.Written.{form_written}
use Rattle.dts_types.proofs.arrays.hole.Goals as goal

pub returns-clause-written : goal.returns-clause-written
returns-clause-written c = λ e x ts.
    let f = c.close_form.ensures.before e in
    let g = c.word.ensures.before f in
    form_written x ts form.Element 0 0 _ c.args.out.now.row _ _ _ _ (c.open-place.ensures.written g)
    (c.open-place.ensures.place g) (c.word.ensures.written f x ts) (c.close_form.ensures.written e)
