use Rattle.es_changed.specs.declared.entry.Form.TheVariants as form
use Rattle.es_changed.proofs.Written.{form_written}
use Rattle.dts_kept.proofs.kept.behind_readonly.Goals as goal

-- opened, written, closed
pub returns-clause-written : goal.returns-clause-written
returns-clause-written c = λ e x ts.
    let f = c.close_form.ensures.before e in
    let g = c.keep.ensures.before f in
    form_written x ts form.Readonly 0 0 _ _ _ _ _ _ (c.open-place.ensures.written g) (c.open-place.ensures.place g)
    (c.keep.ensures.written f x ts) (c.close_form.ensures.written e)
