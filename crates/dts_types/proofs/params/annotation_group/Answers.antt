use Rattle.es_changed.specs.declared.entry.Form.TheVariants as form
use Rattle.es_changed.proofs.Written.{form_written, group_written}
use Rattle.dts_types.proofs.params.annotation_group.Goals as goal

pub returns-clause-written : goal.returns-clause-written
returns-clause-written c = λ e x ts.
    let f = c.close_group.ensures.before e in
    let g = c.close_form.ensures.before f in
    let h = c.keep.ensures.before g in
    let i = c.open-place.ensures.before h in
    group_written x ts 0 0 _ c.args.out.now.row _ _ _ _ (c.open-group.ensures.written i) (c.open-group.ensures.place i)
    (form_written x ts form.Annotation 0 0 _ _ _ _ _ _ (c.open-place.ensures.written h) (c.open-place.ensures.place h)
    (c.keep.ensures.written g x ts) (c.close_form.ensures.written f)) (c.close_group.ensures.written e)
