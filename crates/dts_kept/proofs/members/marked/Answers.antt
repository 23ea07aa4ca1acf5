use Rattle.std.specs.Prelude.{[]}
use Rattle.es_changed.specs.declared.entry.Form.TheVariants as form
use Rattle.es_changed.proofs.Written.{both_written, form_written}
use Rattle.dts_kept.proofs.members.marked.Goals as goal

-- opened, written, closed
pub returns-clause-written : goal.returns-clause-written
returns-clause-written c = λ e x ts.
    let f = c.close_form.ensures.before e in
    let g = c.keep_there.ensures.before f in
    let h = c.open-place.ensures.before g in
    both_written x ts _ _ _ [] _ (c.dropped.ensures.written h x ts)
    (form_written x ts form.ReadonlyMember 0 0 _ _ _ _ _ _ (c.open-place.ensures.written g)
    (c.open-place.ensures.place g) (c.keep_there.ensures.written f x ts) (c.close_form.ensures.written e))
