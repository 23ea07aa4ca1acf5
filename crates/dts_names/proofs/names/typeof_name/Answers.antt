use Rattle.dts_names.proofs.NameLemmas.{typeof_written}
use Rattle.dts_names.proofs.names.typeof_name.Goals as goal

pub returns-clause-written : goal.returns-clause-written
returns-clause-written c = λ e x ts.
    let f = c.close_form.ensures.before e in
    let g = c.named_type.ensures.before f in
    typeof_written x ts (c.open-place.ensures.written g) (c.open-place.ensures.place g)
    (c.named_type.ensures.written f x ts)
    (c.close_form.ensures.written e)
