use Rattle.dts_enums.proofs.EnumLemmas.{key_written}
use Rattle.dts_enums.proofs.enums.key_node.Goals as goal

-- opened, written, closed
pub returns-clause-written : goal.returns-clause-written
returns-clause-written c = λ e is x ts.
    let f = c.close_node.ensures.before e in
    let g = c.dropped.ensures.before f in
    let h = c.keep_parts.ensures.before g in
    key_written x ts c.args.label c.args.key.now c.args.to c.open-place.result _ _ _ _ _ is
    (c.open-place.ensures.written h) (c.open-place.ensures.place h) (c.keep_parts.ensures.written g x ts)
    (c.dropped.ensures.written f x ts) (c.close_node.ensures.written e)
