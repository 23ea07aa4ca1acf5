use Rattle.es_syntax.specs.Held.{held, valued}
use Rattle.dts_variables.proofs.NameLemmas.{kept}
use Rattle.dts_variables.proofs.names.kept_declarator.Goals as goal

-- opened, written, closed
pub returns-clause-written : goal.returns-clause-written
returns-clause-written c = λ e x ts.
    let f = c.close_node.ensures.before e in
    let g = c.dropped_after.ensures.before f in
    let h = c.absent.ensures.before g in
    let i = c.kept_group-2.ensures.before h in
    let j = c.kept_group.ensures.before i in
    let k = c.keep_there.ensures.before j in
    kept x ts c.args.out.now.row _ _ _ _ _ _ _ _ c.args.from c.args.to (valued x ts c.args.name.now)
    (held x ts c.args.mark.now.entries.now) (held x ts c.args.ty.now.entries.now) (c.open-place.ensures.written k)
    (c.open-place.ensures.place k) (c.keep_there.ensures.written j x ts) (c.kept_group.ensures.written i x ts)
    (c.kept_group-2.ensures.written h x ts) (c.absent.ensures.written g x ts)
    (c.dropped_after.ensures.written f x ts) (c.close_node.ensures.written e)
