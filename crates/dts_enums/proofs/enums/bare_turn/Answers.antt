use Rattle.es_syntax.specs.Held.{valued}
use Rattle.dts_enums.proofs.EnumLemmas.{bare_written}
use Rattle.dts_enums.proofs.enums.bare_turn.Goals as goal

-- opened, written, closed
pub returns-clause-written : goal.returns-clause-written
returns-clause-written c = λ e x ts.
    let f = c.close_group.ensures.before e in
    let g = c.keep_others.ensures.before f in
    let h = c.absent.ensures.before g in
    let i = c.key_up_to.ensures.before h in
    bare_written x ts (valued x ts c.args.key.now) c.args.to c.open-turn.result _ _ _ _ _ _
    (c.open-turn.ensures.written i) (c.open-turn.ensures.place i) (c.key_up_to.ensures.written h x ts)
    (c.absent.ensures.written g x ts) (c.keep_others.ensures.written f x ts) (c.close_group.ensures.written e)
