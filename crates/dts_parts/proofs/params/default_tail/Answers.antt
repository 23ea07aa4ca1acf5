use Rattle.std.proofs.Common.{◌∙◌}
use Rattle.dts_parts.proofs.ParamLemmas.{default_tailed}
use Rattle.dts_parts.proofs.params.default_tail.Goals as goal

-- one after the other
pub returns-clause-written : goal.returns-clause-written
returns-clause-written c = λ e by knows.
    let x = c.args.env.now.text.now in
    let ts = c.args.env.now.tokens.now in
    let f = c.absent.ensures.before e in
    let g = c.gone.ensures.before f in
    let h = c.type_group.ensures.before g in
    let i = c.optional_group.ensures.before h in
    default_tailed by x ts c.args.out.now c.keep_there.new.self c.optional_group.new.out c.type_group.new.out
    c.gone.new.self c.absent.new.self c.args.name.now _ _ _ (c.keep_there.ensures.written i x ts)
    (c.optional_group.ensures.written h x ts) (c.type_group.ensures.written g by knows)
    (c.gone.ensures.written f x ts) (c.absent.ensures.written e x ts)
    (c.optional_group.ensures.state ∙ c.keep_there.ensures.state) (c.absent.ensures.state ∙ c.gone.ensures.state)
