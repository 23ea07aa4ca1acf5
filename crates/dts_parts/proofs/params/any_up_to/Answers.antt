use Rattle.std.proofs.Common.{sym, ◌∙◌}
use Rattle.dts_parts.proofs.ParamLemmas.{any_tailed}
use Rattle.dts_parts.proofs.params.any_up_to.Goals as goal

-- one after the other
pub returns-in-Some-clause-written : goal.returns-in-Some-clause-written
returns-in-Some-clause-written c = λ e ends by.
    let x = c.args.env.now.text.now in
    let ts = c.args.env.now.tokens.now in
    let f = c.absent.ensures.before e in
    let g = c.any_group.ensures.before f in
    let h = c.note.ensures.before g in
    let i = c.dropped.ensures.before h in
    let j = c.kept_group.ensures.before i in
    any_tailed by x ts c.args.out.now c.keep_there.new.self c.kept_group.new.out c.dropped.new.self c.note.new.self
    c.any_group.new.out c.absent.new.self c.args.name.now c.args.at c.args.to _ _
    (sym c.token_at.ensures ∙ c.in-Some.is) ends
    (c.keep_there.ensures.written j x ts) (c.kept_group.ensures.written i x ts) (c.dropped.ensures.written h x ts)
    c.note.ensures.row (c.any_group.ensures.written f x ts) (c.absent.ensures.written e x ts)
    (c.dropped.ensures.state ∙ (c.kept_group.ensures.state ∙ c.keep_there.ensures.state))
    (rw c.range.ensures at (c.note.ensures.noted g))
    (c.absent.ensures.state ∙ c.any_group.ensures.state)
