use Rattle.std.proofs.Common.{◌∙◌}
use Rattle.dts_types.proofs.ParamLemmas.{marked_written}
use Rattle.dts_types.proofs.params.marked_up_to.Goals as goal

pub returns-clause-written : goal.returns-clause-written
returns-clause-written c = λ e by x.
    let ts = c.args.tokens.now in
    let f = c.close.ensures.before e in
    let g = c.annotation.ensures.before f in
    let h = c.mark_group.ensures.before g in
    let i = c.whole_pattern.ensures.before h in
    marked_written by x ts c.args.out.now c.open-place.new.self c.whole_pattern.new.out c.mark_group.new.out
    c.annotation.new.out c.close.new.self _ _ _ _ _ c.args.name.now _ _ (c.open-place.ensures.written i)
    (c.open-place.ensures.place i) (c.whole_pattern.ensures.written h by x) (c.mark_group.ensures.written g x ts)
    (c.annotation.ensures.written f x ts) (c.close.ensures.written e)
    (c.close.ensures.state ∙ (c.annotation.ensures.state ∙ (c.mark_group.ensures.state
    ∙ (c.whole_pattern.ensures.state ∙ c.open-place.ensures.state))))
