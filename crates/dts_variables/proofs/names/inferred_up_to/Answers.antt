use Rattle.std.proofs.Common.{sym, ◌∙◌}
use Rattle.es_syntax.specs.Held.{held}
use Rattle.dts_variables.specs.Declarators.{value_of}
use Rattle.dts_variables.proofs.NameLemmas.{inferred}
use Rattle.dts_variables.proofs.names.inferred_up_to.Goals as goal

-- opened, written, closed
pub returns-in-Some-clause-written : goal.returns-in-Some-clause-written
returns-in-Some-clause-written c = λ e ends by knows.
    let x = c.args.env.now.text.now in
    let ts = c.args.env.now.tokens.now in
    let f = c.close_node.ensures.before e in
    let g = c.gone.ensures.before f in
    let h = c.absent.ensures.before g in
    let i = c.value_group.ensures.before h in
    let j = c.made_after.ensures.before i in
    let k = c.kept_group.ensures.before j in
    let l = c.keep_there.ensures.before k in
    inferred x ts by c.args.out.now c.open-place.new.self c.keep_there.new.self c.kept_group.new.out
    c.made_after.new.out c.value_group.new.out c.absent.new.self c.gone.new.self c.close_node.new.self _ c.args.from
    c.args.to c.args.at c.args.end c.in-Some.token c.args.name.now (held x ts c.args.mark.now.entries.now)
    (value_of x ts c.args.value) (sym c.token_at.ensures ∙ c.in-Some.is) ends (c.open-place.ensures.written l)
    (c.open-place.ensures.place l) (c.keep_there.ensures.written k x ts) (c.kept_group.ensures.written j x ts)
    (c.made_after.ensures.written i x ts)
    (c.made_after.ensures.state ∙ (c.kept_group.ensures.state ∙ (c.keep_there.ensures.state
    ∙ c.open-place.ensures.state)))
    (rw c.range.ensures at (c.value_group.ensures.written h by knows)) (c.absent.ensures.written g x ts)
    (c.gone.ensures.written f x ts) (c.close_node.ensures.written e)
    (c.close_node.ensures.state ∙ (c.gone.ensures.state ∙ c.absent.ensures.state))
