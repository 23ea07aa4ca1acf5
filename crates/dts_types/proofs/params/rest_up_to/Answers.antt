use Rattle.std.specs.Prelude.{ℕ}
use Rattle.std.proofs.Common.{ap, ◌∙◌}
use Rattle.es_changed.specs.declared.entry.Change.TheVariants as change
use Rattle.es_changed.specs.declared.entry.Form.TheVariants as form
use Rattle.es_changed.specs.Shape.{closed}
use Rattle.dts_types.proofs.ParamLemmas.{rest_written}
use Rattle.dts_types.proofs.params.rest_up_to.Goals as goal

pub returns-clause-written : goal.returns-clause-written
returns-clause-written c = λ e by x.
    let ts = c.args.tokens.now in
    let f = c.close.ensures.before e in
    let g = c.annotation.ensures.before f in
    let h = c.absent.ensures.before g in
    let i = c.pattern.ensures.before h in
    let j = c.gone.ensures.before i in
    rest_written by x ts c.args.out.now c.open-place.new.self c.gone.new.self c.pattern.new.out c.absent.new.self
    c.annotation.new.out c.close.new.self _ c.args.from c.args.to _ _ _ (c.open-place.ensures.written j)
    (c.open-place.ensures.place j) (c.gone.ensures.written i x ts) (c.pattern.ensures.written h by x)
    (c.absent.ensures.written g x ts) (c.annotation.ensures.written f x ts)
    (c.close.ensures.written e ∙ ap (λ (n : ℕ). closed (change.Form form.RestParam) n c.args.to c.open-place.result
    c.annotation.new.out.row) c.saturating_sub.ensures)
    (c.close.ensures.state ∙ (c.annotation.ensures.state ∙ (c.absent.ensures.state ∙ (c.pattern.ensures.state
    ∙ (c.gone.ensures.state ∙ c.open-place.ensures.state)))))
