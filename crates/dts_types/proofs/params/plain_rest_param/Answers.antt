use Rattle.std.specs.Prelude.{ℕ}
use Rattle.std.proofs.Common.{ap, ◌∙◌}
use Rattle.es_changed.specs.declared.entry.Change.TheVariants as change
use Rattle.es_changed.specs.declared.entry.Form.TheVariants as form
use Rattle.es_changed.specs.Shape.{closed}
use Rattle.dts_types.proofs.ParamLemmas.{plain_rest_written}
use Rattle.dts_types.proofs.params.plain_rest_param.Goals as goal

pub returns-in-Some-clause-written : goal.returns-in-Some-clause-written
returns-in-Some-clause-written c = λ e by x.
    let ts = c.args.tokens.now in
    let f = c.close.ensures.before e in
    let g = c.absent-in-Some.ensures.before f in
    let h = c.absent.ensures.before g in
    let i = c.pattern.ensures.before h in
    let j = c.gone.ensures.before i in
    plain_rest_written by x ts c.args.out.now c.open-place.new.self c.gone.new.self c.pattern.new.out
    c.absent.new.self c.absent-in-Some.new.self c.close.new.self _ c.in-Some.from c.in-Some.to _
    c.args.pat.now (c.in-Some.ensures.place x ts)
    (c.open-place.ensures.written j) (c.open-place.ensures.place j) (c.gone.ensures.written i x ts)
    (c.pattern.ensures.written h by x) (c.absent.ensures.written g x ts) (c.absent-in-Some.ensures.written f x ts)
    (c.close.ensures.written e ∙ ap (λ (n : ℕ). closed (change.Form form.RestParam) n c.in-Some.to
    c.open-place.result c.absent-in-Some.new.self.row) c.saturating_sub.ensures)
    (c.close.ensures.state ∙ (c.absent-in-Some.ensures.state ∙ (c.absent.ensures.state ∙ (c.pattern.ensures.state
    ∙ (c.gone.ensures.state ∙ c.open-place.ensures.state)))))
