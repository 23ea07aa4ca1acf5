-- A way is told of what asks for one, and what is gone.
use Rattle.std.proofs.Common.{sym, ap, subst, ℕ, List, string_bytes}
use Rattle.joravelsu_run.specs.declared.asked.Telling.{Telling}
use Rattle.joravelsu_run.specs.Ways.{IsWhyText, IsGoneText}
use Rattle.joravelsu_run.specs.Due.{Tells}
use Rattle.joravelsu_run.proofs.due.told.Goals as goal

pub returns-in_ok-why_lines-in-Way-clause-due : goal.returns-in_ok-why_lines-in-Way-clause-due
returns-in_ok-why_lines-in-Way-clause-due c =
    subst (λ (t : Telling). Tells t c.args.graph.now c.done-in-Way.result.status
    (string_bytes c.done-in-Way.result.text)) (sym c.in-Way.is) (
      c.done-in-Way.ensures.status,
      subst (λ (bs : List ℕ). IsWhyText c.args.graph.now c.in-Way.following c.in-Way.to bs)
          (ap string_bytes (sym c.done-in-Way.ensures.text)) c.in_ok-why_lines-in-Way.ensures,
    )

pub returns-in_ok-gone_lines-in-Gone-clause-due : goal.returns-in_ok-gone_lines-in-Gone-clause-due
returns-in_ok-gone_lines-in-Gone-clause-due c =
    subst (λ (t : Telling). Tells t c.args.graph.now c.done-in-Gone.result.status
    (string_bytes c.done-in-Gone.result.text)) (sym c.in-Gone.is) (
      c.done-in-Gone.ensures.status,
      subst (λ (bs : List ℕ). IsGoneText c.args.graph.now c.in-Gone.following c.in-Gone.without bs)
          (ap string_bytes (sym c.done-in-Gone.ensures.text)) c.in_ok-gone_lines-in-Gone.ensures,
    )
