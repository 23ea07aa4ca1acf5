-- Words that are a form, and others.
use Rattle.std.proofs.Common.{◌≡◌}
use Rattle.graph_run.specs.declared.status.Status.TheVariants.{BuildRefused, BadInput}
use Rattle.joravelsu_run.specs.Due.{IsRefused, IsLargeInput, IsSmallInput, Ends}
use Rattle.joravelsu_run.proofs.RunLemmas.{wrote_form, wrote_usage, never_usage, for_each_form}
use Rattle.joravelsu_run.proofs.program.run.Goals as goal

pub returns-in-Some-clause-written : goal.returns-in-Some-clause-written
returns-in-Some-clause-written g c =
    wrote_form _ _ _ _ c.in-Some.form c.run_form.result (rw c.in-Some.is at c.form_of.ensures)
    c.run_form.ensures.written

pub returns-in-Some-clause-usage : goal.returns-in-Some-clause-usage
returns-in-Some-clause-usage g c = (
  λ is. absurd (never_usage _ _ _ _ c.run_form.result c.run_form.ensures.written is),
  λ both. absurd (both.0 c.in-Some.form (rw c.in-Some.is at c.form_of.ensures)),
)

pub returns-in-Some-clause-unread : goal.returns-in-Some-clause-unread
returns-in-Some-clause-unread g c = λ none. absurd (none c.in-Some.form (rw c.in-Some.is at c.form_of.ensures))

pub returns-in-Some-clause-refused : goal.returns-in-Some-clause-refused
returns-in-Some-clause-refused g c =
    for_each_form IsRefused (λ _ s. s ≡ BadInput) _ _ _ _ _ _ c.run_form.result c.in-Some.form
    (rw c.in-Some.is at c.form_of.ensures) c.run_form.ensures.refused

pub returns-in-Some-clause-large : goal.returns-in-Some-clause-large
returns-in-Some-clause-large g c =
    for_each_form IsLargeInput (λ _ s. s ≡ BuildRefused) _ _ _ _ _ _ c.run_form.result c.in-Some.form
    (rw c.in-Some.is at c.form_of.ensures) c.run_form.ensures.large

pub returns-in-Some-clause-complete : goal.returns-in-Some-clause-complete
returns-in-Some-clause-complete g c =
    for_each_form IsSmallInput Ends _ _ _ _ _ _ c.run_form.result c.in-Some.form
    (rw c.in-Some.is at c.form_of.ensures) c.run_form.ensures.complete

pub returns-in-None-clause-written : goal.returns-in-None-clause-written
returns-in-None-clause-written g c =
    wrote_usage _ _ _ _ _ _ _ (rw c.in-None.is at c.form_of.ensures) c.finish.ensures

pub returns-in-None-clause-refused : goal.returns-in-None-clause-refused
returns-in-None-clause-refused g c = λ f is. absurd ((rw c.in-None.is at c.form_of.ensures) f is)

pub returns-in-None-clause-large : goal.returns-in-None-clause-large
returns-in-None-clause-large g c = λ f is. absurd ((rw c.in-None.is at c.form_of.ensures) f is)

pub returns-in-None-clause-complete : goal.returns-in-None-clause-complete
returns-in-None-clause-complete g c = λ f is. absurd ((rw c.in-None.is at c.form_of.ensures) f is)
