-- What is due is written, and which status comes.
use Rattle.std.proofs.Common.{string_bytes}
use Rattle.joravelsu_run.proofs.RunLemmas.{wrote_due, refused_for, large_for, small_for}
use Rattle.joravelsu_run.proofs.program.run_form.Goals as goal

pub returns-in-Ok-clause-written : goal.returns-in-Ok-clause-written
returns-in-Ok-clause-written g c =
    wrote_due _ _ _ _ c.in-Ok.due.status (string_bytes c.in-Ok.due.text) _ _ _ c.in-Ok.ensures.verdict
    c.in-Ok.ensures.due (rw c.as_str.ensures.value at c.finish.ensures)

pub returns-in-Ok-clause-refused : goal.returns-in-Ok-clause-refused
returns-in-Ok-clause-refused g c =
    refused_for _ _ _ _ c.in-Ok.due.status (string_bytes c.in-Ok.due.text) c.as_str.result.now _ _ _
    c.in-Ok.ensures.due c.finish.ensures _ _

pub returns-in-Ok-clause-large : goal.returns-in-Ok-clause-large
returns-in-Ok-clause-large g c =
    large_for _ _ _ _ c.in-Ok.due.status (string_bytes c.in-Ok.due.text) c.as_str.result.now _ _ _
    c.in-Ok.ensures.due c.finish.ensures _ _

pub returns-in-Ok-clause-complete : goal.returns-in-Ok-clause-complete
returns-in-Ok-clause-complete g c =
    small_for _ _ _ _ c.in-Ok.due.status (string_bytes c.in-Ok.due.text) c.as_str.result.now _ _ _
    c.in-Ok.ensures.due c.finish.ensures _ _
