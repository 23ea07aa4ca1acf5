-- What is due is written, and which status comes.
use Rattle.std.proofs.Common.{string_bytes}
use Rattle.graph_run.specs.declared.words.words.Form.TheVariants.{Make, Sum}
use Rattle.graph_run.specs.declared.status.Status.TheVariants.{Done, BuildRefused, BadInput}
use Rattle.graph_run.specs.Run.{form, IsRefused, IsLargeInput, IsSmallInput}
use Rattle.graph_run.proofs.RunLemmas.{wrote_due, wrote_usage, refused_for, large_for, small_for, made_for, summed_for, none_always, none_reading}
use Rattle.graph_run.proofs.DueLemmas.{unread_of}
use Rattle.graph_run.proofs.program.run.Goals as goal

-- ---- the words are no form

pub returns-in_default-clause-written : goal.returns-in_default-clause-written
returns-in_default-clause-written g c = wrote_usage _ _ _ _ _ _ _ c.in_default.ensures.form c.finish.ensures

pub returns-in_default-clause-refused : goal.returns-in_default-clause-refused
returns-in_default-clause-refused g c = none_reading IsRefused _ _ _ _ _ _ _ BadInput c.in_default.ensures.form

pub returns-in_default-clause-large : goal.returns-in_default-clause-large
returns-in_default-clause-large g c =
    none_reading IsLargeInput _ _ _ _ _ _ _ BuildRefused c.in_default.ensures.form

pub returns-in_default-clause-complete : goal.returns-in_default-clause-complete
returns-in_default-clause-complete g c = none_reading IsSmallInput _ _ _ _ _ _ _ Done c.in_default.ensures.form

pub returns-in_default-clause-made : goal.returns-in_default-clause-made
returns-in_default-clause-made g c n = none_always _ (Make n) _ _ _ _ _ Done c.in_default.ensures.form

pub returns-in_default-clause-summed : goal.returns-in_default-clause-summed
returns-in_default-clause-summed g c n = none_always _ (Sum n) _ _ _ _ _ Done c.in_default.ensures.form

-- ---- what is due for a form was found

pub returns-in-Ok-clause-written : goal.returns-in-Ok-clause-written
returns-in-Ok-clause-written g c =
    wrote_due _ _ _ _ c.in-Ok.due.status (string_bytes c.in-Ok.due.text) _ _ _ c.in-Ok.ensures.verdict
    (form c.in-Some.form c.in-Some.ensures.form c.in-Ok.ensures.due)
    (rw c.as_str.ensures.value at c.finish-in-Ok.ensures)

pub returns-in-Ok-clause-refused : goal.returns-in-Ok-clause-refused
returns-in-Ok-clause-refused g c =
    refused_for _ c.in-Some.form c.in-Some.ensures.form _ _ _ c.in-Ok.due.status (string_bytes c.in-Ok.due.text)
    c.as_str.result.now _ _ _ c.in-Ok.ensures.due c.finish-in-Ok.ensures _ _

pub returns-in-Ok-clause-large : goal.returns-in-Ok-clause-large
returns-in-Ok-clause-large g c =
    large_for _ c.in-Some.form c.in-Some.ensures.form _ _ _ c.in-Ok.due.status (string_bytes c.in-Ok.due.text)
    c.as_str.result.now _ _ _ c.in-Ok.ensures.due c.finish-in-Ok.ensures _ _

pub returns-in-Ok-clause-complete : goal.returns-in-Ok-clause-complete
returns-in-Ok-clause-complete g c =
    small_for _ c.in-Some.form c.in-Some.ensures.form _ _ _ c.in-Ok.due.status (string_bytes c.in-Ok.due.text)
    c.as_str.result.now _ _ _ c.in-Ok.ensures.due c.finish-in-Ok.ensures _ _

pub returns-in-Ok-clause-made : goal.returns-in-Ok-clause-made
returns-in-Ok-clause-made g c =
    made_for _ c.in-Some.form c.in-Some.ensures.form _ _ _ c.in-Ok.due.status (string_bytes c.in-Ok.due.text)
    c.as_str.result.now _ _ _ c.in-Ok.ensures.due c.finish-in-Ok.ensures _ _

pub returns-in-Ok-clause-summed : goal.returns-in-Ok-clause-summed
returns-in-Ok-clause-summed g c =
    summed_for _ c.in-Some.form c.in-Some.ensures.form _ _ _ c.in-Ok.due.status (string_bytes c.in-Ok.due.text)
    c.as_str.result.now _ _ _ c.in-Ok.ensures.due c.finish-in-Ok.ensures _ _

pub returns-in-Ok-clause-unread : goal.returns-in-Ok-clause-unread
returns-in-Ok-clause-unread g c none =
    c.find_due.ensures.unread (unread_of _ c.in-Some.form c.in-Some.ensures.form none)

-- ---- or nothing was

pub returns-in-Err-clause-unread : goal.returns-in-Err-clause-unread
returns-in-Err-clause-unread g c none =
    c.find_due.ensures.unread (unread_of _ c.in-Some.form c.in-Some.ensures.form none)
