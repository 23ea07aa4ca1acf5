-- There is a plan, or a cause against it.
use Rattle.std.proofs.Common.{refl}
use Rattle.import_map.proofs.json_reading_lemmas.ReadingLemmas.{IfOk-map}
use Rattle.vendor_run.specs.Due.{planned, refused}
use Rattle.vendor_run.proofs.due.vendored.Goals as goal

pub returns-in-Ok : goal.returns-in-Ok
returns-in-Ok c = IfOk-map c.planned.result _ _ (λ due of. planned c.in-Ok.plan c.in-Ok.ensures of) c.planned.ensures

pub returns-in_ok-refused_line-in-Err-Refused : goal.returns-in_ok-refused_line-in-Err-Refused
returns-in_ok-refused_line-in-Err-Refused c =
    refused c.in-Err-Refused.cause c.in-Err-Refused.specifier
    (rw c.in-Err-Refused.field-0-is at c.in-Err-Refused.ensures) refl
    (rw c.in-Err-Refused.field-0-is at c.in_ok-refused_line-in-Err-Refused.ensures)
