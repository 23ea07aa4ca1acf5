-- No answer of a bundle that is read comes in any case.
use Rattle.import_map.proofs.json_reading_lemmas.ReadingLemmas.{IfOk-map}
use Rattle.joravelsu_run.proofs.AskedLemmas.{asked_free}
use Rattle.joravelsu_run.proofs.asked.take_asked.Goals as goal

pub returns-in-Ok-clause-unforced : goal.returns-in-Ok-clause-unforced
returns-in-Ok-clause-unforced c =
    IfOk-map c.asked_or_fault.result _ _ (λ a says. asked_free _ _ a says) c.asked_or_fault.ensures.asked
