-- What is due for what the input says, or for bytes that say nothing for the form.
use Rattle.std.proofs.Common.{string_bytes}
use Rattle.import_map.proofs.json_reading_lemmas.ReadingLemmas.{IfOk-map}
use Rattle.graph_run.proofs.DueLemmas.{ends}
use Rattle.joravelsu_run.specs.Due.{bundle}
use Rattle.joravelsu_run.proofs.DueLemmas.{end_due, fault_due, fault_verdict}
use Rattle.joravelsu_run.proofs.due.due_for.Goals as goal

pub due_for_end-requires : goal.due_for_end-requires
due_for_end-requires g c = ends _ _ _ _ c.build_forms.result c.build_forms.ensures.large

pub returns-in-Ok-clause-due : goal.returns-in-Ok-clause-due
returns-in-Ok-clause-due g c =
    let (value, json, says) = c.in-Ok.ensures.asked in
    IfOk-map c.due_for_end.result _ _
    (λ due end. bundle c.in-Ok.asked (record { within = c.requires; value = value; json = json; says = says })
    (end_due c.in-Ok.asked c.build_forms.result _ _ c.build_forms.ensures.graph c.build_forms.ensures.large end))
    c.due_for_end.ensures.due

pub returns-in-Err-clause-due : goal.returns-in-Err-clause-due
returns-in-Err-clause-due g c =
    IfOk-map c.due_for_fault.result _ _
    (λ due of. fault_due c.args.form c.args.bytes.items c.take_asked.result c.in-Err.fault _ _ c.requires
    c.in-Err.is c.take_asked.ensures.not_json c.take_asked.ensures.pointer of)
    c.due_for_fault.ensures

pub returns-in-Err-clause-verdict : goal.returns-in-Err-clause-verdict
returns-in-Err-clause-verdict g c =
    IfOk-map c.due_for_fault.result _ _
    (λ due of. fault_verdict c.in-Err.fault due.status (string_bytes due.text) of)
    c.due_for_fault.ensures
