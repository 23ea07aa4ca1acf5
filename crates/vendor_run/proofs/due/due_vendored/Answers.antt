-- What is due for the bundle, or for bytes that are none.
use Rattle.std.proofs.Common.{subst, string_bytes}
use Rattle.import_map.proofs.json_reading_lemmas.ReadingLemmas.{IfOk-map}
use Rattle.vendor_report.specs.declared.wanted.Wanted.{Wanted}
use Rattle.graph_run.proofs.DueLemmas.{ends}
use Rattle.vendor_run.specs.Due.{bundle, OfEnd}
use Rattle.vendor_run.proofs.DueLemmas.{end_due, fault_due}
use Rattle.vendor_run.proofs.due.due_vendored.Goals as goal

pub due_for_end-requires : goal.due_for_end-requires
due_for_end-requires g c = ends _ _ _ _ c.build_batched-end.result c.build_batched-end.ensures.large

pub returns-in-Ok : goal.returns-in-Ok
returns-in-Ok g c =
    let (value, json, says) = c.in-Ok.ensures.bundle in
    IfOk-map c.due_for_end.result _ _
    (λ due end. bundle c.in-Ok.bundle (record { within = c.requires; value = value; json = json; says = says })
    (end_due c.args.base.now c.in-Ok.bundle c.build_batched-end.result _ _ c.build_batched-end.ensures.graph
    c.build_batched-end.ensures.large
    (subst (λ (w : Wanted). OfEnd c.args.base.now w c.build_batched-end.result due.status (string_bytes due.text))
    c.wanted_of-wanted.ensures end)))
    c.due_for_end.ensures

pub returns-in-Err : goal.returns-in-Err
returns-in-Err g c =
    IfOk-map c.due_for_fault.result _ _
    (λ due of. fault_due c.args.base.now c.args.bytes.items c.read_once.result c.in-Err.fault _ _ c.requires
    c.in-Err.is c.read_once.ensures.not_json c.read_once.ensures.pointer of)
    c.due_for_fault.ensures
