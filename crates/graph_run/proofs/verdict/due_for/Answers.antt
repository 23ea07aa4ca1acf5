-- What is due for the bundle, or for bytes that are none.
use Rattle.graph_run.specs.Run.{bundle}
use Rattle.graph_bundle.proofs.BundleLemmas.{bundle_unforced}
use Rattle.import_map.proofs.json_reading_lemmas.ReadingLemmas.{IfOk-map}
use Rattle.graph_run.proofs.DueLemmas.{ends, end_due, fault_due}
use Rattle.graph_run.proofs.verdict.due_for.Goals as goal

pub build-requires : goal.build-requires
build-requires c = bundle_unforced _ _ c.in-Ok.ensures.bundle.2

pub due_for_end-requires : goal.due_for_end-requires
due_for_end-requires c = ends _ _ _ _ c.build.result c.build.ensures.large

pub returns-in-Ok : goal.returns-in-Ok
returns-in-Ok c =
    let (value, json, says) = c.in-Ok.ensures.bundle in
    IfOk-map c.due_for_end.result _ _
    (λ due end. bundle c.in-Ok.bundle (record { within = c.requires; value = value; json = json; says = says })
    (end_due _ c.in-Ok.bundle c.build.result _ _ c.build.ensures.graph c.build.ensures.large end))
    c.due_for_end.ensures

pub returns-in-Err : goal.returns-in-Err
returns-in-Err c =
    IfOk-map c.due_for_fault.result _ _
    (λ due of. fault_due _ c.args.bytes.now c.read_bundle.result c.in-Err.fault _ _ c.requires c.in-Err.is
    c.read_bundle.ensures.not_json c.read_bundle.ensures.pointer of)
    c.due_for_fault.ensures
