-- What is due for the bundle, or for bytes that are none.
use Rattle.graph_run.specs.Run.{bundle}
use Rattle.import_map.proofs.json_reading_lemmas.ReadingLemmas.{IfOk-map}
use Rattle.graph_run.proofs.DueLemmas.{ends, end_due, fault_due}
use Rattle.graph_run.proofs.batches.due_batched.Goals as goal

pub due_for_end-requires : goal.due_for_end-requires
due_for_end-requires g c = ends _ _ _ _ c.build_batched.result c.build_batched.ensures.large

pub returns-in-Ok : goal.returns-in-Ok
returns-in-Ok g c =
    let (value, json, says) = c.in-Ok.ensures.bundle in
    IfOk-map c.due_for_end.result _ _
    (λ due end. bundle c.in-Ok.bundle (record { within = c.requires.within; value = value; json = json; says = says })
    (end_due _ c.in-Ok.bundle c.build_batched.result _ _ c.build_batched.ensures.graph c.build_batched.ensures.large
    end))
    c.due_for_end.ensures

pub returns-in-Err : goal.returns-in-Err
returns-in-Err g c =
    IfOk-map c.due_for_fault.result _ _
    (λ due of. fault_due _ c.args.bytes.items c.read_once.result c.in-Err.fault _ _ c.requires.within c.in-Err.is
    c.read_once.ensures.not_json c.read_once.ensures.pointer of)
    c.due_for_fault.ensures
