-- No answer of a bundle that is read comes in any case.
use Rattle.graph_bundle.proofs.BundleLemmas.{bundle_unforced}
use Rattle.import_map.proofs.json_reading_lemmas.ReadingLemmas.{IfOk-map}
use Rattle.graph_run.proofs.batches.read_once.Goals as goal

pub returns-clause-unforced : goal.returns-clause-unforced
returns-clause-unforced c =
    IfOk-map c.take_bundle.result _ _ (λ b says. bundle_unforced _ _ says.2) c.take_bundle.ensures.bundle
