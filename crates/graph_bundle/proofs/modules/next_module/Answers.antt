-- The module stands at its number.
use Rattle.std.proofs.Common.{◌∙◌, ap, ℕ, decimal}
use Rattle.serde_json.specs.View.{view}
use Rattle.import_map.specs.json_reading.Reading.{under}
use Rattle.import_map.proofs.json_reading_lemmas.ReadingLemmas.{IfOk-map}
use Rattle.graph_builder.specs.ByText.{keys_at}
use Rattle.graph_bundle.specs.Bundle.{module_after}
use Rattle.graph_bundle.proofs.modules.next_module.Goals as goal

pub returns : goal.returns
returns c =
    IfOk-map c.under_number.result _ _
    (λ r is. is ∙ ap (under (decimal c.len.result)) c.in_ok-reading.ensures
    ∙ ap (λ (n : ℕ). under (decimal n) (module_after (keys_at c.args.modules.now) (view c.args.value.now)))
    c.len.ensures.len) c.under_number.ensures
