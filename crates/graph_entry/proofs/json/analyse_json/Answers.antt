use Rattle.std.proofs.Common.{◌∙◌, ap}
use Rattle.source_text.specs.module_text.ModuleText.{without_mark}
use Rattle.graph_entry.specs.Json.{json_module, with_json}
use Rattle.graph_entry.proofs.json.analyse_json.Goals as goal

-- the module of the text, less its mark
pub returns-in-Ok : goal.returns-in-Ok
returns-in-Ok c =
    let read = c.in-Ok.ensures in
    with_json read.1 (ap json_module (c.without_mark.ensures ∙ ap without_mark read.0))
