-- The test is asked of each export.
use Rattle.std.proofs.Common.{◌∙◌, sym, rules, tests}
use Rattle.std.proofs.lemmas.Iterator.{YieldsList-from_slice}
use Rattle.std.proofs.lemmas.Iterator.Search.{any_from_yields_List}
use Rattle.wasm_dep_analyzer.specs.declared.exports.ExportItem.{ExportItem}
use Rattle.wasm_dep_analyzer.specs.Exports.{listed, is_global}
use Rattle.wasm_dep_analyzer.proofs.ExportLemmas.{any_listed}
use Rattle.wasm_dep_analyzer.proofs.exports.has_global.Goals as goal

pub returns : goal.returns
returns c =
    any_from_yields_List (λ (y : ExportItem). is_global (listed y)) _ _ _ c.any.ensures.ran
    (YieldsList-from_slice c.args.exports.now (cc))
    (λ x b q k. search (rules, tests))
    ∙ sym (any_listed listed is_global c.args.exports.now)
