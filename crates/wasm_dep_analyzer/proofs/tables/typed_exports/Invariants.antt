-- the exports so far are those of the items so far
use Rattle.std.proofs.Common.{◌≡◌, map, take}
use Rattle.wasm_dep_analyzer.specs.Exports.{listed}
use Rattle.wasm_dep_analyzer.specs.Module.{typed, exported}
use Rattle.wasm_dep_analyzer.specs.Steps.{shown_tables}
use Rattle.wasm_dep_analyzer.proofs.tables.typed_exports.Given as goal

abbrev pub invariant-loop-item : goal.invariant-loop-item
invariant-loop-item l =
    map exported l.exports.items ≡ map (typed (shown_tables l.tables)) (map listed (take l.item-index l.items))
