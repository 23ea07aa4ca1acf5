-- the imports so far gave these
use Rattle.std.proofs.Common.{◌≡◌, map, take}
use Rattle.std.specs.List.{flat_map}
use Rattle.wasm_dep_analyzer.specs.Imports.{imported}
use Rattle.wasm_dep_analyzer.specs.Module.{function_number}
use Rattle.wasm_dep_analyzer.proofs.tables.imported_functions.Given as goal

abbrev pub invariant-loop-import : goal.invariant-loop-import
invariant-loop-import l = l.numbers.items ≡ flat_map function_number (map imported (take l.import-index l.imports))
