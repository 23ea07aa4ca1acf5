-- the imports so far gave these
use Rattle.std.proofs.Common.{◌≡◌, map, take}
use Rattle.std.specs.List.{flat_map}
use Rattle.wasm_dep_analyzer.specs.Imports.{imported}
use Rattle.wasm_dep_analyzer.specs.Module.{global_import}
use Rattle.wasm_dep_analyzer.proofs.tables.imported_globals.Given as goal

abbrev pub invariant-loop-import : goal.invariant-loop-import
invariant-loop-import l = l.globals.items ≡ flat_map global_import (map imported (take l.import-index l.imports))
