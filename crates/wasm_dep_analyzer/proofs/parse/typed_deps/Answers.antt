-- What was found is what the sections hold, and the tables are those of their payloads.
use Rattle.std.proofs.Common.{map}
use Rattle.std.specs.Option.{option_copied}
use Rattle.wasm_dep_analyzer.specs.Imports.{imported}
use Rattle.wasm_dep_analyzer.specs.Module.{exported}
use Rattle.wasm_dep_analyzer.specs.Steps.{found_imports, found_exports, shown_tables}
use Rattle.wasm_dep_analyzer.proofs.ModuleLemmas.{deps_are}
use Rattle.wasm_dep_analyzer.proofs.parse.typed_deps.Goals as goal

pub returns : goal.returns
returns c = λ ss h.
    deps_are c.args.skip_types ss (found_imports c.args.found.imports) (found_exports c.args.found.exports)
    (option_copied c.args.found.types) (option_copied c.args.found.functions) (option_copied c.args.found.globals)
    (map imported c.imports_or_none-imports.result.items) (shown_tables c.in_ok-tables.tables)
    (map exported c.in_ok-exports.exports.items)
    h.imports h.exports h.types h.functions h.globals
    c.imports_or_none-imports.ensures (rw (← c.deref.ensures.value) c.in_ok-tables.ensures) c.in_ok-exports.ensures
