-- Each table that is kept is what reading gives, since memory did not run out.
use Rattle.std.proofs.Common.{◌≡◌, refl, map}
use Rattle.wasm_dep_analyzer.specs.Types.{signature_at}
use Rattle.wasm_dep_analyzer.specs.Imports.{imported}
use Rattle.wasm_dep_analyzer.specs.Module.{functions_of, globals_of, own_items}
use Rattle.wasm_dep_analyzer.specs.Steps.{items_of}
use Rattle.wasm_dep_analyzer.proofs.ModuleLemmas.{kept_is}
use Rattle.wasm_dep_analyzer.proofs.tables.read_tables.Goals as goal

pub returns : goal.returns
returns c =
    let imports = map imported c.args.imports.now in
    let functions : items_of c.in_ok-functions.functions ≡ functions_of imports c.args.functions.now =
    kept_is c.in_ok-functions.functions (functions_of imports c.args.functions.now)
    (rw c.in_ok-functions.ensures.0 c.all_functions.ensures) c.in_ok-functions.ensures.1 in
    let types : items_of c.in_ok-types.types ≡ own_items signature_at c.args.types.now =
    kept_is c.in_ok-types.types (own_items signature_at c.args.types.now)
    (rw c.in_ok-types.ensures.0 c.type_section.ensures) c.in_ok-types.ensures.1 in
    let globals : items_of c.in_ok-globals.globals ≡ globals_of imports c.args.globals.now =
    kept_is c.in_ok-globals.globals (globals_of imports c.args.globals.now)
    (rw c.in_ok-globals.ensures.0 c.all_globals.ensures) c.in_ok-globals.ensures.1 in
    rw (functions, types, globals) refl
