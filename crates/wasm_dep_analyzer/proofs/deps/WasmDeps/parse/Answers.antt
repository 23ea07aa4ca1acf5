-- The outcome is the one that was answered, since a module has at most one; and its ranges cut the names.
use Rattle.wasm_dep_analyzer.proofs.Theorems.{outcome_is}
use Rattle.wasm_dep_analyzer.proofs.CutLemmas.{cuts_answered}
use Rattle.wasm_dep_analyzer.proofs.deps.WasmDeps.parse.Goals as goal

pub returns-clause-only : goal.returns-clause-only
returns-clause-only c =
    λ outcome reads. outcome_is c.args.options.skip_types c.args.input.now c.read_module.result outcome
    c.read_module.ensures reads

pub returns-clause-cuts : goal.returns-clause-cuts
returns-clause-cuts c =
    cuts_answered c.args.options.skip_types c.args.input.now c.read_module.result c.read_module.ensures
