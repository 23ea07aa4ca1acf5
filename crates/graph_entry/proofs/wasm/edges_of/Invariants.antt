use Rattle.std.proofs.Common.{◌≡◌, map, take}
use Rattle.wasm_dep_analyzer.specs.Imports.{imported}
use Rattle.graph_entry.specs.Specifier.{text_of}
use Rattle.graph_entry.specs.Wasm.{wasm_resolves, wasm_dependency}
use Rattle.graph_entry.proofs.wasm.edges_of.Given as goal

-- one edge for each import so far, in order
abbrev pub invariant-loop-import : goal.invariant-loop-import
invariant-loop-import g l =
    l.edges
    ≡ map (wasm_dependency (wasm_resolves (g.R.KindResolver.resolving_by_kind l.resolver)) (text_of l.specifier))
    (map imported (take l.import-index l.imports))
