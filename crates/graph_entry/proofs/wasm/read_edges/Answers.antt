use Rattle.std.proofs.Common.{◌∙◌, ap, List, map}
use Rattle.wasm_dep_analyzer.specs.declared.deps.Import.{Import}
use Rattle.wasm_dep_analyzer.specs.Imports.{imported}
use Rattle.wasm_dep_analyzer.specs.Module.{seen}
use Rattle.graph_entry.specs.Specifier.{text_of}
use Rattle.graph_entry.specs.Wasm.{wasm_resolves, wasm_dependency}
use Rattle.graph_entry.proofs.wasm.read_edges.Goals as goal

-- the edges of the imports that were read
pub returns-in_ok-edges_of-in-Ok : goal.returns-in_ok-edges_of-in-Ok
returns-in_ok-edges_of-in-Ok g c = (
  seen c.in-Ok.deps,
  c.in-Ok.ensures.read,
  c.in_ok-edges_of-in-Ok.ensures
      ∙ ap (λ (is : List Import). map
      (wasm_dependency (wasm_resolves (g.R.KindResolver.resolving_by_kind c.args.resolver.now)) (text_of c.args.specifier.now))
      (map imported is))
      c.deref.ensures.value,
)
