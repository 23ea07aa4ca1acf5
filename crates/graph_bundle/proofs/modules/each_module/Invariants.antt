use Rattle.std.proofs.Common.{◌≡◌, [], map, drop, length}
use Rattle.serde_json.specs.View.{view}
use Rattle.import_map.proofs.json_reading_lemmas.ReadingLemmas.{prepend}
use Rattle.graph_bundle.specs.Bundle.{modules_from, specifiers}
use Rattle.graph_bundle.proofs.modules.each_module.Given as goal

-- what all values say is what those so far say, and then what the rest says
abbrev pub invariant-loop-value : goal.invariant-loop-value
invariant-loop-value l = record {
  rest : modules_from [] 0 (map view l.values)
      ≡ prepend l.modules (modules_from (specifiers l.modules) l.value-index (map view (drop l.value-index l.values)));
  counted : l.value-index ≡ length l.modules;
}
