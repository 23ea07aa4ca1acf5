use Rattle.std.proofs.Common.{◌≡◌, map, drop, length}
use Rattle.serde_json.specs.View.{view}
use Rattle.import_map.specs.json_reading.Reading.{each_from}
use Rattle.import_map.proofs.json_reading_lemmas.ReadingLemmas.{prepend}
use Rattle.graph_bundle.proofs.part.each.Given as goal

-- what all say is what those so far say, and then what the rest says
abbrev pub invariant-loop-value : goal.invariant-loop-value
invariant-loop-value g l = record {
  rest : each_from g.P.Part.says 0 (map view l.values)
      ≡ prepend l.parts (each_from g.P.Part.says l.value-index (map view (drop l.value-index l.values)));
  counted : l.value-index ≡ length l.parts;
}
