use Rattle.std.proofs.Common.{◌≡◌, map, drop, length}
use Rattle.serde_json.specs.View.{view}
use Rattle.import_map.specs.json_reading.Reading.{each_from}
use Rattle.import_map.proofs.json_reading_lemmas.ReadingLemmas.{prepend}
use Rattle.graph_policy_file.proofs.lists.each.Given as goal

-- what all say is what those so far say, and then what the rest says
abbrev pub invariant-loop-value : goal.invariant-loop-value
invariant-loop-value g l = record {
  rest : each_from g.R.Rule.says 0 (map view l.values)
      ≡ prepend l.rules (each_from g.R.Rule.says l.value-index (map view (drop l.value-index l.values)));
  counted : l.value-index ≡ length l.rules;
}
