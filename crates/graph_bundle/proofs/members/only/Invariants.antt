use Rattle.std.proofs.Common.{◌≡◌}
use Rattle.serde_json.specs.View.{members_view}
use Rattle.import_map.specs.json_reading.Reading.{only}
use Rattle.graph_bundle.proofs.members.only.Given as goal

-- what all keys say is what those that are left say
abbrev pub invariant-loop-name : goal.invariant-loop-name
invariant-loop-name g l =
    only g.K.Keys.knows (members_view l.members.entries) ≡ only g.K.Keys.knows (members_view l.name-iterator)
