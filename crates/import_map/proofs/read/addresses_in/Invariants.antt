use Rattle.std.proofs.Common.{◌≡◌, []}
use Rattle.serde_json.specs.View.{members_view}
use Rattle.import_map.specs.ImportMap.{addresses_onto}
use Rattle.import_map.proofs.read.addresses_in.Given as goal

-- what all members say is what those that are left say, with the addresses so far
abbrev pub invariant-loop-key : goal.invariant-loop-key
invariant-loop-key l =
    addresses_onto l.base [] (members_view l.members.entries)
    ≡ addresses_onto l.base l.table.entries (members_view l.key-iterator)
