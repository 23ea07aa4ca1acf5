use Rattle.std.proofs.Common.{◌≡◌, []}
use Rattle.serde_json.specs.View.{members_view}
use Rattle.graph_bundle.specs.Bundle.{headers_onto}
use Rattle.graph_bundle.proofs.module.each_header.Given as goal

-- what all members say is what those that are left say, with the headers so far
abbrev pub invariant-loop-name : goal.invariant-loop-name
invariant-loop-name l =
    headers_onto [] (members_view l.members.entries) ≡ headers_onto l.headers (members_view l.name-iterator)
