use Rattle.std.proofs.Common.{◌≡◌, []}
use Rattle.std.specs.List.{AllByRecursion}
use Rattle.serde_json.specs.View.{members_view}
use Rattle.import_map.specs.ImportMap.{scopes_onto}
use Rattle.import_map.specs.Order.{IsInOrder}
use Rattle.import_map.proofs.read.scopes_in.Given as goal

-- what all members say is what those that are left say, with the scopes so far; each scope is in order
abbrev pub invariant-loop-key : goal.invariant-loop-key
invariant-loop-key l =
    (scopes_onto l.base [] (members_view l.members.entries)
    ≡ scopes_onto l.base l.scopes.entries (members_view l.key-iterator))
    × AllByRecursion (λ e. IsInOrder e.1) l.scopes.entries
