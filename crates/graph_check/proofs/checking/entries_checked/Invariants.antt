use Rattle.std.proofs.Common.{◌≡◌, map}
use Rattle.std.specs.List.{flat_map}
use Rattle.graph_builder.specs.Entries.{entry_pair}
use Rattle.graph_check.specs.SeenGraph.{entry_things}
use Rattle.graph_check.specs.Check.{look_of, look_on}
use Rattle.graph_check.proofs.checking.entries_checked.Given as goal

-- the entries so far were looked at
abbrev pub invariant-loop-specifier : goal.invariant-loop-specifier
invariant-loop-specifier l =
    look_of l.verdict
    ≡ look_on l.policy l.graph (look_of l.before) (flat_map entry_things (map entry_pair l.yielded))
