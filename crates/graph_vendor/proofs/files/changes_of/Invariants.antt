use Rattle.std.proofs.Common.{take}
use Rattle.graph_vendor.specs.Files.{AreLiterals}
use Rattle.graph_vendor.proofs.files.changes_of.Given as goal

-- a change for each edge so far
abbrev pub invariant-loop-number : goal.invariant-loop-number
invariant-loop-number l = AreLiterals l.graph.entries l.names 0 (take l.number l.edges) l.changes.items
