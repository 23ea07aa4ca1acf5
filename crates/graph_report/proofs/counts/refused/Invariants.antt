use Rattle.std.proofs.Common.{◌≡◌, take}
use Rattle.std.specs.Prelude.{count_by}
use Rattle.graph_report.specs.Summary.{is_refused}
use Rattle.graph_report.proofs.counts.refused.Given as goal

-- the edges so far were counted
abbrev pub invariant-loop-edge : goal.invariant-loop-edge
invariant-loop-edge l = l.count ≡ count_by is_refused (take l.edge-index l.edges)
