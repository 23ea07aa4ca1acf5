use Rattle.std.proofs.Common.{◌≡◌, drop}
use Rattle.graph_vendor.specs.Refused.{edges_cause}
use Rattle.graph_vendor.proofs.edges.edges_cause.Given as goal

-- what is left decides
abbrev pub invariant-loop-edge : goal.invariant-loop-edge
invariant-loop-edge l = edges_cause l.edges ≡ edges_cause (drop l.edge-index l.edges)
