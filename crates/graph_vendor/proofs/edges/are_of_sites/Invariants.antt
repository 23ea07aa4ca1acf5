use Rattle.std.proofs.Common.{drop}
use Rattle.graph_vendor.specs.Refused.{AreOfSites}
use Rattle.graph_vendor.proofs.edges.are_of_sites.Given as goal

-- what is left decides
abbrev pub invariant-loop-i : goal.invariant-loop-i
invariant-loop-i l = record {
  to : AreOfSites (drop l.i l.edges) (drop l.i l.sites) → AreOfSites l.edges l.sites;
  back : AreOfSites l.edges l.sites → AreOfSites (drop l.i l.edges) (drop l.i l.sites);
}
