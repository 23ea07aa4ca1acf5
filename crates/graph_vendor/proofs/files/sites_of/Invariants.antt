use Rattle.std.proofs.Common.{◌≡◌, take, List}
use Rattle.es_site.specs.declared.site.Site.{Site}
use Rattle.graph_vendor.specs.Refused.{AreOfSites}
use Rattle.graph_vendor.proofs.files.sites_of.Given as goal

-- the sites so far are those of the edges so far
abbrev pub invariant-loop-edge : goal.invariant-loop-edge
invariant-loop-edge l = (others : List Site) → AreOfSites (take l.edge-index l.edges) others → l.sites ≡ others
