use Rattle.std.proofs.Common.{◌≡◌, map, take}
use Rattle.graph_entry.specs.Specifier.{text_of}
use Rattle.graph_entry.specs.Referrer.{referrer_resolves, referrer_edge}
use Rattle.graph_entry.proofs.referrer.edges_of.Given as goal

-- one edge for each text so far, in order
abbrev pub invariant-loop-text : goal.invariant-loop-text
invariant-loop-text g l =
    l.edges
    ≡ map (referrer_edge (referrer_resolves (g.R.KindResolver.resolving_by_kind l.resolver)) (text_of l.referrer))
    (take l.text-index l.texts)
