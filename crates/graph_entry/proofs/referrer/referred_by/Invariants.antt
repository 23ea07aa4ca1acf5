use Rattle.std.proofs.Common.{◌≡◌, map, take}
use Rattle.graph_entry.specs.Referrer as spec
use Rattle.graph_entry.specs.Referrer.{referrer_resolves}
use Rattle.graph_entry.proofs.referrer.referred_by.Given as goal

-- each referrer so far with its edges
abbrev pub invariant-loop-place : goal.invariant-loop-place
invariant-loop-place g l =
    l.made ≡ map (spec.referred_by (referrer_resolves (g.R.KindResolver.resolving_by_kind l.resolver))) (take l.place-index l.places)
