use Rattle.std.proofs.Common.{take}
use Rattle.std.specs.List.{flat_map}
use Rattle.graph_entry.specs.Referrer.{referrer_resolves, Adds, led_from}
use Rattle.graph_entry.proofs.referrer.add_targets_of_all.Given as goal

-- the targets of the referrers so far were added
abbrev pub invariant-loop-place : goal.invariant-loop-place
invariant-loop-place g l =
    Adds l.initial.starts l.starts
    (flat_map (led_from (referrer_resolves (g.R.KindResolver.resolving_by_kind l.resolver))) (take l.place-index l.places))
