use Rattle.std.proofs.Common.{◌≡◌, ◌++◌, drop}
use Rattle.strong_components.specs.Condensed.{picked}
use Rattle.strong_components.proofs.find.pick.Given as goal

abbrev pub invariant-loop-node : goal.invariant-loop-node
invariant-loop-node l =
    l.found ++ picked l.roots l.least l.members (drop l.node-index l.order) ≡ picked l.roots l.least l.members l.order
