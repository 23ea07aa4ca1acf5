use Rattle.std.proofs.Common.{◌≡◌, map, take}
use Rattle.graph_builder.specs.Rules.{rules_of}
use Rattle.graph_builder.specs.Settling.{verdict_of}
use Rattle.graph_builder.proofs.settle.verdicts_on.Given as goal

-- a verdict on each first entry so far
abbrev pub invariant-loop-number : goal.invariant-loop-number
invariant-loop-number l = l.verdicts ≡ map (verdict_of (rules_of l.following) l.firsts) (take l.number l.values)
