use Rattle.std.proofs.Common.{◌≡◌, take}
use Rattle.graph_builder.proofs.unlogged_loader.all_of.Given as goal

-- those so far
abbrev pub invariant-loop-number : goal.invariant-loop-number
invariant-loop-number l = l.all.items ≡ take l.number l.modules
