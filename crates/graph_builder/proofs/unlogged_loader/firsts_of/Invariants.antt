use Rattle.std.proofs.Common.{◌≡◌}
use Rattle.graph_builder.specs.Memory.{HasFirsts}
use Rattle.graph_builder.proofs.unlogged_loader.firsts_of.Given as goal

-- the first ones of those so far, and all of them
abbrev pub invariant-loop-url : goal.invariant-loop-url
invariant-loop-url l = record {
  firsts : HasFirsts l.yielded l.firsts;
  given : l.given.items ≡ l.yielded;
}
