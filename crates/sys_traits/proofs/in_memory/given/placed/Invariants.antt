use Rattle.std.proofs.Common.{◌≡◌, ◌≤◌, length, drop}
use Rattle.sys_traits.specs.Memory.{placed_files}
use Rattle.sys_traits.proofs.in_memory.given.placed.Given as goal

abbrev pub invariant-loop-at : goal.invariant-loop-at
invariant-loop-at l = record {
  within : l.at ≤ length l.files;
  so_far : l.placed ≡ placed_files l.folder (drop l.at l.files);
}

abbrev pub decreases-loop-at : goal.decreases-loop-at
decreases-loop-at l = l.at
