use Rattle.std.proofs.Common.{◌-◌, ◌+◌, ◌≡◌, ◌≤◌, vec_len}
use Rattle.std.specs.Io.KnownBytes.{Consumes}
use Rattle.counted_io.specs.Transfer.{input_limit}
use Rattle.counted_io.proofs.transfer.read_all.Given as goal

-- the bytes so far are those that the source gave, no read failed, and the chunk keeps its size
abbrev pub invariant-parts : goal.invariant-parts
invariant-parts g l = record {
  within : vec_len l.bytes ≤ input_limit + 1;
  chunk : vec_len l.chunk ≡ 65536;
  given : Consumes (g.S.Source.left l.initial.source) (g.S.Source.left l.source) l.bytes.items;
  count : g.S.Source.faults l.source ≡ g.S.Source.faults l.initial.source;
}

abbrev pub decreases-parts : goal.decreases-parts
decreases-parts g l = input_limit + 1 - vec_len l.bytes
