use Rattle.std.proofs.Common.{length, ◌-◌, ◌≡◌, ◌≤◌, take}
use Rattle.std.specs.Io.KnownBytes.{Appends}
use Rattle.counted_io.proofs.transfer.write_all.Given as goal

-- what was taken so far is the front of the text, and no write failed
abbrev pub invariant-rest : goal.invariant-rest
invariant-rest g l = record {
  within : l.at ≤ length l.bytes;
  taken : Appends (g.K.Sink.taken l.initial.sink) (g.K.Sink.taken l.sink) (take l.at l.bytes);
  count : g.K.Sink.faults l.sink ≡ g.K.Sink.faults l.initial.sink;
}

abbrev pub decreases-rest : goal.decreases-rest
decreases-rest g l = length l.bytes - l.at
