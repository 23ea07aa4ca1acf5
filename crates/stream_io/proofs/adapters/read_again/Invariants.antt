use Rattle.std.specs.Io.KnownBytes.{Keeps}
use Rattle.stream_io.proofs.adapters.read_again.Given as goal

-- an interrupted read consumed nothing
abbrev pub invariant-loop : goal.invariant-loop
invariant-loop g l = Keeps (g.R.Read.remaining l.initial.reader) (g.R.Read.remaining l.reader)
