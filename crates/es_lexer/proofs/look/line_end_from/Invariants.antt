-- The line ends where what is left of it does.
use Rattle.std.proofs.Common.{◌≡◌, ◌+◌, ◌<◌, ◌^◌, length}
use Rattle.es_lexer.specs.Look.{line_stop}
use Rattle.es_lexer.proofs.look.line_end_from.Given as goal

abbrev pub invariant-loop-rest : goal.invariant-loop-rest
invariant-loop-rest l = record {
  same : line_stop l.at l.rest ≡ line_stop l.first l.bytes;
  fits : l.at + length l.rest < 2 ^ 64;
}

abbrev pub decreases-loop-rest : goal.decreases-loop-rest
decreases-loop-rest l = length l.rest
