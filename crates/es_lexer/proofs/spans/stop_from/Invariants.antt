-- What is left ends where the whole does.
use Rattle.std.proofs.Common.{◌≡◌, ◌+◌, ◌<◌, ◌^◌, length}
use Rattle.es_lexer.specs.Spans.{plain_stop}
use Rattle.es_lexer.proofs.spans.stop_from.Given as goal

abbrev pub invariant-loop-rest : goal.invariant-loop-rest
invariant-loop-rest l = record {
  same : plain_stop l.at l.rest ≡ plain_stop l.first l.text;
  fits : l.at + length l.rest < 2 ^ 64;
}

abbrev pub decreases-loop-rest : goal.decreases-loop-rest
decreases-loop-rest l = length l.rest
