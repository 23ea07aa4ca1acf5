-- The parts end where those of what is left do.
use Rattle.std.proofs.Common.{◌≡◌, ◌+◌, ◌≤◌, length}
use Rattle.es_lexer.specs.Look.{word_end}
use Rattle.es_lexer.proofs.look.word_end_from.Given as goal

abbrev pub invariant-loop-rest : goal.invariant-loop-rest
invariant-loop-rest l = record {
  same : word_end l.at l.rest ≡ word_end l.first l.text;
  place : l.at + length l.rest ≡ l.first + length l.text;
  forward : l.first ≤ l.at;
}

abbrev pub decreases-loop-rest : goal.decreases-loop-rest
decreases-loop-rest l = length l.rest
