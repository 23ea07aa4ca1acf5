-- The blanks end where those of what is left do.
use Rattle.std.proofs.Common.{◌≡◌, ◌+◌, ◌<◌, ◌^◌, length}
use Rattle.es_lexer.specs.Look.{blanks_end}
use Rattle.es_lexer.proofs.look.blanks_end_from.Given as goal

abbrev pub invariant-loop-rest : goal.invariant-loop-rest
invariant-loop-rest l = record {
  same : blanks_end l.at l.rest ≡ blanks_end l.first l.bytes;
  fits : l.at + length l.rest < 2 ^ 64;
}

abbrev pub decreases-loop-rest : goal.decreases-loop-rest
decreases-loop-rest l = length l.rest
