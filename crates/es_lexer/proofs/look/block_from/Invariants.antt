-- What is left of the comment tells what stands here.
use Rattle.std.proofs.Common.{◌≡◌, ◌+◌, ◌<◌, ◌^◌, false, length}
use Rattle.es_lexer.specs.Look.{block_look}
use Rattle.es_lexer.proofs.look.block_from.Given as goal

abbrev pub invariant-loop-rest : goal.invariant-loop-rest
invariant-loop-rest l = record {
  same : block_look l.start l.line l.at l.rest ≡ block_look l.start false l.first l.bytes;
  fits : l.at + length l.rest < 2 ^ 64;
}

abbrev pub decreases-loop-rest : goal.decreases-loop-rest
decreases-loop-rest l = length l.rest
