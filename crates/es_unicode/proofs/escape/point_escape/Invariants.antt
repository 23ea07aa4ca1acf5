-- The escape ends where what is left of it does.
use Rattle.std.proofs.Common.{◌≡◌, ◌+◌, ◌≤◌, length}
use Rattle.es_unicode.specs.Escapes.{point_escape}
use Rattle.es_unicode.proofs.escape.point_escape.Given as goal

abbrev pub invariant-loop-rest : goal.invariant-loop-rest
invariant-loop-rest l = record {
  same : point_escape l.size l.value l.rest ≡ point_escape 4 l.first l.text;
  less : l.size + length l.rest ≤ 4 + length l.text;
  small : l.value ≤ 0x10FFFF;
}

abbrev pub decreases-loop-rest : goal.decreases-loop-rest
decreases-loop-rest l = length l.rest
