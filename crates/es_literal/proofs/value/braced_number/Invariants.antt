-- The number is that of what is left behind the digits so far.
use Rattle.std.proofs.Common.{◌≡◌, ◌+◌, ◌≤◌, length}
use Rattle.es_literal.specs.Values.{braced_number}
use Rattle.es_literal.proofs.value.braced_number.Given as goal

abbrev pub invariant-loop-rest : goal.invariant-loop-rest
invariant-loop-rest l = record {
  same : braced_number l.len l.value l.rest ≡ braced_number 2 0 l.text;
  less : l.len + length l.rest ≤ 2 + length l.text;
  small : l.value ≤ 0x10FFFF;
}

abbrev pub decreases-loop-rest : goal.decreases-loop-rest
decreases-loop-rest l = length l.rest
