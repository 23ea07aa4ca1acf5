-- The digits end where those that are left do.
use Rattle.std.proofs.Common.{◌≡◌, ◌≤◌, length}
use Rattle.es_literal.specs.spelling.Numbers.{decimals_rest}
use Rattle.es_literal.proofs.spelling.number.decimals_rest.Given as goal

abbrev pub invariant-loop-rest : goal.invariant-loop-rest
invariant-loop-rest l = record {
  same : decimals_rest l.rest ≡ decimals_rest l.text;
  less : length l.rest ≤ length l.text;
}

abbrev pub decreases-loop-rest : goal.decreases-loop-rest
decreases-loop-rest l = length l.rest
