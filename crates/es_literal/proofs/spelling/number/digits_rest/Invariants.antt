-- The digits end where those that are left do.
use Rattle.std.proofs.Common.{◌≡◌, ◌≤◌, length}
use Rattle.es_literal.specs.spelling.Units.{units_rest}
use Rattle.es_literal.specs.spelling.Numbers.{digit_unit}
use Rattle.es_literal.proofs.spelling.number.digits_rest.Given as goal

abbrev pub invariant-loop-radix : goal.invariant-loop-radix
invariant-loop-radix l = record {
  same : units_rest (digit_unit l.radix) 0 l.rest ≡ units_rest (digit_unit l.radix) 0 l.text;
  less : length l.rest ≤ length l.text;
}

abbrev pub decreases-loop-radix : goal.decreases-loop-radix
decreases-loop-radix l = length l.rest
