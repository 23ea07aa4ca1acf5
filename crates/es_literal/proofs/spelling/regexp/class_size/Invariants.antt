-- The class ends where what is left of it does.
use Rattle.std.proofs.Common.{◌≡◌, ◌+◌, length}
use Rattle.es_literal.specs.spelling.Units.{units_end, units_rest}
use Rattle.es_literal.specs.spelling.RegExps.{class_unit}
use Rattle.es_literal.proofs.spelling.regexp.class_size.Given as goal

abbrev pub invariant-loop-size : goal.invariant-loop-size
invariant-loop-size l = record {
  end : units_end class_unit l.at 0 l.rest ≡ units_end class_unit 1 0 l.text;
  rest : units_rest class_unit 0 l.rest ≡ units_rest class_unit 0 l.text;
  place : l.at + length l.rest ≡ 1 + length l.text;
}

abbrev pub decreases-loop-size : goal.decreases-loop-size
decreases-loop-size l = length l.rest
