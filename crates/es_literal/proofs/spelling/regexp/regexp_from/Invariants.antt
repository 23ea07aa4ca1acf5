-- The body ends where what is left of it does.
use Rattle.std.proofs.Common.{◌≡◌, ◌+◌, ◌≤◌, length}
use Rattle.es_literal.specs.spelling.Units.{units_end, units_rest}
use Rattle.es_literal.specs.spelling.RegExps.{body_unit}
use Rattle.es_literal.proofs.spelling.regexp.regexp_from.Given as goal

abbrev pub invariant-loop-size : goal.invariant-loop-size
invariant-loop-size l = record {
  end : units_end body_unit l.at 0 l.rest ≡ units_end body_unit l.first 0 l.text;
  rest : units_rest body_unit 0 l.rest ≡ units_rest body_unit 0 l.text;
  forward : l.first ≤ l.at;
  place : l.at + length l.rest ≡ l.first + length l.text;
}

abbrev pub decreases-loop-size : goal.decreases-loop-size
decreases-loop-size l = length l.rest
