-- The literal ends where what is left of it does.
use Rattle.std.proofs.Common.{◌≡◌, ◌+◌, ◌<◌, ◌^◌, length}
use Rattle.es_literal.specs.spelling.Units.{units_end, units_rest}
use Rattle.es_literal.specs.Strings.{string_unit}
use Rattle.es_literal.proofs.string.body_from.Given as goal

abbrev pub invariant-loop-size : goal.invariant-loop-size
invariant-loop-size l = record {
  end : units_end (string_unit l.quote) l.at 0 l.rest ≡ units_end (string_unit l.quote) l.first 0 l.text;
  rest : units_rest (string_unit l.quote) 0 l.rest ≡ units_rest (string_unit l.quote) 0 l.text;
  fits : l.at + length l.rest < 2 ^ 64;
}

abbrev pub decreases-loop-size : goal.decreases-loop-size
decreases-loop-size l = length l.rest
