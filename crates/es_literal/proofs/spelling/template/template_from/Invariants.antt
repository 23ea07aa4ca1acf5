-- The text ends where what is left of it does.
use Rattle.std.proofs.Common.{◌≡◌, ◌+◌, ◌<◌, ◌^◌, length}
use Rattle.es_literal.specs.spelling.Units.{units_end, units_rest}
use Rattle.es_literal.specs.spelling.Templates.{template_unit}
use Rattle.es_literal.proofs.spelling.template.template_from.Given as goal

abbrev pub invariant-loop-size : goal.invariant-loop-size
invariant-loop-size l = record {
  end : units_end template_unit l.at 0 l.rest ≡ units_end template_unit l.first 0 l.bytes;
  rest : units_rest template_unit 0 l.rest ≡ units_rest template_unit 0 l.bytes;
  fits : l.at + length l.rest < 2 ^ 64;
}

abbrev pub decreases-loop-size : goal.decreases-loop-size
decreases-loop-size l = length l.rest
