-- The parts end where those of what is left do.
use Rattle.std.proofs.Common.{◌≡◌, ◌+◌, ◌≤◌, length}
use Rattle.es_literal.specs.spelling.Units.{units_end}
use Rattle.es_lexer.specs.Bytes.{word_unit}
use Rattle.es_lexer.proofs.look.parts_end_from.Given as goal

abbrev pub invariant-parts : goal.invariant-parts
invariant-parts l = record {
  end : units_end word_unit l.at 0 l.rest ≡ units_end word_unit l.first 0 l.text;
  place : l.at + length l.rest ≡ l.first + length l.text;
  forward : l.first ≤ l.at;
}

abbrev pub decreases-parts : goal.decreases-parts
decreases-parts l = length l.rest
