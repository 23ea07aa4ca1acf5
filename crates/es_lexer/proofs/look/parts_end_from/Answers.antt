-- A part is passed over; where none is, the word ends.
use Rattle.std.proofs.Common.{sym, ◌∙◌, arith}
use Rattle.std.proofs.lemmas.List.{take_rest}
use Rattle.es_literal.proofs.spelling_lemmas.UnitLemmas.{turn_place}
use Rattle.es_lexer.specs.Bytes.{word_unit}
use Rattle.es_lexer.proofs.PartLemmas.{part_turn, word_stops}
use Rattle.es_lexer.proofs.look.parts_end_from.Goals as goal

pub parts-preserved : goal.parts-preserved
parts-preserved c = record {
  end = part_turn word_unit c.parts.at c.args.first c.word_unit-size.result c.parts.rest.now _ c.args.text.now
      c.word_unit-size.ensures.value (omega arith) c.word_unit-size.ensures.within
      (take_rest c.parts.rest.now c.word_unit-size.result) c.parts.invariant.end;
  place = turn_place c.parts.at c.word_unit-size.result c.parts.rest.now _
      (take_rest c.parts.rest.now c.word_unit-size.result) c.word_unit-size.ensures.within
      ∙ c.parts.invariant.place;
  forward = omega (arith, c.parts.invariant.forward);
}

pub returns-clause-value : goal.returns-clause-value
returns-clause-value c =
    word_stops c.parts.at c.args.first c.parts.rest.now c.args.text.now
    (sym c.word_unit-size.ensures.value ∙ c.if-size-eq0.true) c.parts.invariant.end
