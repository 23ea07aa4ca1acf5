-- A part is passed over; where none is, the flags end.
use Rattle.std.proofs.Common.{sym, ◌∙◌, arith}
use Rattle.std.proofs.lemmas.List.{take_rest}
use Rattle.es_literal.proofs.spelling_lemmas.UnitLemmas.{turn_place}
use Rattle.es_lexer.specs.Bytes.{part_unit}
use Rattle.es_lexer.proofs.PartLemmas.{part_turn, flags_stop}
use Rattle.es_lexer.proofs.look.flags_end_from.Goals as goal

pub parts-preserved : goal.parts-preserved
parts-preserved c = record {
  end = part_turn part_unit c.parts.at c.args.first c.part_unit-size.result c.parts.rest.now _ c.args.text.now
      c.part_unit-size.ensures.value (omega arith) c.part_unit-size.ensures.within
      (take_rest c.parts.rest.now c.part_unit-size.result) c.parts.invariant.end;
  place = turn_place c.parts.at c.part_unit-size.result c.parts.rest.now _
      (take_rest c.parts.rest.now c.part_unit-size.result) c.part_unit-size.ensures.within
      ∙ c.parts.invariant.place;
}

pub returns : goal.returns
returns c =
    flags_stop c.parts.at c.args.first c.parts.rest.now c.args.text.now
    (sym c.part_unit-size.ensures.value ∙ c.if-size-eq0.true) c.parts.invariant.end
