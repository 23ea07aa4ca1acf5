-- A unit is passed over; where none is, the class ends.
use Rattle.std.proofs.Common.{sym, ◌∙◌, arith}
use Rattle.std.proofs.lemmas.List.{take_rest}
use Rattle.es_literal.specs.spelling.RegExps.{class_unit}
use Rattle.es_literal.proofs.spelling_lemmas.UnitLemmas.{Turn, turn, turn_place}
use Rattle.es_literal.proofs.spelling_lemmas.RegExpLemmas.{class_ends}
use Rattle.es_literal.proofs.spelling.regexp.class_size.Goals as goal

pub loop-size-preserved : goal.loop-size-preserved
loop-size-preserved c =
    let t : Turn class_unit c.loop-size.at 1 c.class_unit-size.result c.loop-size.rest.now _ c.args.text.now =
    turn class_unit c.loop-size.at 1 c.class_unit-size.result c.loop-size.rest.now _ c.args.text.now
    c.class_unit-size.ensures.value (omega arith) c.class_unit-size.ensures.within
    (take_rest c.loop-size.rest.now c.class_unit-size.result) c.loop-size.invariant.end c.loop-size.invariant.rest in
    record {
      end = t.end;
      rest = t.rest;
      place = turn_place c.loop-size.at c.class_unit-size.result c.loop-size.rest.now _
          (take_rest c.loop-size.rest.now c.class_unit-size.result) c.class_unit-size.ensures.within
          ∙ c.loop-size.invariant.place;
    }

pub returns-clause-value : goal.returns-clause-value
returns-clause-value c =
    c.class_stop.ensures.value
    ∙ class_ends c.loop-size.at c.loop-size.rest.now c.args.text.now
    (sym c.class_unit-size.ensures.value ∙ c.if-size-eq0.true) c.loop-size.invariant.end c.loop-size.invariant.rest
