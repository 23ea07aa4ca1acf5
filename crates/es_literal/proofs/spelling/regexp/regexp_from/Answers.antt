-- A unit is passed over; where none is, the body ends.
use Rattle.std.proofs.Common.{sym, ◌∙◌, length, arith}
use Rattle.std.proofs.lemmas.List.{take_rest}
use Rattle.es_literal.specs.spelling.RegExps.{body_unit}
use Rattle.es_literal.proofs.spelling_lemmas.UnitLemmas.{Turn, turn, turn_place}
use Rattle.es_literal.proofs.spelling_lemmas.RegExpLemmas.{body_ends, end_moves}
use Rattle.es_literal.proofs.spelling.regexp.regexp_from.Goals as goal

pub loop-size-preserved : goal.loop-size-preserved
loop-size-preserved c =
    let t : Turn body_unit c.loop-size.at c.args.first c.body_unit-size.result c.loop-size.rest.now _ c.args.text.now =
    turn body_unit c.loop-size.at c.args.first c.body_unit-size.result c.loop-size.rest.now _ c.args.text.now
    c.body_unit-size.ensures.value (omega arith) c.body_unit-size.ensures.within
    (take_rest c.loop-size.rest.now c.body_unit-size.result) c.loop-size.invariant.end c.loop-size.invariant.rest in
    record {
      end = t.end;
      rest = t.rest;
      forward = omega (arith, c.loop-size.invariant.forward);
      place = turn_place c.loop-size.at c.body_unit-size.result c.loop-size.rest.now _
          (take_rest c.loop-size.rest.now c.body_unit-size.result) c.body_unit-size.ensures.within
          ∙ c.loop-size.invariant.place;
    }

pub returns-clause-value : goal.returns-clause-value
returns-clause-value c =
    c.body_stop.ensures.value
    ∙ body_ends c.loop-size.at c.args.first c.loop-size.rest.now c.args.text.now
    (sym c.body_unit-size.ensures.value ∙ c.if-size-eq0.true) c.loop-size.invariant.end c.loop-size.invariant.rest

pub returns-clause-within : goal.returns-clause-within
returns-clause-within c =
    end_moves c.body_stop.result c.loop-size.at c.args.first (length c.loop-size.rest.now) (length c.args.text.now)
    c.body_stop.ensures.within c.loop-size.invariant.forward c.loop-size.invariant.place
