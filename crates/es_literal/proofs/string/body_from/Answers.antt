-- A unit is passed over; where none is, the literal ends.
use Rattle.std.proofs.Common.{sym, ◌∙◌, arith}
use Rattle.std.proofs.lemmas.List.{take_rest}
use Rattle.es_literal.specs.Strings.{string_unit}
use Rattle.es_literal.proofs.spelling_lemmas.UnitLemmas.{Turn, turn, turn_fits}
use Rattle.es_literal.proofs.StringLemmas.{end_from}
use Rattle.es_literal.proofs.string.body_from.Goals as goal

pub loop-size-preserved : goal.loop-size-preserved
loop-size-preserved c =
    let t : Turn (string_unit c.args.quote) c.loop-size.at c.args.first c.string_unit-size.result c.loop-size.rest.now
    _ c.args.text.now =
    turn (string_unit c.args.quote) c.loop-size.at c.args.first c.string_unit-size.result c.loop-size.rest.now _
    c.args.text.now
    c.string_unit-size.ensures.value (omega arith) c.string_unit-size.ensures.within
    (take_rest c.loop-size.rest.now c.string_unit-size.result) c.loop-size.invariant.end c.loop-size.invariant.rest in
    record {
      end = t.end;
      rest = t.rest;
      fits = turn_fits c.loop-size.at c.string_unit-size.result c.loop-size.rest.now _
          (take_rest c.loop-size.rest.now c.string_unit-size.result) c.string_unit-size.ensures.within
          c.loop-size.invariant.fits;
    }

pub returns : goal.returns
returns c =
    c.string_stop.ensures
    ∙ end_from c.args.quote c.loop-size.at c.args.first c.loop-size.rest.now c.args.text.now
    (sym c.string_unit-size.ensures.value ∙ c.if-size-eq0.true) c.loop-size.invariant.end c.loop-size.invariant.rest
