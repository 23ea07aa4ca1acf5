-- A unit is passed over; where none is, the text ends.
use Rattle.std.proofs.Common.{sym, ◌∙◌, arith}
use Rattle.std.proofs.lemmas.List.{take_rest}
use Rattle.es_literal.specs.spelling.Templates.{template_unit}
use Rattle.es_literal.proofs.spelling_lemmas.UnitLemmas.{Turn, turn, turn_fits}
use Rattle.es_literal.proofs.spelling_lemmas.TemplateLemmas.{end_from}
use Rattle.es_literal.proofs.spelling.template.template_from.Goals as goal

pub loop-size-preserved : goal.loop-size-preserved
loop-size-preserved c =
    let t : Turn template_unit c.loop-size.at c.args.first c.template_unit-size.result c.loop-size.rest.now _
    c.args.bytes.now =
    turn template_unit c.loop-size.at c.args.first c.template_unit-size.result c.loop-size.rest.now _ c.args.bytes.now
    c.template_unit-size.ensures.value (omega arith) c.template_unit-size.ensures.within
    (take_rest c.loop-size.rest.now c.template_unit-size.result) c.loop-size.invariant.end c.loop-size.invariant.rest in
    record {
      end = t.end;
      rest = t.rest;
      fits = turn_fits c.loop-size.at c.template_unit-size.result c.loop-size.rest.now _
          (take_rest c.loop-size.rest.now c.template_unit-size.result) c.template_unit-size.ensures.within
          c.loop-size.invariant.fits;
    }

pub returns : goal.returns
returns c =
    c.template_stop.ensures
    ∙ end_from c.loop-size.at c.args.first c.loop-size.rest.now c.args.bytes.now
    (sym c.template_unit-size.ensures.value ∙ c.if-size-eq0.true) c.loop-size.invariant.end c.loop-size.invariant.rest
