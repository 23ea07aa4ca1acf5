-- A unit is passed over; where none is, the digits end.
use Rattle.std.proofs.Common.{sym, ◌∙◌, arith}
use Rattle.std.proofs.lemmas.List.{take_rest}
use Rattle.es_literal.specs.spelling.Numbers.{digit_unit, digits_rest}
use Rattle.es_literal.proofs.spelling_lemmas.UnitLemmas.{RestTurn, rest_turn, rest_stops}
use Rattle.es_literal.proofs.spelling.number.digits_rest.Goals as goal

pub loop-radix-preserved : goal.loop-radix-preserved
loop-radix-preserved c =
    let t : RestTurn (digit_unit c.args.radix) c.loop-radix.rest.now _ c.args.text.now =
    rest_turn (digit_unit c.args.radix) c.digit_unit-size.result c.loop-radix.rest.now _ c.args.text.now
    c.digit_unit-size.ensures.value (omega arith) c.digit_unit-size.ensures.within
    (take_rest c.loop-radix.rest.now c.digit_unit-size.result) c.loop-radix.invariant.same
    c.loop-radix.invariant.less in
    record { same = t.same; less = t.less }

pub returns-clause-value : goal.returns-clause-value
unfolding digits_rest
returns-clause-value c =
    sym (rest_stops (digit_unit c.args.radix) c.loop-radix.rest.now
    (sym c.digit_unit-size.ensures.value ∙ c.if-size-eq0.true)) ∙ c.loop-radix.invariant.same
