use Rattle.std.proofs.Common.{◌∙◌}
use Rattle.es_lowering.specs.Texts.{span_of}
use Rattle.es_syntax.specs.Held.{held}
use Rattle.dts_types.proofs.ParamLemmas.{marked_placed}
use Rattle.dts_types.proofs.params.marked_param.Goals as goal

pub returns-in-Some-end_in-2-clause-written : goal.returns-in-Some-end_in-2-clause-written
returns-in-Some-end_in-2-clause-written c = λ e by x.
    let ts = c.args.tokens.now in
    let place = c.in-Some.ensures.place x ts in
    marked_placed by x ts c.args.out.now c.marked_up_to.new.out (span_of ts c.args.from c.args.to) c.args.name.now
    c.args.name.now.from _ _ _ (held x ts c.args.mark.now.entries.now) (held x ts c.args.ty.now.entries.now)
    (place.0 ∙ c.in-Some.ensures.from, place.1) (c.in-Some-end_in.ensures x ts) (c.in-Some-end_in-2.ensures x ts)
    (c.marked_up_to.ensures.written e by x)
