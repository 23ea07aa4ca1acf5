use Rattle.dts_types.proofs.ParamLemmas.{rest_placed}
use Rattle.dts_types.proofs.params.typed_rest_param.Goals as goal

pub returns-in-Some-end_in-clause-written : goal.returns-in-Some-end_in-clause-written
returns-in-Some-end_in-clause-written c = λ e by x.
    let ts = c.args.tokens.now in
    rest_placed by x ts c.args.out.now c.rest_up_to.new.out c.args.pat.now _ _ _ _ (c.in-Some.ensures.place x ts)
    (c.in-Some-end_in.ensures x ts) (c.rest_up_to.ensures.written e by x)
