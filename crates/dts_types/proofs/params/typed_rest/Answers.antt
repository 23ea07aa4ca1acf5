use Rattle.dts_types.proofs.ParamLemmas.{typed_rest_some, typed_rest_none}
use Rattle.dts_types.proofs.params.typed_rest.Goals as goal

pub returns-in-Some-clause-written : goal.returns-in-Some-clause-written
returns-in-Some-clause-written c = λ e by x.
    let ts = c.args.tokens.now in
    typed_rest_some by x ts c.args.out.now c.typed_rest_param.new.out _ _ _ _ (c.in-Some.ensures.value x ts)
    (c.group_at.ensures.value x ts) (c.typed_rest_param.ensures.written e by x)

pub returns-in-None-clause-written : goal.returns-in-None-clause-written
returns-in-None-clause-written c = λ e by x.
    typed_rest_none by x c.args.tokens.now c.args.out.now _ (c.in-None.ensures.value x c.args.tokens.now)
