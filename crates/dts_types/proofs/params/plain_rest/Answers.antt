use Rattle.dts_types.proofs.ParamLemmas.{rest_some, rest_none}
use Rattle.dts_types.proofs.params.plain_rest.Goals as goal

pub returns-in-Some-clause-written : goal.returns-in-Some-clause-written
returns-in-Some-clause-written c = λ e by x.
    rest_some by x c.args.tokens.now c.args.out.now c.plain_rest_param.new.out _ _ _
    (c.in-Some.ensures.value x c.args.tokens.now) (c.plain_rest_param.ensures.written e by x)

pub returns-in-None-clause-written : goal.returns-in-None-clause-written
returns-in-None-clause-written c = λ e by x.
    rest_none by x c.args.tokens.now c.args.out.now _ (c.in-None.ensures.value x c.args.tokens.now)
