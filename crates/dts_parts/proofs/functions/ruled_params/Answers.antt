use Rattle.es_syntax.specs.Held.{valued}
use Rattle.dts_parts.proofs.FunctionLemmas.{params_kept, params_ruled}
use Rattle.dts_parts.proofs.functions.ruled_params.Goals as goal

pub returns-then-ruled-clause-written : goal.returns-then-ruled-clause-written
returns-then-ruled-clause-written c = λ e by knows.
    let x = c.args.env.now.text.now in
    let ts = c.args.env.now.tokens.now in
    params_ruled by x ts c.args.out.now c.param_list.new.out _ c.args.ruled c.if-ruled.true
    (c.param_list.ensures.written e by knows)

pub returns-else-ruled-clause-written : goal.returns-else-ruled-clause-written
returns-else-ruled-clause-written c = λ e by knows.
    let x = c.args.env.now.text.now in
    let ts = c.args.env.now.tokens.now in
    params_kept by x ts c.args.out.now c.keep_there.new.self (valued x ts c.args.it.now) c.args.ruled c.if-ruled.false
    (c.keep_there.ensures.written e x ts) c.keep_there.ensures.state
