use Rattle.dts_operands.proofs.CalleeLemmas.{leads_next, leads_none, under_more}
use Rattle.dts_operands.proofs.callees.last_callee.Goals as goal
use Rattle.std.proofs.Common.{arith}

-- one turn less is left
pub loop-turn-preserved : goal.loop-turn-preserved
loop-turn-preserved c =
    let below = c.in-Some.ensures.below in
    let within = c.loop-turn.invariant.1 in (
      λ by after left.
          let x = c.args.env.now.text.now in
          let ts = c.args.env.now.tokens.now in
          c.loop-turn.invariant.0 by after
          (leads_next by x ts _ _ after _ _ _ (c.in-Some.ensures.value x ts) (c.turn_callee-callee.ensures.leads by)
          left),
      omega arith,
      λ n under le. under_more _ _ n (omega arith) c.turn_callee-callee.ensures.below,
    )
