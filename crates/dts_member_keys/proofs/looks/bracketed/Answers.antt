use Rattle.es_syntax.specs.Held.{valued}
use Rattle.es_syntax.specs.Roles.{expr_in}
use Rattle.dts_member_keys.proofs.LookLemmas.{depth_less, look_of}
use Rattle.dts_member_keys.proofs.looks.bracketed.Goals as goal

-- what is told of what stands inside is told of the whole
pub loop-look-preserved : goal.loop-look-preserved
loop-look-preserved c = λ by knows.
    let x = c.args.env.now.text.now in
    let ts = c.args.env.now.tokens.now in
    look_of by x ts c.look_at-look-in-Inner.result (expr_in (valued x ts c.in-Inner.inner))
    (expr_in (valued x ts c.args.it.now)) (rw c.in-Inner.is at (c.loop-look.invariant by knows))
    (c.look_at-look-in-Inner.ensures.tells by knows)

pub loop-look-smaller : goal.loop-look-smaller
loop-look-smaller c = depth_less _ _ c.in-Inner.inner c.in-Inner.is c.look_at-look-in-Inner.ensures.below

pub returns-in-Key : goal.returns-in-Key
returns-in-Key c = λ by knows. rw c.in-Key.is at (c.loop-look.invariant by knows)
