use Rattle.std.proofs.Common.{ap, ◌∙◌, arith}
use Rattle.dts_overloads.specs.Left.{weight}
use Rattle.dts_overloads.proofs.WalkLemmas.{weight_more}
use Rattle.dts_overloads.proofs.walk.walk_all.Goals as goal

pub loop-frame-smaller : goal.loop-frame-smaller
loop-frame-smaller c =
    let before = ap weight c.in-Some.ensures ∙ weight_more c.pop.new.self c.in-Some.frame in
    omega (arith, before, c.in_ok-advance.ensures.less)
