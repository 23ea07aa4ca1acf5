use Rattle.std.proofs.Common.{◌++◌, sym, ap, ◌∙◌, arith}
use Rattle.std.proofs.lemmas.List.{append-nil}
use Rattle.es_walk.specs.Walk.{found}
use Rattle.es_walk.specs.Rows.{part_in}
use Rattle.es_walk.specs.Left.{ahead, weight}
use Rattle.es_walk.proofs.LeftLemmas.{ahead_none, ahead_more, weight_more}
use Rattle.es_walk.proofs.levels.walk.Goals as goal

pub loop-frame-init : goal.loop-frame-init
loop-frame-init g c =
    let r = g.P.Walk.rules c.args.by.now in
    let whole = found (part_in r c.args.item.now) c.args.here in
    ap (λ s. c.args.out.now ++ s)
    (c.in_ok-enter.ensures.marks ∙ ap (λ s. whole ++ s) (ap (ahead r) c.new-stack.ensures ∙ ahead_none r)
    ∙ append-nil whole)

pub loop-frame-smaller : goal.loop-frame-smaller
loop-frame-smaller g c =
    let before = ap weight c.in-Some.ensures ∙ weight_more c.pop.new.self c.in-Some.frame in
    omega (arith, before, c.in_ok-advance.ensures.less)

pub loop-frame-preserved : goal.loop-frame-preserved
loop-frame-preserved g c =
    let r = g.P.Walk.rules c.args.by.now in
    c.in_ok-advance.ensures.marks
    ∙ ap (λ s. c.loop-frame.out ++ s)
    (sym (ap (ahead r) c.in-Some.ensures ∙ ahead_more r c.pop.new.self c.in-Some.frame))
    ∙ c.loop-frame.invariant

pub returns : goal.returns
returns g c =
    let r = g.P.Walk.rules c.args.by.now in
    sym (append-nil c.loop-frame.out)
    ∙ ap (λ s. c.loop-frame.out ++ s) (sym (ap (ahead r) c.in_default.ensures.0 ∙ ahead_none r))
    ∙ c.loop-frame.invariant
