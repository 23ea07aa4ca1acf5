use Rattle.std.proofs.Common.{◌*◌, sym, length, arith}
use Rattle.es_walk.specs.Rows.{parts_of}
use Rattle.es_walk.specs.Left.{steps_of, ahead, cost}
use Rattle.es_walk.proofs.LeftLemmas.{on_ok, cost_pos, step_less}
use Rattle.es_walk.proofs.StepLemmas.{steps_none, steps_both}
use Rattle.es_walk.proofs.levels.take_steps.Goals as goal

pub returns-in-None-clause-marks : goal.returns-in-None-clause-marks
returns-in-None-clause-marks g c =
    let r = g.P.Walk.rules c.args.by.now in
    steps_none r c.args.out.now (ahead r c.args.stack.now) c.args.deep (steps_of r c.args.owner) c.args.at c.args.here
    (parts_of r c.args.parts.now.entries.now) (sym c.in-None.ensures.value)

pub returns-in_ok-put-in-Some-clause-marks : goal.returns-in_ok-put-in-Some-clause-marks
returns-in_ok-put-in-Some-clause-marks g c =
    let r = g.P.Walk.rules c.args.by.now in
    on_ok c.take_step.result
    (λ marks. steps_both r c.args.out.now c.take_step.new.out (ahead r c.args.stack.now) (ahead r c.put.new.stack)
    (ahead r c.take_step.new.stack) c.args.deep (steps_of r c.args.owner) c.args.at c.in-Some.step c.args.here
    (parts_of r c.args.parts.now.entries.now) (sym c.in-Some.ensures.value) c.in_ok-put-in-Some.ensures.marks marks)
    c.take_step.ensures.marks

pub returns-in_ok-put-in-Some-clause-less : goal.returns-in_ok-put-in-Some-clause-less
returns-in_ok-put-in-Some-clause-less g c =
    let n = length c.args.parts.now.entries.now in
    let one = step_less c.args.at (4 * cost n) c.in-Some.ensures.short in
    let pos = cost_pos n in
    on_ok c.take_step.result (λ less. omega (arith, c.in_ok-put-in-Some.ensures.less, less, one, pos))
    c.take_step.ensures.less
