use Rattle.std.proofs.Common.{ap, ◌∙◌, length, arith}
use Rattle.es_walk.specs.Walk.{stands}
use Rattle.es_walk.specs.Rows.{parts_of, part_in}
use Rattle.es_walk.specs.Left.{ahead}
use Rattle.es_walk.proofs.LeftLemmas.{on_ok, cost_pos, cost_up}
use Rattle.es_walk.proofs.StepLemmas.{lean_none, lean_one, lean_both}
use Rattle.es_walk.proofs.levels.enter_lean.Goals as goal

pub returns-in-None-clause-marks : goal.returns-in-None-clause-marks
returns-in-None-clause-marks g c =
    let r = g.P.Walk.rules c.args.by.now in
    lean_none r (ahead r c.args.stack.now) c.args.lean (parts_of r c.args.parts.now.entries.now) c.args.here
    c.in-None.ensures.value

pub returns-in-None-first-clause-marks : goal.returns-in-None-first-clause-marks
returns-in-None-first-clause-marks g c =
    let r = g.P.Walk.rules c.args.by.now in
    lean_one r (ahead r c.args.stack.now) c.args.lean (parts_of r c.args.parts.now.entries.now)
    (part_in r c.in-Some.field-0-0) (parts_of r c.in-Some.turns.entries.now) c.args.here c.in-Some.ensures.value
    c.in-None-first.ensures.value

-- the first operand, and those in turns
pub returns-in_ok-put-in-Some-first-clause-marks : goal.returns-in_ok-put-in-Some-first-clause-marks
returns-in_ok-put-in-Some-first-clause-marks g c =
    let r = g.P.Walk.rules c.args.by.now in
    let there = c.stands-there.result in
    on_ok c.put-in-Some-first.result
    (λ marks. lean_both r (ahead r c.args.stack.now) (ahead r c.put.new.stack) (ahead r c.put-in-Some-first.new.stack)
    c.args.lean (parts_of r c.args.parts.now.entries.now) (part_in r c.in-Some.field-0-0)
    (parts_of r c.in-Some.turns.entries.now) (part_in r c.in-Some-first.field-0.0)
    (parts_of r c.in-Some-first.field-0.1.entries.now) c.args.here there
    (c.stands-there.ensures ∙ ap (λ o. stands o c.args.here) c.operands.ensures) c.in-Some.ensures.value
    c.in-Some-first.ensures.value c.in_ok-put-in-Some-first.ensures.marks marks)
    c.put-in-Some-first.ensures.marks

pub returns-in_ok-put-in-Some-first-clause-less : goal.returns-in_ok-put-in-Some-first-clause-less
returns-in_ok-put-in-Some-first-clause-less g c =
    let n = length c.args.parts.now.entries.now in
    let m = length c.in-Some.turns.entries.now in
    let up = cost_up n m (omega (arith, c.in-Some.ensures.below)) in
    let pos = cost_pos n in
    on_ok c.put-in-Some-first.result (λ less. omega (arith, c.in_ok-put-in-Some-first.ensures.less, less, up, pos))
    c.put-in-Some-first.ensures.less
