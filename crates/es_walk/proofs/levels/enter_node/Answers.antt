use Rattle.std.proofs.Common.{◌++◌, sym, ap, ◌∙◌, length, arith}
use Rattle.es_walk.specs.Walk.{stands, leaning}
use Rattle.es_walk.specs.Rows.{parts_of}
use Rattle.es_walk.specs.Left.{ahead}
use Rattle.es_walk.proofs.LeftLemmas.{on_ok, cost_pos}
use Rattle.es_walk.proofs.StepLemmas.{own_none, own_some}
use Rattle.es_walk.proofs.levels.enter_node.Goals as goal

-- by the steps of its alternative
pub returns-in-None-clause-marks : goal.returns-in-None-clause-marks
returns-in-None-clause-marks g c =
    let r = g.P.Walk.rules c.args.by.now in
    let p = parts_of r c.args.parts.now.entries.now in
    on_ok c.put.result
    (λ marks. marks ∙ ap (λ s. s ++ ahead r c.args.stack.now)
    (sym (own_none r c.args.label p c.args.here c.in-None.ensures)))
    c.put.ensures.marks

pub returns-in-None-clause-less : goal.returns-in-None-clause-less
returns-in-None-clause-less g c =
    let pos = cost_pos (length c.args.parts.now.entries.now) in
    on_ok c.put.result (λ less. omega (arith, less, pos)) c.put.ensures.less

-- one that leans left
pub returns-in-Some-clause-marks : goal.returns-in-Some-clause-marks
returns-in-Some-clause-marks g c =
    let r = g.P.Walk.rules c.args.by.now in
    let p = parts_of r c.args.parts.now.entries.now in
    on_ok c.enter_operands.result
    (λ marks. marks ∙ ap (λ s. s ++ ahead r c.args.stack.now)
    (ap (leaning r c.in-Some.lean p) (c.stands.ensures ∙ ap (λ o. stands o c.args.here) c.operands.ensures)
    ∙ sym (own_some r c.args.label c.in-Some.lean p c.args.here c.in-Some.ensures)))
    c.enter_operands.ensures.marks
