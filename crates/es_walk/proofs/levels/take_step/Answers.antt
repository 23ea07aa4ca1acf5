use Rattle.std.proofs.Common.{arith}
use Rattle.es_walk.specs.Rows.{parts_of}
use Rattle.es_walk.specs.Left.{ahead}
use Rattle.es_walk.proofs.LeftLemmas.{on_ok}
use Rattle.es_walk.proofs.StepLemmas.{turns_both}
use Rattle.es_walk.proofs.levels.take_step.Goals as goal

pub returns-else-deep-eq0-clause-marks : goal.returns-else-deep-eq0-clause-marks
returns-else-deep-eq0-clause-marks g c =
    let r = g.P.Walk.rules c.args.by.now in
    on_ok c.enter_turns.result
    (λ marks. turns_both r c.args.out.now (ahead r c.args.stack.now) (ahead r c.enter_turns.new.stack) c.args.deep
    c.args.here (parts_of r c.args.parts.now.entries.now) c.in-Turns.way c.in-Turns.path c.in-Turns.turn
    c.leads-in-Turns.result c.args.step c.in-Turns.is (omega arith) c.leads-in-Turns.ensures marks)
    c.enter_turns.ensures.marks
