use Rattle.std.proofs.Common.{◌∙◌, ap, Bool, arith}
use Rattle.std.specs.Prelude.{◌||◌, ◌&&◌, ◌==◌}
use Rattle.topological_order.specs.Order.{has}
use Rattle.topological_order.proofs.OrderLemmas.{on_ok}
use Rattle.topological_order.proofs.PlacingLemmas.{moved_by}
use Rattle.topological_order.proofs.placing.Placing.advance.Goals as goal

pub returns-clause-placing : goal.returns-clause-placing
returns-clause-placing c = λ in_hand p.
    rw c.set.ensures
    (on_ok c.put_if.result _ _
    (λ is_free. moved_by c.args.links.now in_hand c.args.self.now.order c.args.self.now.placed c.args.self.now.cursor
    c.args.self.now.free c.put_if.new.self c.args.node c.counted-count.result c.targets_of-targets.result.now
    c.targets_of-targets.ensures (omega (arith, c.if-node-links.false)) c.counted-count.ensures.from
    c.counted-count.ensures.within c.counted-count.ensures.passed c.counted-count.ensures.open_yet
    (λ v. is_free v
    ∙ ap (λ (b : Bool). (v == c.args.node && b) || has c.args.self.now.free v) c.is_whole-whole.ensures) p)
    c.put_if.ensures)
