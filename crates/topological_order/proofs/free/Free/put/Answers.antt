use Rattle.std.proofs.Common.{◌≡◌, ◌∙◌, ap, ℕ, List}
use Rattle.std.specs.Prelude.{◌||◌, ◌==◌}
use Rattle.topological_order.specs.Order.{has}
use Rattle.topological_order.proofs.PlacingLemmas.{has-insert}
use Rattle.topological_order.proofs.free.Free.put.Goals as goal

pub returns : goal.returns
returns c = λ v.
    ap (λ (ks : List ℕ). has ks v) c.in_ok-insert.ensures.keys ∙ has-insert c.self.inside.set.keys c.args.node v
    ∙ ap (λ (ks : List ℕ). v == c.args.node || has ks v) c.self.view_is
