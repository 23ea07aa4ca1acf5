use Rattle.std.proofs.Common.{◌≡◌, ℕ, length}
use Rattle.std.specs.Prelude.{◌&&◌, nat_lt}
use Rattle.topological_order.specs.Order.{Links, links_of, has}
use Rattle.strong_components.proofs.reverse.reversed.Given as goal

-- exactly the links of the nodes so far are there the other way round
pub record AreBackTo (g back : Links) (n : ℕ) : Type 0 where
  pub len : length back ≡ length g
  pub turned : (u w : ℕ) → has (links_of back u) w ≡ (nat_lt w n && has (links_of g w) u)

abbrev pub invariant-loop-node : goal.invariant-loop-node
invariant-loop-node l = AreBackTo l.links l.back.items l.node
