use Rattle.std.proofs.Common.{◌≡◌, ◌<◌, ℕ, true, length}
use Rattle.std.specs.Prelude.{slice_index}
use Rattle.topological_order.specs.Order.{links_of, has, Links}
use Rattle.topological_order.proofs.back.back_of.Given as goal

-- the links of the nodes so far are there the other way round
pub record AreBackTo (g back : Links) (n : ℕ) : Type 0 where
  pub len : length back ≡ length g
  pub turned : (v k : ℕ) → v < n → k < length (links_of g v)
      → has (links_of back (slice_index (links_of g v) k)) v ≡ true

abbrev pub invariant-loop-node : goal.invariant-loop-node
invariant-loop-node l = AreBackTo l.links l.back.items l.node
