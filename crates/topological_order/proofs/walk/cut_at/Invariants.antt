use Rattle.std.proofs.Common.{◌≡◌, ◌++◌, List, ℕ, true, length}
use Rattle.topological_order.specs.Order.{Link, has, nodes}
use Rattle.topological_order.proofs.walk.cut_at.Given as goal

-- the rest is an end of the walk, and has the node
pub record IsEnd (walk rest : List Link) (node : ℕ) : Type 0 where
  pub front : List Link
  pub split : walk ≡ front ++ rest
  pub there : has (nodes rest) node ≡ true

abbrev pub invariant-loop-first : goal.invariant-loop-first
invariant-loop-first l = IsEnd l.walk l.rest l.node

abbrev pub decreases-loop-first : goal.decreases-loop-first
decreases-loop-first l = length l.rest
