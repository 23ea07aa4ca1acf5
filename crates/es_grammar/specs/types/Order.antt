-- The parts of a plain tree stand in order, each within the range of the node that holds it.
use Rattle.std.specs.Prelude.{ℕ, ◌+◌, ◌≤◌, ◌<◌}
use Rattle.grammar_theory.specs.Plain.{Plain, node, leaf, nil, cons, mark, turn, via}

-- the tree, or the parts, stand between two tokens
abbrev pub StandsBetween : {NodeKind : Type 0} → ℕ → ℕ → Plain NodeKind → Type 0
StandsBetween from to (node l first next ps) = (from ≤ first) × (next ≤ to) × StandsBetween first next ps
StandsBetween from to (leaf s n) = (from ≤ n) × (n < to)
StandsBetween from to nil = from ≤ to
StandsBetween from to (cons p ps) = (mid : ℕ) × StandsBetween from mid p × StandsBetween mid to ps
StandsBetween from to (mark n ps) = (from ≤ n) × StandsBetween (n + 1) to ps
StandsBetween from to (turn p ps) = (mid : ℕ) × StandsBetween from mid p × StandsBetween mid to ps
StandsBetween from to (via w p) = StandsBetween from to p
