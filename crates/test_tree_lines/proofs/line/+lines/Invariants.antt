-- It goes down by the entries below.
use Rattle.std.proofs.Common.{◌≤◌, ◌<◌, ◌+◌, ◌*◌, length}
use Rattle.test_tree_lines.proofs.line.+lines.Given as goal

abbrev pub decreases-push_tree : goal.decreases-push_tree
decreases-push_tree l = 3 * length l.tree.now.parts.entries.now + 2

abbrev pub decreases-push_leaning : goal.decreases-push_leaning
decreases-push_leaning l = 3 * length l.parts.now.entries.now + 1

abbrev pub decreases-push_trees : goal.decreases-push_trees
decreases-push_trees l = 3 * length l.trees.now.entries.now

abbrev pub invariant-push_trees-loop-tree : goal.invariant-push_trees-loop-tree
invariant-push_trees-loop-tree l = length l.row.entries.now ≤ length l.trees.entries.now

abbrev pub decreases-push_trees-loop-tree : goal.decreases-push_trees-loop-tree
decreases-push_trees-loop-tree l = length l.row.entries.now

abbrev pub invariant-push_leaning-loop-turn : goal.invariant-push_leaning-loop-turn
invariant-push_leaning-loop-turn l = length l.row.entries.now < length l.parts.entries.now

abbrev pub decreases-push_leaning-loop-turn : goal.decreases-push_leaning-loop-turn
decreases-push_leaning-loop-turn l = length l.row.entries.now
