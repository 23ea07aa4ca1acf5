-- It goes down by the entries below.
use Rattle.std.proofs.Common.{◌≤◌, ◌+◌, ◌*◌, length}
use Rattle.test_typed_lines.proofs.line.+lines.Given as goal

abbrev pub decreases-push_tree : goal.decreases-push_tree
decreases-push_tree l = 2 * length l.tree.now.parts.entries.now + 1

abbrev pub decreases-push_trees : goal.decreases-push_trees
decreases-push_trees l = 2 * length l.trees.now.entries.now

abbrev pub invariant-push_trees-loop-tree : goal.invariant-push_trees-loop-tree
invariant-push_trees-loop-tree l = length l.row.entries.now ≤ length l.trees.entries.now

abbrev pub decreases-push_trees-loop-tree : goal.decreases-push_trees-loop-tree
decreases-push_trees-loop-tree l = length l.row.entries.now
