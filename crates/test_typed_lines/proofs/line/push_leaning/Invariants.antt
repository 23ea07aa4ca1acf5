-- The turns that are left.
use Rattle.std.proofs.Common.{length}
use Rattle.test_typed_lines.proofs.line.push_leaning.Given as goal

abbrev pub decreases-loop-turn : goal.decreases-loop-turn
decreases-loop-turn l = length l.row.entries.now
