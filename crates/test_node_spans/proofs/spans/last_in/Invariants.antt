-- What is left gets shorter.
use Rattle.std.proofs.Common.{length}
use Rattle.test_node_spans.proofs.spans.last_in.Given as goal

abbrev pub decreases-loop-turn : goal.decreases-loop-turn
decreases-loop-turn l = length l.row.entries.now
