-- What the parts still to come move, all move.
use Rattle.std.proofs.Common.{ℕ, List, length}
use Rattle.es_syntax.specs.Held.{held}
use Rattle.es_expr_spans.specs.Spans.{Moves}
use Rattle.es_expr_spans.proofs.chain.posts_end.Given as goal

abbrev pub invariant-loop-turn : goal.invariant-loop-turn
invariant-loop-turn l =
    (x : List ℕ) (result : ℕ) → Moves (held x l.tokens l.row.entries.now) l.end result
    → Moves (held x l.tokens l.posts.entries.now) l.before result

abbrev pub decreases-loop-turn : goal.decreases-loop-turn
decreases-loop-turn l = length l.row.entries.now
