-- A walk goes down by the entries below; what is left of a chain is as harmless as all of it.
use Rattle.std.proofs.Common.{◌≤◌, length, ◌+◌, ◌*◌}
use Rattle.es_syntax.specs.Held.{held}
use Rattle.cjs_looks.proofs.Harms.{PostsLeft}
use Rattle.cjs_looks.proofs.harmless.+harmless.Given as goal

abbrev pub decreases-is_harmless : goal.decreases-is_harmless
decreases-is_harmless l = 8 * length l.it.now.parts.entries.now + 5

abbrev pub decreases-call_harmless : goal.decreases-call_harmless
decreases-call_harmless l = 8 * length l.it.now.parts.entries.now + 4

abbrev pub decreases-posts_harmless : goal.decreases-posts_harmless
decreases-posts_harmless l = 8 * length l.posts.now.entries.now + 2

abbrev pub decreases-turn_harmless : goal.decreases-turn_harmless
decreases-turn_harmless l = 8 * length l.turn.now.parts.entries.now + 1

abbrev pub decreases-post_harmless : goal.decreases-post_harmless
decreases-post_harmless l = 8 * length l.it.now.parts.entries.now + 6

-- ---- what is left of the parts
abbrev pub invariant-posts_harmless-loop-turn : goal.invariant-posts_harmless-loop-turn
invariant-posts_harmless-loop-turn l =
    (length l.row.entries.now ≤ length l.posts.entries.now)
    × PostsLeft l.initial.so_far l.so_far (held l.text l.tokens l.posts.entries.now)
    (held l.text l.tokens l.row.entries.now)

abbrev pub decreases-posts_harmless-loop-turn : goal.decreases-posts_harmless-loop-turn
decreases-posts_harmless-loop-turn l = length l.row.entries.now
