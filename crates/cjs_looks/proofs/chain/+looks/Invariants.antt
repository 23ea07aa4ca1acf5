-- A walk goes down by the entries below; what is left of a chain looks as all of it does.
use Rattle.std.proofs.Common.{◌≤◌, length, ◌+◌, ◌*◌}
use Rattle.es_syntax.specs.Held.{held}
use Rattle.cjs_looks.specs.Seen.{look_of}
use Rattle.cjs_looks.proofs.Links.{PostsLeft}
use Rattle.cjs_looks.proofs.chain.+looks.Given as goal

abbrev pub decreases-look_at : goal.decreases-look_at
decreases-look_at l = 8 * length l.it.now.parts.entries.now + 7

abbrev pub decreases-kind_at : goal.decreases-kind_at
decreases-kind_at l = 8 * length l.it.now.parts.entries.now + 6

abbrev pub decreases-operator_kind : goal.decreases-operator_kind
decreases-operator_kind l = 8 * length l.it.now.parts.entries.now + 5

abbrev pub decreases-call_kind : goal.decreases-call_kind
decreases-call_kind l = 8 * length l.it.now.parts.entries.now + 4

abbrev pub decreases-posts_look : goal.decreases-posts_look
decreases-posts_look l = 8 * length l.posts.now.entries.now + 2

abbrev pub decreases-turn_look : goal.decreases-turn_look
decreases-turn_look l = 8 * length l.turn.now.parts.entries.now + 1

abbrev pub decreases-post_look : goal.decreases-post_look
decreases-post_look l = 8 * length l.it.now.parts.entries.now + 7

abbrev pub decreases-call_look : goal.decreases-call_look
decreases-call_look l = 8 * length l.args.now.parts.entries.now + 3

abbrev pub decreases-named_call : goal.decreases-named_call
decreases-named_call l = 8 * length l.args.now.parts.entries.now + 2

abbrev pub decreases-first_look : goal.decreases-first_look
decreases-first_look l = 8 * length l.args.now.parts.entries.now + 1

abbrev pub decreases-argument_look : goal.decreases-argument_look
decreases-argument_look l = 8 * length l.turn.now.parts.entries.now + 1

-- ---- what is left of the parts
abbrev pub invariant-posts_look-loop-turn : goal.invariant-posts_look-loop-turn
invariant-posts_look-loop-turn l =
    (length l.row.entries.now ≤ length l.posts.entries.now)
    × PostsLeft (look_of l.text l.tokens l.initial.seen) (look_of l.text l.tokens l.seen)
    (held l.text l.tokens l.posts.entries.now) (held l.text l.tokens l.row.entries.now)

abbrev pub decreases-posts_look-loop-turn : goal.decreases-posts_look-loop-turn
decreases-posts_look-loop-turn l = length l.row.entries.now
