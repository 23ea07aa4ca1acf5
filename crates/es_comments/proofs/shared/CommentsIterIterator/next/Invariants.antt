use Rattle.std.proofs.Common.{◌≡◌, ◌+◌, length}
use Rattle.es_comments.specs.Iterators.{comments_left}
use Rattle.es_comments.proofs.shared.CommentsIterIterator.next.Given as goal

-- the same comments are left
abbrev pub invariant-loop-comment : goal.invariant-loop-comment
invariant-loop-comment l = comments_left l.self ≡ comments_left l.initial.self

-- the places that are left
abbrev pub decreases-loop-comment : goal.decreases-loop-comment
decreases-loop-comment l = length l.self.leading + length l.self.trailing
