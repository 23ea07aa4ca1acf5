use Rattle.std.proofs.Common.{◌≡◌, ◌++◌, take}
use Rattle.es_comments.proofs.shared.add_copies.Given as goal

abbrev pub invariant-loop-comment : goal.invariant-loop-comment
invariant-loop-comment l = l.all.items ≡ l.initial.all.items ++ take l.comment-index l.comments
