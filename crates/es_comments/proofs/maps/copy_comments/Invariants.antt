use Rattle.std.proofs.Common.{◌≡◌, take}
use Rattle.es_comments.proofs.maps.copy_comments.Given as goal

abbrev pub invariant-loop-comment : goal.invariant-loop-comment
invariant-loop-comment l = l.copy.items ≡ take l.comment-index l.comments
