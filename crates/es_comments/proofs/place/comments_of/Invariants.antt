use Rattle.std.proofs.Common.{take}
use Rattle.es_comments.specs.Placed.{placed_in}
use Rattle.es_comments.specs.Standing.{ArePlaced}
use Rattle.es_comments.specs.Steps.{IsPast}
use Rattle.es_comments.proofs.place.comments_of.Given as goal

abbrev pub invariant-loop-comment : goal.invariant-loop-comment
invariant-loop-comment l = record {
  past : IsPast l.bytes l.tokens l.past;
  placed : ArePlaced l.text l.tokens (take l.comment-index l.comments) (placed_in l.placed);
}
