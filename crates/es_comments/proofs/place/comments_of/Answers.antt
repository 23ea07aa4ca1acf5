-- One comment more is put where it stands.
use Rattle.std.proofs.Common.{ℕ, List, subst, ap, ◌∙◌}
use Rattle.es_token.specs.declared.token.Comment.{Comment}
use Rattle.es_comments.specs.Standing.{stand_at}
use Rattle.es_comments.specs.Steps.{Puts}
use Rattle.es_comments.proofs.TokenLemmas.{past_none, stands}
use Rattle.es_comments.proofs.PlacedLemmas.{placed_none, placed_more}
use Rattle.es_comments.proofs.place.comments_of.Goals as goal

pub loop-comment-init : goal.loop-comment-init
loop-comment-init c = record {
  past = past_none c.as_bytes-bytes.result.now c.args.tokens.now;
  placed = placed_none c.args.text.now c.args.tokens.now c.args.comments.now c.new-placed.result
      c.new-placed.ensures.leading c.new-placed.ensures.trailing;
}

pub loop-comment-preserved : goal.loop-comment-preserved
loop-comment-preserved c = record {
  past = c.go_to-past.ensures.past;
  placed = placed_more c.args.text.now c.args.tokens.now c.args.comments.now c.loop-comment.comment-index
      c.comment-item.result c.loop-comment-test.true c.comment-item.is c.loop-comment.placed c.put.new.placed
      c.stand_of-stand.result
      (c.stand_of-stand.ensures
      ∙ stands c.as_bytes-bytes.result.now c.args.tokens.now c.go_to-past.result c.go_to-past.ensures.past
      ∙ ap (λ (x : List ℕ). stand_at x c.args.tokens.now c.go_to-past.result.place) c.as_bytes-bytes.ensures.value
      ∙ ap (λ (p : ℕ). stand_at c.args.text.now c.args.tokens.now p) c.go_to-past.ensures.place)
      (subst (λ (d : Comment). Puts c.loop-comment.placed c.put.new.placed c.stand_of-stand.result d)
      c.in_ok-copy.ensures c.in_ok-put.ensures)
      c.loop-comment.invariant.placed;
}
