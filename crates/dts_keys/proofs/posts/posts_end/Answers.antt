use Rattle.std.proofs.Common.{◌∙◌}
use Rattle.dts_keys.proofs.PostLemmas.{posts_next}
use Rattle.dts_keys.proofs.posts.posts_end.Goals as goal

-- one turn less is left
pub loop-turn-preserved : goal.loop-turn-preserved
loop-turn-preserved c = (
  λ e. c.loop-turn.invariant.0 (c.turn_end-end.ensures.before e),
  c.turn_end-end.ensures.state ∙ c.loop-turn.invariant.1,
  λ e env x.
      posts_next env x _ (c.in-Some.ensures.value x _) (c.loop-turn.invariant.2 (c.turn_end-end.ensures.before e) env x)
      (c.turn_end-end.ensures.written e env x),
)
