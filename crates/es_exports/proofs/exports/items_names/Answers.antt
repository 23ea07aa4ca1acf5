use Rattle.es_bound_names.proofs.Lists.{turns_next}
use Rattle.es_exports.proofs.exports.items_names.Goals as goal

-- one turn less is left
pub loop-turn-preserved : goal.loop-turn-preserved
loop-turn-preserved c = (
  λ e. c.loop-turn.invariant.0 (c.item_turn.ensures.before e),
  λ e.
      turns_next _ _ _ _ _ _ _ _ _ (c.in-Some.ensures.value c.args.text.now c.args.tokens.now)
      (c.loop-turn.invariant.1 (c.item_turn.ensures.before e)) (c.item_turn.ensures.adds e),
)
