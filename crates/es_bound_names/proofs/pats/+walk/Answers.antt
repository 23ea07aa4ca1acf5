use Rattle.std.proofs.Common.{arith}
use Rattle.es_bound_names.proofs.Lists.{turns_next}
use Rattle.es_bound_names.proofs.Elements.{elements_next}
use Rattle.es_bound_names.proofs.pats.+walk.Goals as goal

-- one turn less is left
pub element_names-loop-turn-preserved : goal.element_names-loop-turn-preserved
element_names-loop-turn-preserved t c =
    let below = c.in-Some.ensures.below in
    let within = c.loop-turn.invariant.1 in (
      λ e. c.loop-turn.invariant.0 (c.element_name.ensures.before e),
      omega arith,
      λ e.
          elements_next _ _ _ _ _ _ _ _ (c.in-Some.ensures.value c.args.text.now c.args.tokens.now)
          (c.loop-turn.invariant.2 (c.element_name.ensures.before e)) (c.element_name.ensures.adds e),
    )

pub props_names-loop-turn-preserved : goal.props_names-loop-turn-preserved
props_names-loop-turn-preserved t c =
    let below = c.in-Some.ensures.below in
    let within = c.loop-turn.invariant.1 in (
      λ e. c.loop-turn.invariant.0 (c.prop_turn.ensures.before e),
      omega arith,
      λ e.
          turns_next _ _ _ _ _ _ _ _ _ (c.in-Some.ensures.value c.args.text.now c.args.tokens.now)
          (c.loop-turn.invariant.2 (c.prop_turn.ensures.before e)) (c.prop_turn.ensures.adds e),
    )
