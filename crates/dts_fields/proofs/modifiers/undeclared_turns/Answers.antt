use Rattle.std.proofs.Common.{◌∙◌}
use Rattle.dts_fields.proofs.ModifierLemmas.{undeclares_next}
use Rattle.dts_fields.proofs.modifiers.undeclared_turns.Goals as goal

-- one turn less is left
pub loop-turn-preserved : goal.loop-turn-preserved
loop-turn-preserved c = (
  λ e. c.loop-turn.invariant.0 (c.undeclared_turn.ensures.before e),
  c.undeclared_turn.ensures.state ∙ c.loop-turn.invariant.1,
  λ e x.
      undeclares_next x c.args.tokens.now _ _ _ _ _ _ _ (c.in-Some.ensures.value x c.args.tokens.now)
      (c.loop-turn.invariant.2 (c.undeclared_turn.ensures.before e) x) (c.undeclared_turn.ensures.written e x),
)
