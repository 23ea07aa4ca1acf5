use Rattle.dts_rules.specs.Programs.{shown_declarator}
use Rattle.dts_parts.proofs.ListLemmas.{left_all, left_done, left_next}
use Rattle.dts_variables.specs.Declarators.{declarator_turn}
use Rattle.dts_variables.proofs.lists.all_declarators.Goals as goal

pub loop-turn-init : goal.loop-turn-init
loop-turn-init c = (
  λ e. e,
  λ e by knows.
      let x = c.args.env.now.text.now in
      let ts = c.args.env.now.tokens.now in
      left_all x ts declarator_turn (shown_declarator by) _ _ _,
)

-- one turn less is left
pub loop-turn-preserved : goal.loop-turn-preserved
loop-turn-preserved c = (
  λ e. c.loop-turn.invariant.0 (c.declarator_turn.ensures.before e),
  λ e by knows.
      let x = c.args.env.now.text.now in
      let ts = c.args.env.now.tokens.now in
      left_next x ts declarator_turn (shown_declarator by) _ _ _ _ _ _ _ _ (c.in-Some.ensures.value x ts)
      (c.loop-turn.invariant.1 (c.declarator_turn.ensures.before e) by knows)
      (c.declarator_turn.ensures.written e by knows),
)

pub returns-clause-written : goal.returns-clause-written
returns-clause-written c = λ e by knows.
    let x = c.args.env.now.text.now in
    let ts = c.args.env.now.tokens.now in
    left_done x ts declarator_turn (shown_declarator by) _ _ _ _ _ (c.in_default.ensures.value x ts)
    (c.loop-turn.invariant.1 e by knows)
