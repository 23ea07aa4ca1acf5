use Rattle.es_lowering.specs.Value.{item_at}
use Rattle.es_syntax.specs.Held.{held}
use Rattle.dts_sets.specs.Known.{item_sets}
use Rattle.dts_sets.proofs.Grown.{turns_next, turns_done}
use Rattle.dts_module_sets.proofs.items.body_sets.Goals as goal

-- one turn less is left
pub loop-turn-preserved : goal.loop-turn-preserved
loop-turn-preserved c = (
  λ e. c.loop-turn.invariant.0 (c.item_turn.ensures.before e),
  λ e number numbered.
      turns_next _ _ _ _ _ _ _ _ _ (c.in-Some.ensures.value c.args.text.now c.args.tokens.now)
      (c.loop-turn.invariant.1 (c.item_turn.ensures.before e) number numbered)
      (c.item_turn.ensures.adds e number numbered),
)

-- none is left
pub returns-clause-adds : goal.returns-clause-adds
returns-clause-adds c = λ e number numbered.
    let x = c.args.text.now in
    let ts = c.args.tokens.now in
    turns_done (item_sets number) (λ turn. item_at turn 0) c.args.out.now c.loop-turn.out
    (held x ts c.args.body.now.entries.now) (held x ts c.loop-turn.row.entries.now) (c.in_default.ensures.value x ts)
    (c.loop-turn.invariant.1 e number numbered)
