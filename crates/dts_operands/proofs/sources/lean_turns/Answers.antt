use Rattle.es_syntax.specs.Held.{parts_of, valued}
use Rattle.dts_operands.proofs.SourceLemmas.{leaned_next, leaned_none}
use Rattle.dts_operands.proofs.sources.lean_turns.Goals as goal

-- one turn less is left
pub loop-turn-preserved : goal.loop-turn-preserved
loop-turn-preserved c = λ by x after left.
    c.loop-turn.invariant by x after
    (leaned_next by x _ _ _ _ _ _ _ after (c.in-Some.ensures.parts x _) (c.lean_turn-source.ensures by x) left)

pub returns : goal.returns
returns c = λ by x. c.loop-turn.invariant by x _ (leaned_none by x _ _ _ (c.in_default.ensures.parts x _))
