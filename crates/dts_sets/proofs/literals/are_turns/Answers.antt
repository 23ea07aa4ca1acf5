use Rattle.es_syntax.specs.Held.{parts_of, valued}
use Rattle.dts_sets.proofs.LiteralLemmas.{leaned_next}
use Rattle.dts_sets.proofs.literals.are_turns.Goals as goal

-- one turn less is left
pub loop-turn-preserved : goal.loop-turn-preserved
loop-turn-preserved c = λ after left.
    c.loop-turn.invariant after
    (leaned_next c.args.text.now c.args.tokens.now
    (parts_of c.args.text.now c.args.tokens.now c.loop-turn.row.entries.now)
    (parts_of c.args.text.now c.args.tokens.now c.in-Some.rest.entries.now) c.in-Some.turn.to
    (valued c.args.text.now c.args.tokens.now c.in-Some.turn) c.loop-turn.literal c.is_turn-literal.result after
    (c.in-Some.ensures.parts c.args.text.now c.args.tokens.now) c.is_turn-literal.ensures left)
