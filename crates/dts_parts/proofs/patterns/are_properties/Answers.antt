use Rattle.dts_parts.proofs.PatternLemmas.{properties_next}
use Rattle.dts_parts.proofs.patterns.are_properties.Goals as goal

-- one modifier less is left
pub loop-turn-preserved : goal.loop-turn-preserved
loop-turn-preserved c = λ x by after left.
    c.loop-turn.invariant x by after
    (properties_next by c.args.tokens.now _ _ _ _ c.is_property_turn-word.result _ after
    (c.in-Some.ensures.value x c.args.tokens.now) (c.is_property_turn-word.ensures x) c.either-found.ensures left)
