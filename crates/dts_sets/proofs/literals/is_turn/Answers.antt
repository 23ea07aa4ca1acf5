use Rattle.std.proofs.Common.{ap, ◌∙◌}
use Rattle.es_lowering.specs.Value.{Value, group}
use Rattle.es_syntax.specs.Held.{held, valued}
use Rattle.dts_sets.proofs.LiteralLemmas.{leaning_turn}
use Rattle.dts_sets.proofs.literals.is_turn.Goals as goal

-- the turn's own group
pub returns : goal.returns
returns c = λ from to v known.
    let x = c.args.text.now in
    let ts = c.args.tokens.now in
    leaning_turn x ts from to v (valued x ts c.args.turn.now) (held x ts c.group_at.result.entries.now) c.args.before
    c.is_turned.result
    (c.group_at.ensures.value x ts ∙ ap (λ (g : Value). group g 0) (c.group.ensures.value x ts)) known
    c.is_turned.ensures
