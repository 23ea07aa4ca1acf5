use Rattle.std.proofs.Common.{ap, ◌∙◌}
use Rattle.es_lowering.specs.Value.{Value, group}
use Rattle.es_syntax.specs.Held.{held, valued}
use Rattle.dts_operands.proofs.SourceLemmas.{leaning_turn}
use Rattle.dts_operands.proofs.sources.lean_turn.Goals as goal

pub returns : goal.returns
returns c = λ by x first from to v known.
    leaning_turn by x _ first from to v (valued x _ c.args.turn.now) (held x _ c.group_at.result.entries.now) _ _
    (c.group_at.ensures.value x _ ∙ ap (λ (g : Value). group g 0) (c.group.ensures.value x _)) known
    (c.turned.ensures by x)
