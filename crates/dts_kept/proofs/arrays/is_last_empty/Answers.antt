use Rattle.std.specs.Prelude.{Bool}
use Rattle.std.proofs.Common.{sym, ap, ◌∙◌}
use Rattle.es_lowering.specs.Value.{Value, is_there, group}
use Rattle.es_syntax.specs.Held.{held, valued}
use Rattle.dts_kept.proofs.ArrayLemmas.{indexes_next}
use Rattle.dts_kept.proofs.arrays.is_last_empty.Goals as goal

pub loop-turn-preserved : goal.loop-turn-preserved
loop-turn-preserved c = λ x ts after left.
    let there : Value → Bool = λ g. is_there (group g 0) in
    c.loop-turn.invariant x ts after
    (indexes_next ts (held x ts c.loop-turn.row.entries.now) (valued x ts c.in-Some.turn)
    (held x ts c.in-Some.rest.entries.now) c.loop-turn.empty c.has-empty.result after (c.in-Some.ensures.value x ts)
    (ap there (sym (c.group.ensures.value x ts)) ∙ c.has-empty.ensures x ts) left)
