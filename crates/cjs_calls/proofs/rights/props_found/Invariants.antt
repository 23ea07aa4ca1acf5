-- What is left of the properties adds what all do.
use Rattle.std.proofs.Common.{length}
use Rattle.es_syntax.specs.Held.{held}
use Rattle.cjs_calls.proofs.RightForms.{PropsLeft}
use Rattle.cjs_calls.proofs.rights.props_found.Given as goal

abbrev pub invariant-loop-turn : goal.invariant-loop-turn
invariant-loop-turn l =
    PropsLeft l.initial.found l.found (held l.text l.tokens l.props.entries.now)
    (held l.text l.tokens l.row.entries.now)

abbrev pub decreases-loop-turn : goal.decreases-loop-turn
decreases-loop-turn l = length l.row.entries.now
