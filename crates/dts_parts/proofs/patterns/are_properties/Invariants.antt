-- What is left leads to all.
use Rattle.std.specs.Prelude.{Bool, List, false}
use Rattle.std.proofs.Common.{ℕ, length}
use Rattle.es_syntax.specs.Held.{held}
use Rattle.dts_rules.specs.Rules as rules
use Rattle.dts_parts.specs.Patterns.{Properties}
use Rattle.dts_parts.proofs.patterns.are_properties.Given as goal

abbrev pub invariant-loop-turn : goal.invariant-loop-turn
invariant-loop-turn l =
    (x : List ℕ) (by : rules.Env) (after : Bool)
    → Properties by l.tokens l.found after (held x l.tokens l.row.entries.now)
    → Properties by l.tokens false after (held x l.tokens l.modifiers.entries.now)

abbrev pub decreases-loop-turn : goal.decreases-loop-turn
decreases-loop-turn l = length l.row.entries.now
