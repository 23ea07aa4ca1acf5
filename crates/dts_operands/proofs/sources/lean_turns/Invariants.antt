-- What the turns left lead to, all lead to.
use Rattle.std.specs.Prelude.{ℕ, List}
use Rattle.std.proofs.Common.{length}
use Rattle.es_syntax.specs.Held.{parts_of}
use Rattle.dts_rules.specs.Rules.{Env}
use Rattle.dts_operands.specs.declared.sources.Source.{Source}
use Rattle.dts_operands.specs.Sources.{Leaned}
use Rattle.dts_operands.proofs.sources.lean_turns.Given as goal

abbrev pub invariant-loop-turn : goal.invariant-loop-turn
invariant-loop-turn l =
    (by : Env) (x : List ℕ) (after : Source)
    → Leaned by x l.tokens l.source after (parts_of x l.tokens l.row.entries.now)
    → Leaned by x l.tokens l.before after (parts_of x l.tokens l.turns.entries.now)

abbrev pub decreases-loop-turn : goal.decreases-loop-turn
decreases-loop-turn l = length l.row.entries.now
