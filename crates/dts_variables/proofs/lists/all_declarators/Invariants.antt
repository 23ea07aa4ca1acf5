-- What is left leads to all.
use Rattle.std.proofs.Common.{◌≡◌, length, false}
use Rattle.es_lowering.specs.Value.{declarator_at}
use Rattle.es_syntax.specs.Held.{held}
use Rattle.dts_rules.specs.Rules as rules
use Rattle.dts_rules.specs.Programs.{shown_declarator}
use Rattle.dts_names.specs.Names.{Knows}
use Rattle.dts_parts.proofs.ListLemmas.{AllLeft}
use Rattle.dts_variables.specs.Declarators.{declarator_turn}
use Rattle.dts_variables.proofs.lists.all_declarators.Given as goal

abbrev pub invariant-loop-turn : goal.invariant-loop-turn
invariant-loop-turn l =
    (l.out.failed ≡ false → l.initial.out.failed ≡ false)
    × (l.out.failed ≡ false → (by : rules.Env) → Knows l.env by → AllLeft l.env.text.now l.env.tokens.now
    declarator_turn (shown_declarator by) (λ turn. declarator_at turn 0) l.initial.out l.out
    (held l.env.text.now l.env.tokens.now l.all.entries.now) (held l.env.text.now l.env.tokens.now l.row.entries.now))

abbrev pub decreases-loop-turn : goal.decreases-loop-turn
decreases-loop-turn l = length l.row.entries.now
