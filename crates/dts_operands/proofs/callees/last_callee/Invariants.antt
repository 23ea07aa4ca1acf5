-- What the parts left lead to, all lead to; what they freeze lies below.
use Rattle.std.proofs.Common.{◌≤◌, ℕ, length}
use Rattle.es_syntax.specs.Held.{held}
use Rattle.dts_rules.specs.Rules as rules
use Rattle.dts_operands.specs.declared.callees.Callee.{Callee}
use Rattle.dts_operands.specs.Callees.{IsUnder, LeadsOn}
use Rattle.dts_operands.proofs.callees.last_callee.Given as goal

abbrev pub invariant-loop-turn : goal.invariant-loop-turn
invariant-loop-turn l =
    ((by : rules.Env) (after : Callee)
    → LeadsOn by l.env.text.now l.env.tokens.now l.callee after (held l.env.text.now l.env.tokens.now l.row.entries.now)
    → LeadsOn by l.env.text.now l.env.tokens.now l.before after
    (held l.env.text.now l.env.tokens.now l.posts.entries.now))
    × (length l.row.entries.now ≤ length l.posts.entries.now)
    × ((n : ℕ) → IsUnder l.before n → length l.posts.entries.now ≤ n → IsUnder l.callee n)

abbrev pub decreases-loop-turn : goal.decreases-loop-turn
decreases-loop-turn l = length l.row.entries.now
