-- What the parts left lead to, all lead to.
use Rattle.std.specs.Prelude.{Bool, true, List}
use Rattle.std.proofs.Common.{ℕ, length}
use Rattle.es_token.specs.declared.token.Token.{Token}
use Rattle.es_syntax.specs.Held.{held}
use Rattle.dts_rules.specs.Rules as rules
use Rattle.dts_member_keys.specs.Looks.{Links}
use Rattle.dts_member_keys.proofs.further.are_non_null.Given as goal

abbrev pub invariant-loop-turn : goal.invariant-loop-turn
invariant-loop-turn l =
    (by : rules.Env) (x : List ℕ) (ts : List Token) (after : Bool)
    → Links by l.all after (held x ts l.row.entries.now) → Links by true after (held x ts l.posts.entries.now)

abbrev pub decreases-loop-turn : goal.decreases-loop-turn
decreases-loop-turn l = length l.row.entries.now
