-- What the turns left lead to, all lead to.
use Rattle.std.specs.Prelude.{Bool, true, List}
use Rattle.std.proofs.Common.{ℕ, length}
use Rattle.es_token.specs.declared.token.Token.{Token}
use Rattle.es_syntax.specs.Held.{parts_of}
use Rattle.dts_rules.specs.Rules as rules
use Rattle.dts_member_keys.specs.Looks.{Leaned}
use Rattle.dts_member_keys.proofs.looks.are_casts.Given as goal

abbrev pub invariant-loop-turn : goal.invariant-loop-turn
invariant-loop-turn l =
    (by : rules.Env) (x : List ℕ) (ts : List Token) (after : Bool)
    → Leaned by x ts l.lean l.casts after (parts_of x ts l.row.entries.now)
    → Leaned by x ts l.lean true after (parts_of x ts l.turns.entries.now)

abbrev pub decreases-loop-turn : goal.decreases-loop-turn
decreases-loop-turn l = length l.row.entries.now
