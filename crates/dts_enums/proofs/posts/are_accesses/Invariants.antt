-- What the parts left lead to, all lead to.
use Rattle.std.specs.Prelude.{Bool, List}
use Rattle.std.proofs.Common.{ℕ, length}
use Rattle.es_token.specs.declared.token.Token.{Token}
use Rattle.es_syntax.specs.Held.{held}
use Rattle.dts_rules.specs.Rules.{Env}
use Rattle.dts_enums.specs.Forms.{Along}
use Rattle.dts_enums.proofs.posts.are_accesses.Given as goal

abbrev pub invariant-loop-turn : goal.invariant-loop-turn
invariant-loop-turn l =
    (x : List ℕ) (ts : List Token) (env : Env) (after : Bool) → Along env l.there after (held x ts l.row.entries.now)
    → Along env l.before after (held x ts l.posts.entries.now)

abbrev pub decreases-loop-turn : goal.decreases-loop-turn
decreases-loop-turn l = length l.row.entries.now
