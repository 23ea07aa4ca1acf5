-- The bodies that are left are those of all.
use Rattle.std.proofs.Common.{length}
use Rattle.es_syntax.specs.Held.{held}
use Rattle.dts_overloads.proofs.ListLemmas.{CasesLeft}
use Rattle.dts_overloads.proofs.lists.add_cases.Given as goal

abbrev pub invariant-loop-turn : goal.invariant-loop-turn
invariant-loop-turn l =
    CasesLeft l.initial.found l.found (held l.text l.tokens l.cases.entries.now)
    (held l.text l.tokens l.row.entries.now)

abbrev pub decreases-loop-turn : goal.decreases-loop-turn
decreases-loop-turn l = length l.row.entries.now
