-- What is kept by now, and the declarations that are left, are all.
use Rattle.std.specs.Prelude.{[]}
use Rattle.std.proofs.Common.{ℕ, List, length}
use Rattle.es_variables.specs.Numbers.{AreNumbers}
use Rattle.es_variables.specs.Kept.{Leaves, left_in}
use Rattle.es_variables.proofs.analysis.declared_in.Given as goal

abbrev pub invariant-loop-event : goal.invariant-loop-event
invariant-loop-event l =
    (numbers : List (ℕ × ℕ)) → AreNumbers l.names.ids.now numbers
    → Leaves l.scope (left_in l.names.text.now l.names.tokens.now numbers l.path l.row)
    (left_in l.names.text.now l.names.tokens.now numbers [] l.events)

abbrev pub decreases-loop-event : goal.decreases-loop-event
decreases-loop-event l = length l.row
