-- What is left of the names adds what all of them do.
use Rattle.std.specs.Prelude.{ℕ, List}
use Rattle.std.proofs.Common.{◌≡◌, ◌++◌, length}
use Rattle.es_variables.specs.scope_numbers.Stacks.{copies}
use Rattle.es_variables.specs.scope_numbers.Spelt.{tops_in}
use Rattle.es_variables.proofs.scope_numbers.ids.Spellings.push_all.Given as goal

abbrev pub invariant-loop-token : goal.invariant-loop-token
invariant-loop-token l =
    (q : List ℕ) → tops_in l.tops q ++ copies l.self.text.now l.self.tokens.now l.n l.row q
    ≡ tops_in l.initial.tops q ++ copies l.self.text.now l.self.tokens.now l.n l.names q

abbrev pub decreases-loop-token : goal.decreases-loop-token
decreases-loop-token l = length l.row
