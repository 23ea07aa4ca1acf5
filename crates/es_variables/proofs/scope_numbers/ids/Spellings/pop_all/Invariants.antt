-- What is left of the names is still there.
use Rattle.std.specs.Prelude.{ℕ, List}
use Rattle.std.proofs.Common.{◌≡◌, ◌++◌, length}
use Rattle.es_variables.specs.scope_numbers.Stacks.{copies}
use Rattle.es_variables.specs.scope_numbers.Spelt.{tops_in}
use Rattle.es_variables.proofs.scope_numbers.ids.Spellings.pop_all.Given as goal

abbrev pub invariant-loop-token : goal.invariant-loop-token
invariant-loop-token l =
    (rest : List ℕ → List ℕ) (n : ℕ)
    → ((q : List ℕ)
    → tops_in l.initial.tops q ≡ rest q ++ copies l.self.text.now l.self.tokens.now n l.names q)
    → (q : List ℕ) → tops_in l.tops q ≡ rest q ++ copies l.self.text.now l.self.tokens.now n l.row q

abbrev pub decreases-loop-token : goal.decreases-loop-token
decreases-loop-token l = length l.row
