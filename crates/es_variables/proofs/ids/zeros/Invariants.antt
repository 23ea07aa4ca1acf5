-- As many by now, and all of them zeros.
use Rattle.std.proofs.Common.{◌≡◌, ℕ, length}
use Rattle.es_variables.specs.Numbers.{at_in}
use Rattle.es_variables.proofs.ids.zeros.Given as goal

abbrev pub invariant-loop : goal.invariant-loop
invariant-loop l = (length l.numbers ≡ l.counter) × ((n : ℕ) → at_in l.numbers n ≡ 0)
