-- The names behind stand at their places, and those before go first.
use Rattle.std.proofs.Common.{◌≡◌, ◌<◌, ℕ, length}
use Rattle.es_scopes.specs.Numbers.{number_at}
use Rattle.es_variables.specs.Numbers.{at_in, number_or}
use Rattle.es_variables.proofs.ids.by_tokens.Given as goal

abbrev pub invariant-loop-id : goal.invariant-loop-id
invariant-loop-id l =
    (length l.numbers ≡ l.count)
    × ((n : ℕ) → n < l.count → number_or l.row n (at_in l.numbers n) ≡ number_at l.found n)

abbrev pub decreases-loop-id : goal.decreases-loop-id
decreases-loop-id l = length l.row
