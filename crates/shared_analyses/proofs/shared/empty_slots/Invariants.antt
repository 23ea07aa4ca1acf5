use Rattle.std.proofs.Common.{◌≡◌, length}
use Rattle.shared_analyses.proofs.shared.empty_slots.Given as goal

-- so many so far
abbrev pub invariant-loop : goal.invariant-loop
invariant-loop l = length l.slots ≡ l.counter
