use Rattle.std.proofs.Common.{◌≡◌, drop}
use Rattle.specifier_edits.specs.Faults.{first_fault}
use Rattle.specifier_edits.proofs.numbers.search.Given as goal

-- what is left decides
abbrev pub invariant-loop-at : goal.invariant-loop-at
invariant-loop-at l =
    first_fault l.sites 0 0 l.changes ≡ first_fault l.sites l.from l.at (drop l.at l.changes)
