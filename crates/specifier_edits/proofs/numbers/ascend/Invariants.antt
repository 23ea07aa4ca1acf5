use Rattle.std.proofs.Common.{◌≡◌, drop}
use Rattle.specifier_edits.specs.Edits.{name_literals}
use Rattle.specifier_edits.proofs.numbers.ascend.Given as goal

-- what is left decides
abbrev pub invariant-loop-number : goal.invariant-loop-number
invariant-loop-number l =
    name_literals l.sites 0 l.changes ≡ name_literals l.sites l.from (drop l.number-index l.changes)
