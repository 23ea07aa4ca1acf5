use Rattle.std.proofs.Common.{take}
use Rattle.specifier_edits.specs.records.Records.{AreTold}
use Rattle.specifier_edits.proofs.records.records.changes_of.Given as goal

-- a change for each record so far
abbrev pub invariant-loop-at : goal.invariant-loop-at
invariant-loop-at l = AreTold l.values (take l.at l.records) l.changes.items
