use Rattle.std.proofs.Common.{◌-◌}
use Rattle.import_map.proofs.EntriesLemmas.{IsNarrowed}
use Rattle.import_map.proofs.table.at.Given as goal

abbrev pub invariant-loop-low : goal.invariant-loop-low
invariant-loop-low g l = IsNarrowed l.table l.key l.low l.high

abbrev pub decreases-loop-low : goal.decreases-loop-low
decreases-loop-low g l = l.high - l.low
