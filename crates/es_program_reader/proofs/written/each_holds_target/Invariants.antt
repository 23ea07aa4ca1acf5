-- What is left decides.
use Rattle.std.proofs.Common.{◌≡◌, length}
use Rattle.es_program_reader.specs.Rows.{each_holds_target}
use Rattle.es_program_reader.proofs.written.each_holds_target.Given as goal

abbrev pub invariant-loop-item : goal.invariant-loop-item
invariant-loop-item l = each_holds_target l.entries.entries.now ≡ each_holds_target l.fn.row.entries.now

abbrev pub decreases-loop-item : goal.decreases-loop-item
decreases-loop-item l = length l.entries.entries.now
