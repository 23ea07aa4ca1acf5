-- What is left tells what all do.
use Rattle.std.proofs.Common.{◌≡◌, length}
use Rattle.es_program.specs.items.Told.{tells_script}
use Rattle.es_program.specs.items.Lent.{items_left}
use Rattle.es_program.proofs.items.items.tells_script.Given as goal

abbrev pub invariant-loop-item : goal.invariant-loop-item
invariant-loop-item l = tells_script (items_left l.rest) ≡ tells_script (items_left l.fn.body)

abbrev pub decreases-loop-item : goal.decreases-loop-item
decreases-loop-item l = length l.rest.turns.entries.now
