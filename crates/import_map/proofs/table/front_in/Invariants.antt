use Rattle.std.proofs.Common.{true}
use Rattle.import_map.proofs.TableLemmas.{IsDown, passes_in}
use Rattle.import_map.proofs.table.front_in.Given as goal

abbrev pub invariant-loop-end : goal.invariant-loop-end
invariant-loop-end l = IsDown (passes_in true l.text) l.text l.table l.end

abbrev pub decreases-loop-end : goal.decreases-loop-end
decreases-loop-end l = l.end
