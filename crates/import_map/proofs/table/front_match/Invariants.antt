use Rattle.import_map.proofs.TableLemmas.{IsDown, passes_scope}
use Rattle.import_map.proofs.table.front_match.Given as goal

abbrev pub invariant-loop-end : goal.invariant-loop-end
invariant-loop-end l = IsDown (passes_scope l.fronts l.text l.referrer) l.referrer l.scopes l.end

abbrev pub decreases-loop-end : goal.decreases-loop-end
decreases-loop-end l = l.end
