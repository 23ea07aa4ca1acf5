use Rattle.std.proofs.Common.{◌≡◌, ◌-◌, length}
use Rattle.graph_session.specs.Asking.{first_open_from}
use Rattle.graph_session.proofs.loader.first_open.Given as goal

-- none is open from the first place up to here
abbrev pub invariant-loop-at : goal.invariant-loop-at
invariant-loop-at l = first_open_from l.from l.marks ≡ first_open_from l.at l.marks

abbrev pub decreases-loop-at : goal.decreases-loop-at
decreases-loop-at l = length l.marks - l.at
