use Rattle.std.proofs.Common.{◌≡◌, false}
use Rattle.es_comments.specs.Standing.{line_between}
use Rattle.es_comments.proofs.place.has_line_end.Given as goal

abbrev pub invariant-loop-at : goal.invariant-loop-at
invariant-loop-at l = line_between l.text l.from l.at ≡ false
