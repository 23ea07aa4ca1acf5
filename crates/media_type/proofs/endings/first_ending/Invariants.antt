use Rattle.std.proofs.Common.{◌≡◌, map, drop}
use Rattle.media_type.specs.Endings.{first_ending}
use Rattle.media_type.specs.Steps.{ending_of}
use Rattle.media_type.proofs.endings.first_ending.Given as goal

-- none of the rows so far has its ending
abbrev pub invariant-loop-row : goal.invariant-loop-row
invariant-loop-row l =
    first_ending (map ending_of l.rows) l.lowered ≡ first_ending (map ending_of (drop l.row-index l.rows)) l.lowered
