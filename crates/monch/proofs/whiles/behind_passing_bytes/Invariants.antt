use Rattle.std.proofs.Common.{ℕ, List, length, drop, ◌≤◌, ◌-◌}
use Rattle.std.specs.Str.{IsCharBoundary}
use Rattle.monch.specs.Leaves.{IsPassingBytes}
use Rattle.monch.proofs.whiles.behind_passing_bytes.Given as goal

-- a longest front of what is left, with the bytes passed before it, is one of the whole text, which may be cut here
abbrev pub invariant-loop-end : goal.invariant-loop-end
invariant-loop-end g l =
    (l.end ≤ length l.text)
    × IsCharBoundary l.text l.end
    × ((front rest : List ℕ) → IsPassingBytes (goal.F-post g l.passes) (drop l.end l.text) front rest
    → (whole : List ℕ) × IsPassingBytes (goal.F-post g l.passes) l.text whole rest)

abbrev pub decreases-loop-end : goal.decreases-loop-end
decreases-loop-end g l = length l.bytes - l.end
