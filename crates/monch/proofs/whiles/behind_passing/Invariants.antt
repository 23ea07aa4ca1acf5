use Rattle.std.proofs.Common.{ℕ, List, length}
use denote.Text.{Utf8}
use denote.Shadow.{shadow}
use Rattle.monch.specs.Leaves.{IsPassingFront}
use Rattle.monch.proofs.whiles.behind_passing.Given as goal

-- a longest front of what is left, with the characters passed before it, is one of the whole text
abbrev pub invariant-loop-c : goal.invariant-loop-c
invariant-loop-c g l =
    shadow (Utf8 l.rest)
    × ((front rest : List ℕ) → IsPassingFront (goal.F-post g l.passes) l.rest front rest
    → (whole : List ℕ) × IsPassingFront (goal.F-post g l.passes) l.fn.text whole rest)

abbrev pub decreases-loop-c : goal.decreases-loop-c
decreases-loop-c g l = length l.rest
