use Rattle.std.proofs.Common.{◌≡◌, length}
use denote.Text.{Utf8}
use denote.Shadow.{shadow}
use Rattle.graph_policy.specs.Pattern.{some_end, matches}
use Rattle.graph_policy.proofs.pattern.end_matches.Given as goal

-- what is ahead decides on what is left
abbrev pub invariant-loop-front : goal.invariant-loop-front
invariant-loop-front l =
    shadow (Utf8 l.ahead)
    × shadow (Utf8 l.left)
    × (some_end (matches l.pattern) l.text ≡ some_end (matches l.ahead) l.left)

abbrev pub decreases-loop-front : goal.decreases-loop-front
decreases-loop-front l = length l.ahead
