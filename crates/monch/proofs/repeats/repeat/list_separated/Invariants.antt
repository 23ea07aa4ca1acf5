use Rattle.std.proofs.Common.{length}
use denote.Text.{Utf8}
use denote.Shadow.{shadow}
use Rattle.monch.specs.repeats.Separated.{IsSeparated, EndsSeparated}
use Rattle.monch.proofs.repeats_lemmas.RepeatLemmas.{SoFar}
use Rattle.monch.proofs.repeats.repeat.list_separated.Given as goal

abbrev pub invariant-rounds : goal.invariant-rounds
invariant-rounds g l =
    shadow (Utf8 l.left)
    × SoFar (IsSeparated (g.A.Combinator.gives l.item) (g.B.Combinator.gives l.separator))
    (EndsSeparated (g.A.Combinator.gives l.item) (g.B.Combinator.gives l.separator)) l.fn.input l.values.items
    l.left

abbrev pub decreases-rounds : goal.decreases-rounds
decreases-rounds g l = length l.left
