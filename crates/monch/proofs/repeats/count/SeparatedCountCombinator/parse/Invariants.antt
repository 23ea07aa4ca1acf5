use Rattle.std.proofs.Common.{length}
use denote.Text.{Utf8}
use denote.Shadow.{shadow}
use Rattle.monch.specs.repeats.Separated.{IsSeparated, EndsSeparated}
use Rattle.monch.proofs.repeats_lemmas.RepeatLemmas.{CountsSoFar}
use Rattle.monch.proofs.repeats.count.SeparatedCountCombinator.parse.Given as goal

abbrev pub invariant-rounds : goal.invariant-rounds
invariant-rounds g l =
    shadow (Utf8 l.left)
    × CountsSoFar (IsSeparated (g.A.Combinator.gives l.self.item) (g.B.Combinator.gives l.self.separator))
    (EndsSeparated (g.A.Combinator.gives l.self.item) (g.B.Combinator.gives l.self.separator)) l.fn.input l.count
    l.left

abbrev pub decreases-rounds : goal.decreases-rounds
decreases-rounds g l = length l.left
