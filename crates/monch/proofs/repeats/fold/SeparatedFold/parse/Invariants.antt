use Rattle.std.proofs.Common.{length}
use denote.Text.{Utf8}
use denote.Shadow.{shadow}
use Rattle.monch.specs.repeats.Separated.{IsSeparated, EndsSeparated}
use Rattle.monch.proofs.repeats_lemmas.RepeatLemmas.{FoldsSoFar}
use Rattle.monch.proofs.repeats.fold.SeparatedFold.parse.Given as goal

abbrev pub invariant-rounds : goal.invariant-rounds
invariant-rounds g l =
    shadow (Utf8 l.left)
    × FoldsSoFar (IsSeparated (g.A.Combinator.gives l.fn.self.item) (g.B.Combinator.gives l.fn.self.separator))
    (EndsSeparated (g.A.Combinator.gives l.fn.self.item) (g.B.Combinator.gives l.fn.self.separator))
    (goal.F-post g l.fn.self.fold) l.fn.self.init l.fn.input l.state l.left

abbrev pub decreases-rounds : goal.decreases-rounds
decreases-rounds g l = length l.left
