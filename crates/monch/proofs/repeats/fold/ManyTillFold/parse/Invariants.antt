use Rattle.std.proofs.Common.{length}
use denote.Text.{Utf8}
use denote.Shadow.{shadow}
use Rattle.monch.specs.repeats.Items.{IsItem, EndsItems}
use Rattle.monch.proofs.repeats_lemmas.RepeatLemmas.{FoldsSoFar}
use Rattle.monch.proofs.repeats.fold.ManyTillFold.parse.Given as goal

abbrev pub invariant-loop-self : goal.invariant-loop-self
invariant-loop-self g l =
    shadow (Utf8 l.left)
    × FoldsSoFar (IsItem (g.A.Combinator.gives l.fn.self.item) (g.B.Combinator.gives l.fn.self.until))
    (EndsItems (g.A.Combinator.gives l.fn.self.item) (g.B.Combinator.gives l.fn.self.until))
    (goal.F-post g l.fn.self.fold) l.fn.self.init l.fn.input l.state l.left

abbrev pub decreases-loop-self : goal.decreases-loop-self
decreases-loop-self g l = length l.left
