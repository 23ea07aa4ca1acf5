use Rattle.std.proofs.Common.{length}
use denote.Text.{Utf8}
use denote.Shadow.{shadow}
use Rattle.monch.specs.repeats.Repeat.{Backtracks}
use Rattle.monch.specs.repeats.Items.{IsItem, EndsItems}
use Rattle.monch.proofs.repeats_lemmas.RepeatLemmas.{CountsSoFar}
use Rattle.monch.proofs.repeats.count.Many0CountCombinator.parse.Given as goal

abbrev pub invariant-loop-rest : goal.invariant-loop-rest
invariant-loop-rest g l =
    shadow (Utf8 l.left)
    × CountsSoFar (IsItem (g.A.Combinator.gives l.self.item) Backtracks)
    (EndsItems (g.A.Combinator.gives l.self.item) Backtracks) l.fn.input l.count l.left

abbrev pub decreases-loop-rest : goal.decreases-loop-rest
decreases-loop-rest g l = length l.left
