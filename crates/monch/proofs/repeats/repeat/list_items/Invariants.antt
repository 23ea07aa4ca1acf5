use Rattle.std.proofs.Common.{length}
use denote.Text.{Utf8}
use denote.Shadow.{shadow}
use Rattle.monch.specs.repeats.Items.{IsItem, EndsItems}
use Rattle.monch.proofs.repeats_lemmas.RepeatLemmas.{SoFar}
use Rattle.monch.proofs.repeats.repeat.list_items.Given as goal

abbrev pub invariant-loop-values : goal.invariant-loop-values
invariant-loop-values g l =
    shadow (Utf8 l.left)
    × SoFar (IsItem (g.A.Combinator.gives l.item) (g.B.Combinator.gives l.until))
    (EndsItems (g.A.Combinator.gives l.item) (g.B.Combinator.gives l.until)) l.fn.input l.values.items l.left

abbrev pub decreases-loop-values : goal.decreases-loop-values
decreases-loop-values g l = length l.left
