use Rattle.std.proofs.Common.{◌≡◌, ◌++◌}
use Rattle.es_comments.specs.Placed.{places_of, listed}
use Rattle.es_comments.specs.Iterators.{joined}
use Rattle.es_comments.proofs.shared.add_all.Given as goal

abbrev pub invariant-loop-comments : goal.invariant-loop-comments
invariant-loop-comments l =
    l.all.items ++ joined l.comments-iterator ≡ l.initial.all.items ++ listed (places_of l.map)
