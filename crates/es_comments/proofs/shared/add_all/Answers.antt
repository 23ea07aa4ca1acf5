-- The lists of a map's values are those of its places.
use Rattle.std.proofs.Common.{ap, ◌∙◌, ◌++◌, List}
use Rattle.es_token.specs.declared.token.Comment.{Comment}
use Rattle.es_comments.specs.Iterators.{joined}
use Rattle.es_comments.proofs.IteratorLemmas.{joined_values}
use Rattle.es_comments.proofs.shared.add_all.Goals as goal

pub loop-comments-init : goal.loop-comments-init
loop-comments-init c =
    let g = c.into_iter-comments-iterator.ensures.into_iter_gives in
    ap (λ it. c.args.all.now.items ++ joined it) (g ∙ c.values-comments-items.ensures.rest)
    ∙ ap (λ (xs : List Comment). c.args.all.now.items ++ xs) (joined_values c.args.map.now)
