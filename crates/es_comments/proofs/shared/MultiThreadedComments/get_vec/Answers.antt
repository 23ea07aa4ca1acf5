-- The key of the sort is where a comment starts.
use Rattle.std.proofs.Common.{rules}
use Rattle.std.proofs.lemmas.List.Sorted.{IsNonDecreasingBy-from_sort_by_key}
use Rattle.es_comments.proofs.shared.MultiThreadedComments.get_vec.Goals as goal

pub returns-clause-by_place : goal.returns-clause-by_place
returns-clause-by_place c =
    IsNonDecreasingBy-from_sort_by_key (λ c. c.range.start) _ c.in_ok-sort_by_key.ensures.sorted
    (λ a r q k. search rules)
