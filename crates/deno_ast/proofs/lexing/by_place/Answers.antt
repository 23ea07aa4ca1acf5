use Rattle.std.proofs.Common.{rules}
use Rattle.std.proofs.lemmas.List.Sorted.{answers_always}
use Rattle.deno_ast.proofs.lexing.by_place.Goals as goal

-- the key is the start
pub returns : goal.returns
returns c = record {
  same = c.in_ok-sort_by_key.ensures.permutation;
  ascending = c.in_ok-sort_by_key.ensures.sorted (λ p. p.range.start)
      (answers_always _ _ _ (λ f a r g h. search rules));
}
