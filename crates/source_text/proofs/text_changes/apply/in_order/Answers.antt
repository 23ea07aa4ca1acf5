use Rattle.std.proofs.Common.{rules}
use Rattle.std.proofs.lemmas.List.Sorted.{answers_always}
use Rattle.source_text.proofs.text_changes.apply.in_order.Goals as goal

-- the keys are start and end
pub returns : goal.returns
returns c = record {
  same = c.in_ok-sort_by_key.ensures.permutation;
  ascending = c.in_ok-sort_by_key.ensures.sorted (λ p. record { 0 = p.range.start; 1 = p.range.end })
      (answers_always _ _ _ (λ f a r g h. search rules));
  stable = c.in_ok-sort_by_key.ensures.stable (λ p. record { 0 = p.range.start; 1 = p.range.end })
      (answers_always _ _ _ (λ f a r g h. search rules));
}
