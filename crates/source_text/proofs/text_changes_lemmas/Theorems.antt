-- The law that makes the answer one.
use Rattle.std.proofs.Common.{◌≡◌, List, sym, ◌∙◌}
use Rattle.std.specs.Cmp.{IsStrictWeakOrder}
use Rattle.std.specs.Ordering.{nat_cmp, then_cmp, on}
use Rattle.std.proofs.lemmas.Cmp.{then_total, on_total, nat_cmp_total}
use Rattle.std.proofs.lemmas.List.Sorted.{ranks_by}
use Rattle.source_text.specs.declared.text_changes.change.TextChange.{TextChange}
use Rattle.source_text.specs.text_changes.Changes.{is_before, AreInOrder}
use Rattle.source_text.proofs.text_changes_lemmas.OrderLemmas.{one_sorted}

orders : IsStrictWeakOrder is_before
orders =
    ranks_by
    (then_total (on_total (λ (c : TextChange). c.range.start) nat_cmp_total)
    (on_total (λ (c : TextChange). c.range.end) nat_cmp_total))
    (λ (c : TextChange). c)

-- given changes have one order
pub one_order : (given first second : List TextChange) → AreInOrder given first → AreInOrder given second
    → first ≡ second
one_order given first second one other =
    one_sorted is_before orders first second one.ascending other.ascending (λ x. one.stable x ∙ sym (other.stable x))
