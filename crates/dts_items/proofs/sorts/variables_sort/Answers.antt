use Rattle.std.proofs.Common.{◌∙◌}
use Rattle.dts_items.proofs.SortLemmas.{are_plain, are_using}
use Rattle.dts_items.proofs.sorts.variables_sort.Goals as goal

pub returns-then-is_using : goal.returns-then-is_using
returns-then-is_using c = λ x ts declare r.
    are_using x ts declare r c.args.it.now (c.is_using.ensures ∙ c.if-is_using.true)

pub returns : goal.returns
returns c = λ x ts declare r. are_plain x ts declare r c.args.it.now (c.is_using.ensures ∙ c.if-is_using.false)
