use Rattle.es_lowering.specs.Texts.{span_of}
use Rattle.dts_draft.proofs.There.{same}
use Rattle.dts_items.specs.Sorts.{Sorted}
use Rattle.dts_items.specs.declared.sorts.Sort.TheVariants as sort
use Rattle.dts_items.proofs.SortLemmas.{no_view}
use Rattle.dts_items.proofs.sorts.declarable_sort.Goals as goal

pub returns-in-Some : goal.returns-in-Some
returns-in-Some c = λ x ts declare r.
    same (λ d. Sorted c.declarable_view_sort.result r (d declare r)) _ _ (c.in-Some.ensures.form x ts)
    (c.declarable_view_sort.ensures x ts declare r (span_of ts c.args.it.now.from c.args.it.now.to))

pub returns-in-None : goal.returns-in-None
returns-in-None c = λ x ts declare r. no_view x ts declare r r sort.Other c.args.it.now c.in-None.ensures.other
