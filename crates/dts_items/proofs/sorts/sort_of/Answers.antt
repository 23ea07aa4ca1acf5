use Rattle.es_lowering.specs.Texts.{span_of}
use Rattle.dts_draft.proofs.There.{same}
use Rattle.dts_items.specs.Sorts.{Sorted}
use Rattle.dts_items.specs.declared.sorts.Sort.TheVariants as sort
use Rattle.dts_items.proofs.SortLemmas.{no_decl_view}
use Rattle.dts_items.proofs.sorts.sort_of.Goals as goal

pub returns-in-Some : goal.returns-in-Some
returns-in-Some c = λ x ts.
    let r = span_of ts c.args.it.now.from c.args.it.now.to in
    same (Sorted c.decl_view_sort.result r) _ _ (c.in-Some.ensures.form x ts) (c.decl_view_sort.ensures x ts r)

pub returns-in-None : goal.returns-in-None
returns-in-None c = λ x ts.
    no_decl_view x ts (span_of ts c.args.it.now.from c.args.it.now.to) sort.Other c.args.it.now c.in-None.ensures.other
