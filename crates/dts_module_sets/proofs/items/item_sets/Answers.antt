use Rattle.es_lowering.specs.Texts.{span_of}
use Rattle.es_view_modules.specs.items.Export.{the_export}
use Rattle.dts_module_sets.proofs.ExportForms.{adds_export_item}
use Rattle.dts_module_sets.proofs.items.item_sets.Goals as goal

-- an export as an item
pub returns-in-Some-clause-adds : goal.returns-in-Some-clause-adds
returns-in-Some-clause-adds c = λ e number numbered.
    let x = c.args.text.now in
    let ts = c.args.tokens.now in
    let r = span_of ts c.args.it.now.from c.args.it.now.to in
    adds_export_item number x ts _ (the_export x ts r c.in-Some.view) c.args.out.now c.export_sets.new.out
    (c.in-Some.ensures.form x ts) (c.export_sets.ensures.adds e r number numbered)
