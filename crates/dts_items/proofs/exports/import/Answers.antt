use Rattle.es_lowering.specs.Texts.{span_of}
use Rattle.es_view_modules.specs.items.Import.{the_import}
use Rattle.dts_items.proofs.ExportLemmas.{import_views, kept_module_item}
use Rattle.dts_items.proofs.exports.import.Goals as goal

pub returns-in-Some-clause-written : goal.returns-in-Some-clause-written
returns-in-Some-clause-written c = λ e turned by knows listed.
    let x = c.args.env.now.text.now in
    let ts = c.args.env.now.tokens.now in
    let r = span_of ts c.args.it.now.from c.args.it.now.to in
    kept_module_item x ts by c.args.top c.args.turn.now c.args.it.now c.args.out.now c.keep_there.new.self
    (the_import x ts r c.in-Some.field-0) turned (c.keep_there.ensures.written e x ts) c.keep_there.ensures.state
    (c.in-Some.ensures.form x ts) (import_views by x ts r c.in-Some.field-0)
