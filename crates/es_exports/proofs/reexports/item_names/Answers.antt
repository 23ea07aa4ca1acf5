use Rattle.es_lowering.specs.Texts.{span_of}
use Rattle.es_exports.proofs.Items.{adds_reexport}
use Rattle.es_exports.proofs.reexports.item_names.Goals as goal

-- by what its view tells
pub returns-in-Some-clause-adds : goal.returns-in-Some-clause-adds
returns-in-Some-clause-adds c = λ e.
    rw (c.in-Some.ensures.form c.args.text.now c.args.tokens.now)
    (adds_reexport c.args.text.now c.args.tokens.now _ _ _
    (c.export_names.ensures.adds e (span_of c.args.tokens.now c.args.it.now.from c.args.it.now.to)))
