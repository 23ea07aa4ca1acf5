use Rattle.es_exports.proofs.ReexportForms.{adds_all_as}
use Rattle.es_exports.proofs.reexports.export_names.Goals as goal

-- a name behind `as` is exported itself
pub returns-in-Some-clause-adds : goal.returns-in-Some-clause-adds
returns-in-Some-clause-adds c = λ e r.
    rw c.in-All.is
    (adds_all_as c.args.text.now c.args.tokens.now r _ _ _ _ _ _ _
    (c.in-Some.ensures.value c.args.text.now c.args.tokens.now))
