use Rattle.es_exports.proofs.ExportForms.{adds_outer}
use Rattle.es_exports.proofs.exports.outer_name.Goals as goal

-- the name behind `as`
pub returns-in-Some-clause-adds : goal.returns-in-Some-clause-adds
returns-in-Some-clause-adds c = λ e r.
    rw c.in-Exported.is
    (adds_outer c.args.text.now c.args.tokens.now r _ _ _ _ _ _ _
    (c.in-Some.ensures.value c.args.text.now c.args.tokens.now) (c.name_part.ensures.adds e))
