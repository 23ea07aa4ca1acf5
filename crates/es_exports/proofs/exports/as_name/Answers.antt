use Rattle.es_exports.proofs.TokenForms.{adds_as}
use Rattle.es_exports.proofs.exports.as_name.Goals as goal

-- the name that is there
pub returns-in-Some-clause-adds : goal.returns-in-Some-clause-adds
returns-in-Some-clause-adds c = λ e.
    adds_as c.args.text.now c.args.tokens.now _ _ _ _ _
    (c.in-Some.ensures.value c.args.text.now c.args.tokens.now) (c.name_part.ensures.adds e)
