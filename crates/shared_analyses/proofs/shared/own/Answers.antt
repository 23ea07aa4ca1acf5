use Rattle.shared_analyses.proofs.KeptLemmas.{own_right}
use Rattle.shared_analyses.proofs.shared.own.Goals as goal

pub returns-in-Ok-analyse-clause-right : goal.returns-in-Ok-analyse-clause-right
returns-in-Ok-analyse-clause-right c =
    own_right c.args.specifier.now c.args.answer.now c.in-Ok.copy c.in-Ok-analyse.entry c.in-Ok.ensures
    c.in-Ok-analyse.ensures
