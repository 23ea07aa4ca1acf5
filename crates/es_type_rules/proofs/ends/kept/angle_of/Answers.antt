use Rattle.es_rules.specs.Steps.{keys_in}
use Rattle.es_type_rules.proofs.ends_lemmas.CloserLemmas.{right_at}
use Rattle.es_type_rules.proofs.ends.kept.angle_of.Goals as goal

pub returns-clause-right : goal.returns-clause-right
returns-clause-right c =
    right_at (keys_in c.args.input) c.args.at c.end_at.result c.end_at-2.result
    c.end_at.ensures c.end_at-2.ensures
