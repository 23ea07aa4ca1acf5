use Rattle.es_expression_rules.proofs.levels.QuestionedReadsBehindRow.read.Goals as goal

pub returns : goal.returns
returns g c = λ a base there read. rw (← c.without_colon-first.ensures) (c.read.ensures a base there read)
