use Rattle.es_shared_rules.proofs.predicates_lemmas.PastLemmas.{parameter_modifier_past}
use Rattle.es_shared_rules.proofs.predicates.classes.opens_parameter_modifier.Goals as goal

pub returns-then-at-tokens-clause-predicate : goal.returns-then-at-tokens-clause-predicate
returns-then-at-tokens-clause-predicate c =
    parameter_modifier_past c.args.context c.args.tokens.now.tokens.now c.args.at c.if-at-tokens.true
