use Rattle.es_shared_rules.proofs.predicates_lemmas.PastLemmas.{modifier_past}
use Rattle.es_shared_rules.proofs.predicates.classes.opens_modifier.Goals as goal

pub returns-then-at-tokens-clause-predicate : goal.returns-then-at-tokens-clause-predicate
returns-then-at-tokens-clause-predicate c = modifier_past c.args.tokens.now.tokens.now c.args.at c.if-at-tokens.true
