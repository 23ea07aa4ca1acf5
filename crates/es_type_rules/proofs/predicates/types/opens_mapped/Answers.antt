use Rattle.es_type_rules.proofs.predicates_lemmas.PastLemmas.{mapped_past}
use Rattle.es_type_rules.proofs.predicates.types.opens_mapped.Goals as goal

pub returns-then-at-tokens : goal.returns-then-at-tokens
returns-then-at-tokens c = mapped_past c.args.tokens.now.tokens.now c.args.at c.if-at-tokens.true
