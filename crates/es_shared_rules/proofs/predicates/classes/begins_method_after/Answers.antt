use Rattle.es_shared_rules.proofs.predicates_lemmas.PastLemmas.{method_past}
use Rattle.es_shared_rules.proofs.predicates.classes.begins_method_after.Goals as goal

pub returns-then-at-tokens : goal.returns-then-at-tokens
returns-then-at-tokens c = method_past c.args.tokens.now.tokens.now c.args.at c.if-at-tokens.true
