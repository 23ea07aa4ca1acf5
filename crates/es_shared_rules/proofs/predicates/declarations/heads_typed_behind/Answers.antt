use Rattle.es_shared_rules.proofs.predicates_lemmas.PastLemmas.{typed_past}
use Rattle.es_shared_rules.proofs.predicates.declarations.heads_typed_behind.Goals as goal

pub returns-then-at-tokens : goal.returns-then-at-tokens
returns-then-at-tokens c = typed_past c.args.tokens.now.tokens.now c.args.at c.if-at-tokens.true
