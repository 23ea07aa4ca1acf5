use Rattle.es_lookahead.proofs.PastLemmas.{default_function_past}
use Rattle.es_lookahead.proofs.tokens.Tokens.opens_default_function.Goals as goal

pub returns-then-at-self : goal.returns-then-at-self
returns-then-at-self c = default_function_past c.args.self.now.tokens.now c.args.at c.if-at-self.true
