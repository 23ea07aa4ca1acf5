use Rattle.es_lookahead.proofs.PastLemmas.{all_past}
use Rattle.es_lookahead.proofs.tokens.Tokens.opens_all.Goals as goal

pub returns-then-at-self : goal.returns-then-at-self
returns-then-at-self c = all_past c.args.lang c.args.self.now.tokens.now c.args.at c.if-at-self.true
