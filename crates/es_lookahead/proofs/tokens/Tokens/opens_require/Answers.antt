use Rattle.es_lookahead.proofs.PastLemmas.{require_past}
use Rattle.es_lookahead.proofs.tokens.Tokens.opens_require.Goals as goal

pub returns-then-at-self : goal.returns-then-at-self
returns-then-at-self c = require_past c.args.lang c.args.self.now.tokens.now c.args.at c.if-at-self.true
