use Rattle.es_lookahead.proofs.PastLemmas.{exported_require_past}
use Rattle.es_lookahead.proofs.tokens.Tokens.opens_exported_require.Goals as goal

pub returns-then-at-self : goal.returns-then-at-self
returns-then-at-self c = exported_require_past c.args.lang c.args.self.now.tokens.now c.args.at c.if-at-self.true
