use Rattle.es_lookahead.proofs.PastLemmas.{declaration_past}
use Rattle.es_lookahead.proofs.tokens.Tokens.opens_declaration.Goals as goal

pub returns-then-at-self : goal.returns-then-at-self
returns-then-at-self c = declaration_past c.args.self.now.tokens.now c.args.at c.if-at-self.true
