use Rattle.std.proofs.Common.{◌+◌, arith}
use Rattle.es_lookahead.specs.Sight.{sight}
use Rattle.es_lookahead.proofs.TokenLemmas.{seen_past}
use Rattle.es_lookahead.proofs.tokens.Tokens.seen_after.Goals as goal

-- behind the last token nothing is seen
pub returns-then-at-self : goal.returns-then-at-self
unfolding sight
returns-then-at-self c = seen_past c.args.self.now.tokens.now (c.args.at + c.args.steps) (omega arith)

pub returns-then-steps-self : goal.returns-then-steps-self
unfolding sight
returns-then-steps-self c = seen_past c.args.self.now.tokens.now (c.args.at + c.args.steps) (omega arith)
