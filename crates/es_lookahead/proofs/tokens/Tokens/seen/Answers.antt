use Rattle.es_lookahead.specs.Sight.{sight}
use Rattle.es_lookahead.proofs.TokenLemmas.{seen_some, seen_none}
use Rattle.es_lookahead.proofs.tokens.Tokens.seen.Goals as goal

pub returns-in-Some : goal.returns-in-Some
unfolding sight
returns-in-Some c =
    rw (c.kind.ensures, c.line_before.ensures)
    (seen_some c.args.self.now.tokens.now c.args.at c.in-Some.token c.in-Some.ensures)

pub returns-in-None : goal.returns-in-None
unfolding sight
returns-in-None c = seen_none c.args.self.now.tokens.now c.args.at c.in-None.ensures
