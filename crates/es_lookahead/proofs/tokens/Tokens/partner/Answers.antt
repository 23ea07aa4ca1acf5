use Rattle.std.proofs.Common.{◌∙◌}
use Rattle.es_lookahead.proofs.TokenLemmas.{partner_some, partner_none}
use Rattle.es_lookahead.proofs.tokens.Tokens.partner.Goals as goal

pub returns-in-Some : goal.returns-in-Some
returns-in-Some c =
    c.partner.ensures ∙ partner_some c.args.self.now.tokens.now c.args.at c.in-Some.token c.in-Some.ensures

pub returns-in-None : goal.returns-in-None
returns-in-None c = partner_none c.args.self.now.tokens.now c.args.at c.in-None.ensures
