-- The token of the bracket gets its partner.
use Rattle.std.proofs.Common.{sym, ap, set}
use Rattle.es_token.specs.declared.token.Token.{Token}
use Rattle.es_lexer.proofs.StackLemmas.{joined_some, joined_none}
use Rattle.es_lexer.proofs.stack.join.Goals as goal

pub returns-in_ok-set_partner : goal.returns-in_ok-set_partner
returns-in_ok-set_partner c =
    joined_some c.args.closed c.in-Some.bracket c.args.number c.in-Some-get_mut.token.now c.args.tokens.now _
    c.in-Some.is (sym c.in-Some-get_mut.ensures.value)
    (ap (λ (t : Token). set c.args.tokens.now c.in-Some.bracket.number t) c.in_ok-set_partner.ensures.set)

pub returns-in_default-get_mut : goal.returns-in_default-get_mut
returns-in_default-get_mut c =
    joined_none c.args.closed c.in-Some.bracket c.args.number c.args.tokens.now c.in-Some.is
    (sym c.in_default-get_mut.ensures.value)
