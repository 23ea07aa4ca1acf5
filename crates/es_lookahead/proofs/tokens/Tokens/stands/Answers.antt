use Rattle.grammar_theory.specs.Key.{is}
use Rattle.es_lookahead.proofs.TokenLemmas.{look_past}
use Rattle.es_lookahead.proofs.tokens.Tokens.stands.Goals as goal

-- at the end no kind is seen
pub returns-then-at-self-clause-kind : goal.returns-then-at-self-clause-kind
returns-then-at-self-clause-kind c =
    look_past (is c.args.kind) c.args.self.now.tokens.now c.args.at c.if-at-self.true
