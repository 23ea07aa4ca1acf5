use Rattle.std.proofs.Common.{◌∙◌}
use Rattle.grammar_theory.specs.Key.{has_kind}
use Rattle.es_lookahead.specs.Named.{kinds_of}
use Rattle.es_lookahead.proofs.TokenLemmas.{look_some, look_none}
use Rattle.es_lookahead.proofs.tokens.Tokens.is_kind.Goals as goal

pub returns-in-Some : goal.returns-in-Some
returns-in-Some c =
    c.is_of.ensures
    ∙ rw c.kind.ensures
    (look_some (has_kind (kinds_of c.args.named)) c.args.self.now.tokens.now c.args.at c.in-Some.token
    c.in-Some.ensures)

pub returns-in-None : goal.returns-in-None
returns-in-None c =
    look_none (has_kind (kinds_of c.args.named)) c.args.self.now.tokens.now c.args.at c.in-None.ensures
