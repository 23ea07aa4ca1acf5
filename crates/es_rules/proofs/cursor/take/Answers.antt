use Rattle.std.proofs.Common.{sym}
use Rattle.grammar_theory.specs.Key.{has_kind}
use Rattle.es_lookahead.proofs.TokenLemmas.{look_past}
use Rattle.es_rules.proofs.cursor.take.Goals as goal

-- no token stands behind the last one
pub returns-then-cursor-tokens-clause-other : goal.returns-then-cursor-tokens-clause-other
returns-then-cursor-tokens-clause-other g c =
    sym (look_past (has_kind (g.K.IsOfKinds.kinds c.args.kinds.now)) c.args.tokens.now.tokens.now c.args.cursor.now.at
    c.if-cursor-tokens.true)
