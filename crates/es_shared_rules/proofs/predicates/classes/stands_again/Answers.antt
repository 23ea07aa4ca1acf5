use Rattle.std.proofs.Common.{◌+◌, ap}
use Rattle.grammar_theory.specs.Key.{keys_of}
use Rattle.es_lookahead.specs.Sight.{sight}
use Rattle.es_grammar.specs.Functions.{stands_again}
use Rattle.es_shared_rules.specs.predicates.Named.{modifier_of}
use Rattle.es_shared_rules.proofs.predicates.classes.stands_again.Goals as goal

pub returns-in-None : goal.returns-in-None
unfolding sight
returns-in-None c =
    ap (λ s. stands_again (modifier_of c.args.run) (keys_of c.args.tokens.now.tokens.now) s c.args.turns
    (c.args.at + 1)) c.in-None.ensures
